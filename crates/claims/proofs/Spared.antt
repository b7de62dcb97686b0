-- From fresh a network stays in form, so a step need not test it: the values of cases, computed without the test, in a quarter of
-- the time.
-- Assumes nothing.
use Prim.Native.Nat.{ℕ}
use mathlib.Core.{Bool.true, List.{List, [], ◌∷◌, ◌++◌}, Path.{◌≡◌, refl, sym, ap, ap₂, subst, ◌∙◌}}
use Rattle.std.specs.{Prelude.Result, Result.result_unwrap_or}
use Rattle.basics.specs.declared.refused.Refusal.{Refusal}
use Rattle.basics.{proofs.Choices.{ite-true, ite-case}, specs.Choice.ite}
use Rattle.form.specs.Form.{fits}
use Rattle.house.specs.{NetForm.net_form, declared.Network.Network}
use Rattle.steps.{proofs.AtStart.set-up-taken, proofs.Networks.good-test, proofs.Settling.checked-in-form, specs.Drain.{drain_in, drained}}
use Rattle.steps.specs.{SetUp.{no_network}, Steps.{write_in, read_in, deliver_in, lose_in}, declared.Drained.Drained}
use Rattle.steps.specs.declared.Stepped.{Stepped}
use Rattle.runs.proofs.{FromFresh.start-holds, Holding.Holds, Running.{step-fares, run_holds}}
use Rattle.runs.specs.Runs.{Step, Did, did, emptied, does, after, Entry, entries, Step.{write, read, deliver, lose, drain}}
use Rattle.claims.specs.Noted.{Note, told, noted, Case, start, values_of, values, Case.{setting_up, network, panel}}
use Rattle.claims.specs.Noted.Note.{made, said, flying, held, waiting, doing, lines}
use Rattle.claims.specs.Shown.{answered, counted, flying_from, held_at, waiting_at, doing_at, drain_lines}

-- ---- a step of a network in form

-- its answer, and what it comes to
pub record Once : Type 0 where
  pub told : List ℕ
  pub did : Did

unfoldable pub once_of : Stepped → ℕ → Once
once_of a d = record { told = answered a.answer; did = did a d }

unfoldable pub once_drained : Drained → Once
once_drained a = record { told = counted a.answer; did = emptied a }

unfoldable pub once_in : Network → Step → Once
once_in s (write v) = once_of (write_in s v) 0
once_in s (read i) = once_of (read_in s i) 0
once_in s (deliver k i j) = once_of (deliver_in s k i j) 1
once_in s (lose i) = once_of (lose_in s i) 0
once_in s drain = once_drained (drain_in s)

-- the same with the test for form
once : Network → Step → Once
once s e = record { told = told s e; did = does s e }

once-spared : (s : Network) → net_form s ≡ true → (e : Step) → once s e ≡ once_in s e
unfolding once told does once_of once_drained once_in drained
once-spared s f (write v) = ap (λ (a : Stepped). once_of a 0) (checked-in-form s _ f)
once-spared s f (read i) = ap (λ (a : Stepped). once_of a 0) (checked-in-form s _ f)
once-spared s f (deliver k i j) = ap (λ (a : Stepped). once_of a 1) (checked-in-form s _ f)
once-spared s f (lose i) = ap (λ (a : Stepped). once_of a 0) (checked-in-form s _ f)
once-spared s f drain = ap once_drained (ite-true _ _ f)

-- ---- a run

unfoldable pub after_in : Network → List Step → Network
after_in s [] = s
after_in s (e ∷ es) = after_in (once_in s e).did.network es

abbrev entry : Step → Did → Entry
entry e d = record { step = e; refusal = d.refusal; deliveries = d.deliveries }

unfoldable pub entries_in : Network → List Step → List Entry
entries_in s [] = []
entries_in s (e ∷ es) = let d : Did = (once_in s e).did in entry e d ∷ entries_in d.network es

unfoldable pub noted_in : Network → List Note → List (List ℕ)
noted_in s [] = []
noted_in s (made es ∷ ns) = noted_in (after_in s es) ns
noted_in s (said e ∷ ns) = let o : Once = once_in s e in o.told ∷ noted_in o.did.network ns
noted_in s (flying i ∷ ns) = flying_from s i ∷ noted_in s ns
noted_in s (held i j ∷ ns) = held_at s i j ∷ noted_in s ns
noted_in s (waiting i j ∷ ns) = waiting_at s i j ∷ noted_in s ns
noted_in s (doing i ∷ ns) = doing_at s i ∷ noted_in s ns
noted_in s (lines m ∷ ns) = drain_lines m s ++ noted_in s ns

module _ (s : Network) (h : Holds s) (e : Step) where
  step-spared : once s e ≡ once_in s e
  step-spared = once-spared s (good-test s h.good) e

  next-holds : Holds (does s e).network
  next-holds = (step-fares s h e).went.holds

after-spared : (s : Network) → Holds s → (es : List Step) → after s es ≡ after_in s es
unfolding after after_in once
after-spared s h [] = refl
after-spared s h (e ∷ es) =
    after-spared (does s e).network (next-holds s h e) es ∙ ap (λ (o : Once). after_in o.did.network es) (step-spared s h e)

pub entries-spared : (s : Network) → Holds s → (es : List Step) → entries s es ≡ entries_in s es
unfolding entries entries_in once
entries-spared s h [] = refl
entries-spared s h (e ∷ es) =
    ap (λ (xs : List Entry). entry e (does s e) ∷ xs) (entries-spared (does s e).network (next-holds s h e) es)
    ∙ ap (λ (o : Once). entry e o.did ∷ entries_in o.did.network es) (step-spared s h e)

noted-spared : (s : Network) → Holds s → (ns : List Note) → noted s ns ≡ noted_in s ns
unfolding noted noted_in once
noted-spared s h [] = refl
noted-spared s h (made es ∷ ns) =
    noted-spared (after s es) (run_holds s h es).went.holds ns ∙ ap (λ (x : Network). noted_in x ns) (after-spared s h es)
noted-spared s h (said e ∷ ns) =
    ap (λ (xs : List (List ℕ)). told s e ∷ xs) (noted-spared (does s e).network (next-holds s h e) ns)
    ∙ ap (λ (o : Once). o.told ∷ noted_in o.did.network ns) (step-spared s h e)
noted-spared s h (flying i ∷ ns) = ap (λ (xs : List (List ℕ)). flying_from s i ∷ xs) (noted-spared s h ns)
noted-spared s h (held i j ∷ ns) = ap (λ (xs : List (List ℕ)). held_at s i j ∷ xs) (noted-spared s h ns)
noted-spared s h (waiting i j ∷ ns) = ap (λ (xs : List (List ℕ)). waiting_at s i j ∷ xs) (noted-spared s h ns)
noted-spared s h (doing i ∷ ns) = ap (λ (xs : List (List ℕ)). doing_at s i ∷ xs) (noted-spared s h ns)
noted-spared s h (lines m ∷ ns) = ap (λ (xs : List (List ℕ)). drain_lines m s ++ xs) (noted-spared s h ns)

-- ---- cases: a network that set-up takes is spared the test

unfoldable pub spared_of : Case → List (List ℕ)
spared_of (setting_up n t writer) = values_of (setting_up n t writer)
spared_of (network n t writer ns) =
    ite (fits n t writer) (noted_in (start n t writer) ns) (noted (start n t writer) ns)
spared_of (panel n t writer i e) = values_of (panel n t writer i e)

unfoldable pub spared : List Case → List (List ℕ)
spared [] = []
spared (c ∷ cs) = spared_of c ++ spared cs

start-kept : (n t writer : ℕ) → fits n t writer ≡ true → Holds (start n t writer)
unfolding start
start-kept n t writer ok =
    subst Holds (ap (λ (m : Result Network Refusal). result_unwrap_or m no_network) (sym (set-up-taken n t writer 700 ok)))
    (start-holds n t writer 700 ok)

of-spared : (c : Case) → values_of c ≡ spared_of c
unfolding values_of spared_of
of-spared (setting_up n t writer) = refl
of-spared (network n t writer ns) =
    ite-case (λ (xs : List (List ℕ)). noted (start n t writer) ns ≡ xs) (fits n t writer) _ _
    (λ ok. noted-spared (start n t writer) (start-kept n t writer ok) ns) (λ _. refl)
of-spared (panel n t writer i e) = refl

pub values-spared : (cs : List Case) → values cs ≡ spared cs
unfolding values spared
values-spared [] = refl
values-spared (c ∷ cs) = ap₂ ◌++◌ (of-spared c) (values-spared cs)
