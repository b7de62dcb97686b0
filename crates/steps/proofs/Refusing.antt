-- Which refusals a network in form meets: a write 5, 7, 8 or 14, a read 4, 5, 7, 8 or 14, a delivery 4, 5, 9 or 11 to 14, power loss 4, 5
-- or 10, and a drain 11 to 14.
-- Assumes nothing.
use mathlib.Core.{Bool.{Bool, true, false, not}, List.{List, [], ◌∷◌}, Logic.{◌≢◌, ◌⊎◌, inl, inr}, Path.{◌≡◌, refl, sym, ap, subst, ◌∙◌}}
use Prim.Native.Nat.{ℕ, zero, suc, ◌+◌, ◌-◌, ◌≤◌, ◌<◌}
use native.Mathlib.Omega.{arith}
use lib.Dec.{eqb}
use borrow.Author.Tests.{eqb-true}
use Rattle.basics.{proofs.Choices.{ite-case, clash}, proofs.Refusals.first-not, specs.Choice.ite, specs.Refusal.{Trial, first_of, number_of, code}, specs.declared.refused.Refusal.{Refusal, TheVariants.ChannelFull}}
use Rattle.refusals.specs.Refusals.{Event, refusal, Event.{write, read}}
use Rattle.std.specs.Prelude.{Some, Err}
use Rattle.events.specs.Events.{Answer}
use Rattle.panel.specs.{Calls.after, declared.Next.Next, declared.Panel.Panel}
use Rattle.promise.proofs.{AfterEvents.after-code, Answers.{at-writer, write-refusal, read-refusal}}
use Rattle.promise.{proofs.AtPlace.{At, at-write-from-met, at-read-from-met, at-proceed-from-met}, specs.View.code_of}
use Rattle.channels.proofs.{ByKind.kind-case, Flying.has-known}
use Rattle.house.{proofs.NetForms.writer-low, specs.Places.{panel_at, tables_at, n_of, writer_of}, specs.Search.first_in, specs.declared.InFlight.InFlight}
use Rattle.house.specs.declared.Network.{Network}
use Rattle.steps.specs.{Drain.{next_in, drain_by, drained}, Moves.arriving}
use Rattle.steps.specs.Steps.{tried, settled, comes, write_trials, read_trials, deliver_trials, lose_trials, write_in, read_in, deliver_in, lose_in}
use Rattle.steps.specs.declared.{Drained.Drained, Stepped.Stepped}
use Rattle.steps.proofs.{Delivering.without, Draining.{next-may, next-kept, by-case}, Networks.{Good, at_place, writer-place}}
use Rattle.steps.proofs.Passing.{receiver-place, places-apart, may_read, MayDeliver, may-deliver}
use Rattle.steps.proofs.{Settling.{code-refused, code-nothing, tried-case, settled_case}, WholeDrain.drained-is}

-- ---- one of some numbers

abbrev pub OneOf : ℕ → List ℕ → Type 0
OneOf k [] = ⊥
OneOf k (x ∷ xs) = (k ≡ x) ⊎ OneOf k xs

listed : ℕ → List ℕ → Bool
listed k [] = false
listed k (x ∷ xs) = ite (eqb k x) true (listed k xs)

one_of : (k : ℕ) (ks : List ℕ) → listed k ks ≡ true → OneOf k ks
unfolding listed
one_of k [] h = clash refl h
one_of k (x ∷ ks) h =
    ite-case (λ (b : Bool). b ≡ true → (k ≡ x) ⊎ OneOf k ks) (eqb k x) true (listed k ks) (λ e _. inl (eqb-true _ _ e)) (λ _ r. inr (one_of k ks r)) h

-- each trial has one of the numbers
abbrev Listed : List Trial → List ℕ → Type 0
Listed [] ks = Unit {0}
Listed (t ∷ ts) ks = (listed (number_of t.refusal) ks ≡ true) × Listed ts ks

module _ (ks : List ℕ) (none : listed 0 ks ≡ true) where
  first_one : (ts : List Trial) → Listed ts ks → OneOf (first_of ts) ks
  unfolding first_of
  first_one [] h = one_of 0 ks none
  first_one (t ∷ ts) h = ite-case (λ (k : ℕ). OneOf k ks) t.given _ _ (λ _. one_of _ ks h.0) (λ _. first_one ts h.1)

  -- a step's number is that of a trial, of the panel, or 14
  step-one :
      (ts : List Trial) (s s₁ : Network) (i : ℕ) (q : Next) → OneOf (first_of ts) ks → (first_of ts ≡ 0 → OneOf (code_of q.answer) ks) →
      listed 14 ks ≡ true → OneOf (code_of (tried ts s (settled s s₁ i q)).answer) ks
  step-one ts s s₁ i q first panel full =
      tried-case ts s _ (λ (a : Stepped). OneOf (code_of a.answer) ks) (λ r e. told r (subst (λ (k : ℕ). OneOf k ks) e first)) λ z.
      settled_case s s₁ i q (λ (a : Stepped). OneOf (code_of a.answer) ks)
      (λ r e. subst (λ (a : Answer). OneOf (code_of a) ks) e (panel z)) (told ChannelFull (one_of 14 ks full)) (λ _. panel z)
    where
      told : (r : Refusal) → OneOf (number_of r) ks → OneOf (code_of (Err r)) ks
      told r h = subst (λ (x : ℕ). OneOf x ks) (sym (code-refused r)) h

-- ---- the steps

abbrev pub writing : List ℕ
writing = 0 ∷ 5 ∷ 7 ∷ 8 ∷ 14 ∷ []

abbrev pub reading : List ℕ
reading = 0 ∷ 4 ∷ 5 ∷ 7 ∷ 8 ∷ 14 ∷ []

abbrev pub delivering : List ℕ
delivering = 0 ∷ 4 ∷ 5 ∷ 9 ∷ 11 ∷ 12 ∷ 13 ∷ 14 ∷ []

abbrev pub losing : List ℕ
losing = 0 ∷ 4 ∷ 5 ∷ 10 ∷ []

abbrev pub draining : List ℕ
draining = 0 ∷ 11 ∷ 12 ∷ 13 ∷ 14 ∷ []

module _ (s : Network) (g : Good s) where
  pub write-numbers : (v : ℕ) → OneOf (code_of (write_in s v).answer) writing
  unfolding write_in write_trials listed ite
  write-numbers v =
      step-one writing refl (write_trials s) s s (writer_of s - 1) _ (first_one writing refl (write_trials s) (refl, tt)) (λ _. panel) refl
    where
      p : ℕ
      p = writer_of s - 1

      at : At (n_of s) p (tables_at s p)
      at = at_place s g p (writer-place s g)

      own : (tables_at s p).number ≡ (tables_at s p).writer
      own = omega (arith, at.number_is, (g.form.member p (writer-place s g)).same_writer, writer-low s g.form)

      panel : OneOf (code_of (after (panel_at s p) (write v)).answer) writing
      panel =
          subst (λ (k : ℕ). OneOf k writing)
          (sym (after-code (panel_at s p) (write v) ∙ write-refusal (tables_at s p) at.good.form v ∙ first-not _ _ (ap not (at-writer _ own))))
          (first_one writing refl _ (refl, (refl, tt)))

  pub read-numbers : (i : ℕ) → OneOf (code_of (read_in s i).answer) reading
  unfolding read_in read_trials listed ite
  read-numbers i =
      step-one reading refl (read_trials s i) s s (i - 1) _ (first_one reading refl (read_trials s i) (refl, (refl, tt)))
      (λ z. let m = (may_read s i).0 z in panel (omega (arith, m.low, m.high))) refl
    where
      panel : i - 1 < n_of s → OneOf (code_of (after (panel_at s (i - 1)) read).answer) reading
      panel within =
          subst (λ (k : ℕ). OneOf k reading)
          (sym (after-code (panel_at s (i - 1)) read ∙ read-refusal (tables_at s (i - 1)) (at_place s g (i - 1) within).good.form))
          (first_one reading refl _ (refl, (refl, tt)))

  -- a message that is there meets 11, 12 or 13, or nothing
  module _ (ks : List ℕ) (none : listed 0 ks ≡ true) (eleven : listed 11 ks ≡ true) (twelve : listed 12 ks ≡ true) (thirteen : listed 13 ks ≡ true) where
    met : (x y : ℕ) → listed y ks ≡ true → (x ≡ 0) ⊎ (x ≡ y) → OneOf x ks
    met x y h (inl z) = subst (λ (k : ℕ). OneOf k ks) (sym z) (one_of 0 ks none)
    met x y h (inr e) = subst (λ (k : ℕ). OneOf k ks) (sym e) (one_of y ks h)

    arrival-one : (k i j : ℕ) → MayDeliver s k i j → OneOf (code_of (after (panel_at s (j - 1)) (arriving s k i j)).answer) ks
    unfolding comes
    arrival-one k i j m =
        subst (λ (x : ℕ). OneOf x ks) (sym (after-code P (arriving s k i j)))
        (kind-case (λ (e : Event). OneOf (refusal P.tables 107 e) ks) k
        (λ _. met _ 11 eleven (at-write-from-met (n_of s) (j - 1) P at i low high other false _))
        (λ _. met _ 11 eleven (at-write-from-met (n_of s) (j - 1) P at i low high other true _))
        (λ _. met _ 13 thirteen (at-read-from-met (n_of s) (j - 1) P at i low high other))
        (λ _. met _ 12 twelve (at-proceed-from-met (n_of s) (j - 1) P at i low high other))
        (λ (e : 3 < k). absurd (omega (arith, e, has-known _ k m.there))))
      where
        P : Panel
        P = panel_at s (j - 1)

        at : At (n_of s) (j - 1) P.tables
        at = at_place s g (j - 1) (receiver-place m.pair)

        low : 1 ≤ i
        low = m.pair.sender-low

        high : i ≤ n_of s
        high = m.pair.sender-high

        other : i - 1 ≢ j - 1
        other = places-apart m.pair

  pub deliver-numbers : (k i j : ℕ) → OneOf (code_of (deliver_in s k i j).answer) delivering
  unfolding deliver_in deliver_trials listed ite
  deliver-numbers k i j =
      step-one delivering refl (deliver_trials s k i j) s (without s k i j) (j - 1) _
      (first_one delivering refl (deliver_trials s k i j) (refl, (refl, (refl, tt))))
      (λ z. arrival-one delivering refl refl refl refl k i j ((may-deliver s k i j).0 z)) refl

  pub lose-numbers : (i : ℕ) → OneOf (code_of (lose_in s i).answer) losing
  unfolding lose_in lose_trials listed ite
  lose-numbers i =
      tried-case (lose_trials s i) s _ (λ (a : Stepped). OneOf (code_of a.answer) losing)
      (λ r e. subst (λ (k : ℕ). OneOf k losing) (e ∙ sym (code-refused r)) (first_one losing refl (lose_trials s i) (refl, (refl, (refl, tt)))))
      (λ _. subst (λ (k : ℕ). OneOf k losing) (sym code-nothing) (one_of 0 losing refl))

  -- ---- a drain

  pub next-numbers : (x : InFlight) → first_in s ≡ Some x → OneOf (code_of (next_in s x).answer) draining
  unfolding next_in deliver_in listed ite
  next-numbers x e =
      let m = next-may s g x e in
      let passes = (may-deliver s _ _ _).1 m in
      step-one draining refl (deliver_trials s _ _ _) s (without s _ _ _) _ _
      (subst (λ (k : ℕ). OneOf k draining) (sym passes) (one_of 0 draining refl))
      (λ _. arrival-one draining refl refl refl refl _ _ _ m) refl

drain-numbers : (f : ℕ) (s₀ s : Network) (m : ℕ) → Good s → OneOf (code (drain_by f s₀ s m).answer) draining
unfolding drain_by listed ite
drain-numbers zero s₀ s m g = one_of 0 draining refl
drain-numbers (suc f) s₀ s m g =
    by-case f s₀ s m (λ (d : Drained). OneOf (code d.answer) draining) (λ _. one_of 0 draining refl)
    (λ x _ _. drain-numbers f s₀ (next_in s x).network (m + 1) (next-kept s g x).good)
    (λ x r e bad. subst (λ (k : ℕ). OneOf k draining) (ap code_of bad ∙ code-refused r) (next-numbers s g x e))

pub drained-numbers : (s : Network) → Good s → OneOf (code (drained s).answer) draining
drained-numbers s g = subst (λ (d : Drained). OneOf (code d.answer) draining) (sym (drained-is s g)) (drain-numbers _ s s 0 g)
