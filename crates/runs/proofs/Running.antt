-- Every step of a run, and every run: what holds of the network is kept, the counts by the tables are the counts by the answers, and no
-- answer is 2 or 11 to 14.
-- Assumes nothing.
use Prim.Native.Nat.{ℕ}
use mathlib.Core.{List.{List, [], ◌∷◌}, Logic.◌≢◌, Path.{◌≡◌, refl, sym, ap, subst, ◌∙◌}}
use native.Mathlib.Omega.{arith}
use lib.Dec.{eqb}
use borrow.Author.Tests.{eq-eqb, ne_eqb}
use Rattle.basics.{proofs.Choices.{ite-true, ite-false}, proofs.Refusals.number-some, specs.{Choice.ite, Refusal.number_of}}
use Rattle.promise.specs.View.{code_of}
use Rattle.house.specs.declared.Network.{Network}
use Rattle.steps.{proofs.Networks.good-test, proofs.Settling.{code-refused, checked-in-form}, specs.Steps.{written, begun, delivered, lost}}
use Rattle.steps.specs.declared.Stepped.{Stepped}
use Rattle.runs.specs.Claims.{Ordinary, AllOrdinary, none, more}
use Rattle.runs.specs.Runs.{Step, Did, did, emptied, does, after, entries, is_write, is_read, writes, reads, deliveries}
use Rattle.runs.specs.Runs.Step.{write, read, deliver, lose, drain}
use Rattle.runs.proofs.Draining.{went_then, drain-taken, drain-went}
use Rattle.runs.proofs.Holding.{Holds, Went, went-none, write-went, read-went, deliver-went, lose-went}
use Rattle.runs.proofs.Stepping.{Judged, accepted, refused, ordinary-0, write-judged, read-judged, deliver-judged, lose-judged}

went-as : {a b r t d e : ℕ} {s s' : Network} → a ≡ b → r ≡ t → d ≡ e → Went a r d s s' → Went b t e s s'
went-as p q u w =
    record {
      holds = w.holds;
      same = w.same;
      written = omega (arith, p, w.written);
      asked = omega (arith, q, w.asked);
      came = omega (arith, u, w.came);
    }

-- what a step does: its own writes, reads and deliveries if it is accepted, else nothing
pub record Fares (s : Network) (w r : ℕ) (d : Did) : Type 0 where
  pub went : Went (ite (eqb d.refusal 0) w 0) (ite (eqb d.refusal 0) r 0) d.deliveries s d.network
  pub ordinary : Ordinary d.refusal

if-taken : {k : ℕ} (x : ℕ) → k ≡ 0 → x ≡ ite (eqb k 0) x 0
if-taken x e = sym (ite-true _ _ (eq-eqb _ _ e))

if-refused : {k : ℕ} (x : ℕ) → k ≢ 0 → 0 ≡ ite (eqb k 0) x 0
if-refused x n = sym (ite-false _ _ (ne_eqb _ _ n))

-- a step that was judged
judged-fares :
    (s : Network) → Holds s → (w r d : ℕ) (a : Stepped) → Judged s a → (code_of a.answer ≡ 0 → Went w r d s a.network) → Fares s w r (did a d)
unfolding did
judged-fares s h w r d a (accepted z) go =
    record {
      went = went-as (if-taken w z) (if-taken r z) (if-taken d z) (go z);
      ordinary = subst Ordinary (sym z) ordinary-0;
    }
judged-fares s h w r d a (refused why is o) go =
    let e : code_of a.answer ≡ number_of why = ap (λ (x : Stepped). code_of x.answer) is ∙ code-refused why in
    let m : code_of a.answer ≢ 0 = λ z. number-some why (sym e ∙ z) in
    record {
      went = subst (λ (x : Stepped). Went (ite (eqb (code_of a.answer) 0) w 0) (ite (eqb (code_of a.answer) 0) r 0) (ite (eqb (code_of a.answer) 0) d 0) s x.network)
          (sym is) (went-as (if-refused w m) (if-refused r m) (if-refused d m) (went-none s h));
      ordinary = subst Ordinary (sym e) o;
    }

-- a call that tries form first is, of a network in form, its step
checked-fares : (s : Network) → Holds s → (w r d : ℕ) (a b : Stepped) → b ≡ a → Fares s w r (did a d) → Fares s w r (did b d)
checked-fares s h w r d a b e f = subst (λ (x : Stepped). Fares s w r (did x d)) (sym e) f

pub step-fares : (s : Network) → Holds s → (e : Step) → Fares s (is_write e) (is_read e) (does s e)
unfolding does is_write is_read emptied
step-fares s h (write v) =
    checked-fares s h 1 0 0 _ (written s v) (checked-in-form s _ (good-test s h.good))
    (judged-fares s h 1 0 0 _ (write-judged s h v) (write-went s h v))
step-fares s h (read i) =
    checked-fares s h 0 1 0 _ (begun s i) (checked-in-form s _ (good-test s h.good)) (judged-fares s h 0 1 0 _ (read-judged s h i) (read-went s h i))
step-fares s h (deliver k i j) =
    checked-fares s h 0 0 1 _ (delivered s k i j) (checked-in-form s _ (good-test s h.good))
    (judged-fares s h 0 0 1 _ (deliver-judged s h k i j) (deliver-went s h k i j))
step-fares s h (lose i) =
    checked-fares s h 0 0 0 _ (lost s i) (checked-in-form s _ (good-test s h.good))
    (judged-fares s h 0 0 0 _ (lose-judged s h i) (λ _. lose-went s h i))
step-fares s h drain =
    record {
      went = went-as (if-taken 0 (drain-taken s h)) (if-taken 0 (drain-taken s h)) refl (drain-went s h);
      ordinary = subst Ordinary (sym (drain-taken s h)) ordinary-0;
    }

-- a run: so many writes, reads and deliveries by its answers are so many by the tables
pub record Runs (s : Network) (es : List Step) : Type 0 where
  pub went : Went (writes (entries s es)) (reads (entries s es)) (deliveries (entries s es)) s (after s es)
  pub ordinary : AllOrdinary (entries s es)

pub run_holds : (s : Network) → Holds s → (es : List Step) → Runs s es
unfolding after entries writes reads deliveries
run_holds s h [] = record { went = went-none s h; ordinary = none }
run_holds s h (e ∷ es) =
    let one = step-fares s h e in
    let rest = run_holds (does s e).network one.went.holds es in
    record { went = went_then one.went rest.went; ordinary = more one.ordinary rest.ordinary }
