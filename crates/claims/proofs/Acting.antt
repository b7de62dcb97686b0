-- What an accepted step of a network does, that every step keeps form, which numbers it meets, and that power loss alone changes who is
-- down: the laws of crates/steps, each said of all steps at once.
-- Assumes nothing.
use Prim.Native.Nat.{ℕ}
use mathlib.Core.{Logic.◌≢◌, Path.{◌≡◌, refl, sym, ap, subst, ◌∙◌}}
use Rattle.promise.specs.View.{code_of}
use Rattle.house.specs.declared.Network.{Network}
use Rattle.steps.proofs.{Keeping.{Kept, written-kept, begun_kept, delivered-kept, lost-kept}, Networks.{Good, good-test}}
use Rattle.steps.proofs.Powers.{write-down, read_down, deliver-down, drained-down}
use Rattle.steps.proofs.Refusing.{OneOf, write-numbers, read-numbers, deliver-numbers, lose-numbers, drained-numbers}
use Rattle.steps.proofs.Settling.{checked-in-form, tried-accepted, step-done}
use Rattle.steps.proofs.WholeDrain.{sought-is, drained-none, drain-goes-on, drain-breaks-off, drain-fails, drained-deliveries, drained-still, drained-kept}
use Rattle.steps.specs.Steps.{write_trials, read_trials, deliver_trials, lose_trials, checked, write_in, read_in, deliver_in, lose_in}
use Rattle.steps.specs.declared.Stepped.{Stepped}
use Rattle.runs.specs.Runs.{Step, did, emptied, does, Step.{write, read, deliver, lose, drain}}
use Rattle.claims.specs.Acts.{Acts, ByDeliveries, numbers}

module _ (s : Network) (g : Good s) where
  -- the test for form is passed
  spared : (a : Stepped) → checked s a ≡ a
  spared a = checked-in-form s a (good-test s g)

  passed : (a : Stepped) → code_of (checked s a).answer ≡ 0 → code_of a.answer ≡ 0
  passed a z = ap (λ (x : Stepped). code_of x.answer) (sym (spared a)) ∙ z

  pub step-acts : (e : Step) → (does s e).refusal ≡ 0 → Acts s e
  unfolding does did emptied Acts write_in read_in deliver_in lose_in
  step-acts (write v) z = spared _ ∙ (step-done (write_trials s) s s _ _ (passed _ z)).is
  step-acts (read i) z = spared _ ∙ (step-done (read_trials s i) s s _ _ (passed _ z)).is
  step-acts (deliver k i j) z = spared _ ∙ (step-done (deliver_trials s k i j) s _ _ _ (passed _ z)).is
  step-acts (lose i) z = spared _ ∙ (tried-accepted (lose_trials s i) s _ (passed _ z)).is
  step-acts drain z = record { deliveries = drained-deliveries s g z; still = drained-still s g z }

  pub step_keeps : (e : Step) → Kept s (does s e).network
  unfolding does did emptied
  step_keeps (write v) = written-kept s g v
  step_keeps (read i) = begun_kept s g i
  step_keeps (deliver k i j) = delivered-kept s g k i j
  step_keeps (lose i) = lost-kept s g i
  step_keeps drain = drained-kept s g

  pub step-numbers : (e : Step) → OneOf (does s e).refusal (numbers e)
  unfolding does did emptied numbers
  step-numbers (write v) = subst (λ (a : Stepped). OneOf (code_of a.answer) (numbers (write v))) (sym (spared _)) (write-numbers s g v)
  step-numbers (read i) = subst (λ (a : Stepped). OneOf (code_of a.answer) (numbers (read i))) (sym (spared _)) (read-numbers s g i)
  step-numbers (deliver k i j) =
      subst (λ (a : Stepped). OneOf (code_of a.answer) (numbers (deliver k i j))) (sym (spared _)) (deliver-numbers s g k i j)
  step-numbers (lose i) = subst (λ (a : Stepped). OneOf (code_of a.answer) (numbers (lose i))) (sym (spared _)) (lose-numbers s g i)
  step-numbers drain = drained-numbers s g

  pub step-power : (e : Step) → ((i : ℕ) → e ≢ lose i) → (does s e).network.down ≡ s.down
  unfolding does did emptied
  step-power (write v) _ = ap (λ (a : Stepped). a.network.down) (spared _) ∙ write-down s v
  step-power (read i) _ = ap (λ (a : Stepped). a.network.down) (spared _) ∙ read_down s i
  step-power (deliver k i j) _ = ap (λ (a : Stepped). a.network.down) (spared _) ∙ deliver-down s k i j
  step-power (lose i) n = absurd (n i refl)
  step-power drain _ = drained-down s g

  pub by-deliveries : ByDeliveries s
  by-deliveries =
      record {
        ends = λ e. let found = sym (sought-is s g) ∙ e in drained-none s g (cc);
        refused = drain-fails s g;
        refused_later = drain-breaks-off s g;
        going_on = drain-goes-on s g;
      }
