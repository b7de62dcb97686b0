-- What the code of a WRITE from a peer relies on; m is the peer's number as the code holds it.
-- Assumes nothing.
use mathlib.Core.{Bool.{Bool, true, false}, Path.{◌≡◌, sym, ap, ◌∙◌}}
use Prim.Native.Nat.{ℕ, ◌+◌, ◌-◌, ◌≤◌}
use native.Mathlib.Omega.{arith}
use lib.ListN.{length}
use Rattle.basics.proofs.Choices.{ite-true, ite-false}
use Rattle.tables.specs.Places.{w_at}
use Rattle.form.{proofs.InForm.sized, specs.declared.Tables.Tables}
use Rattle.events.specs.{Asked.{TakesAll, Looks}, Events.rule, Rules.{take_rule, hold_rule}}
use Rattle.refusals.{proofs.Passing.{MayCome, low-right}, specs.Refusals.{right_bit, stray}, specs.Refusals.Event.write_from}
use Rattle.events.proofs.{Happening.{Comes, comes}, Running.looks-take}

module _ (p : Tables) (room j m : ℕ) (b : Bool) (peer : m ≡ j) (c : MayCome p room j) (s : stray p (j - 1) b ≡ false) where
  pub takes_all : right_bit p (m - 1) b ≡ true → TakesAll p (m - 1)
  takes_all r =
      let a : Comes p m = comes p room j m peer c in
      let low : w_at p.w (m - 1) + 1 ≤ 200 = (low-right p (m - 1) b (ap (λ (x : ℕ). stray p (x - 1) b) peer ∙ s) r).0 in
      record {
        takes = record { sized = sized p a.form; place = a.place; own_top = a.form.w_top; next = omega arith; below = a.w_below };
        other = a.other;
        held = a.held_next;
      }

  pub looks-taken : (v : ℕ) → length p.w ≡ 7 → right_bit p (m - 1) b ≡ true → Looks (take_rule p (m - 1) v).tables
  looks-taken v long r =
      let t : TakesAll p (m - 1) = takes_all r in
      looks-take p (m - 1) v (comes p room j m peer c).form t.takes long t.other t.held

module _ (p : Tables) (j m : ℕ) (b : Bool) (v : ℕ) (peer : m ≡ j) where
  pub rule-takes : right_bit p (m - 1) b ≡ true → take_rule p (m - 1) v ≡ rule p (write_from j b v)
  unfolding rule
  rule-takes r =
      ap (λ (x : ℕ). take_rule p (x - 1) v) peer ∙ sym (ite-true _ _ (ap (λ (x : ℕ). right_bit p (x - 1) b) (sym peer) ∙ r))

  pub rule-holds : right_bit p (m - 1) b ≡ false → hold_rule p (m - 1) v ≡ rule p (write_from j b v)
  unfolding rule
  rule-holds r =
      ap (λ (x : ℕ). hold_rule p (x - 1) v) peer ∙ sym (ite-false _ _ (ap (λ (x : ℕ). right_bit p (x - 1) b) (sym peer) ∙ r))
