-- "Every accepted step keeps this": an event that no refusal meets hands on a panel in form, and so does one that is refused.
-- Assumes nothing.
use mathlib.Core.{Bool.{Bool, true, false}, Logic.◌≢◌, Path.{◌≡◌, refl}}
use Prim.Native.Nat.{ℕ, ◌-◌, ◌≤◌}
use native.Mathlib.Omega.{arith}
use borrow.Author.Tests.{le-leb, leb-true}
use Rattle.basics.{proofs.Choices.{clash, ite-case, both_true}, proofs.Refusals.unless-case, specs.Choice.ite}
use Rattle.tables.specs.declared.WriteNo.{WriteNo}
use Rattle.form.{proofs.InForm.InForm, proofs.Shape.Shaped, specs.Form.{at_writer, operation_ok}, specs.Setting.{own_w, own_r, set_operation}}
use Rattle.form.specs.declared.{Operation.Operation, Operation.TheVariants.{Idle, Writing, FirstWait, SecondWait}, Tables.Tables}
use Rattle.events.specs.{Events.{rule, refused_by, looked_at, happens}, Look.{look_writing, look_second, look_first, look_as, look}}
use Rattle.events.specs.{Rules.{hold_rule, take_rule}, declared.Done.Done, declared.Looked.Looked, declared.Ruled.Ruled}
use Rattle.refusals.proofs.Passing.{MayWrite, may_write, may_read, MayCome, may-write-from, may-read-from, may-proceed-from, low-right, low_held}
use Rattle.refusals.specs.Refusals.{Event, right_bit, stray, trials, refusal, Event.{write, read, write_from, read_from, proceed_from}}
use Rattle.events.proofs.{KeptPeers.{PeerPlace, kept-proceed, kept-read-from, kept-held}, KeptStarts.{kept-write, kept_read}}
use Rattle.events.proofs.KeptTake.{kept-take}

-- in form, with the lengths that the code's arrays have
pub record Good (p : Tables) : Type 0 where
  pub form : InForm p
  pub shape : Shaped p

-- ---- the look at the operation

with-operation : (p : Tables) (o : Operation) → Good p → operation_ok o (at_writer p) (own_w p) (own_r p) ≡ true → Good (set_operation p o)
unfolding at_writer
with-operation p o g h =
    record {
      form = record {
        sizes = g.form.sizes;
        number-low = g.form.number-low;
        number-high = g.form.number-high;
        w_top = g.form.w_top;
        r_top = g.form.r_top;
        place = g.form.place;
        unwritten = g.form.unwritten;
        operation-form = h;
      };
      shape = record {
        w_long = g.shape.w_long;
        r_long = g.shape.r_long;
        history_long = g.shape.history_long;
        held_long = g.shape.held_long;
        lines_long = g.shape.lines_long;
      };
    }

module _ (p : Tables) (g : Good p) where
  look-writing-kept : Good (look_writing p).tables
  unfolding look_writing operation_ok
  look-writing-kept = ite-case (λ (l : Looked). Good l.tables) _ _ _ (λ _. with-operation p Idle g refl) (λ _. g)

  look-second-kept : (sn : WriteNo) → operation_ok (SecondWait sn) (at_writer p) (own_w p) (own_r p) ≡ true → Good (look_second p sn).tables
  unfolding look_second
  look-second-kept sn h = ite-case (λ (l : Looked). Good l.tables) _ _ _ (λ _. with-operation p Idle g (unfold operation_ok in refl)) (λ _. with-operation p (SecondWait sn) g h)

  look-first-kept : 1 ≤ own_r p → Good (look_first p).tables
  unfolding look_first operation_ok
  look-first-kept h = ite-case (λ (l : Looked). Good l.tables) _ _ _ (λ _. look-second-kept (record { 0 = own_w p }) (both_true (le-leb 1 (own_r p) h) (le-leb (own_w p) (own_w p) (omega arith)))) (λ _. g)

  look-as-kept : (o : Operation) → operation_ok o (at_writer p) (own_w p) (own_r p) ≡ true → Good (look_as o p).tables
  unfolding look_as
  look-as-kept Idle h = g
  look-as-kept Writing h = look-writing-kept
  look-as-kept FirstWait h = look-first-kept (leb-true 1 (own_r p) (unfold operation_ok in h))
  look-as-kept (SecondWait sn) h = look-second-kept sn h

  pub look-kept : Good (look p).tables
  unfolding look
  look-kept = look-as-kept p.operation g.form.operation-form

-- ---- the rules

pub peer-place : (p : Tables) (room j : ℕ) → InForm p → MayCome p room j → PeerPlace p (j - 1)
peer-place p room j f m =
    let low : 1 ≤ j = m.low in
    let high : j ≤ p.n = m.high in
    let most : p.n ≤ 7 = f.sizes.n-high in
    let one : 1 ≤ p.number = f.number-low in
    let other : j ≢ p.number = m.other in
    record { seven = omega arith; within = omega arith; other = λ e. other (omega arith); number-other = λ e. other (omega arith) }

module _ (p : Tables) (g : Good p) where
  kept-write-from : (k : ℕ) (b : Bool) (v : ℕ) → PeerPlace p k → stray p k b ≡ false → Good (ite (right_bit p k b) (take_rule p k v) (hold_rule p k v)).tables
  kept-write-from k b v at s =
      ite-case (λ (q : Ruled). Good q.tables) (right_bit p k b) _ _
      (λ r. let low = low-right p k b s r in
      let o = kept-take p g.shape g.form k at v low.0 in record { form = o.0; shape = o.1 })
      (λ r. let low = low_held p k b s r in
      let o = kept-held p g.shape g.form k at v (record { next-exists = λ _. low.0; next-written = λ _ w. low.1 w; empty-zero = λ e. clash e refl }) in
      record { form = o.0; shape = o.1 })

  rule-kept : (room : ℕ) (e : Event) → refusal p room e ≡ 0 → Good (rule p e).tables
  unfolding refusal trials rule
  rule-kept room (write v) h =
      let m : MayWrite p room = may_write p room h in
      let o = kept-write p g.shape g.form v m.writer m.left in
      record { form = o.0; shape = o.1 }
  rule-kept room read h =
      let o = kept_read p g.shape g.form (may_read p room h).left in
      record { form = o.0; shape = o.1 }
  rule-kept room (write_from j b v) h =
      let m = may-write-from p room j b h in
      kept-write-from (j - 1) b v (peer-place p room j g.form m.0) m.1
  rule-kept room (read_from j) h =
      let m = may-read-from p room j h in
      let o = kept-read-from p g.shape g.form (j - 1) (peer-place p room j g.form m.0) m.1 in
      record { form = o.0; shape = o.1 }
  rule-kept room (proceed_from j) h =
      let m = may-proceed-from p room j h in
      let o = kept-proceed p g.shape g.form (j - 1) (peer-place p room j g.form m.0) m.1 in
      record { form = o.0; shape = o.1 }

  -- whatever the event, and whether it is refused or not
  pub kept : (room : ℕ) (e : Event) → Good (happens p room e).tables
  unfolding happens looked_at refused_by refusal
  kept room e = unless-case (λ (d : Done). Good d.tables) (trials p room e) _ _ (λ h. look-kept (rule p e).tables (rule-kept room e h)) (λ _ _. g)
