-- A fresh panel is in form, whatever n, t, writer, number and initial value set-up takes.
-- Assumes nothing.
use mathlib.Core.{Bool.{true, false}, Path.{◌≡◌, refl, sym, ap, subst, ◌∙◌}}
use Prim.Native.Nat.{ℕ, ◌-◌, ◌<◌}
use native.Mathlib.Omega.{arith}
use lib.{Dec.eqb, ListN.{replicate, get_or-replicate}, Seq.get_or-set_other}
use Rattle.basics.proofs.Lists.{get_or-same}
use Rattle.tables.{proofs.Form.LineForm, specs.Places.{w_at, r_at, hold_at, line_at, no_write, no_read, no_hold, no_line}, specs.declared.Hold.Hold}
use Rattle.tables.specs.declared.{Line.Line, ReadNo.ReadNo, WriteNo.WriteNo}
use Rattle.form.specs.Form.{fits, is_panel, at_writer, operation_ok, empty_line, fresh}
use Rattle.form.proofs.{InForm.{InForm, PlaceForm, fits-view, panel-iff}, Places.{empty-hold, empty-line}}

zero-w : (j : ℕ) → w_at (replicate 7 no_write) j ≡ 0
zero-w j = ap (λ (x : WriteNo). x.0) (get_or-same 7 no_write j)

zero-r : (j : ℕ) → r_at (replicate 7 no_read) j ≡ 0
zero-r j = ap (λ (x : ReadNo). x.0) (get_or-same 7 no_read j)

empty-form : (low high : ℕ) → LineForm empty_line low high
unfolding empty_line
empty-form low high = empty-line empty_line low high refl (λ k _ _. ap (λ (x : WriteNo). x.0) (get_or-same 100 no_write k))

pub fresh-form : (n t writer number v : ℕ) → fits n t writer ≡ true → is_panel n number ≡ true → InForm (fresh n t writer number v)
unfolding fresh operation_ok empty_line at_writer
fresh-form n t writer number v f h =
    record {
      sizes = fits-view n t writer f;
      number-low = ((panel-iff n number).0 h).0;
      number-high = ((panel-iff n number).0 h).1;
      w_top = omega (arith, zero-w (number - 1));
      r_top = omega (arith, zero-r (number - 1));
      place = λ j l. place j l;
      unwritten = λ k a b. get_or-set_other (replicate 201 0) 0 k v 0 (omega (arith, b)) ∙ get_or-same 201 0 k;
      operation-form = refl;
    }
  where
    place : (j : ℕ) → j < 7 → PlaceForm n number j (w_at (replicate 7 no_write) j) (w_at (replicate 7 no_write) (number - 1)) (r_at (replicate 7 no_read) j) (r_at (replicate 7 no_read) (number - 1)) (hold_at (replicate 7 no_hold) j) (line_at (replicate 7 empty_line) j) (eqb number writer)
    place j l =
        let none : hold_at (replicate 7 no_hold) j ≡ no_hold = get_or-same 7 no_hold j in
        let line : line_at (replicate 7 empty_line) j ≡ empty_line = get_or-replicate 7 j empty_line no_line l in
        let empty : (hold_at (replicate 7 no_hold) j).full ≡ false = ap (λ (x : Hold). x.full) none in
        let short : (line_at (replicate 7 empty_line) j).len ≡ 0 = ap (λ (x : Line). x.len) line in
        record {
          w_below = omega (arith, zero-w j, zero-w (number - 1));
          r_below = omega (arith, zero-r j, zero-r (number - 1));
          hold = empty-hold _ _ _ _ empty (ap (λ (x : Hold). x.value) none);
          line = subst (λ (x : Line). LineForm x (w_at (replicate 7 no_write) j) (w_at (replicate 7 no_write) (number - 1))) (sym line) (empty-form _ _);
          own-quiet = λ _. (empty, short);
          past-quiet = λ _. (empty, short);
          past-zero = λ _. (zero-w j, zero-r j);
        }
