-- A write and a read that start keep the panel in form.
-- Assumes nothing.
use mathlib.Core.{Bool.true, List.List, Path.{◌≡◌, sym, subst, ◌∙◌}}
use Prim.Native.Nat.{ℕ, ◌+◌, ◌≤◌, ◌<◌}
use native.Mathlib.{Decide.ℕ_discrete, Omega.arith}
use lib.{ListN.set, Seq.get_or-set_other}
use borrow.Author.Tests.{le-leb}
use Rattle.basics.proofs.Choices.{both_true}
use Rattle.tables.specs.{Places.{w_at, r_at, hold_at, line_at}, declared.ReadNo.ReadNo, declared.WriteNo.WriteNo}
use Rattle.form.proofs.{InForm.{InForm, PlaceForm}, Places.{place-raised, place-own}, Shape.{Shaped, length-kept}}
use Rattle.form.{proofs.Stores.{w-set, w-set-ne, r-set, r-set-ne}, specs.Form.{at_writer, operation_ok}, specs.Setting.{own_place, own_w, own_r}}
use Rattle.form.specs.declared.Tables.{Tables}
use Rattle.events.specs.Rules.{learned, write_rule, read_rule}

-- the panel's own place
pub own-place : (p : Tables) → InForm p → (own_place p + 1 ≡ p.number) × (own_place p < p.n) × (own_place p < 7)
own-place p f =
    let a : 1 ≤ p.number = f.number-low in
    let b : p.number ≤ p.n = f.number-high in
    let c : p.n ≤ 7 = f.sizes.n-high in
    (omega arith, omega arith, omega arith)

module _ (p : Tables) (s : Shaped p) (f : InForm p) where
  -- ---- a write

  module _ (v : ℕ) (lead : at_writer p ≡ true) (left : own_w p < 200) where
    w' : List WriteNo
    w' = set p.w (own_place p) (record { 0 = own_w p + 1 })

    grown : w_at w' (own_place p) ≡ own_w p + 1
    unfolding w'
    grown = w-set p.w (own_place p) (record { 0 = own_w p + 1 }) (omega (arith, (own-place p f).2, s.w_long))

    place-written : (j : ℕ) → j < 7 → Dec (j ≡ own_place p) → PlaceForm p.n p.number j (w_at w' j) (w_at w' (own_place p)) (r_at p.r j) (own_r p) (hold_at p.held j) (line_at p.lines j) (at_writer p)
    unfolding w'
    place-written j l (yes e) =
        place-own p.n p.number j (f.place j l) _ _ _ _ (omega (arith, (own-place p f).0)) (omega (arith, (own-place p f).1)) (subst (λ (i : ℕ). w_at w' i ≤ w_at w' (own_place p)) (sym e) (omega arith)) (f.place j l).r_below
    place-written j l (no e) =
        subst (λ (x : ℕ). PlaceForm p.n p.number j x (w_at w' (own_place p)) (r_at p.r j) (own_r p) (hold_at p.held j) (line_at p.lines j) (at_writer p))
        (sym (w-set-ne p.w (own_place p) j _ e))
        (place-raised p.n p.number j (f.place j l) (w_at w' (own_place p)) (own_r p) (omega (arith, grown)) (omega arith))

    pub kept-write : InForm (write_rule p v).tables × Shaped (write_rule p v).tables
    unfolding write_rule learned w' at_writer operation_ok
    kept-write = (
      record {
        sizes = f.sizes;
        number-low = f.number-low;
        number-high = f.number-high;
        w_top = omega (arith, grown);
        r_top = f.r_top;
        place = λ j l. place-written j l (ℕ_discrete j (own_place p));
        unwritten = λ k a b. get_or-set_other p.history (own_w p + 1) k v 0 (omega (arith, b, grown)) ∙ f.unwritten k a (omega (arith, b, grown));
        operation-form = both_true lead (le-leb 1 (w_at w' (own_place p)) (omega (arith, grown)));
      },
      record {
        w_long = length-kept p.w _ _ s.w_long;
        r_long = s.r_long;
        history_long = length-kept p.history _ _ s.history_long;
        held_long = s.held_long;
        lines_long = s.lines_long;
      },
    )

  -- ---- a read

  module _ (left : own_r p < 100) where
    r' : List ReadNo
    r' = set p.r (own_place p) (record { 0 = own_r p + 1 })

    counted : r_at r' (own_place p) ≡ own_r p + 1
    unfolding r'
    counted = r-set p.r (own_place p) (record { 0 = own_r p + 1 }) (omega (arith, (own-place p f).2, s.r_long))

    place_read : (j : ℕ) → j < 7 → Dec (j ≡ own_place p) → PlaceForm p.n p.number j (w_at p.w j) (own_w p) (r_at r' j) (r_at r' (own_place p)) (hold_at p.held j) (line_at p.lines j) (at_writer p)
    unfolding r'
    place_read j l (yes e) =
        place-own p.n p.number j (f.place j l) _ _ _ _ (omega (arith, (own-place p f).0)) (omega (arith, (own-place p f).1)) (f.place j l).w_below (subst (λ (i : ℕ). r_at r' i ≤ r_at r' (own_place p)) (sym e) (omega arith))
    place_read j l (no e) =
        subst (λ (x : ℕ). PlaceForm p.n p.number j (w_at p.w j) (own_w p) x (r_at r' (own_place p)) (hold_at p.held j) (line_at p.lines j) (at_writer p))
        (sym (r-set-ne p.r (own_place p) j _ e))
        (place-raised p.n p.number j (f.place j l) (own_w p) (r_at r' (own_place p)) (omega arith) (omega (arith, counted)))

    pub kept_read : InForm (read_rule p).tables × Shaped (read_rule p).tables
    unfolding read_rule r' at_writer operation_ok
    kept_read = (
      record {
        sizes = f.sizes;
        number-low = f.number-low;
        number-high = f.number-high;
        w_top = f.w_top;
        r_top = omega (arith, counted);
        place = λ j l. place_read j l (ℕ_discrete j (own_place p));
        unwritten = f.unwritten;
        operation-form = le-leb 1 (r_at r' (own_place p)) (omega (arith, counted));
      },
      record {
        w_long = s.w_long;
        r_long = length-kept p.r _ _ s.r_long;
        history_long = s.history_long;
        held_long = s.held_long;
        lines_long = s.lines_long;
      },
    )
