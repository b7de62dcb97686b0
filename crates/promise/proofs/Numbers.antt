-- Form in numbers: what a panel in form has at each place, and that a fresh panel has zero everywhere and waits for nothing.
-- Assumes nothing.
use mathlib.Core.{Bool.true, Path.{◌≡◌, refl, sym, ap, subst, ◌∙◌}}
use Prim.Native.Nat.{ℕ, ◌≤◌, ◌<◌}
use native.Mathlib.{Decide.dec_lt, Omega.arith}
use lib.{ListN.{replicate, length-replicate, get_or-eq_default}, Seq.get_or-set_same}
use Rattle.basics.{proofs.Lists.{get_or-case, get_or-same}, proofs.Ones.{nought, one-most, one-true}, specs.Below.one_if}
use Rattle.tables.{proofs.Form.{LineForm, level-empty}, specs.Places.{w_at, r_at, hold_at, line_at, no_write, no_read, no_hold, no_line}}
use Rattle.tables.specs.declared.{Hold.Hold, Line.Line, ReadNo.ReadNo, WriteNo.WriteNo}
use Rattle.form.proofs.{AtFirst.fresh-form, InForm.PlaceOf, Places.{empty-hold, empty-line}, Shape.fresh-shaped}
use Rattle.form.specs.{Form.{fits, is_panel, empty_line, fresh}, Setting.{own_place, own_w}, declared.Tables.Tables}
use Rattle.events.{proofs.Kept.Good, proofs.KeptStarts.own-place, specs.Rules.value_of}
use Rattle.promise.specs.{Facts.{Formed, AllZero}, View.{view_of, Waits}}

module _ (p : Tables) (g : Good p) where
  -- past the seven places of the tables stands zero, and that is in form too
  past-seven : (l : ℕ) → 7 ≤ l → PlaceOf p l
  past-seven l h =
      record {
        w_below = omega (arith, none_w);
        r_below = omega (arith, none-r);
        hold = empty-hold _ _ _ _ (ap (λ (x : Hold). x.full) none-held) (ap (λ (x : Hold). x.value) none-held);
        line = subst (λ (x : Line). LineForm x (w_at p.w l) (own_w p)) (sym none-waiting) (empty-line no_line _ _ refl (λ k i j. refl));
        own-quiet = λ _. (ap (λ (x : Hold). x.full) none-held, ap (λ (x : Line). x.len) none-waiting);
        past-quiet = λ _. (ap (λ (x : Hold). x.full) none-held, ap (λ (x : Line). x.len) none-waiting);
        past-zero = λ _. (none_w, none-r);
      }
    where
      none_w : w_at p.w l ≡ 0
      none_w = ap (λ (x : WriteNo). x.0) (get_or-eq_default p.w no_write (omega (arith, g.shape.w_long)))

      none-r : r_at p.r l ≡ 0
      none-r = ap (λ (x : ReadNo). x.0) (get_or-eq_default p.r no_read (omega (arith, g.shape.r_long)))

      none-held : hold_at p.held l ≡ no_hold
      none-held = get_or-eq_default p.held no_hold (omega (arith, g.shape.held_long))

      none-waiting : line_at p.lines l ≡ no_line
      none-waiting = get_or-eq_default p.lines no_line (omega (arith, g.shape.lines_long.seven))

  place-any : (l : ℕ) → PlaceOf p l
  place-any l = by (dec_lt l 7)
    where
      by : Dec (l < 7) → PlaceOf p l
      by (yes h) = g.form.place l h
      by (no h) = past-seven l (omega arith)

  pub formed : Formed p.n (own_place p) (view_of p)
  unfolding view_of
  formed =
      record {
        few = g.form.sizes.n-high;
        own = (own-place p g.form).1;
        w_below = λ l. (place-any l).w_below;
        w_top = g.form.w_top;
        r_below = λ l. (place-any l).r_below;
        r_top = g.form.r_top;
        held_top = λ l. one-most (hold_at p.held l).full;
        held_next = λ l e. (place-any l).hold.next-exists (one-true _ e);
        waiting_top = λ l. (place-any l).line.short;
        waiting_behind = λ l e. level-empty (place-any l).line e;
        held_own = ap one_if ((place-any (own_place p)).own-quiet (own-place p g.form).0).0 ∙ nought;
        waiting_own = ((place-any (own_place p)).own-quiet (own-place p g.form).0).1;
        w_past = λ l h. ((place-any l).past-zero h).0;
        r_past = λ l h. ((place-any l).past-zero h).1;
        held_past = λ l h. ap one_if ((place-any l).past-quiet h).0 ∙ nought;
        waiting_past = λ l h. ((place-any l).past-quiet h).1;
      }

-- ---- a fresh panel

module _ (n t writer number v : ℕ) where
  pub fresh-good : fits n t writer ≡ true → is_panel n number ≡ true → Good (fresh n t writer number v)
  fresh-good f h = record { form = fresh-form n t writer number v f h; shape = fresh-shaped n t writer number v }

  pub fresh-view : AllZero (view_of (fresh n t writer number v))
  unfolding view_of fresh empty_line
  fresh-view =
      record {
        w = λ l. ap (λ (x : WriteNo). x.0) (get_or-same 7 no_write l);
        r = λ l. ap (λ (x : ReadNo). x.0) (get_or-same 7 no_read l);
        held = λ l. ap (λ (x : Hold). one_if x.full) (get_or-same 7 no_hold l) ∙ nought;
        waiting = λ l. get_or-case 7 empty_line no_line (λ (x : Line). x.len ≡ 0) refl refl l;
      }

  pub fresh-waits : Waits (fresh n t writer number v)
  unfolding fresh
  fresh-waits = tt

  pub fresh-initial : value_of (fresh n t writer number v) 0 ≡ v
  unfolding fresh value_of
  fresh-initial = get_or-set_same (replicate 201 0) 0 v 0 (omega (arith, length-replicate {A = ℕ} 201 0))

  pub fresh-n : (fresh n t writer number v).n ≡ n
  unfolding fresh
  fresh-n = refl

  pub fresh-t : (fresh n t writer number v).t ≡ t
  unfolding fresh
  fresh-t = refl

  pub fresh-writer : (fresh n t writer number v).writer ≡ writer
  unfolding fresh
  fresh-writer = refl

  pub fresh-number : (fresh n t writer number v).number ≡ number
  unfolding fresh
  fresh-number = refl
