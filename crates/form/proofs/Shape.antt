-- The laws of the lengths of a panel's tables (specs/Shape): a store keeps them, and a fresh panel has them.
-- Assumes nothing.
use mathlib.Core.{List.List, Path.{◌≡◌, ap, ◌∙◌}}
use Prim.Native.Nat.{ℕ, ◌<◌}
use native.Mathlib.{Decide.ℕ_discrete, Omega.arith}
use lib.ListN.{length, set, replicate, length-replicate, length-set, get_or-replicate}
use Rattle.tables.specs.{Places.{line_at, no_write, no_read, no_hold, no_line}, declared.Line.Line}
use Rattle.form.specs.{Form.{fresh, empty_line}}
use Rattle.form.proofs.Stores.{line_set, line-set-ne}
pub use Rattle.form.specs.Shape.{LinesLong, Shaped}

pub length-kept {ℓ} : {A : Type ℓ} (xs : List A) {n : ℕ} (k : ℕ) (x : A) → length xs ≡ n → length (set xs k x) ≡ n
length-kept xs k x h = length-set xs k x ∙ h

pub lines-kept : (ls : List Line) (k : ℕ) (l : Line) → LinesLong ls → length l.sn ≡ 100 → LinesLong (set ls k l)
lines-kept ls k l h e =
    record { seven = length-kept ls k l h.seven; hundred = λ j m. by_place j m (ℕ_discrete j k) }
  where
    by_place : (j : ℕ) → j < 7 → Dec (j ≡ k) → length (line_at (set ls k l) j).sn ≡ 100
    by_place j m (yes s) =
        ap (λ (i : ℕ). length (line_at (set ls k l) i).sn) s ∙ ap (λ (x : Line). length x.sn) (line_set ls k l (omega (arith, h.seven))) ∙ e
    by_place j m (no s) = ap (λ (x : Line). length x.sn) (line-set-ne ls k j l s) ∙ h.hundred j m

pub fresh-shaped : (n t writer number v : ℕ) → Shaped (fresh n t writer number v)
unfolding fresh empty_line
fresh-shaped n t writer number v =
    record {
      w_long = length-replicate 7 no_write;
      r_long = length-replicate 7 no_read;
      history_long = length-kept (replicate 201 0) 0 v (length-replicate {A = ℕ} 201 0);
      held_long = length-replicate 7 no_hold;
      lines_long = record {
        seven = length-replicate 7 empty_line;
        hundred = λ j h. ap (λ (x : Line). length x.sn) (get_or-replicate 7 j empty_line no_line h) ∙ length-replicate 100 no_write;
      };
    }
