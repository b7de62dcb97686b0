-- What stands at a place of a network after a store: at the place itself and at another place (-ne); that a store keeps the
-- tables' lengths; and how many are down after one more is.
-- Assumes nothing.
use mathlib.Core.{Bool.{Bool, true, false}, List.List, Logic.◌≢◌, Path.{◌≡◌, refl, sym, ap, subst, ◌∙◌}}
use Prim.Native.Nat.{ℕ, zero, suc, ◌+◌, ◌≤◌, ◌<◌}
use native.Mathlib.{Decide.ℕ_discrete, Nat.not-suc-le-zero, Omega.arith}
use lib.{ListN.{length, get_or, length-set, get_or-eq_default}, Seq.{get_or-set_same, get_or-set_other}}
use Rattle.basics.{proofs.Below.count-alike, specs.Below.{one_if, count_below}}
use Rattle.form.proofs.Shape.{Shaped}
use Rattle.panel.specs.declared.Panel.{Panel}
use Rattle.channels.specs.{Channels.{no_row, no_channel}, declared.Row.Row}
use Rattle.house.specs.NetForm.{downs_in, downs}
use Rattle.house.specs.{Places.{nobody, panel_at, tables_at, row_at, down_at, channel_of, with_panel, with_row, with_down}, Whole.Whole}
use Rattle.house.specs.declared.Network.{Network}

-- ---- past the last place nothing stands

module _ (s : Network) (i : ℕ) (h : 7 ≤ i) where
  pub channel-past : length s.rows ≡ 7 → (j : ℕ) → channel_of s i j ≡ no_channel
  channel-past long j = ap (λ (r : Row). get_or r.to j no_channel) (get_or-eq_default s.rows no_row (omega arith))

-- ---- at the place itself

module _ (s : Network) (whole : Whole s) (i : ℕ) (h : i < 7) where
  pub panel-with-panel : (p : Panel) → panel_at (with_panel s i p) i ≡ p
  panel-with-panel p = get_or-set_same s.panels i p nobody (omega (arith, whole.panels_long))

  pub row-with-row : (r : Row) → row_at (with_row s i r) i ≡ r
  row-with-row r = get_or-set_same s.rows i r no_row (omega (arith, whole.rows_long))

  pub down-with-down : down_at (with_down s i) i ≡ true
  down-with-down = get_or-set_same s.down i true false (omega (arith, whole.down_long))

-- ---- at another place

module _ (s : Network) (i j : ℕ) where
  pub panel-with-panel-ne : (p : Panel) → j ≢ i → panel_at (with_panel s i p) j ≡ panel_at s j
  panel-with-panel-ne p d = get_or-set_other s.panels i j p nobody d

  pub row-with-row-ne : (r : Row) → j ≢ i → row_at (with_row s i r) j ≡ row_at s j
  row-with-row-ne r d = get_or-set_other s.rows i j r no_row d

  pub down-with-down-ne : j ≢ i → down_at (with_down s i) j ≡ down_at s j
  down-with-down-ne d = get_or-set_other s.down i j true false d

-- ---- the tables keep their lengths

module _ (s : Network) (whole : Whole s) (i : ℕ) where
  pub whole-with-panel : (p : Panel) → Shaped p.tables → Whole (with_panel s i p)
  whole-with-panel p shaped =
      record {
        panels_long = length-set s.panels i p ∙ whole.panels_long;
        rows_long = whole.rows_long;
        down_long = whole.down_long;
        panel_shaped = λ j h. at j h (ℕ_discrete j i);
        row_long = whole.row_long;
      }
    where
      at : (j : ℕ) → j < 7 → Dec (j ≡ i) → Shaped (tables_at (with_panel s i p) j)
      at j h (yes e) =
          subst (λ (k : ℕ). Shaped (tables_at (with_panel s i p) k)) (sym e)
          (subst (λ (q : Panel). Shaped q.tables) (sym (panel-with-panel s whole i (omega arith) p)) shaped)
      at j h (no d) = subst (λ (q : Panel). Shaped q.tables) (sym (panel-with-panel-ne s i j p d)) (whole.panel_shaped j h)

  pub whole-with-row : (r : Row) → length r.to ≡ 7 → Whole (with_row s i r)
  whole-with-row r long =
      record {
        panels_long = whole.panels_long;
        rows_long = length-set s.rows i r ∙ whole.rows_long;
        down_long = whole.down_long;
        panel_shaped = whole.panel_shaped;
        row_long = λ j h. at j h (ℕ_discrete j i);
      }
    where
      at : (j : ℕ) → j < 7 → Dec (j ≡ i) → length (row_at (with_row s i r) j).to ≡ 7
      at j h (yes e) =
          ap (λ (k : ℕ). length (row_at (with_row s i r) k).to) e
          ∙ ap (λ (q : Row). length q.to) (row-with-row s whole i (omega arith) r)
          ∙ long
      at j h (no d) = ap (λ (q : Row). length q.to) (row-with-row-ne s i j r d) ∙ whole.row_long j h

  pub whole-with-down : Whole (with_down s i)
  whole-with-down =
      record {
        panels_long = whole.panels_long;
        rows_long = whole.rows_long;
        down_long = length-set s.down i true ∙ whole.down_long;
        panel_shaped = whole.panel_shaped;
        row_long = whole.row_long;
      }

-- ---- how many are down

-- one number more at which a test holds
count-one-more :
    (n : ℕ) (f g : ℕ → Bool) (i : ℕ) → i < n → ((k : ℕ) → k ≢ i → g k ≡ f k) → f i ≡ false → g i ≡ true → count_below n g ≡ count_below n f + 1
unfolding count_below one_if
count-one-more zero f g i h same off on = absurd (not-suc-le-zero h)
count-one-more (suc n) f g i h same off on = at (ℕ_discrete n i) (count-one-more n f g i)
  where
    at : Dec (n ≡ i) → (i < n → ((k : ℕ) → k ≢ i → g k ≡ f k) → f i ≡ false → g i ≡ true → count_below n g ≡ count_below n f + 1) →
        count_below n g + one_if (g n) ≡ count_below n f + one_if (f n) + 1
    at (yes e) lower =
        let below : count_below n g ≡ count_below n f = count-alike n g f (λ k l. same k (λ q. absurd (omega arith))) in
        rw (ap g e ∙ on, ap f e ∙ off) (omega arith)
    at (no d) lower = rw (same n d) (omega (arith, lower (omega arith) same off on))

module _ (s : Network) (i : ℕ) where
  pub downs-with-panel-kept : (p : Panel) → downs (with_panel s i p) ≡ downs s
  unfolding downs_in
  downs-with-panel-kept p = refl

  pub downs-with-row-kept : (r : Row) → downs (with_row s i r) ≡ downs s
  unfolding downs_in
  downs-with-row-kept r = refl

  pub downs-with-down : Whole s → i < 7 → down_at s i ≡ false → downs (with_down s i) ≡ downs s + 1
  unfolding downs_in
  downs-with-down whole h live =
      count-one-more 7 (down_at s) (down_at (with_down s i)) i h (λ k d. down-with-down-ne s i k d) live (down-with-down s whole i h)
