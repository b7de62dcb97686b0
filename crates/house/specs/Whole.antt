-- The lengths of a network's tables. In the code they are the arrays' types; in the definitions a law that reads a store back asks
-- for them.
-- Assumes nothing.
use Rattle.std.specs.Prelude.{ℕ, ◌<◌, ◌≡◌, length}
use Rattle.form.specs.Shape.{Shaped}
use Rattle.house.specs.{Places.{tables_at, row_at}, declared.Network.Network}

pub record Whole (s : Network) : Type 0 where
  pub panels_long : length s.panels ≡ 7
  pub rows_long : length s.rows ≡ 7
  pub down_long : length s.down ≡ 7
  pub panel_shaped : (i : ℕ) → i < 7 → Shaped (tables_at s i)
  pub row_long : (i : ℕ) → i < 7 → length (row_at s i).to ≡ 7
