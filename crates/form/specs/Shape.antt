-- The lengths of a panel's tables. In the code they are the arrays' types; in the definitions a law that reads a store back asks for them.
-- Assumes nothing.
use Rattle.std.specs.Prelude.{ℕ, ◌<◌, ◌≡◌, List, length}
use Rattle.tables.specs.{Places.line_at, declared.Line.Line}
use Rattle.form.specs.declared.Tables.{Tables}

pub record LinesLong (ls : List Line) : Type 0 where
  pub seven : length ls ≡ 7
  pub hundred : (j : ℕ) → j < 7 → length (line_at ls j).sn ≡ 100

pub record Shaped (p : Tables) : Type 0 where
  pub w_long : length p.w ≡ 7
  pub r_long : length p.r ≡ 7
  pub history_long : length p.history ≡ 201
  pub held_long : length p.held ≡ 7
  pub lines_long : LinesLong p.lines
