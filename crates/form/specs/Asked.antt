-- What private functions over a panel's tables ask of their callers.
-- Assumes nothing.
use Rattle.std.specs.Prelude.{◌≤◌}
use Rattle.form.specs.declared.Tables.{Tables}

-- the panel's own number is a place of its tables
pub record Sized (p : Tables) : Type 0 where
  pub low : 1 ≤ p.number
  pub high : p.number ≤ 7
