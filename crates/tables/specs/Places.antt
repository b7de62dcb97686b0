-- What stands at a place of a table. Panel j has place j - 1. Past the end of a table stands zero.
-- Assumes nothing.
use Rattle.std.specs.Prelude.{ℕ}
use mathlib.Core.{Bool.false, List.{List, []}}
use Rattle.std.specs.Prelude.{get_or}
use Rattle.tables.specs.declared.{Hold.Hold, Line.Line, ReadNo.ReadNo, WriteNo.WriteNo}

abbrev pub no_write : WriteNo
no_write = record { 0 = 0 }

abbrev pub no_read : ReadNo
no_read = record { 0 = 0 }

abbrev pub no_hold : Hold
no_hold = record { full = false; value = 0 }

abbrev pub no_line : Line
no_line = record { len = 0; sn = [] }

abbrev pub w_at : List WriteNo → ℕ → ℕ
w_at ws j = (get_or ws j no_write).0

abbrev pub r_at : List ReadNo → ℕ → ℕ
r_at rs j = (get_or rs j no_read).0

abbrev pub hold_at : List Hold → ℕ → Hold
hold_at hs j = get_or hs j no_hold

abbrev pub line_at : List Line → ℕ → Line
line_at ls j = get_or ls j no_line
