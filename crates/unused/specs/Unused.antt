-- When a panel's tables are unused: "everything unused is zero", as of the panels that a network has past n.
-- Assumes nothing.
use Rattle.std.specs.Prelude.{ℕ}
use mathlib.Core.{Bool.{Bool, not}, List.List}
use lib.{Dec.eqb, ListN.get_or}
use Rattle.basics.specs.{Below.all_below, Choice.both}
use Rattle.tables.specs.{Places.{w_at, r_at, hold_at, line_at}, declared.Hold.Hold, declared.Line.Line}
use Rattle.form.specs.declared.Tables.{Tables}
unfoldable pub use Rattle.form.specs.Form.{idle}

-- the entry at place k of a line, and the value at place k of a history
unfoldable pub entry_zero : Line → ℕ → Bool
entry_zero l k = eqb (w_at l.sn k) 0

unfoldable pub value_zero : List ℕ → ℕ → Bool
value_zero history k = eqb (get_or history k 0) 0

unfoldable pub line_unused : Line → Bool
line_unused l = both (eqb l.len 0) (all_below 100 (entry_zero l))

unfoldable pub history_unused : List ℕ → Bool
history_unused history = all_below 201 (value_zero history)

-- one place: how far with writes and with reads, the hold, the line
unfoldable pub place_with : ℕ → ℕ → Hold → Line → Bool
place_with x y h l = both (eqb x 0) (both (eqb y 0) (both (not h.full) (both (eqb h.value 0) (line_unused l))))

unfoldable pub place_unused : Tables → ℕ → Bool
place_unused p j = place_with (w_at p.w j) (r_at p.r j) (hold_at p.held j) (line_at p.lines j)

unfoldable pub unused : Tables → Bool
unused p =
    both (eqb p.n 0)
    (both (eqb p.t 0)
    (both (eqb p.writer 0)
    (both (eqb p.number 0)
    (both (all_below 7 (place_unused p))
    (both (history_unused p.history) (idle p.operation))))))
