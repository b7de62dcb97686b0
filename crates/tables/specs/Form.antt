-- When what a panel keeps at one place is in form. `low` is w[j], how far the peer is known to be; `high` is w[i], the last
-- value that the panel itself knows.
-- Assumes nothing.
use Rattle.std.specs.Prelude.{ℕ, ◌+◌, ◌-◌}
use mathlib.Core.{Bool.{Bool, true, not}, List.List}
use lib.{Dec.{leb, ltb, eqb}, ListN.get_or}
use Rattle.basics.specs.{Below.all_below, Choice.{ite, both}}
use Rattle.tables.specs.{Places.w_at, declared.Hold.Hold, declared.Line.Line}

-- "each line has at most 100 entries, not falling, each above w[j] and at most w[i]", zero "past a line's end"
unfoldable pub entry_ok : Line → ℕ → ℕ → ℕ → Bool
entry_ok l low high k =
    ite (ltb k l.len)
    (both (ltb low (w_at l.sn k)) (both (leb (w_at l.sn k) high) (leb (w_at l.sn (k - 1)) (w_at l.sn k))))
    (eqb (w_at l.sn k) 0)

unfoldable pub line_ok : Line → ℕ → ℕ → Bool
line_ok l low high = both (leb l.len 100) (all_below 100 (entry_ok l low high))

-- "a held WRITE of j has w[j]+2 ≤ 200, and at the writer w[j]+2 ≤ w[i]"; "values of empty holds" are zero
unfoldable pub hold_ok : Hold → ℕ → ℕ → Bool → Bool
hold_ok h low high at_writer =
    ite h.full (both (leb (low + 2) 200) (ite at_writer (leb (low + 2) high) true)) (eqb h.value 0)

-- "nothing is held or waiting"
unfoldable pub quiet_ok : Hold → Line → Bool
quiet_ok h l = both (not h.full) (eqb l.len 0)

-- values "past w[i]" are zero
unfoldable pub unknown_ok : List ℕ → ℕ → ℕ → Bool
unknown_ok history high k = ite (leb k high) true (eqb (get_or history k 0) 0)

unfoldable pub history_ok : List ℕ → ℕ → Bool
history_ok history high = all_below 201 (unknown_ok history high)
