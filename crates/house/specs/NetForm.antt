-- "A network is in form when its panels are, agree on n, t, writer and initial value, are numbered in order, at most t are down,
-- each ordered pair has at most one WRITE of each bit and at most 100 READs and 100 PROCEEDs in flight, no panel sends to itself,
-- and everything unused is zero."
-- Assumes nothing.
use Rattle.std.specs.Prelude.{ℕ, ◌+◌}
use mathlib.Core.{Bool.{Bool, false, not}, List.List}
use lib.{Dec.{leb, ltb, eqb}, ListN.get_or}
use Rattle.basics.specs.{Below.{all_below, count_below}, Choice.{ite, both}}
use Rattle.form.specs.{Form.in_form, declared.Tables.Tables}
use Rattle.unused.specs.Unused.{unused}
use Rattle.events.specs.Rules.{value_of}
use Rattle.channels.specs.Channels.{row_ok}
use Rattle.house.specs.{Places.{tables_at, row_at, down_at, n_of, t_of, writer_of, initial_of}, declared.Network.Network}

-- m panels may be down at once
unfoldable pub may_be_down : ℕ → ℕ → Bool
may_be_down t m = leb m t

-- how many are down
unfoldable pub downs_in : List Bool → ℕ
downs_in down = count_below 7 (λ (i : ℕ). get_or down i false)

abbrev pub downs : Network → ℕ
downs s = downs_in s.down

-- a panel of the network: in form, of the same n, t, writer and initial value, and in its place
unfoldable pub member_with : Tables → ℕ → ℕ → ℕ → ℕ → ℕ → Bool
member_with p n t writer initial number =
    both (in_form p)
    (both (eqb p.n n) (both (eqb p.t t) (both (eqb p.writer writer) (both (eqb (value_of p 0) initial) (eqb p.number number)))))

-- at each place one of the n panels, or nothing
abbrev pub place_with : Tables → Bool → ℕ → ℕ → ℕ → ℕ → ℕ → Bool
place_with p down n t writer initial i = ite (ltb i n) (member_with p n t writer initial (i + 1)) (both (unused p) (not down))

unfoldable pub place_ok : Network → ℕ → Bool
place_ok s i = place_with (tables_at s i) (down_at s i) (n_of s) (t_of s) (writer_of s) (initial_of s) i

unfoldable pub channels_ok : Network → ℕ → Bool
channels_ok s i = row_ok (row_at s i) (n_of s) i

unfoldable pub net_form : Network → Bool
net_form s =
    both (leb 1 (n_of s)) (both (all_below 7 (place_ok s)) (both (may_be_down (t_of s) (downs s)) (all_below 7 (channels_ok s))))
