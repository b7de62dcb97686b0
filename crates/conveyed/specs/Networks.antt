-- A network's tables as 11,557 bytes. In order: 7 panels of 1,566 bytes; 7 flags, which panels are down; 49 channels of 12 bytes,
-- by sender, then receiver, each a WRITE of bit 0, a WRITE of bit 1, the READs and the PROCEEDs. A WRITE is a flag and a value.
-- Any bytes stand for a network: a byte past the end counts as 0, and a flag other than 0 is true.
-- Assumes nothing.
use Rattle.std.specs.Prelude.{ℕ, ◌+◌, ◌*◌}
use mathlib.Core.{Bool.{Bool, false, not}, List.{List, [], ◌∷◌, ◌++◌}}
use lib.{Dec.eqb, ListN.{get_or, drop}}
use Rattle.basics.specs.Below.{one_if, list_below}
use Rattle.panel.specs.{Calls.panel_of, declared.Panel.Panel}
use Rattle.channels.specs.{Channels.{no_row, channel_at}, declared.Channel.Channel, declared.Row.Row}
use Rattle.house.specs.{Places.nobody, declared.Network.Network}
use Rattle.carried.specs.Panels.{hold_from, panel_from, rows_below, hold_bytes, panel_bytes}

-- ---- a network out of bytes

-- a panel stands as it would stand alone
unfoldable pub member_from : List ℕ → ℕ → Panel
member_from s at = panel_of (panel_from (drop at s))

unfoldable pub flag_from : List ℕ → ℕ → Bool
flag_from s at = not (eqb (get_or s at 0) 0)

unfoldable pub channel_from : List ℕ → ℕ → Channel
channel_from s at =
    record { write0 = hold_from s at; write1 = hold_from s (at + 5); reads = get_or s (at + 10) 0; proceeds = get_or s (at + 11) 0 }

unfoldable pub row_from : List ℕ → ℕ → Row
row_from s at = record { to = list_below 7 (λ (j : ℕ). channel_from s (at + 12 * j)) }

unfoldable pub network_from : List ℕ → Network
network_from s =
    record {
      panels = list_below 7 (λ (i : ℕ). member_from s (1566 * i));
      rows = list_below 7 (λ (i : ℕ). row_from s (10969 + 84 * i));
      down = list_below 7 (λ (i : ℕ). flag_from s (10962 + i));
    }

-- ---- a network as bytes

unfoldable pub members_bytes : List Panel → List ℕ
members_bytes ps = rows_below 7 (λ (i : ℕ). panel_bytes (get_or ps i nobody).tables)

unfoldable pub down_bytes : List Bool → List ℕ
down_bytes down = rows_below 7 (λ (i : ℕ). one_if (get_or down i false) ∷ [])

unfoldable pub channel_bytes : Channel → List ℕ
channel_bytes c = hold_bytes c.write0 ++ (hold_bytes c.write1 ++ (c.reads ∷ c.proceeds ∷ []))

unfoldable pub row_bytes : Row → List ℕ
row_bytes r = rows_below 7 (λ (j : ℕ). channel_bytes (channel_at r j))

unfoldable pub rows_bytes : List Row → List ℕ
rows_bytes rs = rows_below 7 (λ (i : ℕ). row_bytes (get_or rs i no_row))

unfoldable pub network_bytes : Network → List ℕ
network_bytes s = members_bytes s.panels ++ (down_bytes s.down ++ rows_bytes s.rows)
