-- How many bytes the parts of a network take, and the whole: 11,557.
-- Assumes nothing.
use mathlib.Core.{Bool.{Bool, false}, List.{List, [], ◌∷◌}, Path.{◌≡◌, refl}}
use Prim.Native.Nat.{ℕ}
use lib.ListN.{length, length-append, get_or}
use Rattle.basics.specs.Below.{one_if}
use Rattle.panel.specs.declared.Panel.{Panel}
use Rattle.channels.specs.{Channels.{no_row, channel_at}, declared.Channel.Channel, declared.Row.Row}
use Rattle.house.specs.{Places.nobody, declared.Network.Network}
pub use Rattle.carried.proofs.Rows.{rows_start, rows_end}
use Rattle.carried.{proofs.Lengths.{length-hold, length-panel}, proofs.Rows.length-rows, specs.Panels.panel_bytes}
use Rattle.conveyed.specs.Networks.{members_bytes, down_bytes, channel_bytes, row_bytes, rows_bytes, network_bytes}

pub length-members : (ps : List Panel) → length (members_bytes ps) ≡ 10962
unfolding members_bytes
length-members ps = length-rows 1566 (λ (i : ℕ). panel_bytes (get_or ps i nobody).tables) (λ k. length-panel _) 7

pub length-down : (down : List Bool) → length (down_bytes down) ≡ 7
unfolding down_bytes
length-down down = length-rows 1 (λ (i : ℕ). one_if (get_or down i false) ∷ []) (λ k. refl) 7

pub length-channel : (c : Channel) → length (channel_bytes c) ≡ 12
unfolding channel_bytes
length-channel c = simp (length-append, length-hold)

pub length-row : (r : Row) → length (row_bytes r) ≡ 84
unfolding row_bytes
length-row r = length-rows 12 (λ (j : ℕ). channel_bytes (channel_at r j)) (λ k. length-channel _) 7

pub length-network : (s : Network) → length (network_bytes s) ≡ 11557
unfolding network_bytes rows_bytes
length-network s =
    simp (length-append, length-members, length-down, length-rows 84 (λ (i : ℕ). row_bytes (get_or s.rows i no_row)) (λ k. length-row _) 7)

-- by which a loop that writes row by row begins and ends
pub ruleset rows = (rows_start, rows_end)
