-- Networks made by hand: which are in form, and what the search finds in them. A message found stands as its sender, receiver and
-- kind.
-- Assumes nothing.
use mathlib.Core.{Bool.{Bool, true, false}, List.{List, [], ◌∷◌}, Path.{◌≡◌, refl}}
use Prim.Native.Nat.{ℕ}
use lib.ListN.{replicate}
use Rattle.std.specs.Prelude.{Option, Some, None}
use Rattle.basics.specs.{Below.{one_if, all_below, count_below}, Choice.{ite, both}}
use Rattle.tables.specs.Form.{entry_ok, line_ok, hold_ok, quiet_ok, unknown_ok, history_ok}
use Rattle.form.specs.Form.{fits, is_panel, at_writer, place_with, place_ok, operation_ok, in_form, empty_line, fresh}
use Rattle.unused.specs.Unused as unused
use Rattle.events.specs.Rules.{value_of}
use Rattle.panel.specs.declared.Panel.{Panel}
use Rattle.channels.specs.Channels.{by_kind, no_channel, in_flight, has, with_reads, with_proceeds, slot_ok, channel_ok, channel_empty, leads, row_place_ok, row_ok, empty_row}
use Rattle.channels.specs.{Posting.with_channel, declared.Channel.Channel}
use Rattle.house.specs.{Places.{row_at, with_panel, with_row, with_down}, Search.{live, first_below, spot_at, of_pair, of_sender, first_in}}
use Rattle.house.specs.declared.{InFlight.InFlight, Network.Network}
use Rattle.house.specs.NetForm as net

panel : ℕ → ℕ → Panel
panel number initial = record { tables = fresh 3 1 1 number initial }

-- three panels, one of which may be down, as set-up leaves them
three : Network
unfolding panel
three =
    record {
      panels = panel 1 700 ∷ panel 2 700 ∷ panel 3 700 ∷ replicate 4 (record { tables = fresh 0 0 0 0 0 });
      rows = replicate 7 empty_row;
      down = replicate 7 false;
    }

-- with a channel from place i to place j
sending : Network → ℕ → ℕ → Channel → Network
sending s i j c = with_row s i (with_channel (row_at s i) j c)

-- a READ from panel 2 to 1, and a PROCEED from panel 1 to 3
two : Network
unfolding sending
two = sending (sending three 1 0 (with_reads no_channel 1)) 0 2 (with_proceeds no_channel 1)

told : Option InFlight → List ℕ
told None = []
told (Some m) = m.sender ∷ m.receiver ∷ m.kind ∷ []

forms : List Bool
unfolding panel three sending two ite both one_if all_below count_below entry_ok line_ok hold_ok quiet_ok unknown_ok history_ok fits is_panel at_writer place_with place_ok operation_ok in_form empty_line fresh unused.entry_zero unused.value_zero unused.line_unused unused.history_unused unused.place_with unused.place_unused unused.idle unused.unused value_of by_kind in_flight has slot_ok channel_ok channel_empty leads row_place_ok row_ok empty_row with_channel net.may_be_down net.downs_in net.member_with net.place_ok net.channels_ok net.net_form
forms =
    net.net_form three
    ∷ net.net_form two
    -- one down, and t + 1
    ∷ net.net_form (with_down three 1)
    ∷ net.net_form (with_down (with_down three 1) 2)
    -- another initial value, another panel's number
    ∷ net.net_form (with_panel three 1 (panel 2 701))
    ∷ net.net_form (with_panel three 1 (panel 3 700))
    -- a panel past n that is down
    ∷ net.net_form (with_down three 3)
    -- a panel that sends to itself, one that sends past n, and a 101st READ
    ∷ net.net_form (sending three 0 0 (with_reads no_channel 1))
    ∷ net.net_form (sending three 0 3 (with_reads no_channel 1))
    ∷ net.net_form (sending three 0 1 (with_reads no_channel 100))
    ∷ net.net_form (sending three 0 1 (with_reads no_channel 101))
    ∷ []

formed : forms ≡ true ∷ true ∷ true ∷ false ∷ false ∷ false ∷ false ∷ false ∷ false ∷ true ∷ false ∷ []
unfolding forms
formed = refl

finds : List (List ℕ)
unfolding panel three sending two told ite both one_if fresh empty_line by_kind in_flight has empty_row with_channel live first_below spot_at of_pair of_sender first_in
finds =
    told (first_in three)
    -- by sender first: by receiver first it would be the READ
    ∷ told (first_in two)
    -- nothing is found to a panel that is down
    ∷ told (first_in (with_down two 2))
    ∷ told (first_in (with_down (with_down two 2) 0))
    ∷ []

found : finds ≡ [] ∷ (1 ∷ 3 ∷ 3 ∷ []) ∷ (2 ∷ 1 ∷ 2 ∷ []) ∷ [] ∷ []
unfolding finds
found = refl
