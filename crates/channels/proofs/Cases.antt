-- Channels and posting at the edges, by computation: a bit taken, the hundredth and the hundred-and-first, and a row that is
-- not in form.
-- Assumes nothing.
use mathlib.Core.{Bool.{true, false}, List.{[], ◌∷◌}, Path.{◌≡◌, refl}}
use Prim.Native.Nat.{ℕ}
use Rattle.basics.specs.{Below.all_below, Choice.{ite, both}}
use Rattle.messages.specs.Sends.{Message}
use Rattle.channels.specs.Channels.{by_kind, no_channel, with_reads, with_write1, in_flight, has, value_in, room, joined, less, slot_ok, channel_ok, channel_empty, leads, row_place_ok, row_ok, empty_row}
use Rattle.channels.specs.{Posting.{with_channel, posted, fits_in, post, posts}, declared.Channel.Channel}

-- a message with the value 650
abbrev message : ℕ → ℕ → Message
message j k = record { to = j; kind = k; value = 650 }

abbrev written : Channel
written = with_write1 no_channel (record { full = true; value = 650 })

-- WRITE1 goes into the slot of its bit, with its value, and a second one finds it taken
bit-taken : (joined no_channel 1 650 ≡ written) × (room written 1 ≡ false) × (room written 0 ≡ true) × (value_in written 1 ≡ 650)
unfolding joined room value_in by_kind ite
bit-taken = (refl, refl, refl, refl)

-- the hundredth READ finds room, the next one none
hundred : (room (with_reads no_channel 99) 2 ≡ true) × (room (with_reads no_channel 100) 2 ≡ false)
unfolding room by_kind ite
hundred = (refl, refl)

-- there is no other kind
fourth-kind : (room no_channel 4 ≡ false) × (has no_channel 4 ≡ false)
unfolding room has in_flight by_kind ite
fourth-kind = (refl, refl)

-- what is taken is gone, its value too
gone : less written 1 ≡ no_channel
unfolding less by_kind ite
gone = refl

-- panel 2 gets the WRITE, panel 3 nothing, and the second WRITE of the bit does not fit
posting :
    (posts (posted true empty_row) (message 2 1 ∷ []) ≡ posted true (with_channel empty_row 1 written))
    × ((posts (posted true empty_row) (message 2 1 ∷ message 3 1 ∷ message 2 1 ∷ [])).fits ≡ false)
    × ((posts (posted true empty_row) (message 0 1 ∷ [])).fits ≡ false)
    × ((posts (posted true empty_row) (message 8 1 ∷ [])).fits ≡ false)
unfolding posts post fits_in with_channel joined room by_kind ite both empty_row
posting = (refl, refl, refl, refl)

-- of three panels the second sends: to the first, and neither to itself nor to a fourth
in-form :
    (row_ok (with_channel empty_row 0 written) 3 1 ≡ true)
    × (row_ok (with_channel empty_row 1 written) 3 1 ≡ false)
    × (row_ok (with_channel empty_row 3 written) 3 1 ≡ false)
    × (row_ok (with_channel empty_row 0 (with_reads no_channel 101)) 3 1 ≡ false)
unfolding row_ok row_place_ok leads all_below channel_ok channel_empty slot_ok with_channel both ite empty_row
in-form = (refl, refl, refl, refl)
