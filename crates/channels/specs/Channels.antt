-- The channel of one ordered pair: "at most one WRITE of each bit and at most 100 READs and 100 PROCEEDs in flight". Kinds are
-- those of the wire: 0 and 1 WRITE of that bit, 2 READ, 3 PROCEED; of another kind there is nothing and no room.
-- Assumes nothing.
use Rattle.std.specs.Prelude.{ℕ, ◌+◌, ◌-◌}
use mathlib.Core.{Bool.{Bool, true, false, not}, List.[]}
use lib.{Dec.{leb, ltb, eqb}, ListN.{get_or, replicate}}
use Rattle.basics.specs.{Below.{one_if, all_below}, Choice.{ite, both}}
use Rattle.tables.specs.{Places.no_hold, declared.Hold.Hold}
use Rattle.channels.specs.declared.{Channel.Channel, Row.Row}

-- by kind
unfoldable pub by_kind {ℓ} : {A : Type ℓ} → ℕ → A → A → A → A → A → A
by_kind k a b c d e = ite (eqb k 0) a (ite (eqb k 1) b (ite (eqb k 2) c (ite (eqb k 3) d e)))

abbrev pub no_channel : Channel
no_channel = record { write0 = no_hold; write1 = no_hold; reads = 0; proceeds = 0 }

abbrev pub no_row : Row
no_row = record { to = [] }

-- the channel to place j
abbrev pub channel_at : Row → ℕ → Channel
channel_at r j = get_or r.to j no_channel

-- how many messages of kind k are in flight
unfoldable pub in_flight : Channel → ℕ → ℕ
in_flight c k = by_kind k (one_if c.write0.full) (one_if c.write1.full) c.reads c.proceeds 0

-- a message of kind k is in flight
unfoldable pub has : Channel → ℕ → Bool
has c k = ltb 0 (in_flight c k)

-- the value that a WRITE of kind k carries
unfoldable pub value_in : Channel → ℕ → ℕ
value_in c k = by_kind k c.write0.value c.write1.value 0 0 0

-- there is room for one more of kind k: what refusal 14 asks
unfoldable pub room : Channel → ℕ → Bool
room c k = by_kind k (not c.write0.full) (not c.write1.full) (ltb c.reads 100) (ltb c.proceeds 100) false

abbrev pub with_write0 : Channel → Hold → Channel
with_write0 c h = record { write0 = h; write1 = c.write1; reads = c.reads; proceeds = c.proceeds }

abbrev pub with_write1 : Channel → Hold → Channel
with_write1 c h = record { write0 = c.write0; write1 = h; reads = c.reads; proceeds = c.proceeds }

abbrev pub with_reads : Channel → ℕ → Channel
with_reads c m = record { write0 = c.write0; write1 = c.write1; reads = m; proceeds = c.proceeds }

abbrev pub with_proceeds : Channel → ℕ → Channel
with_proceeds c m = record { write0 = c.write0; write1 = c.write1; reads = c.reads; proceeds = m }

-- with one more of kind k and value v, where there is room for it
unfoldable pub joined : Channel → ℕ → ℕ → Channel
joined c k v =
    ite (room c k)
    (by_kind k (with_write0 c (record { full = true; value = v })) (with_write1 c (record { full = true; value = v }))
    (with_reads c (c.reads + 1)) (with_proceeds c (c.proceeds + 1)) c)
    c

-- with one fewer of kind k, where there is one
unfoldable pub less : Channel → ℕ → Channel
less c k = by_kind k (with_write0 c no_hold) (with_write1 c no_hold) (with_reads c (c.reads - 1)) (with_proceeds c (c.proceeds - 1)) c

-- ---- in form

-- the value of a WRITE that is not there is zero
unfoldable pub slot_ok : Hold → Bool
slot_ok h = ite h.full true (eqb h.value 0)

unfoldable pub channel_ok : Channel → Bool
channel_ok c = both (slot_ok c.write0) (both (slot_ok c.write1) (both (leb c.reads 100) (leb c.proceeds 100)))

-- nothing is in flight, and everything is zero
unfoldable pub channel_empty : Channel → Bool
channel_empty c =
    both (both (not c.write0.full) (eqb c.write0.value 0))
    (both (both (not c.write1.full) (eqb c.write1.value 0)) (both (eqb c.reads 0) (eqb c.proceeds 0)))

-- a channel leads from place i of n panels to place j: to another of the n
unfoldable pub leads : ℕ → ℕ → ℕ → Bool
leads n i j = both (ltb i n) (both (ltb j n) (not (eqb i j)))

-- the channels that leave place i of n panels: to another of the n in form, to itself and past n empty
unfoldable pub row_place_ok : Row → ℕ → ℕ → ℕ → Bool
row_place_ok r n i j = ite (leads n i j) (channel_ok (channel_at r j)) (channel_empty (channel_at r j))

unfoldable pub row_ok : Row → ℕ → ℕ → Bool
row_ok r n i = all_below 7 (row_place_ok r n i)

unfoldable pub empty_row : Row
empty_row = record { to = replicate 7 no_channel }
