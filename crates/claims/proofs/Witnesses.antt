-- Guards against claims that hold of nothing: runs from fresh in which every kind of operation waits and is finished, messages are
-- held and wait, and panels are down; a run that makes all the deliveries there can be; and for each refusal of a panel or a network
-- a call that meets it. (15 to 17 are refusals of bytes.)
-- Assumes nothing.
use Prim.Native.Nat.{ℕ}
use mathlib.Core.{Bool.true, List.{List, [], ◌∷◌}, Path.{◌≡◌, refl, ap}}
use lib.ListN.{set, replicate}
use Rattle.messages.specs.Area.{Area}
use Rattle.tables.specs.{Places.{no_write, no_read, no_hold}, declared.Hold.Hold, declared.WriteNo.WriteNo}
use Rattle.form.specs.{Form.fresh, Setting.{set_w, set_r, set_held, set_lines}, declared.Tables.Tables}
use Rattle.refusals.specs.Refusals.Event.{write as write_event}
use Rattle.panel.specs.Calls as calls
use Rattle.channels.specs.{Channels.{no_channel, with_write0, with_write1, with_reads, with_proceeds}, Posting.with_channel}
use Rattle.channels.specs.declared.Channel.{Channel}
use Rattle.house.specs.{Places.{row_at, with_panel, with_row, with_down}, declared.Network.Network}
use Rattle.steps.specs.SetUp.{fresh_network}
use Rattle.runs.{proofs.FromFresh.start-holds, specs.Runs.{Step, entries}, specs.Runs.Step.{write, read, lose, drain}}
use Rattle.claims.specs.Noted.{WRITE0, WRITE1, READ, PROCEED, Note, Case, told, noted, lone, values, Case.{setting_up, network, panel}}
use Rattle.claims.specs.{Noted.Note.{made, said, flying, held, waiting, doing, lines}, Shown.{answered, totals}}
use Rattle.claims.proofs.{Opened.{opened, opened-whole}, Spared.{entries-spared, values-spared}}

-- ---- operations that wait, and finish

-- a write of panel 2: of four panels three have to have it, the writer among them
slow-write : List Case
slow-write =
    network 4 1 2
    (said (write 650)
    ∷ doing 2
    ∷ said (WRITE1 2 1)
    ∷ said (WRITE1 1 2)
    ∷ said (WRITE1 2 3)
    ∷ doing 2
    ∷ said (WRITE1 3 2)
    ∷ doing 2
    ∷ [])
    ∷ []

write-finishes-later :
    values slow-write ≡
    (1 ∷ [])
    ∷ (1 ∷ [])
    ∷ (1 ∷ [])
    ∷ (1 ∷ [])
    ∷ (1 ∷ [])
    ∷ (1 ∷ [])
    ∷ (2 ∷ 1 ∷ [])
    ∷ (0 ∷ [])
    ∷ []
unfolding opened slow-write
write-finishes-later = values-spared slow-write

-- a read of panel 2: with t = 0 it waits for every PROCEED, and then until panel 3 is known to have value 1
slow-read : List Case
slow-read =
    network 3 0 1
    (said (read 2)
    ∷ doing 2
    ∷ made (READ 2 1 ∷ READ 2 3 ∷ write 650 ∷ WRITE1 1 2 ∷ PROCEED 1 2 ∷ [])
    ∷ doing 2
    ∷ said (PROCEED 3 2)
    ∷ doing 2
    ∷ made (WRITE1 1 3 ∷ [])
    ∷ said (WRITE1 3 2)
    ∷ doing 2
    ∷ [])
    ∷ []

read-waits-twice :
    values slow-read ≡
    (1 ∷ [])
    ∷ (2 ∷ [])
    ∷ (2 ∷ [])
    ∷ (1 ∷ [])
    ∷ (3 ∷ 1 ∷ [])
    ∷ (3 ∷ 1 ∷ 650 ∷ [])
    ∷ (0 ∷ [])
    ∷ []
unfolding opened slow-read
read-waits-twice = values-spared slow-read

-- ---- messages that are held, and that wait

-- panel 2 has value 1 from panel 3, and the writer's second WRITE overtakes its first; when it is treated, panel 2 learns value 2
held-write : List Case
held-write =
    network 3 1 1
    (made (write 10 ∷ WRITE1 1 3 ∷ WRITE1 3 2 ∷ WRITE1 3 1 ∷ WRITE1 2 1 ∷ write 20 ∷ [])
    ∷ said (WRITE0 1 2)
    ∷ held 2 1
    ∷ flying 2
    ∷ said (WRITE1 1 2)
    ∷ held 2 1
    ∷ flying 2
    ∷ [])
    ∷ []

held-and-treated :
    values held-write ≡
    (1 ∷ [])
    ∷ (20 ∷ [])
    ∷ (3 ∷ 1 ∷ 10 ∷ [])
    ∷ (1 ∷ [])
    ∷ []
    ∷ (1 ∷ 0 ∷ 20 ∷ 3 ∷ 0 ∷ 20 ∷ 3 ∷ 1 ∷ 10 ∷ [])
    ∷ []
unfolding opened held-write
held-and-treated = values-spared held-write

-- a READ of panel 3 comes to the writer before panel 3 is known to have value 1
waiting-read : List Case
waiting-read =
    network 3 1 1
    (made (write 650 ∷ read 3 ∷ [])
    ∷ said (READ 3 1)
    ∷ waiting 1 3
    ∷ made (WRITE1 1 3 ∷ [])
    ∷ said (WRITE1 3 1)
    ∷ waiting 1 3
    ∷ said (PROCEED 1 3)
    ∷ [])
    ∷ []

waits-and-is-answered :
    values waiting-read ≡
    (1 ∷ [])
    ∷ (1 ∷ [])
    ∷ (2 ∷ 1 ∷ [])
    ∷ []
    ∷ (3 ∷ 1 ∷ 650 ∷ [])
    ∷ []
unfolding opened waiting-read
waits-and-is-answered = values-spared waiting-read

-- ---- panels that are down

-- a write of panel 1 and a read of panel 2 finish without panel 3; what is in flight to panel 3 stays there
without-3 : List Case
without-3 =
    network 3 1 1
    (said (lose 3)
    ∷ said (write 650)
    ∷ said (read 2)
    ∷ doing 1
    ∷ doing 2
    ∷ said drain
    ∷ doing 1
    ∷ doing 2
    ∷ flying 1
    ∷ flying 2
    ∷ lines 1
    ∷ [])
    ∷ []

rest-finishes :
    values without-3 ≡
    (1 ∷ [])
    ∷ (1 ∷ [])
    ∷ (1 ∷ [])
    ∷ (1 ∷ [])
    ∷ (2 ∷ [])
    ∷ (4 ∷ 4 ∷ [])
    ∷ (0 ∷ [])
    ∷ (0 ∷ [])
    ∷ (3 ∷ 1 ∷ 650 ∷ [])
    ∷ (3 ∷ 1 ∷ 650 ∷ 3 ∷ 2 ∷ 0 ∷ [])
    ∷ []
    ∷ []
unfolding opened without-3
rest-finishes = values-spared without-3

-- "Messages from a down panel can still be delivered": panel 2 reads what panel 1 wrote, and the write stays unfinished
from-down : List Case
from-down =
    network 3 1 1
    (made (write 650 ∷ lose 1 ∷ [])
    ∷ said (WRITE1 1 2)
    ∷ said (WRITE1 1 3)
    ∷ made (read 2 ∷ WRITE1 2 3 ∷ READ 2 3 ∷ [])
    ∷ said (PROCEED 3 2)
    ∷ doing 1
    ∷ [])
    ∷ []

down-panel-is-heard : values from-down ≡ (1 ∷ []) ∷ (1 ∷ []) ∷ (3 ∷ 1 ∷ 650 ∷ []) ∷ (1 ∷ []) ∷ []
unfolding opened from-down
down-panel-is-heard = values-spared from-down

-- ---- all the deliveries there can be: 2·2·1 + 2·2·1

two-and-two : List Step
two-and-two = write 10 ∷ read 1 ∷ drain ∷ write 20 ∷ read 1 ∷ drain ∷ []

bound-met :
    totals 2 (entries (fresh_network 2 0 2 700) two-and-two) ≡
    (0 ∷ 0 ∷ 0 ∷ 0 ∷ 0 ∷ 0 ∷ []) ∷ (0 ∷ 0 ∷ 4 ∷ 0 ∷ 0 ∷ 4 ∷ []) ∷ (8 ∷ 8 ∷ []) ∷ []
unfolding opened two-and-two
bound-met = ap (totals 2) (entries-spared _ (start-holds 2 0 2 700 refl) two-and-two)

-- ---- refusals from fresh: 1, 4 to 7, 9 and 10

refused-steps : List Note
refused-steps =
    made (write 650 ∷ lose 2 ∷ read 3 ∷ [])
    -- 4: no such panel; sender equals receiver
    ∷ said (read 0)
    ∷ said (read 4)
    ∷ said (lose 4)
    ∷ said (WRITE1 1 4)
    ∷ said (WRITE1 1 1)
    -- 5: panel 2 should act, receive, lose power
    ∷ said (read 2)
    ∷ said (WRITE1 1 2)
    ∷ said (lose 2)
    -- 7: the write and the read are unfinished
    ∷ said (write 20)
    ∷ said (read 3)
    -- 9
    ∷ said (WRITE0 1 3)
    ∷ said (PROCEED 3 1)
    -- 10
    ∷ said (lose 3)
    ∷ []

from-fresh : List Case
unfolding refused-steps
from-fresh =
    -- 1: "n=0 and n=8 refused 1; writer 0 and writer n+1 refused 1"
    setting_up 0 0 1
    ∷ setting_up 8 3 1
    ∷ setting_up 3 1 0
    ∷ setting_up 3 1 4
    ∷ network 3 1 1 refused-steps
    -- 5: the writer should act
    ∷ network 3 1 1 (made (lose 1 ∷ []) ∷ said (write 650) ∷ [])
    -- 6: of a lone panel; a network asks its writer
    ∷ panel 3 1 1 2 (write_event 650)
    ∷ []

refused-from-fresh :
    values from-fresh ≡
    (1 ∷ [])
    ∷ (1 ∷ [])
    ∷ (1 ∷ [])
    ∷ (1 ∷ [])
    ∷ (0 ∷ 4 ∷ [])
    ∷ (0 ∷ 4 ∷ [])
    ∷ (0 ∷ 4 ∷ [])
    ∷ (0 ∷ 4 ∷ [])
    ∷ (0 ∷ 4 ∷ [])
    ∷ (0 ∷ 5 ∷ [])
    ∷ (0 ∷ 5 ∷ [])
    ∷ (0 ∷ 5 ∷ [])
    ∷ (0 ∷ 7 ∷ [])
    ∷ (0 ∷ 7 ∷ [])
    ∷ (0 ∷ 9 ∷ [])
    ∷ (0 ∷ 9 ∷ [])
    ∷ (0 ∷ 10 ∷ [])
    ∷ (0 ∷ 5 ∷ [])
    ∷ (0 ∷ 6 ∷ [])
    ∷ []
unfolding opened from-fresh
refused-from-fresh = values-spared from-fresh

-- 3: "Message area of 107 taken, 106 refused 3"
area : ℕ → Area
area m = record { receivers = replicate m 0; kinds = replicate m 0; values = replicate m 0 }

written-with : ℕ → List ℕ
written-with m = answered (calls.called (lone 3 1 1 1) (write_event 650) (area m)).outcome.answer

refused-area : written-with 107 ∷ written-with 106 ∷ [] ≡ (1 ∷ []) ∷ (0 ∷ 3 ∷ []) ∷ []
unfolding opened area written-with
refused-area = refl

-- ---- refusals of networks made by hand: 2, 8, 11 to 14

abbrev with_tables : Network → ℕ → Tables → Network
with_tables s i t = with_panel s i (calls.panel_of t)

-- with a channel from place i to place j
abbrev sending : Network → ℕ → ℕ → Channel → Network
sending s i j c = with_row s i (with_channel (row_at s i) j c)

abbrev number : ℕ → WriteNo
number x = record { 0 = x }

abbrev write-of : ℕ → Hold
write-of v = record { full = true; value = v }

-- 2, whatever is asked: two of three panels are down, with t = 1
unformed : Network
unformed = with_down (with_down (fresh_network 3 1 1 700) 1) 2

refused-unformed :
    told unformed (write 650) ∷ told unformed (read 1) ∷ told unformed (WRITE1 2 1) ∷ told unformed (lose 1) ∷ told unformed drain ∷ [] ≡
    (0 ∷ 2 ∷ []) ∷ (0 ∷ 2 ∷ []) ∷ (0 ∷ 2 ∷ []) ∷ (0 ∷ 2 ∷ []) ∷ (0 ∷ 2 ∷ []) ∷ []
unfolding opened-whole unformed
refused-unformed = refl

-- 8: one panel that has written 199 times and read 99 times; "Write 200 taken, 201 refused 8"
nearly-done : Network
nearly-done =
    with_tables (fresh_network 1 0 1 700) 0
    (set_r (set_w (fresh 1 0 1 1 700) (set (replicate 7 no_write) 0 (number 199))) (set (replicate 7 no_read) 0 (record { 0 = 99 })))

refused-done :
    noted nearly-done (said (write 650) ∷ said (write 660) ∷ said (read 1) ∷ said (read 1) ∷ []) ≡
    (2 ∷ 200 ∷ []) ∷ (0 ∷ 8 ∷ []) ∷ (3 ∷ 200 ∷ 650 ∷ []) ∷ (0 ∷ 8 ∷ []) ∷ []
unfolding opened-whole nearly-done
refused-done = refl

-- panel 2 knows one write, holds a WRITE of panel 1 and has 100 READs of panel 3 waiting
crowded : Tables
crowded =
    set_lines
    (set_held (set_w (fresh 3 1 1 2 700) (set (replicate 7 no_write) 1 (number 1))) (set (replicate 7 no_hold) 0 (write-of 20)))
    (set (fresh 3 1 1 2 700).lines 2 (record { len = 100; sn = replicate 100 (number 1) }))

-- panel 3 knows 200 writes, and panel 1 to know them
complete : Tables
complete = set_w (fresh 3 1 1 3 700) (set (set (replicate 7 no_write) 0 (number 200)) 2 (number 200))

by_hand : Network
by_hand = with_tables (with_tables (fresh_network 3 1 1 700) 1 crowded) 2 complete

-- and messages that no panel of these has sent
from-1 : Network
from-1 =
    sending (sending by_hand 0 1 (with_proceeds (with_write0 no_channel (write-of 20)) 1))
    0 2 (with_proceeds (with_write1 no_channel (write-of 10)) 100)

strays : Network
strays =
    sending (sending (sending from-1 1 0 (with_write1 no_channel (write-of 10))) 2 0 (with_reads no_channel 100))
    2 1 (with_reads no_channel 1)

refused-strays :
    -- 11: above w[i] at the writer; above 200; one is held, and this one comes first in a drain
    told strays (WRITE1 2 1)
    ∷ told strays (WRITE1 1 3)
    ∷ told strays (WRITE0 1 2)
    ∷ told strays drain
    -- 12
    ∷ told strays (PROCEED 1 2)
    -- 13
    ∷ told strays (READ 3 2)
    -- 14: the bit is taken; 100 READs; 100 PROCEEDs
    ∷ told strays (write 10)
    ∷ told strays (read 3)
    ∷ told strays (READ 3 1)
    ∷ [] ≡
    (0 ∷ 11 ∷ [])
    ∷ (0 ∷ 11 ∷ [])
    ∷ (0 ∷ 11 ∷ [])
    ∷ (0 ∷ 11 ∷ [])
    ∷ (0 ∷ 12 ∷ [])
    ∷ (0 ∷ 13 ∷ [])
    ∷ (0 ∷ 14 ∷ [])
    ∷ (0 ∷ 14 ∷ [])
    ∷ (0 ∷ 14 ∷ [])
    ∷ []
unfolding opened-whole strays from-1 by_hand crowded complete
refused-strays = refl
