-- The cases that the description marks P, as one list of the definitions' own values, shown by one claim over it; and the
-- description's listing as a run. What the numbers mean stands in specs/Shown. Right-hand sides are the description's.
-- Assumes nothing.
use mathlib.Core.{List.{List, [], ◌∷◌}, Path.{◌≡◌, refl, ap}}
use Rattle.refusals.specs.Refusals.Event.{proceed_from}
use Rattle.steps.specs.SetUp.{fresh_network}
use Rattle.runs.{proofs.FromFresh.start-holds, specs.Runs.{Step, entries}, specs.Runs.Step.{write, read, lose, drain}}
use Rattle.claims.specs.Noted.{WRITE0, WRITE1, READ, PROCEED, Note, Case, values, Case.{setting_up, network, panel}}
use Rattle.claims.specs.{Noted.Note.{made, said, flying, held, waiting, lines}, Shown.totals}
use Rattle.claims.proofs.{Opened.opened, Spared.{entries-spared, values-spared}}

-- "n=3, t=1, writer 1 unless said"
abbrev three : List Note → Case
three ns = network 3 1 1 ns

to-step-10 : List Note
to-step-10 =
    made (write 650 ∷ WRITE1 1 2 ∷ [])
    -- P "The listing's step 3: panel 2 sends to 1 and 3"
    ∷ flying 2
    -- P "Step 4 finishes write 1"
    ∷ said (WRITE1 2 1)
    ∷ made (read 3 ∷ WRITE1 1 3 ∷ WRITE1 2 3 ∷ WRITE1 3 1 ∷ READ 3 1 ∷ [])
    -- P "Step 10 gives 650"
    ∷ said (PROCEED 1 3)
    ∷ []

waiting-read : List Note
waiting-read =
    made (write 650 ∷ WRITE1 1 2 ∷ read 3 ∷ [])
    -- P "READ from 3 at panel 2 right after step 3 waits with sn 1": panel 2 sends nothing
    ∷ said (READ 3 2)
    ∷ waiting 2 3
    ∷ flying 2
    ∷ made (WRITE1 1 3 ∷ [])
    -- P "the WRITE1 from 3 then sends one PROCEED"
    ∷ said (WRITE1 3 2)
    ∷ waiting 2 3
    ∷ flying 2
    ∷ []

-- P "Overtaking", with 10 for A and 20 for B
overtaking : List Note
overtaking =
    -- "write A; WRITE1 1→2, 1→3, 3→1 (write ends), 2→3, 3→2"
    made (write 10 ∷ WRITE1 1 2 ∷ WRITE1 1 3 ∷ [])
    ∷ said (WRITE1 3 1)
    ∷ made (WRITE1 2 3 ∷ WRITE1 3 2 ∷ [])
    -- "write B goes to 3 only"
    ∷ said (write 20)
    ∷ flying 1
    -- "WRITE0 1→3, 3→2; WRITE0 2→1 is held and sends nothing"
    ∷ made (WRITE0 1 3 ∷ WRITE0 3 2 ∷ [])
    ∷ said (WRITE0 2 1)
    ∷ held 1 2
    ∷ flying 1
    -- P "WRITE1 2→1 then sends one WRITE0 to 2 and finishes write 2"
    ∷ said (WRITE1 2 1)
    ∷ held 1 2
    ∷ flying 1
    ∷ []

pub cases : List Case
unfolding to-step-10 waiting-read overtaking
cases =
    -- P "n=7, t=3 taken"
    setting_up 7 3 1
    -- P "n=6, t=3 refused 1"
    ∷ setting_up 6 3 1
    -- P "n=1, t=0: a write and a read each finish in their own start"
    ∷ network 1 0 1 (said (write 650) ∷ said (read 1) ∷ [])
    ∷ three to-step-10
    ∷ three waiting-read
    ∷ three overtaking
    -- P "PROCEED at a panel that has read nothing: 12"
    ∷ panel 3 1 1 2 (proceed_from 1)
    -- P "With t=1, power loss of 2 and then of 3: 10"
    ∷ three (said (lose 2) ∷ said (lose 3) ∷ [])
    ∷ []

pub cases-shown :
    values cases ≡
    (0 ∷ [])
    ∷ (1 ∷ [])
    -- n=1
    ∷ (2 ∷ 1 ∷ [])
    ∷ (3 ∷ 1 ∷ 650 ∷ [])
    -- to-step-10
    ∷ (1 ∷ 1 ∷ 650 ∷ 3 ∷ 1 ∷ 650 ∷ [])
    ∷ (2 ∷ 1 ∷ [])
    ∷ (3 ∷ 1 ∷ 650 ∷ [])
    -- waiting-read
    ∷ (1 ∷ [])
    ∷ (1 ∷ [])
    ∷ (1 ∷ 1 ∷ 650 ∷ 3 ∷ 1 ∷ 650 ∷ [])
    ∷ (1 ∷ [])
    ∷ []
    ∷ (1 ∷ 1 ∷ 650 ∷ 3 ∷ 1 ∷ 650 ∷ 3 ∷ 3 ∷ 0 ∷ [])
    -- overtaking
    ∷ (2 ∷ 1 ∷ [])
    ∷ (1 ∷ [])
    ∷ (3 ∷ 0 ∷ 20 ∷ [])
    ∷ (1 ∷ [])
    ∷ (20 ∷ [])
    ∷ []
    ∷ (2 ∷ 2 ∷ [])
    ∷ []
    ∷ (2 ∷ 0 ∷ 20 ∷ [])
    -- PROCEED, and power loss
    ∷ (0 ∷ 12 ∷ [])
    ∷ (1 ∷ [])
    ∷ (0 ∷ 10 ∷ [])
    ∷ []
unfolding opened cases
cases-shown = values-spared cases

-- ---- the listing: steps 2 to 5, what the drain delivers, and its own line

listing : List Case
listing = three (said (write 650) ∷ said (WRITE1 1 2) ∷ said (WRITE1 2 1) ∷ said (read 3) ∷ lines 9 ∷ said drain ∷ []) ∷ []

listing-shown :
    values listing ≡
    (1 ∷ [])
    ∷ (1 ∷ [])
    ∷ (2 ∷ 1 ∷ [])
    ∷ (1 ∷ [])
    -- steps 6 to 13 by kind, sender, receiver and answer; then nothing is in flight
    ∷ (1 ∷ 1 ∷ 3 ∷ 1 ∷ [])
    ∷ (1 ∷ 2 ∷ 3 ∷ 1 ∷ [])
    ∷ (1 ∷ 3 ∷ 1 ∷ 1 ∷ [])
    ∷ (2 ∷ 3 ∷ 1 ∷ 1 ∷ [])
    ∷ (3 ∷ 1 ∷ 3 ∷ 3 ∷ 1 ∷ 650 ∷ [])
    ∷ (1 ∷ 3 ∷ 2 ∷ 1 ∷ [])
    ∷ (2 ∷ 3 ∷ 2 ∷ 1 ∷ [])
    ∷ (3 ∷ 2 ∷ 3 ∷ 1 ∷ [])
    ∷ []
    -- step 14
    ∷ (4 ∷ 8 ∷ [])
    ∷ []
unfolding opened listing
listing-shown = values-spared listing

-- no step is refused, and "Ten deliveries in all: 1·3·2 + 2·1·2" are the most that there can be
schedule : List Step
schedule = write 650 ∷ WRITE1 1 2 ∷ WRITE1 2 1 ∷ read 3 ∷ drain ∷ []

ten-in-all :
    totals 3 (entries (fresh_network 3 1 1 700) schedule) ≡
    (0 ∷ 0 ∷ 0 ∷ 0 ∷ 0 ∷ []) ∷ (0 ∷ 1 ∷ 1 ∷ 0 ∷ 8 ∷ []) ∷ (10 ∷ 10 ∷ []) ∷ []
unfolding opened schedule
ten-in-all = ap (totals 3) (entries-spared _ (start-holds 3 1 1 700 refl) schedule)
