-- The lines of one record, without their step numbers: "its step number, kind, the one or two panel numbers of kinds 2 to 7 (`-`
-- where there is none), 0 or the refusal number, and `w` with a finished write's number, `r` with a value read, `d` with a drain's
-- count, or `-`".
-- Assumes nothing.
use Rattle.std.specs.Prelude.{ℕ, zero, suc, ◌+◌, ◌-◌, List, [], ◌∷◌, ◌++◌, leb, eqb, Option, Result, Ok, Err, Some, None}
use Rattle.basics.specs.{Choice.{ite, both, some_or}, Refusal.number_of}
use Rattle.basics.specs.declared.refused.Refusal.{Refusal, TheVariants.{SetUpMisplaced}}
use Rattle.schedule.specs.declared.{Record.Record, Taken.Taken, Unread.Unread}
use Rattle.text.specs.declared.{Line.Line, Noted.Noted, Panels.{Panels, TheVariants.{Neither, One, Two}}}
use Rattle.events.specs.{Events.Answer, declared.Finished.TheVariants.{Wrote, Gave}}
use Rattle.promise.specs.View.{code_of}
use Rattle.house.specs.{Search.first_in, declared.InFlight.InFlight, declared.Network.Network}
use Rattle.steps.specs.{Drain.drained, SetUp.set_up, Steps.{written, begun, delivered, lost}, declared.Stepped.Stepped}

-- the panel numbers that a record's line shows
unfoldable pub panels_of : Record → Panels
panels_of r =
    ite (both (leb 3 r.kind) (leb r.kind 6)) (Two r.a r.b) (ite (eqb r.kind 2) (One r.a) (ite (eqb r.kind 7) (One r.a) Neither))

-- a letter and its number
abbrev pub noted_as : ℕ → ℕ → Option Noted
noted_as letter n = Some (record { letter = letter; number = n })

-- of what finished: `w` and a write's number, `r` and a read's value
unfoldable pub noted : Answer → Option Noted
noted (Err r) = None
noted (Ok None) = None
noted (Ok (Some (Wrote x))) = noted_as 119 x.0
noted (Ok (Some (Gave x v))) = noted_as 114 v

-- a record's line with this answer, and what is noted
unfoldable pub entry : Record → ℕ → Option Noted → Line
entry r answer result = record { step = 0; kind = r.kind; panels = panels_of r; answer = answer; result = result }

-- 17: "first record isn't a set-up, or a later one is"
abbrev pub misplaced : Record → Line
misplaced r = entry r (number_of SetUpMisplaced) None

-- "15 and 16 show `-` for panels"
unfoldable pub unread : Unread → Line
unread u = record { step = 0; kind = u.kind; panels = Neither; answer = number_of u.refusal; result = None }

unfoldable pub told : Record → Answer → Line
told r a = entry r (code_of a) (noted a)

-- ---- a drain

-- a delivery as a record: kinds 3 to 6
unfoldable pub delivery_of : InFlight → Record
delivery_of x = record { kind = x.kind + 3; a = x.sender; b = x.receiver; c = 0; value = 0 }

-- the delivery that a drain makes of what it has found
unfoldable pub next_step : Network → InFlight → Stepped
next_step s x = delivered s x.kind x.sender x.receiver

-- "A drain prints a line for each delivery": at most f of them
unfoldable pub deliveries_by : ℕ → Network → List Line
deliveries_by zero s = []
deliveries_by (suc f) s =
    some_or (first_in s) (λ (x : InFlight). told (delivery_of x) (next_step s x).answer ∷ deliveries_by f (next_step s x).network) []

-- a drain has no body
abbrev pub drain : Record
drain = record { kind = 8; a = 0; b = 0; c = 0; value = 0 }

-- its own line: `d` and its count
abbrev pub drain_entry : ℕ → Line
drain_entry m = entry drain 0 (noted_as 100 m)

-- ".. then its own. A refused drain prints only its own line."
unfoldable pub drain_entries_as : Result ℕ Refusal → Network → List Line
drain_entries_as (Ok m) s = deliveries_by m s ++ (drain_entry m ∷ [])
drain_entries_as (Err r) s = entry drain (number_of r) None ∷ []

abbrev pub drain_entries : Network → List Line
drain_entries s = drain_entries_as (drained s).answer s

-- ---- a record after the set-up

-- what a record other than set-up and drain comes to
unfoldable pub stepped : Network → Record → Stepped
stepped s r =
    ite (eqb r.kind 1) (written s r.value)
    (ite (eqb r.kind 2) (begun s r.a)
    (ite (eqb r.kind 7) (lost s r.a) (delivered s (r.kind - 3) r.a r.b)))

unfoldable pub entries : Network → Record → List Line
entries s r = ite (eqb r.kind 0) (misplaced r ∷ []) (ite (eqb r.kind 8) (drain_entries s) (told r (stepped s r).answer ∷ []))

unfoldable pub next : Network → Record → Network
next s r = ite (eqb r.kind 0) s (ite (eqb r.kind 8) (drained s).network (stepped s r).network)

-- ---- all records

unfoldable pub later : Network → List (Result Taken Unread) → List Line
later s [] = []
later s (Ok t ∷ qs) = entries s t.«record» ++ later (next s t.«record») qs
later s (Err u ∷ qs) = unread u ∷ []

-- "Answers 1, 15 and 16 end the listing, and so does 17 on the first record"
unfoldable pub first_set_up : Result Network Refusal → Record → List (Result Taken Unread) → List Line
first_set_up (Ok s) r qs = entry r 0 None ∷ later s qs
first_set_up (Err x) r qs = entry r (number_of x) None ∷ []

unfoldable pub first : Record → List (Result Taken Unread) → List Line
first r qs = ite (eqb r.kind 0) (first_set_up (set_up r.a r.b r.c r.value) r qs) (misplaced r ∷ [])

unfoldable pub all : List (Result Taken Unread) → List Line
all [] = []
all (Ok t ∷ qs) = first t.«record» qs
all (Err u ∷ qs) = unread u ∷ []
