-- The bench's turns, apart from its network: what stands next, which step that is and what line it then gives. The network is changed
-- by the step alone. That the turns are the bench's (specs/Machine) is shown in proofs/Turned.
-- Assumes nothing.
use Rattle.std.specs.Prelude.{ℕ, ◌+◌, ◌-◌, List, length, ltb, eqb, Option, Result, Ok, Err, Some, None}
use Rattle.basics.specs.Choice.{ite, some_or}
use Rattle.schedule.specs.{Records.reading, declared.Record.Record, declared.Taken.Taken, declared.Unread.Unread}
use Rattle.text.specs.declared.Line.{Line}
use Rattle.events.specs.Events.{Answer}
use Rattle.house.specs.declared.{InFlight.InFlight, Network.Network}
use Rattle.parts.specs.declared.Step.{Step, TheVariants.{Write, Read, Deliver, Lose, Rest}}
use Rattle.listing.specs.{Entries.{misplaced, unread, told, delivery_of, drain_entry}, Machine.Bench}
use Rattle.listing.specs.declared.{Ahead.Ahead, Stand.Stand, Turn.Turn}
use Rattle.listing.specs.declared.Ahead.TheVariants as ahead

abbrev pub bench_at : Network → Stand → Bench
bench_at s b = record { network = s; line = b.line; ahead = b.ahead }

-- how many deliveries a drain has listed so far
abbrev pub count_of : Ahead → ℕ
count_of ahead.Ended = 0
count_of (ahead.Record at) = 0
count_of (ahead.Drain at count) = count

-- ---- turns

-- no step, and the line is known, if there is one
abbrev pub quiet : Option Line → Ahead → Turn
quiet l a = record { step = Rest 0; tells = None; stand = record { line = l; ahead = a } }

-- a step, and the line tells its answer to a record
abbrev pub steps : Step → Record → Ahead → Turn
steps m r a = record { step = m; tells = Some r; stand = record { line = None; ahead = a } }

-- the step of a record other than set-up and drain
unfoldable pub step_of : Record → Step
step_of r =
    ite (eqb r.kind 1) (Write r.value)
    (ite (eqb r.kind 2) (Read r.a)
    (ite (eqb r.kind 7) (Lose r.a)
    (Deliver (r.kind - 3) r.a r.b)))

-- in a drain that has found o
unfoldable pub drain_turn : Option InFlight → ℕ → ℕ → Turn
drain_turn o at count =
    some_or o
    (λ (x : InFlight). steps (Deliver x.kind x.sender x.receiver) (delivery_of x) (ahead.Drain at (count + 1)))
    (quiet (Some (drain_entry count)) (ahead.Record at))

unfoldable pub taken_turn : Option InFlight → Record → ℕ → Turn
taken_turn o r at =
    ite (eqb r.kind 0) (quiet (Some (misplaced r)) (ahead.Record at))
    (ite (eqb r.kind 8) (drain_turn o at 0) (steps (step_of r) r (ahead.Record at)))

unfoldable pub record_turn : Option InFlight → Result Taken Unread → ℕ → Turn
record_turn o (Ok t) at = taken_turn o t.«record» (at + t.used)
record_turn o (Err u) at = quiet (Some (unread u)) ahead.Ended

unfoldable pub next_turn : List ℕ → Option InFlight → Ahead → Turn
next_turn bytes o ahead.Ended = quiet None ahead.Ended
next_turn bytes o (ahead.Record at) = ite (ltb at (length bytes)) (record_turn o (reading bytes at) at) (quiet None ahead.Ended)
next_turn bytes o (ahead.Drain at count) = drain_turn o at count

-- where the bench then stands, once the step is answered
unfoldable pub after_turn : Turn → Answer → Stand
after_turn t a = some_or t.tells (λ (r : Record). record { line = Some (told r a); ahead = t.stand.ahead }) t.stand
