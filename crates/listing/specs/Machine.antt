-- The bench gives one line at a time: that of the next record, or, while it drains, that of the next delivery and at last the drain's
-- own. What it gives one after the other is the listing's lines (proofs/Giving).
-- Assumes nothing.
use Rattle.std.specs.Prelude.{ℕ, ◌+◌, List, length, ltb, eqb, Option, Result, Ok, Err, Some, None}
use Rattle.basics.specs.{Choice.{ite, some_or}, Refusal.number_of, declared.refused.Refusal.Refusal}
use Rattle.schedule.specs.{Records.reading, declared.Record.Record, declared.Taken.Taken, declared.Unread.Unread}
use Rattle.text.specs.declared.Line.{Line}
use Rattle.house.specs.declared.{InFlight.InFlight, Network.Network}
use Rattle.steps.specs.{Search.sought, SetUp.{no_network, set_up}}
use Rattle.listing.specs.Entries.{entry, misplaced, unread, told, delivery_of, next_step, drain_entry, stepped}
use Rattle.listing.specs.declared.Ahead.{Ahead}
use Rattle.listing.specs.declared.Ahead.TheVariants as ahead

-- the bench has given a line, if there was one, and reads on ahead
pub record Bench : Type 0 where
  pub network : Network
  pub line : Option Line
  pub ahead : Ahead

-- no line any more
abbrev pub silent : Network → Bench
silent s = record { network = s; line = None; ahead = ahead.Ended }

-- a last line
abbrev pub stops : Network → Line → Bench
stops s l = record { network = s; line = Some l; ahead = ahead.Ended }

-- a line, and then the record at place at
abbrev pub goes_on : Network → Line → ℕ → Bench
goes_on s l at = record { network = s; line = Some l; ahead = ahead.Record at }

-- a line in a drain: so many deliveries so far
abbrev pub drains : Network → Line → ℕ → ℕ → Bench
drains s l at count = record { network = s; line = Some l; ahead = ahead.Drain at count }

-- ---- a drain

-- what a search that is not refused has found
abbrev pub found_in : Result (Option InFlight) Refusal → Option InFlight
found_in (Ok o) = o
found_in (Err r) = None

-- the line of a drain that has found o
unfoldable pub drain_step : Network → Option InFlight → ℕ → ℕ → Bench
drain_step s o at count =
    some_or o
    (λ (x : InFlight). drains (next_step s x).network (told (delivery_of x) (next_step s x).answer) at (count + 1))
    (goes_on s (drain_entry count) at)

unfoldable pub drain_line : Network → ℕ → ℕ → Bench
drain_line s at count = drain_step s (found_in (sought s)) at count

-- ---- the next line

-- of a record after the set-up, and for a drain its first line; the next record stands at place at
unfoldable pub taken_line : Network → Record → ℕ → Bench
taken_line s r at =
    ite (eqb r.kind 0) (goes_on s (misplaced r) at)
    (ite (eqb r.kind 8) (drain_line s at 0) (goes_on (stepped s r).network (told r (stepped s r).answer) at))

-- of what was read at place at
unfoldable pub record_line : Network → Result Taken Unread → ℕ → Bench
record_line s (Ok t) at = taken_line s t.«record» (at + t.used)
record_line s (Err u) at = stops s (unread u)

unfoldable pub line_ahead : List ℕ → Network → Ahead → Bench
line_ahead bytes s ahead.Ended = silent s
line_ahead bytes s (ahead.Record at) = ite (ltb at (length bytes)) (record_line s (reading bytes at) at) (silent s)
line_ahead bytes s (ahead.Drain at count) = drain_line s at count

abbrev pub next_line : List ℕ → Bench → Bench
next_line bytes b = line_ahead bytes b.network b.ahead

-- ---- the line of the first record, and what its set-up makes

unfoldable pub first_made : Taken → Result Network Refusal → Bench
first_made t (Ok s) = goes_on s (entry t.«record» 0 None) t.used
first_made t (Err r) = stops no_network (entry t.«record» (number_of r) None)

unfoldable pub first_record : Result Taken Unread → Bench
first_record (Ok t) =
    ite (eqb t.«record».kind 0)
    (first_made t (set_up t.«record».a t.«record».b t.«record».c t.«record».value))
    (stops no_network (misplaced t.«record»))
first_record (Err u) = stops no_network (unread u)

unfoldable pub opened : List ℕ → Bench
opened bytes = ite (ltb 0 (length bytes)) (first_record (reading bytes 0)) (silent no_network)
