-- Messages on the wire, read one after the other from lent bytes: "Reading takes one message from the front and says how many
-- bytes it used."
-- Assumes nothing.
use Rattle.std.specs.Prelude.{ℕ, List, drop, Result}
use Rattle.basics.specs.declared.refused.Refusal.{Refusal}
use Rattle.wire.specs.{Messages.reading, declared.Taken.Taken}
use Rattle.reader.specs.declared.{Reader.Reader, Step.Step}
use Rattle.reader.specs.Reading as readings

-- the message at the front of the bytes from a place on
abbrev pub reading_at : List ℕ → ℕ → Result Taken Refusal
reading_at s at = reading (drop at s)

abbrev pub used : Taken → ℕ
used t = t.used

-- what stands at a place, and the place behind it; a refusal uses no byte
abbrev pub stepped : List ℕ → ℕ → Step Taken Refusal
stepped = readings.stepped reading_at used

-- what is read, and the reader afterwards
abbrev pub next : Reader → readings.Next Taken Refusal
next = readings.next reading_at used
