-- "Records are read one after the other from the lent schedule, the reader keeping its place."
-- Assumes nothing.
use Rattle.std.specs.Prelude.{ℕ, List}
use Rattle.schedule.specs.{Records.reading, declared.{Taken.Taken, Unread.Unread}}
use Rattle.reader.specs.declared.{Reader.Reader, Step.Step}
use Rattle.reader.specs.Reading as readings

abbrev pub used : Taken → ℕ
used t = t.used

-- what stands at a place, and the place behind it; a refusal uses no byte
abbrev pub stepped : List ℕ → ℕ → Step Taken Unread
stepped = readings.stepped reading used

-- what is read, and the reader afterwards
abbrev pub next : Reader → readings.Next Taken Unread
next = readings.next reading used
