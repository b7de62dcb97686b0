-- "The program `bench` takes a schedule on standard input, at most 65,536 bytes; a longer one gives the single line `too long`.
-- The first line is exactly `step kind a b answer result`. .. Then one line a record .. Step numbers count the lines after the first."
-- Assumes nothing.
use Rattle.std.specs.Prelude.{ℕ, suc, ◌+◌, ◌*◌, List, [], ◌∷◌, ◌++◌, Result, Ok, Err}
use lib.{Dec.ltb, ListN.length, Seq.sets}
use Rattle.basics.specs.Choice.{ite}
use Rattle.text.specs.{Text.{first_line, too_long, line_text}, declared.Line.Line}
use Rattle.listing.specs.{Entries.all, Reads.reads_of}
use Rattle.basics.specs.declared.refused.Refusal.{Refusal, TheVariants.{AreaTooShort}}

abbrev pub numbered_as : ℕ → Line → Line
numbered_as k l =
    record { step = k; kind = l.kind; panels = l.panels; answer = l.answer; result = l.result }

-- the lines' text, numbered from k on
unfoldable pub text_from : ℕ → List Line → List ℕ
text_from k [] = []
text_from k (l ∷ ls) = line_text (numbered_as k l) ++ text_from (suc k) ls

-- the first line, and then the records'
unfoldable pub whole_text : List ℕ → List ℕ
whole_text bytes = first_line ++ text_from 1 (all (reads_of bytes))

unfoldable pub listing_of : List ℕ → List ℕ
listing_of bytes = ite (ltb 65536 (length bytes)) too_long (whole_text bytes)

-- an area of this length holds every listing: the first line has 28 bytes, and each of 65,536 records and 16,800 deliveries at most 34
abbrev pub longest : ℕ
longest = 28 + 34 * (65536 + 16800)

-- what the call leaves: its answer, and the area
pub record Outcome : Type 0 where
  pub answer : Result ℕ Refusal
  pub area : List ℕ

-- 3: "byte area shorter than" the longest listing; nothing is written then
unfoldable pub listing : List ℕ → List ℕ → Outcome
listing bytes area =
    ite (ltb (length area) longest)
    (record { answer = Err AreaTooShort; area = area })
    (record { answer = Ok (length (listing_of bytes)); area = sets area 0 (listing_of bytes) })
