-- What a panel's call comes to for a caller in another language: the count, the message area, and bytes with the next panel
-- and, behind it, the answer: its case, its number, its value.
-- Assumes nothing.
use Rattle.std.specs.Prelude.{ℕ, List, ◌∷◌, ◌++◌, Ok, Err, Some, None}
use lib.Seq.{sets}
use Rattle.basics.specs.Refusal.{number_of}
use Rattle.codec.specs.Numbers.{bytes_of}
use Rattle.messages.specs.Area.{Area}
use Rattle.events.specs.{Events.Answer, declared.Finished.TheVariants.{Wrote, Gave}}
use Rattle.panel.specs.{Calls.Called, declared.Outcome.Outcome}
use Rattle.carried.specs.Panels.{panel_bytes}

-- 0 refused, 1 nothing, 2 the number of a finished write, 3 the number and the value read
unfoldable pub answer_bytes : Answer → List ℕ
answer_bytes (Err r) = 0 ∷ number_of r ∷ bytes_of 4 0
answer_bytes (Ok None) = 1 ∷ 0 ∷ bytes_of 4 0
answer_bytes (Ok (Some (Wrote x))) = 2 ∷ x.0 ∷ bytes_of 4 0
answer_bytes (Ok (Some (Gave x v))) = 3 ∷ x.0 ∷ bytes_of 4 v

unfoldable pub outcome_bytes : Outcome → List ℕ
outcome_bytes o = panel_bytes o.panel.tables ++ answer_bytes o.answer

pub record Reported : Type 0 where
  pub count : ℕ
  pub area : Area
  pub out : List ℕ

unfoldable pub reported : List ℕ → Called → Reported
reported l c = record { count = c.outcome.count; area = c.area; out = sets l 0 (outcome_bytes c.outcome) }
