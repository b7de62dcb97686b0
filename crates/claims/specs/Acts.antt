-- What an accepted step of a network does, step by step; a drain in the words of the other calls; and the numbers that each step meets.
-- Assumes nothing.
use Rattle.std.specs.Prelude.{ℕ, ◌+◌, ◌-◌, Ok, Err, Some, None}
use mathlib.Core.{List.{List, [], ◌∷◌}, Path.◌≡◌}
use Rattle.basics.specs.declared.refused.Refusal.{Refusal}
use Rattle.refusals.specs.Refusals.{Event}
use Rattle.panel.specs.{Calls.after, declared.Next.Next}
use Rattle.promise.specs.View.{code_of}
use Rattle.channels.specs.Posting.{posted_all}
use Rattle.house.specs.{Places.{panel_at, row_at, writer_of, with_panel, with_row, with_down}, Search.first_in, declared.InFlight.InFlight, declared.Network.Network}
use Rattle.steps.specs.{Drain.{drained_to, refused_as, counted, drained}, Moves.{arriving, Deliveries}, Search.sought, Steps.{written, begun, delivered, lost}}
use Rattle.steps.specs.declared.Stepped.{Stepped}
use Rattle.runs.specs.Runs.{Step, Step.{write, read, deliver, lose, drain}}
use Rattle.claims.specs.Tried.{without}

-- ---- an accepted step

-- the panel at place i runs the event, and what it sends goes into its channels
abbrev pub acted : Network → ℕ → Event → Stepped
acted s i e =
    let q : Next = after (panel_at s i) e in
    record { network = with_row (with_panel s i q.panel) i (posted_all (row_at s i) q.sends).row; answer = q.answer }

-- a drain that is not refused: it made as many deliveries as it counts, and nothing is left in flight to a live panel
pub record Emptied (s : Network) : Type 0 where
  pub deliveries : Deliveries (counted (drained s).answer) s (drained s).network
  pub still : first_in (drained s).network ≡ None

unfoldable pub Acts : Network → Step → Type 0
Acts s (write v) = written s v ≡ acted s (writer_of s - 1) (Event.write v)
Acts s (read i) = begun s i ≡ acted s (i - 1) Event.read
-- "A delivery takes one message out of the channel and runs the event"
Acts s (deliver k i j) = delivered s k i j ≡ acted (without s k i j) (j - 1) (arriving s k i j)
Acts s (lose i) = lost s i ≡ record { network = with_down s (i - 1); answer = Ok None }
Acts s drain = Emptied s

-- ---- a drain in the words of the calls: search, delivery, and the drain of what that comes to

-- the delivery of what the search finds
abbrev pub next : Network → InFlight → Stepped
next s x = delivered s x.kind x.sender x.receiver

pub record ByDeliveries (s : Network) : Type 0 where
  -- nothing is found: it ends
  pub ends : sought s ≡ Ok None → drained s ≡ drained_to s 0
  -- the delivery is refused, or the drain after it: "the whole drain is refused with that number"
  pub refused : (x : InFlight) → sought s ≡ Ok (Some x) → (r : Refusal) → (next s x).answer ≡ Err r → drained s ≡ refused_as s r
  pub refused_later :
      (x : InFlight) → sought s ≡ Ok (Some x) → (r : Refusal) → code_of (next s x).answer ≡ 0 → (drained (next s x).network).answer ≡ Err r →
      drained s ≡ refused_as s r
  -- neither: one delivery more
  pub going_on :
      (x : InFlight) → sought s ≡ Ok (Some x) → (m : ℕ) → code_of (next s x).answer ≡ 0 → (drained (next s x).network).answer ≡ Ok m →
      drained s ≡ drained_to (drained (next s x).network).network (m + 1)

-- ---- the numbers that a step of a network in form meets, 0 for none

unfoldable pub numbers : Step → List ℕ
numbers (write v) = 0 ∷ 5 ∷ 7 ∷ 8 ∷ 14 ∷ []
numbers (read i) = 0 ∷ 4 ∷ 5 ∷ 7 ∷ 8 ∷ 14 ∷ []
numbers (deliver k i j) = 0 ∷ 4 ∷ 5 ∷ 9 ∷ 11 ∷ 12 ∷ 13 ∷ 14 ∷ []
numbers (lose i) = 0 ∷ 4 ∷ 5 ∷ 10 ∷ []
numbers drain = 0 ∷ 11 ∷ 12 ∷ 13 ∷ 14 ∷ []
