-- Answers and networks in numbers, for claims that compute. Panels go by their numbers; kinds are those of the wire.
-- Assumes nothing.
use Rattle.std.specs.Prelude.{ℕ, zero, suc, ◌+◌, ◌-◌, List, [], ◌∷◌, ◌++◌, map, Option, Result, Ok, Err, Some, None}
use Rattle.basics.specs.{Below.list_below, Choice.{ite, some_or}, Refusal.number_of, declared.refused.Refusal.Refusal}
use Rattle.tables.specs.{Places.{w_at, hold_at, line_at}, declared.Hold.Hold, declared.Line.Line}
use Rattle.form.specs.declared.Operation.{Operation, TheVariants.{Idle, Writing, FirstWait, SecondWait}}
use Rattle.events.specs.{Events.Answer, declared.Finished.TheVariants.{Wrote, Gave}}
use Rattle.channels.specs.{Channels.{in_flight, value_in}, declared.Channel.Channel}
use Rattle.house.specs.{Places.{tables_at, channel_of}, Search.first_in, declared.InFlight.InFlight, declared.Network.Network}
use Rattle.steps.specs.Drain.{next_in}
use Rattle.runs.specs.{Claims.most_deliveries, Runs.{Entry, writes, reads, deliveries}}

-- ---- answers

-- 0 and a refusal's number; 1 for nothing; 2 and the number written; 3, the number and the value read
unfoldable pub answered : Answer → List ℕ
answered (Err r) = 0 ∷ number_of r ∷ []
answered (Ok None) = 1 ∷ []
answered (Ok (Some (Wrote x))) = 2 ∷ x.0 ∷ []
answered (Ok (Some (Gave x v))) = 3 ∷ x.0 ∷ v ∷ []

-- of a drain: 0 and a refusal's number, or 4 and its count
unfoldable pub counted : Result ℕ Refusal → List ℕ
counted (Err r) = 0 ∷ number_of r ∷ []
counted (Ok m) = 4 ∷ m ∷ []

-- ---- in flight

-- xs, m times
unfoldable pub times : ℕ → List ℕ → List ℕ
times zero xs = []
times (suc m) xs = xs ++ times m xs

-- each message of kind k in a channel to panel j: receiver, kind and value
unfoldable pub flying_in : Channel → ℕ → ℕ → List ℕ
flying_in c j k = times (in_flight c k) (j ∷ k ∷ value_in c k ∷ [])

unfoldable pub flying_to : Channel → ℕ → List ℕ
flying_to c j = flying_in c j 0 ++ (flying_in c j 1 ++ (flying_in c j 2 ++ flying_in c j 3))

unfoldable pub flying_below : ℕ → Network → ℕ → List ℕ
flying_below zero s i = []
flying_below (suc j) s i = flying_below j s i ++ flying_to (channel_of s (i - 1) j) (j + 1)

-- all that is in flight from panel i, by receiver and then kind
unfoldable pub flying_from : Network → ℕ → List ℕ
flying_from s i = flying_below 7 s i

-- ---- at a panel

-- at panel i the held WRITE of panel j, by its value
unfoldable pub value_held : Hold → List ℕ
value_held h = ite h.full (h.value ∷ []) []

unfoldable pub held_at : Network → ℕ → ℕ → List ℕ
held_at s i j = value_held (hold_at (tables_at s (i - 1)).held (j - 1))

-- at panel i the waiting READs of panel j, each by its sn
unfoldable pub sns_of : Line → List ℕ
sns_of l = list_below l.len (λ (k : ℕ). w_at l.sn k)

unfoldable pub waiting_at : Network → ℕ → ℕ → List ℕ
waiting_at s i j = sns_of (line_at (tables_at s (i - 1)).lines (j - 1))

-- the operation of panel i: 0 for none; 1 for writing; 2 for the first wait of a read; 3 and its sn for the second
unfoldable pub operation : Operation → List ℕ
operation Idle = 0 ∷ []
operation Writing = 1 ∷ []
operation FirstWait = 2 ∷ []
operation (SecondWait sn) = 3 ∷ sn.0 ∷ []

unfoldable pub doing_at : Network → ℕ → List ℕ
doing_at s i = operation (tables_at s (i - 1)).operation

-- ---- a drain, line by line

-- the message that a drain delivers next, by kind, sender and receiver, and the answer to it
unfoldable pub line_of : Network → Option InFlight → List ℕ
line_of s None = []
line_of s (Some x) = x.kind ∷ x.sender ∷ x.receiver ∷ answered (next_in s x).answer

-- the first m
unfoldable pub drain_lines : ℕ → Network → List (List ℕ)
drain_lines zero s = []
drain_lines (suc m) s = line_of s (first_in s) ∷ drain_lines m (some_or (first_in s) (λ (x : InFlight). (next_in s x).network) s)

-- ---- a whole run of n panels: each step's refusal, 0 for none; each step's deliveries; all deliveries, and the most that there can be

unfoldable pub totals : ℕ → List Entry → List (List ℕ)
totals n xs =
    map (λ (x : Entry). x.refusal) xs
    ∷ map (λ (x : Entry). x.deliveries) xs
    ∷ (deliveries xs ∷ most_deliveries n (writes xs) (reads xs) ∷ [])
    ∷ []
