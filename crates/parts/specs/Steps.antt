-- A network's parts, taken out and put back, and its steps by what they are.
-- Assumes nothing.
use Rattle.std.specs.Prelude.{ℕ, set, Ok, None}
use Rattle.house.specs.{Places.{panel_at, row_at, n_of, t_of, writer_of}, declared.Network.Network}
use Rattle.steps.specs.{Steps.{write_in, read_in, deliver_in, lose_in}, declared.Stepped.Stepped}
use Rattle.parts.specs.{Acting.{actor_of, sender_of, moved}, declared.Moved.Moved, declared.Parts.Parts, declared.Step.Step, declared.Step.TheVariants.{Write, Read, Deliver, Lose, Rest}}

-- the parts of s for a step from place i at place j
abbrev pub parts_at : Network → ℕ → ℕ → Parts
parts_at s i j =
    record { n = n_of s; t = t_of s; writer = writer_of s; down = s.down; panel = panel_at s j; from = row_at s i; own = row_at s j }

abbrev pub put_back : Network → ℕ → ℕ → Parts → Network
put_back s i j x = record { panels = set s.panels j x.panel; rows = set (set s.rows i x.from) j x.own; down = x.down }

-- what a step on the parts at places i and j comes to, put back
abbrev pub back : Network → ℕ → ℕ → Moved → Stepped
back s i j a = record { network = put_back s i j a.parts; answer = a.answer }

-- the parts of s for step m, moved
abbrev pub moved_in : Network → Step → Moved
moved_in s m = moved (parts_at s (sender_of m (writer_of s)) (actor_of m (writer_of s))) m

abbrev pub put_back_for : Network → Step → Parts → Network
put_back_for s m x = put_back s (sender_of m (writer_of s)) (actor_of m (writer_of s)) x

-- step m of s by its parts
abbrev pub by_parts : Network → Step → Stepped
by_parts s m = back s (sender_of m (writer_of s)) (actor_of m (writer_of s)) (moved_in s m)

-- the step of a network in form
unfoldable pub step_in : Network → Step → Stepped
step_in s (Write v) = write_in s v
step_in s (Read i) = read_in s i
step_in s (Deliver k i j) = deliver_in s k i j
step_in s (Lose i) = lose_in s i
step_in s (Rest i) = record { network = s; answer = Ok None }
