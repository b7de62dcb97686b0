-- What the steps of a network are in the words of the promise: what an acting panel sends, what comes to it with a message, what every
-- step leaves as it was, and deliveries one after another.
-- Assumes nothing.
use Rattle.std.specs.Prelude.{ℕ, suc, ◌-◌, ◌%◌, ◌<◌, ◌≡◌}
use Rattle.refusals.specs.Refusals.{Event, Event.{write, read}}
use Rattle.panel.specs.Calls.{after}
use Rattle.protocol.specs.{Promise.{WriteComes, WriteWaits, ReadComes, ProceedComes}, World.{View, Out}}
use Rattle.promise.specs.View.{Waits, code_of, out_of}
use Rattle.channels.specs.Channels.{value_in}
use Rattle.house.specs.{Places.{panel_at, tables_at, channel_of, n_of, t_of, writer_of, initial_of}, declared.Network.Network}
use Rattle.steps.specs.Steps.{comes, deliver_in}

-- ---- one step

-- the event of a message of kind k from panel i to panel j
abbrev pub arriving : Network → ℕ → ℕ → ℕ → Event
arriving s k i j = comes k i (value_in (channel_of s (i - 1) (j - 1)) k)

-- what the acting panel sends
abbrev pub write_out : Network → ℕ → Out
write_out s v = out_of (after (panel_at s (writer_of s - 1)) (write v)).sends

abbrev pub read_out : Network → ℕ → Out
read_out s i = out_of (after (panel_at s (i - 1)) read).sends

abbrev pub deliver_out : Network → ℕ → ℕ → ℕ → Out
deliver_out s k i j = out_of (after (panel_at s (j - 1)) (arriving s k i j)).sends

-- a message of kind k from place q comes to the panel at place p of n: a is the panel before and b after, out what it sends
pub data Came (n p q k : ℕ) (a : View) (out : Out) (b : View) : Type 0 where
  -- WRITE of the right bit
  write_comes : k ≡ suc (a.w q) % 2 → WriteComes n p q a out b → Came n p q k a out b
  -- and of the other
  write_waits : k < 2 → k ≡ a.w q % 2 → WriteWaits q a out b → Came n p q k a out b
  read_comes : k ≡ 2 → ReadComes n p q a out b → Came n p q k a out b
  proceed_comes : k ≡ 3 → ProceedComes q a out b → Came n p q k a out b

-- ---- what stays

-- the wait of every open operation is not met
pub record AllWait (s : Network) : Type 0 where
  pub waits : (i : ℕ) → i < n_of s → Waits (tables_at s i)

-- s' is set up as s is
pub record SameSetUp (s s' : Network) : Type 0 where
  pub n : n_of s' ≡ n_of s
  pub t : t_of s' ≡ t_of s
  pub writer : writer_of s' ≡ writer_of s
  pub initial : initial_of s' ≡ initial_of s

-- ---- deliveries one after another

-- m accepted deliveries lead from s to s'
pub data Deliveries : ℕ → Network → Network → Type 0 where
  none : {s : Network} → Deliveries 0 s s
  more : {m : ℕ} {s s' : Network} (k i j : ℕ) → code_of (deliver_in s k i j).answer ≡ 0 → Deliveries m (deliver_in s k i j).network s' → Deliveries (suc m) s s'
