-- What else is told of a panel by numbers: what stays as it was set up, what form says, and to whom messages go.
-- Assumes nothing.
use Rattle.std.specs.Prelude.{ℕ, ◌+◌, ◌≤◌, ◌<◌}
use mathlib.Core.{List.{List, [], ◌∷◌}, Logic.◌≢◌, Path.◌≡◌}
use Rattle.messages.specs.Sends.{Message}
use Rattle.form.specs.declared.Tables.{Tables}
use Rattle.events.specs.Rules.{value_of}
use Rattle.protocol.specs.World.{View}

-- q is set up as p is
pub record SameSetting (p q : Tables) : Type 0 where
  pub n : q.n ≡ p.n
  pub t : q.t ≡ p.t
  pub writer : q.writer ≡ p.writer
  pub number : q.number ≡ p.number
  pub initial : value_of q 0 ≡ value_of p 0

-- a panel in form, of n, with its own place i
pub record Formed (n i : ℕ) (a : View) : Type 0 where
  pub few : n ≤ 7
  pub own : i < n
  pub w_below : (l : ℕ) → a.w l ≤ a.w i
  pub w_top : a.w i ≤ 200
  pub r_below : (l : ℕ) → a.r l ≤ a.r i
  pub r_top : a.r i ≤ 100
  pub held_top : (l : ℕ) → a.held l ≤ 1
  pub held_next : (l : ℕ) → a.held l ≡ 1 → a.w l + 2 ≤ 200
  pub waiting_top : (l : ℕ) → a.waiting l ≤ 100
  -- nobody waits that knows as much
  pub waiting_behind : (l : ℕ) → a.w l ≡ a.w i → a.waiting l ≡ 0
  pub held_own : a.held i ≡ 0
  pub waiting_own : a.waiting i ≡ 0
  pub w_past : (l : ℕ) → n ≤ l → a.w l ≡ 0
  pub r_past : (l : ℕ) → n ≤ l → a.r l ≡ 0
  pub held_past : (l : ℕ) → n ≤ l → a.held l ≡ 0
  pub waiting_past : (l : ℕ) → n ≤ l → a.waiting l ≡ 0

-- a panel at first
pub record AllZero (a : View) : Type 0 where
  pub w : (l : ℕ) → a.w l ≡ 0
  pub r : (l : ℕ) → a.r l ≡ 0
  pub held : (l : ℕ) → a.held l ≡ 0
  pub waiting : (l : ℕ) → a.waiting l ≡ 0

-- a message to another of the n panels, from the panel of that number
pub record ToPeer (n number : ℕ) (m : Message) : Type 0 where
  pub low : 1 ≤ m.to
  pub high : m.to ≤ n
  pub other : m.to ≢ number
  pub kind : m.kind ≤ 3

-- each of the messages goes to another of the n panels
pub data AllTo (n number : ℕ) : List Message → Type 0 where
  none : AllTo n number []
  more : {m : Message} {ms : List Message} → ToPeer n number m → AllTo n number ms → AllTo n number (m ∷ ms)
