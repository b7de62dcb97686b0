-- The invariant of every run from fresh. It says nothing of power.
-- Assumes nothing.
use Rattle.std.specs.Prelude.{ℕ, suc, ◌+◌, ◌-◌, ◌%◌, ◌≤◌, ◌<◌, min}
use mathlib.Core.{Logic.◌≢◌, Path.◌≡◌}
use Rattle.protocol.specs.World.{World, W, R, due}

-- One ordered pair of panels: m WRITEs were ever sent and k were taken; near and far are how many of number k + 1 and k + 2 are
-- in flight; held says whether number k + 2 is held, and hand whether number k + 1 is being taken.
pub record Pair (m k near far held hand : ℕ) : Type 0 where
  pub low : k ≤ m
  pub one : near + hand ≡ min 1 (m - k)
  pub two : far + held ≡ m - k - 1

-- the WRITEs from i to j, with `hand` of them being taken
abbrev pub PairOf : World → (ℕ → ℕ → ℕ) → ℕ → ℕ → Type 0
PairOf s hand i j =
    Pair (due i (s.panel i).w j) (W s j i) (s.flying i j (suc (W s j i) % 2)) (s.flying i j (W s j i % 2)) ((s.panel j).held i) (hand i j)

-- nothing is being taken: so it is between two steps
abbrev pub none : ℕ → ℕ → ℕ
none i j = 0

pub record Inv (n writer : ℕ) (hand : ℕ → ℕ → ℕ) (s : World) : Type 0 where
  -- Lemma 3 of the report: a panel's own number is the greatest that it knows
  pub own : (i j : ℕ) → i < n → j < n → W s i j ≤ W s i i
  -- nobody is further than the writer
  pub top : (i : ℕ) → i < n → W s i i ≤ W s writer writer
  -- Lemmas 2 and 5 and the properties P1 and P2: what was sent is taken, in flight or held, each once
  pub pair : (i j : ℕ) → i < n → j < n → i ≢ j → PairOf s hand i j
  -- each read of i is on its way to j, waits at j, is on its way back, or was answered
  pub reads : (i j : ℕ) → i < n → j < n → i ≢ j → R s i i ≡ s.flying i j 2 + (s.panel j).waiting i + s.flying j i 3 + R s i j
