-- Which of the n panels pass a test, and whether they are enough: "at least n−t panels".
-- Assumes nothing.
use Rattle.std.specs.Prelude.{ℕ, ◌+◌, ◌-◌}
use mathlib.Core.{Bool.{Bool, not}, List.List}
use Rattle.std.specs.Prelude.{leb, ltb, eqb}
use Rattle.basics.specs.{Below.{count_below, list_below}, Choice.both}
use Rattle.tables.specs.{Places.{w_at, r_at}, declared.ReadNo.ReadNo, declared.WriteNo.WriteNo}

-- the tests of Figure 1: w[j] = x (lines 2, 3, 15), w[j] ≥ x (line 9), r[j] = y (line 7), at place j
unfoldable pub has_w : List WriteNo → ℕ → ℕ → Bool
has_w ws x j = eqb (w_at ws j) x

unfoldable pub reaches_w : List WriteNo → ℕ → ℕ → Bool
reaches_w ws x j = leb x (w_at ws j)

unfoldable pub has_r : List ReadNo → ℕ → ℕ → Bool
has_r rs y j = eqb (r_at rs j) y

-- each panel but me: "each j but i" (line 6), at place j
unfoldable pub is_other : ℕ → ℕ → Bool
is_other me j = not (eqb (j + 1) me)

-- place j is one of the n panels, and passes f
unfoldable pub among : ℕ → (ℕ → Bool) → ℕ → Bool
among n f j = both (ltb j n) (f j)

-- the panels that pass f, as marks at the seven places
unfoldable pub marks : ℕ → (ℕ → Bool) → List Bool
marks n f = list_below 7 (among n f)

-- a mark at place k alone, none where k is past the seven
unfoldable pub only_place : ℕ → List Bool
only_place k = list_below 7 (λ (j : ℕ). eqb j k)

-- at least n−t of the n panels pass f (lines 3, 7 and 9)
unfoldable pub enough : ℕ → ℕ → (ℕ → Bool) → Bool
enough n t f = leb (n - t) (count_below 7 (among n f))
