-- The numbers below a bound: a test of all of them, how many pass one, and a list with an entry for each. Each goes by its
-- last number, as a loop does that counts up.
-- Assumes nothing.
use Rattle.std.specs.Prelude.{ℕ, zero, suc, ◌+◌}
use mathlib.Core.{Bool.{Bool, true, false}, List.{List, [], ◌∷◌, ◌++◌}}
use Rattle.basics.specs.Choice.{both}

unfoldable pub one_if : Bool → ℕ
one_if true = 1
one_if false = 0

-- f holds at each number below n
unfoldable pub all_below : ℕ → (ℕ → Bool) → Bool
all_below zero f = true
all_below (suc n) f = both (all_below n f) (f n)

-- at how many numbers below n f holds
unfoldable pub count_below : ℕ → (ℕ → Bool) → ℕ
count_below zero f = 0
count_below (suc n) f = count_below n f + one_if (f n)

-- f 0, f 1, up to f (n - 1)
unfoldable pub list_below {ℓ} : {A : Type ℓ} → ℕ → (ℕ → A) → List A
list_below zero f = []
list_below (suc n) f = list_below n f ++ (f n ∷ [])
