-- Sums over places: how many deliveries were made, and a number that falls at each delivery.
-- Assumes nothing.
use Rattle.std.specs.Prelude.{ℕ, zero, suc, ◌+◌, ◌-◌, ◌*◌, eqb}
use Rattle.basics.specs.Choice.{ite}
use Rattle.protocol.specs.World.{View, World, Out, W, R}

-- f 0 + f 1 + .. + f (n - 1)
unfoldable pub sum_below : ℕ → (ℕ → ℕ) → ℕ
sum_below zero f = 0
sum_below (suc n) f = sum_below n f + f n

-- the sum over all ordered pairs of two different places below n
unfoldable pub sum_pairs : ℕ → (ℕ → ℕ → ℕ) → ℕ
sum_pairs n f = sum_below n (λ (i : ℕ). sum_below n (λ (j : ℕ). ite (eqb i j) 0 (f i j)))

-- ---- deliveries, counted by the tables: WRITEs from i that j took or holds; READs of i that came to j; PROCEEDs of j that came to i

abbrev pub came : World → ℕ → ℕ → ℕ
came s i j = (W s j i + (s.panel j).held i) + ((R s i i - s.flying i j 2) + R s i j)

unfoldable pub made : ℕ → World → ℕ
made n s = sum_pairs n (came s)

-- reads begun, by all panels
unfoldable pub begun : ℕ → World → ℕ
begun n s = sum_below n (λ (i : ℕ). R s i i)

-- ---- the number that falls

-- for each place 13 for each write number to come, 1 for a held WRITE, 1 for each waiting READ
unfoldable pub panel_load : View → ℕ
panel_load a = sum_below 7 (λ (l : ℕ). 13 * (200 - a.w l) + (a.held l + a.waiting l))

-- for each receiver 2 for each WRITE and READ, 1 for each PROCEED
unfoldable pub out_load : Out → ℕ
out_load out = sum_below 7 (λ (l : ℕ). 2 * (out l 0 + (out l 1 + out l 2)) + out l 3)

unfoldable pub load : World → ℕ
load s = sum_below 7 (λ (i : ℕ). panel_load (s.panel i) + out_load (s.flying i))

-- what a message in flight weighs
unfoldable pub weight : ℕ → ℕ
weight k = ite (eqb k 3) 1 2
