-- A world of zeros: where a run starts. The invariant holds, nothing was delivered and no read was begun.
-- Assumes nothing.
use Prim.Native.Nat.{ℕ, suc, ◌-◌, ◌*◌, ◌%◌, ◌≤◌, ◌<◌}
use mathlib.Core.Path.{◌≡◌, subst}
use native.Mathlib.Omega.{arith}
use Rattle.protocol.specs.{Counts.{sum_pairs, came, made, begun}, Invariant.{none, Inv}, World.{World, W, R}}
use Rattle.protocol.proofs.Sums.{sum-at-most, sum-each, pairs-most}

pub record Fresh (n : ℕ) (s : World) : Type 0 where
  pub w : (i j : ℕ) → i < n → j < n → W s i j ≡ 0
  pub r : (i j : ℕ) → i < n → j < n → R s i j ≡ 0
  pub held : (i j : ℕ) → i < n → j < n → (s.panel i).held j ≡ 0
  pub waiting : (i j : ℕ) → i < n → j < n → (s.panel i).waiting j ≡ 0
  pub flying : (i j k : ℕ) → i < n → j < n → s.flying i j k ≡ 0

module _ {n : ℕ} {s : World} (f : Fresh n s) where
  pub fresh-inv : (writer : ℕ) → Inv n writer none s
  fresh-inv writer =
      record {
        own = λ i j a b. omega (arith, f.w i j a b);
        top = λ i a. omega (arith, f.w i i a a);
        pair = λ i j a b _.
            record {
              low = omega (arith, f.w j i b a);
              one = omega (arith, f.w i i a a, f.flying i j (suc (W s j i) % 2) a b);
              two = omega (arith, f.w i i a a, f.flying i j (W s j i % 2) a b, f.held j i b a);
            };
        reads = λ i j a b _. omega (arith, f.r i i a a, f.r i j a b, f.flying i j 2 a b, f.flying j i 3 b a, f.waiting j i b a);
      }

  pub fresh-begun : begun n s ≡ 0
  unfolding begun
  fresh-begun = omega (arith, sum-at-most n 0 (λ i. R s i i) (λ i a. omega (arith, f.r i i a a)))

  pub fresh-made : made n s ≡ 0
  unfolding made
  fresh-made =
      let most : sum_pairs n (came s) ≤ (n - 1) * (n * 0) =
      subst (λ (x : ℕ). sum_pairs n (came s) ≤ (n - 1) * x) (sum-each n 0)
      (pairs-most n (came s) (λ i. 0) (λ i j a b _. omega (arith, f.w j i b a, f.held j i b a, f.r i i a a, f.r i j a b))) in
      omega arith
