-- The laws of enough panels: any two sets of them meet, all but t are enough, and more of them are enough too.
-- Assumes nothing.
use mathlib.Core.{Bool.{Bool, true, not}, Path.{◌≡◌, ap, ◌∙◌}}
use Prim.Native.Nat.{ℕ, zero, suc, ◌+◌, ◌-◌, ◌*◌, ◌≤◌, ◌<◌}
use native.Mathlib.{Nat.{add-zero, add-suc}, Omega.arith}
use borrow.Author.Tests.{le-leb, leb-true, ltb-true}
use Rattle.basics.{proofs.Below.count-alike, proofs.Choices.{both_left, both_right, both_true}, specs.Below.{one_if, count_below}}
use Rattle.tables.specs.Marks.{among, enough}
use Rattle.tables.proofs.{Counting.{Meet, count-meet, count-not, count-more}, Marks.{among_below, among-past}}

-- past the n panels nothing counts
count_past : (n : ℕ) (f : ℕ → Bool) (d : ℕ) → count_below (n + d) (among n f) ≡ count_below n f
unfolding count_below one_if
count_past n f zero = ap (λ (m : ℕ). count_below m (among n f)) (add-zero n) ∙ count-alike n (among n f) f (among_below n f)
count_past n f (suc d) =
    ap (λ (m : ℕ). count_below m (among n f)) (add-suc n d)
    ∙ ap (λ (b : Bool). count_below (n + d) (among n f) + one_if b) (among-past n f (n + d) (omega arith))
    ∙ add-zero _ ∙ count_past n f d

pub count-among : (m n : ℕ) (f : ℕ → Bool) → n ≤ m → count_below m (among n f) ≡ count_below n f
count-among m n f h = let e : m ≡ n + (m - n) = omega arith in ap (λ (k : ℕ). count_below k (among n f)) e ∙ count_past n f (m - n)

module _ (n t : ℕ) where
  -- at least n−t of the n panels pass
  counted : (f : ℕ → Bool) → n ≤ 7 → enough n t f ≡ true → n - t ≤ count_below n f
  unfolding enough
  counted f h e = let c : n - t ≤ count_below 7 (among n f) = leb-true _ _ e in omega (arith, count-among 7 n f h)

  pub enough-meet : n ≤ 7 → 2 * t < n → (f g : ℕ → Bool) → enough n t f ≡ true → enough n t g ≡ true → Meet n f g
  enough-meet h few f g ef eg = count-meet n f g (omega (arith, counted f h ef, counted g h eg))

  pub all-but-t : n ≤ 7 → (f : ℕ → Bool) → count_below 7 (among n (λ (j : ℕ). not (f j))) ≤ t → enough n t f ≡ true
  unfolding enough
  all-but-t h f few =
      let c : n - t ≤ count_below 7 (among n f) = omega (arith, few, count-among 7 n f h, count-among 7 n (λ (j : ℕ). not (f j)) h, count-not n f) in
      le-leb _ _ c

  pub enough-more : (f g : ℕ → Bool) → ((j : ℕ) → j < n → f j ≡ true → g j ≡ true) → enough n t f ≡ true → enough n t g ≡ true
  unfolding enough among
  enough-more f g h e =
      let fewer : n - t ≤ count_below 7 (among n f) = leb-true _ _ e in
      let more : count_below 7 (among n f) ≤ count_below 7 (among n g) = count-more 7 (among n f) (among n g) (λ k l a. both_true (both_left _ _ a) (h k (ltb-true _ _ (both_left _ _ a)) (both_right _ _ a))) in
      let c : n - t ≤ count_below 7 (among n g) = omega arith in
      le-leb _ _ c
