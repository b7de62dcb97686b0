-- The laws of the numbers below a bound.
-- Assumes nothing.
use mathlib.Core.{Bool.{Bool, true}, List.{[], ◌∷◌, ◌++◌}, Logic.{◌⊎◌, inl, inr}, Path.{◌≡◌, refl, sym, ap, ap₂, ◌∙◌}}
use Prim.Native.Nat.{ℕ, zero, suc, ◌+◌, ◌≤◌, ◌<◌}
use native.Mathlib.{Nat.{not-suc-le-zero, eq-or-lt_of_le}, Numerals.add-one, Omega.arith}
use lib.{ListN.{length, get_or, length-append, get_or-append}, Seq.get_or_at}
use Rattle.basics.specs.{Below.{one_if, all_below, count_below, list_below}, Choice.both}
use Rattle.basics.proofs.{Choices.{both_left, both_right, both_true}, Ones.one-most}

-- ---- one more, as a loop's turn has it

pub all-next : (n : ℕ) (f : ℕ → Bool) → all_below (n + 1) f ≡ both (all_below n f) (f n)
unfolding all_below
all-next n f = ap (λ (m : ℕ). all_below m f) (add-one n)

pub count_next : (n : ℕ) (f : ℕ → Bool) → count_below (n + 1) f ≡ count_below n f + one_if (f n)
unfolding count_below
count_next n f = ap (λ (m : ℕ). count_below m f) (add-one n)

-- ---- all

-- either k is the last number below suc n, or it is below n
pub last-or-below : {k n : ℕ} → k < suc n → (k ≡ n) ⊎ (k < n)
last-or-below h = eq-or-lt_of_le (omega arith)

pub all-at : (n : ℕ) (f : ℕ → Bool) → all_below n f ≡ true → (k : ℕ) → k < n → f k ≡ true
unfolding all_below
all-at zero f h k l = absurd (not-suc-le-zero l)
all-at (suc n) f h k l = pick (last-or-below l) (all-at n f (both_left _ _ h) k)
  where
    pick : (k ≡ n) ⊎ (k < n) → (k < n → f k ≡ true) → f k ≡ true
    pick (inl e) lower = ap f e ∙ both_right _ _ h
    pick (inr m) lower = lower m

pub all_of : (n : ℕ) (f : ℕ → Bool) → ((k : ℕ) → k < n → f k ≡ true) → all_below n f ≡ true
unfolding all_below
all_of zero f h = refl
all_of (suc n) f h = both_true (all_of n f (λ k l. h k (omega arith))) (h n (omega arith))

pub all_alike : (n : ℕ) (f g : ℕ → Bool) → ((k : ℕ) → k < n → f k ≡ g k) → all_below n f ≡ all_below n g
unfolding all_below
all_alike zero f g h = refl
all_alike (suc n) f g h = ap₂ both (all_alike n f g (λ k l. h k (omega arith))) (h n (omega arith))

-- ---- how many

pub count_most : (n : ℕ) (f : ℕ → Bool) → count_below n f ≤ n
unfolding count_below
count_most zero f = omega arith
count_most (suc n) f = omega (arith, count_most n f, one-most (f n))

pub count-alike : (n : ℕ) (f g : ℕ → Bool) → ((k : ℕ) → k < n → f k ≡ g k) → count_below n f ≡ count_below n g
unfolding count_below
count-alike zero f g h = refl
count-alike (suc n) f g h = ap₂ ◌+◌ (count-alike n f g (λ k l. h k (omega arith))) (ap one_if (h n (omega arith)))

-- ---- a list with an entry for each

pub length-list_below {ℓ} : {A : Type ℓ} (n : ℕ) (f : ℕ → A) → length (list_below n f) ≡ n
unfolding list_below
length-list_below zero f = refl
length-list_below (suc n) f = length-append (list_below n f) (f n ∷ []) ∙ ap (λ (m : ℕ). m + 1) (length-list_below n f) ∙ add-one n

pub list_below-next {ℓ} : {A : Type ℓ} (n : ℕ) (f : ℕ → A) → list_below (n + 1) f ≡ list_below n f ++ (f n ∷ [])
unfolding list_below
list_below-next n f = ap (λ (m : ℕ). list_below m f) (add-one n)

pub get_or-list_below {ℓ} : {A : Type ℓ} (n : ℕ) (f : ℕ → A) (k : ℕ) (d : A) → k < n → get_or (list_below n f) k d ≡ f k
unfolding list_below
get_or-list_below zero f k d l = absurd (not-suc-le-zero l)
get_or-list_below (suc n) f k d l = pick (last-or-below l) (get_or-list_below n f k d)
  where
    pick : (k ≡ n) ⊎ (k < n) → (k < n → get_or (list_below n f) k d ≡ f k) → get_or (list_below n f ++ (f n ∷ [])) k d ≡ f k
    pick (inl e) lower = ap (λ (m : ℕ). get_or (list_below n f ++ (f n ∷ [])) m d) e ∙ get_or_at (list_below n f) (f n) [] d n (length-list_below n f) ∙ ap f (sym e)
    pick (inr m) lower = get_or-append (list_below n f) (f n ∷ []) d k (omega (arith, length-list_below n f)) ∙ lower m
