-- The laws of sums over places, and over ordered pairs of two different places.
-- Assumes nothing.
use Prim.Native.Nat.{ℕ, zero, suc, ◌+◌, ◌-◌, ◌*◌, ◌≤◌, ◌<◌}
use mathlib.Core.{Logic.◌≢◌, Path.{◌≡◌, refl, sym, ap, ap₂, subst, ◌∙◌}}
use native.Mathlib.{Decide.ℕ_discrete, Nat.not-suc-le-zero, Omega.arith}
use lib.Dec.{eqb}
use borrow.Author.Tests.{eq-eqb, ne_eqb}
use Rattle.basics.{proofs.Choices.{ite-true, ite-false}, specs.Choice.ite}
use Rattle.protocol.specs.Counts.{sum_below, sum_pairs}

-- ---- over places

pub sum_same : (n : ℕ) (f g : ℕ → ℕ) → ((l : ℕ) → l < n → f l ≡ g l) → sum_below n f ≡ sum_below n g
unfolding sum_below
sum_same zero f g h = refl
sum_same (suc n) f g h = ap₂ ◌+◌ (sum_same n f g (λ l b. h l (omega arith))) (h n (omega arith))

pub sum-most : (n : ℕ) (f g : ℕ → ℕ) → ((l : ℕ) → l < n → f l ≤ g l) → sum_below n f ≤ sum_below n g
unfolding sum_below
sum-most zero f g h = omega arith
sum-most (suc n) f g h = omega (arith, h n (omega arith), sum-most n f g (λ l b. h l (omega arith)))

pub sum-add : (n : ℕ) (f g : ℕ → ℕ) → sum_below n (λ (l : ℕ). f l + g l) ≡ sum_below n f + sum_below n g
unfolding sum_below
sum-add zero f g = refl
sum-add (suc n) f g = omega (arith, sum-add n f g)

pub sum-each : (n a : ℕ) → sum_below n (λ (l : ℕ). a) ≡ n * a
unfolding sum_below
sum-each zero a = omega arith
sum-each (suc n) a = omega (arith, sum-each n a)

pub sum-times : (n a : ℕ) (f : ℕ → ℕ) → sum_below n (λ (l : ℕ). a * f l) ≡ a * sum_below n f
unfolding sum_below
sum-times zero a f = omega arith
sum-times (suc n) a f = omega (arith, sum-times n a f)

pub sum-at-most : (n a : ℕ) (f : ℕ → ℕ) → ((l : ℕ) → l < n → f l ≤ a) → sum_below n f ≤ n * a
sum-at-most n a f h = omega (arith, sum-most n f (λ (l : ℕ). a) h, sum-each n a)

-- only the place p differs
pub sum-change : (n p : ℕ) (f g : ℕ → ℕ) → p < n → ((l : ℕ) → l < n → l ≢ p → g l ≡ f l) → sum_below n g + f p ≡ sum_below n f + g p
unfolding sum_below
sum-change zero p f g b h = absurd (not-suc-le-zero b)
sum-change (suc n) p f g b h = last (ℕ_discrete n p) (λ c. sum-change n p f g c (λ l d. h l (omega arith)))
  where
    last : Dec (n ≡ p) → (p < n → sum_below n g + f p ≡ sum_below n f + g p) → (sum_below n g + g n) + f p ≡ (sum_below n f + f n) + g p
    last (yes e) lower = omega (arith, sum_same n g f (λ l c. h l (omega arith) (λ d. omega (arith, c, d, e))), ap f e, ap g e)
    last (no d) lower = omega (arith, lower (omega arith), h n (omega arith) d)

pub sum_more : (n p : ℕ) (f g : ℕ → ℕ) → p < n → g p ≡ suc (f p) → ((l : ℕ) → l < n → l ≢ p → g l ≡ f l) → sum_below n g ≡ suc (sum_below n f)
sum_more n p f g b e h = omega (arith, sum-change n p f g b h, e)

-- f with another value at the place p
put : ℕ → ℕ → (ℕ → ℕ) → ℕ → ℕ
put p a f l = ite (eqb l p) a (f l)

put-at : (p a : ℕ) (f : ℕ → ℕ) → put p a f p ≡ a
unfolding put
put-at p a f = ite-true _ _ (eq-eqb p p refl)

put-ne : (p a : ℕ) (f : ℕ → ℕ) (l : ℕ) → l ≢ p → put p a f l ≡ f l
unfolding put
put-ne p a f l d = ite-false _ _ (ne_eqb l p d)

less_one : (n a x : ℕ) → x + a ≤ n * a → x ≤ (n - 1) * a
less_one zero a x h = omega arith
less_one (suc n) a x h = let e : suc n - 1 ≡ n = omega arith in rw e (omega arith)

-- at most a at every place, and 0 at one of them
pub sum-but-one : (n p a : ℕ) (f : ℕ → ℕ) → p < n → f p ≡ 0 → ((l : ℕ) → l < n → l ≢ p → f l ≤ a) → sum_below n f ≤ (n - 1) * a
sum-but-one n p a f b z h =
    less_one n a (sum_below n f)
    (omega (arith, z, put-at p a f, sum-change n p f (put p a f) b (λ l c. put-ne p a f l), sum-at-most n a (put p a f) (λ l c. at l c (ℕ_discrete l p))))
  where
    at : (l : ℕ) → l < n → Dec (l ≡ p) → put p a f l ≤ a
    at l c (yes e) = omega (arith, ap (put p a f) e, put-at p a f)
    at l c (no d) = omega (arith, put-ne p a f l d, h l c d)

-- two places differ: what the one gains is less than x, and the other loses x
pub sum_moved :
    (n p q x : ℕ) (f g : ℕ → ℕ) → p < n → q < n → q ≢ p → g p < f p + x → g q + x ≡ f q → ((l : ℕ) → l < n → l ≢ p → l ≢ q → g l ≡ f l)
    → sum_below n g < sum_below n f
sum_moved n p q x f g bp bq d gain loss h =
    omega (
      arith,
      gain,
      loss,
      put-at p (g p) f,
      put-ne p (g p) f q d,
      sum-change n p f (put p (g p) f) bp (λ l c m. put-ne p (g p) f l m),
      sum-change n q (put p (g p) f) g bq (λ l c m. at l c m (ℕ_discrete l p)),
    )
  where
    at : (l : ℕ) → l < n → l ≢ q → Dec (l ≡ p) → g l ≡ put p (g p) f l
    at l c m (yes e) = ap g e ∙ sym (put-at p (g p) f) ∙ ap (put p (g p) f) (sym e)
    at l c m (no o) = h l c o m ∙ sym (put-ne p (g p) f l o)

-- each place gains at most e, and one of them loses all of that
pub sum-slack : (n p e : ℕ) (f g : ℕ → ℕ) → p < n → ((l : ℕ) → l < n → l ≢ p → g l ≤ f l + e) → g p + n * e ≤ f p + e → sum_below n g ≤ sum_below n f
sum-slack n p e f g b h loss =
    omega (
      arith,
      put-at p (g p + n * e) g,
      sum-each n e,
      sum-add n f (λ (l : ℕ). e),
      sum-change n p g (put p (g p + n * e) g) b (λ l c m. put-ne p (g p + n * e) g l m),
      sum-most n (put p (g p + n * e) g) (λ (l : ℕ). f l + e) (λ l c. at l c (ℕ_discrete l p)),
    )
  where
    at : (l : ℕ) → l < n → Dec (l ≡ p) → put p (g p + n * e) g l ≤ f l + e
    at l c (yes m) = subst (λ (x : ℕ). put p (g p + n * e) g x ≤ f x + e) (sym m) (omega (arith, put-at p (g p + n * e) g, loss))
    at l c (no m) = omega (arith, put-ne p (g p + n * e) g l m, h l c m)

-- ---- over pairs of two different places

off : (ℕ → ℕ → ℕ) → ℕ → ℕ → ℕ
off f i j = ite (eqb i j) 0 (f i j)

off-own : (f : ℕ → ℕ → ℕ) (i : ℕ) → off f i i ≡ 0
unfolding off
off-own f i = ite-true _ _ (eq-eqb i i refl)

off-ne : (f : ℕ → ℕ → ℕ) (i j : ℕ) → i ≢ j → off f i j ≡ f i j
unfolding off
off-ne f i j d = ite-false _ _ (ne_eqb i j d)

off-same : (f g : ℕ → ℕ → ℕ) (i j : ℕ) → (i ≢ j → f i j ≡ g i j) → off f i j ≡ off g i j
off-same f g i j h = at (ℕ_discrete i j)
  where
    at : Dec (i ≡ j) → off f i j ≡ off g i j
    at (yes e) = ap (off f i) (sym e) ∙ off-own f i ∙ sym (off-own g i) ∙ ap (off g i) e
    at (no d) = off-ne f i j d ∙ h d ∙ sym (off-ne g i j d)

pub pairs-same : (n : ℕ) (f g : ℕ → ℕ → ℕ) → ((i j : ℕ) → i < n → j < n → i ≢ j → f i j ≡ g i j) → sum_pairs n f ≡ sum_pairs n g
unfolding sum_pairs off
pairs-same n f g h = sum_same n _ _ (λ i a. sum_same n _ _ (λ j b. off-same f g i j (h i j a b)))

-- one pair has one more
pub pairs-more :
    (n a b : ℕ) (f g : ℕ → ℕ → ℕ) → a < n → b < n → a ≢ b → g a b ≡ suc (f a b)
    → ((i j : ℕ) → i < n → j < n → i ≢ j → (i ≡ a → j ≢ b) → g i j ≡ f i j) → sum_pairs n g ≡ suc (sum_pairs n f)
unfolding sum_pairs off
pairs-more n a b f g ha hb d e h =
    sum_more n a _ _ ha
    (sum_more n b (off f a) (off g a) hb (off-ne g a b d ∙ e ∙ ap suc (sym (off-ne f a b d))) (λ j c m. off-same g f a j (λ k. h a j ha c k (λ _. m))))
    (λ i c m. sum_same n (off g i) (off f i) (λ j k. off-same g f i j (λ o. h i j c k o (λ z. absurd (m z)))))

-- at most a i at each pair (i, j)
pub pairs-most : (n : ℕ) (f : ℕ → ℕ → ℕ) (a : ℕ → ℕ) → ((i j : ℕ) → i < n → j < n → i ≢ j → f i j ≤ a i) → sum_pairs n f ≤ (n - 1) * sum_below n a
unfolding sum_pairs off
pairs-most n f a h =
    omega (
      arith,
      sum-times n (n - 1) a,
      sum-most n (λ (i : ℕ). sum_below n (off f i)) (λ (i : ℕ). (n - 1) * a i)
          (λ i b. sum-but-one n i (a i) (off f i) b (off-own f i) (λ l c d. omega (arith, off-ne f i l (λ e. d (sym e)), h i l b c (λ e. d (sym e))))),
    )
