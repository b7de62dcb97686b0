-- The laws of a number in decimal: it reads back as the number, in digits alone, with no zero in front, and has as many
-- digits as its size asks for.
-- Assumes nothing.
use mathlib.Core.{Bool.{Bool, true, false}, List.{List, [], ◌∷◌, ◌++◌}, Path.{◌≡◌, refl, sym, ap, ap₂, subst, ◌∙◌}}
use Prim.Native.Nat.{ℕ, zero, suc, ◌+◌, ◌-◌, ◌*◌, ◌/◌, ◌%◌, ◌^◌, ◌≤◌, ◌<◌}
use native.Mathlib.{Nat.{not-suc-le-zero, one-le-pow, div-eq_of_lt, mod-eq_of_lt}, Omega.arith}
use lib.{Dec.ltb, ListN.{length, get_or, length-append, get_or-append}}
use borrow.Author.Tests.{ltb-true, ltb-false}
use Rattle.text.specs.Text.{leading, dec, read_behind, Digits}

-- ---- one digit, and one more

leading-none : (k : ℕ) → leading k 0 ≡ []
unfolding leading
leading-none zero = refl
leading-none (suc k) = refl

-- any room that holds the number gives the same digits
same-room : (j k m : ℕ) → m ≤ j → m ≤ k → leading j m ≡ leading k m
unfolding leading
same-room zero k zero h l = sym (leading-none k)
same-room zero k (suc m) h l = absurd (not-suc-le-zero h)
same-room (suc j) k zero h l = sym (leading-none k)
same-room (suc j) zero (suc m) h l = absurd (not-suc-le-zero l)
same-room (suc j) (suc k) (suc m) h l = ap (λ (x : List ℕ). x ++ ((48 + suc m % 10) ∷ [])) (same-room j k (suc m / 10) (omega arith) (omega arith))

leading-dec : (k m : ℕ) → 0 < m → m ≤ k → leading k m ≡ dec m
unfolding leading dec
leading-dec k zero p h = absurd (not-suc-le-zero p)
leading-dec zero (suc m) p h = absurd (not-suc-le-zero h)
leading-dec (suc k) (suc m) p h = ap (λ (x : List ℕ). x ++ ((48 + suc m % 10) ∷ [])) (same-room k (suc m) (suc m / 10) (omega arith) (omega arith))

pub dec-small : (n : ℕ) → n < 10 → dec n ≡ (48 + n) ∷ []
unfolding dec
dec-small n h =
    ap₂ (λ (m d : ℕ). leading n m ++ ((48 + d) ∷ [])) (div-eq_of_lt h) (mod-eq_of_lt h) ∙ ap (λ (x : List ℕ). x ++ ((48 + n) ∷ [])) (leading-none n)

-- the same by its last digit, which is the whole of it
pub dec-digit : (n : ℕ) → n < 10 → dec n ≡ (48 + n % 10) ∷ []
dec-digit n h = dec-small n h ∙ ap (λ (d : ℕ). (48 + d) ∷ []) (sym (mod-eq_of_lt h))

pub dec-more : (n : ℕ) → 10 ≤ n → dec n ≡ dec (n / 10) ++ ((48 + n % 10) ∷ [])
unfolding dec
dec-more n h = ap (λ (x : List ℕ). x ++ ((48 + n % 10) ∷ [])) (leading-dec n (n / 10) (omega arith) (omega arith))

-- what holds of one digit, and of one digit behind what it holds of, holds of every number
module _ (P : ℕ → Type 0) (small : (n : ℕ) → n < 10 → P n) (more : (n : ℕ) → 10 ≤ n → P (n / 10) → P n) where
  below : (k n : ℕ) → n < k → P n
  below zero n h = absurd (not-suc-le-zero h)
  below (suc k) n h = by (ltb n 10) refl (below k (n / 10))
    where
      by : (b : Bool) → ltb n 10 ≡ b → (n / 10 < k → P (n / 10)) → P n
      by true e r = small n (ltb-true _ _ e)
      by false e r = let big : 10 ≤ n = ltb-false _ _ e in more n big (r (omega arith))

  pub by_digits : (n : ℕ) → P n
  by_digits n = below (suc n) n (omega arith)

-- ---- how many digits

pub length_more : (n : ℕ) → 10 ≤ n → length (dec n) ≡ length (dec (n / 10)) + 1
length_more n h = ap length (dec-more n h) ∙ length-append (dec (n / 10)) ((48 + n % 10) ∷ [])

pub length-small : (n : ℕ) → n < 10 → length (dec n) ≡ 1
length-small n h = ap length (dec-small n h)

pub length_some : (n : ℕ) → 1 ≤ length (dec n)
length_some = by_digits (λ n. 1 ≤ length (dec n)) (λ n h. omega (arith, length-small n h)) (λ n h r. omega (arith, length_more n h))

-- two digits want two places
place-more : (k n : ℕ) → n < 10 ^ suc k → 10 ≤ n → 0 < k
place-more zero n l m = omega arith
place-more (suc k) n l m = omega arith

pub length_most : (k n : ℕ) → 0 < k → n < 10 ^ k → length (dec n) ≤ k
length_most zero n p h = absurd (not-suc-le-zero p)
length_most (suc k) n p h = by (ltb n 10) refl (length_most k (n / 10))
  where
    by : (b : Bool) → ltb n 10 ≡ b → (0 < k → n / 10 < 10 ^ k → length (dec (n / 10)) ≤ k) → length (dec n) ≤ suc k
    by true e r = omega (arith, length-small n (ltb-true _ _ e))
    by false e r =
        let big : 10 ≤ n = ltb-false _ _ e in
        omega (arith, length_more n big, r (place-more k n h big) (omega arith))

pub length-least : (k n : ℕ) → 10 ^ k ≤ n → suc k ≤ length (dec n)
length-least zero n h = length_some n
length-least (suc k) n h =
    let big : 10 ≤ n = omega (arith, one-le-pow k 10 (omega arith)) in
    omega (arith, length_more n big, length-least k (n / 10) (omega arith))

-- ---- which digits

last-read : (v : ℕ) (ds : List ℕ) (d : ℕ) → read_behind v (ds ++ (d ∷ [])) ≡ read_behind v ds * 10 + (d - 48)
unfolding read_behind
last-read v [] d = refl
last-read v (e ∷ ds) d = last-read (v * 10 + (e - 48)) ds d

pub dec-reads : (n : ℕ) → read_behind 0 (dec n) ≡ n
unfolding read_behind
dec-reads =
    by_digits
    (λ n. read_behind 0 (dec n) ≡ n)
    (λ n h. ap (read_behind 0) (dec-small n h) ∙ omega arith)
    (λ n h r. ap (read_behind 0) (dec-more n h) ∙ last-read 0 (dec (n / 10)) (48 + n % 10) ∙ omega arith)

digits-then : (ds : List ℕ) (d : ℕ) → Digits ds → 48 ≤ d → d ≤ 57 → Digits (ds ++ (d ∷ []))
unfolding Digits
digits-then [] d h l u = (l, u, tt)
digits-then (e ∷ ds) d h l u = (h.0, h.1, digits-then ds d h.2 l u)

pub dec-digits : (n : ℕ) → Digits (dec n)
unfolding Digits
dec-digits =
    by_digits
    (λ n. Digits (dec n))
    (λ n h. subst (λ (ds : List ℕ). Digits ds) (sym (dec-small n h)) (omega arith, omega arith, tt))
    (λ n h r. subst (λ (ds : List ℕ). Digits ds) (sym (dec-more n h)) (digits-then (dec (n / 10)) (48 + n % 10) r (omega arith) (omega arith)))

pub dec-leads : (n : ℕ) → 0 < n → 48 < get_or (dec n) 0 0
dec-leads =
    by_digits
    (λ n. 0 < n → 48 < get_or (dec n) 0 0)
    (λ n h p. omega (arith, ap (λ (ds : List ℕ). get_or ds 0 0) (dec-small n h)))
    (λ n h r p. omega (
      arith,
      r (omega arith),
      ap (λ (ds : List ℕ). get_or ds 0 0) (dec-more n h),
      get_or-append (dec (n / 10)) ((48 + n % 10) ∷ []) 0 0 (length_some (n / 10)),
    ))
