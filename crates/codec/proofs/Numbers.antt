-- The laws of numbers in bytes, once for every width: what is written is read back, what is read is written as the bytes
-- read, and a number that was read fits its width.
-- Assumes nothing.
use mathlib.Core.{List.{List, [], ◌∷◌, ◌++◌}, Path.{◌≡◌, refl, sym, ap, ap₂, subst, ◌∙◌}}
use Prim.Native.Nat.{ℕ, zero, suc, ◌+◌, ◌*◌, ◌/◌, ◌%◌, ◌^◌, ◌≤◌, ◌<◌}
use native.Mathlib.{Nat.{pow-succ', mod-eq_of_lt, mod-lt}, Omega.arith}
use lib.{Arith.{digits_lt, digits_div, digits_mod, mod-mul}, Dec.lit<, ListN.{length, get_or, take, drop}, Seq.drop-cons}
use Rattle.codec.specs.Numbers.{bytes_of, number_at, Bytes}

-- 650 is 2·256 + 138: high byte first, written and read
high-byte-first : (bytes_of 4 650 ≡ 0 ∷ 0 ∷ 2 ∷ 138 ∷ []) × (number_at 2 (9 ∷ 2 ∷ 138 ∷ []) 1 ≡ 650)
unfolding bytes_of number_at
high-byte-first = (refl, refl)

weight-pos : (k : ℕ) → 0 < 256 ^ k
weight-pos zero = lit< tt
weight-pos (suc k) = subst (λ (n : ℕ). 0 < n) (sym (pow-succ' 256 k)) (let h : 0 < 256 ^ k = weight-pos k in omega arith)

pub length-bytes_of : (k v : ℕ) → length (bytes_of k v) ≡ k
unfolding bytes_of
length-bytes_of zero v = refl
length-bytes_of (suc k) v = ap suc (length-bytes_of k v)

pub bytes_of-bytes : (k v : ℕ) → Bytes (bytes_of k v)
unfolding bytes_of Bytes
bytes_of-bytes zero v = tt
bytes_of-bytes (suc k) v = (mod-lt (v / 256 ^ k) (lit< tt), bytes_of-bytes k v)

pub byte_at : (s : List ℕ) → Bytes s → (at : ℕ) → get_or s at 0 < 256
unfolding Bytes
byte_at [] h at = lit< tt
byte_at (b ∷ bs) h zero = h.0
byte_at (b ∷ bs) h (suc at) = byte_at bs h.1 at

pub number_at-cons : (k b : ℕ) (s : List ℕ) (at : ℕ) → number_at k (b ∷ s) (suc at) ≡ number_at k s at
unfolding number_at
number_at-cons zero b s at = refl
number_at-cons (suc k) b s at = ap (λ (m : ℕ). get_or s at 0 * 256 ^ k + m) (number_at-cons k b s (suc at))

-- the number of k bytes that was written is its low end
number_at-low : (k v : ℕ) (rest : List ℕ) → number_at k (bytes_of k v ++ rest) 0 ≡ v % 256 ^ k
unfolding number_at bytes_of
number_at-low zero v rest = sym (omega arith)
number_at-low (suc k) v rest =
    ap (λ (m : ℕ). v / 256 ^ k % 256 * 256 ^ k + m) (number_at-cons k (v / 256 ^ k % 256) (bytes_of k v ++ rest) 0 ∙ number_at-low k v rest)
    ∙ sym (ap (λ (n : ℕ). v % n) (pow-succ' 256 k) ∙ mod-mul v (lit< tt) (weight-pos k))

-- reading what was written
pub number-written : (k v : ℕ) (rest : List ℕ) → v < 256 ^ k → number_at k (bytes_of k v ++ rest) 0 ≡ v
number-written k v rest h = number_at-low k v rest ∙ mod-eq_of_lt h

pub number_at-fits : (k : ℕ) (s : List ℕ) (at : ℕ) → Bytes s → number_at k s at < 256 ^ k
unfolding number_at
number_at-fits zero s at h = lit< tt
number_at-fits (suc k) s at h =
    subst (λ (n : ℕ). get_or s at 0 * 256 ^ k + number_at k s (suc at) < n) (sym (pow-succ' 256 k))
    (digits_lt (byte_at s h at) (number_at-fits k s (suc at) h))

-- the two parts of a number at weight c: its byte there, and what is below
pub top_byte : (b c : ℕ) {m : ℕ} → b < 256 → m < c → (b * c + m) / c % 256 ≡ b
top_byte b c hb hm = ap (λ (n : ℕ). n % 256) (digits_div b hm) ∙ mod-eq_of_lt hb

-- only the low end of a number is written
bytes_of-low : (k v : ℕ) → bytes_of k (v % 256 ^ k) ≡ bytes_of k v
unfolding bytes_of
bytes_of-low zero v = refl
bytes_of-low (suc k) v =
    let small : v % 256 ^ k < 256 ^ k = mod-lt v (weight-pos k) in
    let low : v % 256 ^ suc k ≡ v / 256 ^ k % 256 * 256 ^ k + v % 256 ^ k = ap (λ (n : ℕ). v % n) (pow-succ' 256 k) ∙ mod-mul v (lit< tt) (weight-pos k) in
    ap₂ ◌∷◌
    (ap (λ (n : ℕ). n / 256 ^ k % 256) low ∙ top_byte (v / 256 ^ k % 256) (256 ^ k) (mod-lt (v / 256 ^ k) (lit< tt)) small)
    (sym (bytes_of-low k (v % 256 ^ suc k)) ∙ ap (bytes_of k) (ap (λ (n : ℕ). n % 256 ^ k) low ∙ digits_mod (v / 256 ^ k % 256) small) ∙ bytes_of-low k v)

-- writing what was read
pub number_read : (k : ℕ) (s : List ℕ) (at : ℕ) → Bytes s → at + k ≤ length s → bytes_of k (number_at k s at) ≡ take k (drop at s)
unfolding bytes_of number_at
number_read zero s at h fits = refl
number_read (suc k) s at h fits =
    let small : number_at k s (suc at) < 256 ^ k = number_at-fits k s (suc at) h in
    ap₂ ◌∷◌
    (top_byte (get_or s at 0) (256 ^ k) (byte_at s h at) small)
    (sym (bytes_of-low k (get_or s at 0 * 256 ^ k + number_at k s (suc at))) ∙ ap (bytes_of k) (digits_mod (get_or s at 0) small) ∙ number_read k s (suc at) h (omega arith))
    ∙ sym (ap (take (suc k)) (drop-cons s at 0 (omega arith)))
