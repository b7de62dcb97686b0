-- The laws of a body, a row of numbers of given widths: read back, written back, and its length.
-- Assumes nothing.
use mathlib.Core.{List.{List, [], ◌∷◌, ◌++◌, append_assoc}, Path.{◌≡◌, refl, sym, ap, ap₂, ◌∙◌}}
use Prim.Native.Nat.{ℕ, suc, ◌+◌, ◌≤◌}
use native.Mathlib.{Nat.{add-suc, add-zero, add_comm}, Omega.arith}
use lib.{ListN.{length, length-append, take, drop}, Seq.{take-add, drop-drop}}
use Rattle.codec.specs.{Items.{total, body_of, numbers_at, Fits}, Numbers.{bytes_of, number_at, Bytes}}
use Rattle.codec.proofs.Numbers.{length-bytes_of, number_at-cons, number_at-fits, number-written, number_read}

pub numbers_at-cons : (ks : List ℕ) (b : ℕ) (s : List ℕ) (at : ℕ) → numbers_at ks (b ∷ s) (suc at) ≡ numbers_at ks s at
unfolding numbers_at
numbers_at-cons [] b s at = refl
numbers_at-cons (k ∷ ks) b s at =
    ap₂ ◌∷◌ (number_at-cons k b s at) (ap (numbers_at ks (b ∷ s)) (add-suc k at) ∙ numbers_at-cons ks b s (k + at))

-- behind p stands what stands at the front of s
numbers_at-behind : (ks p s : List ℕ) → numbers_at ks (p ++ s) (length p) ≡ numbers_at ks s 0
numbers_at-behind ks [] s = refl
numbers_at-behind ks (b ∷ p) s = numbers_at-cons ks b (p ++ s) (length p) ∙ numbers_at-behind ks p s

pub length-body : (ks xs : List ℕ) → Fits ks xs → length (body_of ks xs) ≡ total ks
unfolding Fits body_of total
length-body [] [] h = refl
length-body [] (x ∷ xs) h = absurd h
length-body (k ∷ ks) [] h = absurd h
length-body (k ∷ ks) (x ∷ xs) h = length-append (bytes_of k x) (body_of ks xs) ∙ ap₂ ◌+◌ (length-bytes_of k x) (length-body ks xs h.1)

-- reading what was written
pub body-written : (ks xs rest : List ℕ) → Fits ks xs → numbers_at ks (body_of ks xs ++ rest) 0 ≡ xs
unfolding Fits body_of numbers_at
body-written [] [] rest h = refl
body-written [] (x ∷ xs) rest h = absurd h
body-written (k ∷ ks) [] rest h = absurd h
body-written (k ∷ ks) (x ∷ xs) rest h =
    let tail : List ℕ = body_of ks xs ++ rest in
    ap (λ (s : List ℕ). number_at k s 0 ∷ numbers_at ks s (k + 0)) (append_assoc (bytes_of k x) (body_of ks xs) rest)
    ∙ ap₂ ◌∷◌ (number-written k x tail h.0)
    (ap (numbers_at ks (bytes_of k x ++ tail)) (add-zero k ∙ sym (length-bytes_of k x)) ∙ numbers_at-behind ks (bytes_of k x) tail ∙ body-written ks xs rest h.1)

-- writing what was read
pub body-read : (ks s : List ℕ) (at : ℕ) → Bytes s → at + total ks ≤ length s → body_of ks (numbers_at ks s at) ≡ take (total ks) (drop at s)
unfolding body_of numbers_at total
body-read [] s at h fits = refl
body-read (k ∷ ks) s at h fits =
    ap₂ ◌++◌ (number_read k s at h (omega arith))
    (body-read ks s (k + at) h (omega arith) ∙ ap (λ (n : ℕ). take (total ks) (drop n s)) (add_comm k at) ∙ sym (ap (take (total ks)) (drop-drop k at s)))
    ∙ sym (take-add k (total ks) (drop at s))

pub numbers_at-fit : (ks s : List ℕ) (at : ℕ) → Bytes s → Fits ks (numbers_at ks s at)
unfolding Fits numbers_at
numbers_at-fit [] s at h = tt
numbers_at-fit (k ∷ ks) s at h = (number_at-fits k s at h, numbers_at-fit ks s (k + at) h)
