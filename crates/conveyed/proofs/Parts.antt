-- A part of lent bytes, from a place on to the end: what it holds, and what a write into it is in the whole.
-- Assumes nothing.
use mathlib.Core.{List.{List, [], ◌∷◌, ◌++◌, append-nil}, Path.{◌≡◌, refl, sym, ap, ap₂, ◌∙◌}}
use Prim.Native.Nat.{ℕ, zero, suc, ◌-◌, ◌≤◌, min}
use native.Mathlib.{Nat.{zero-min, min-zero, suc-min-suc}, Omega.arith}
use lib.{ListN.{length, take, drop, set, length-drop, drop_of_length-le}, Seq.sets}
use Rattle.basics.proofs.Lists.{sets-past, part-behind}
use Rattle.carried.specs.Laid.{Laid}

sets_behind : (xs : List ℕ) (b : ℕ) (l : List ℕ) (i : ℕ) → sets (b ∷ l) (suc i) xs ≡ b ∷ sets l i xs
sets_behind [] b l i = refl
sets_behind (x ∷ xs) b l i = sets_behind xs b (set l i x) (suc i)

sets-part : (l : List ℕ) (i : ℕ) (xs : List ℕ) → take i l ++ sets (drop i l) 0 xs ≡ sets l i xs
sets-part l zero xs = refl
sets-part [] (suc i) xs = sets-past [] 0 xs (omega arith) ∙ sym (sets-past [] (suc i) xs (omega arith))
sets-part (b ∷ l) (suc i) xs = ap (λ (m : List ℕ). b ∷ m) (sets-part l i xs) ∙ sym (sets_behind xs b l i)

-- behind the part nothing stands
part_end : (l : List ℕ) (i : ℕ) → drop (length l - i) (drop i l) ≡ []
part_end l i =
    let h : length (drop i l) ≤ length l - i = omega (arith, length-drop i l) in
    drop_of_length-le (drop i l) h

pub part-laid :
    (l m xs : List ℕ) (i : ℕ) → m ≡ sets (take (length l - i) (drop i l)) 0 xs → Laid l i xs (take i l ++ (m ++ drop (length l - i) (drop i l)))
part-laid l m xs i e =
    record {
      is =
          ap₂ (λ (p q : List ℕ). take i l ++ (p ++ q)) (e ∙ ap (λ (p : List ℕ). sets p 0 xs) (part-behind l i)) (part_end l i)
          ∙ ap (λ (p : List ℕ). take i l ++ p) (append-nil (sets (drop i l) 0 xs))
          ∙ sets-part l i xs;
    }

-- a write past the end is left out
pub past-laid : (l xs : List ℕ) (i : ℕ) → length l ≤ i → Laid l i xs l
past-laid l xs i h = record { is = sym (sets-past l i xs h) }

drop-within : (l : List ℕ) (i : ℕ) → drop (min i (length l)) l ≡ drop i l
drop-within l zero = ap (λ (n : ℕ). drop n l) (zero-min (length l))
drop-within [] (suc i) = ap (λ (n : ℕ). drop {A = ℕ} n []) (min-zero (suc i))
drop-within (b ∷ l) (suc i) = ap (λ (n : ℕ). drop n (b ∷ l)) (suc-min-suc i (length l)) ∙ drop-within l i

-- from a place on, or from the end where the place is past it
pub part-within : (l : List ℕ) (i k : ℕ) → k ≡ min i (length l) → take (length l - k) (drop k l) ≡ drop i l
part-within l i k e = part-behind l k ∙ ap (λ (n : ℕ). drop n l) e ∙ drop-within l i

pub ruleset parts = (part-laid, past-laid, part-within)
