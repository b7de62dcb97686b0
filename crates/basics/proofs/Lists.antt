-- Laws of lists beside the kit's: a list of one entry repeated, a list stored from a place on, and the part behind a place.
-- Assumes nothing.
use mathlib.Core.{List.{List, [], ◌∷◌, ◌++◌}, Path.{◌≡◌, refl, sym, ap, subst, ◌∙◌}}
use Prim.Native.Nat.{ℕ, suc, ◌+◌, ◌-◌, ◌≤◌, ◌<◌}
use native.Mathlib.{Decide.dec_lt, Nat.add-zero, Omega.arith}
use lib.ListN.{length, get_or, set, take, drop, replicate, length-drop, length-replicate, get_or-replicate, get_or-eq_default}
use lib.Seq.{sets, set_out, take_all}

-- what holds of the entry and of what is read past the end holds at every place
pub get_or-case : {A : Type 0} (n : ℕ) (a d : A) (P : A → Type 0) → P a → P d → (j : ℕ) → P (get_or (replicate n a) j d)
get_or-case n a d P h i j = by (dec_lt j n)
  where
    by : Dec (j < n) → P (get_or (replicate n a) j d)
    by (yes l) = subst P (sym (get_or-replicate n j a d l)) h
    by (no l) = subst P (sym (get_or-eq_default (replicate n a) d (omega (arith, length-replicate n a)))) i

pub get_or-same : {A : Type 0} (n : ℕ) (a : A) (j : ℕ) → get_or (replicate n a) j a ≡ a
get_or-same {A} n a j = get_or-case n a a (λ (x : A). x ≡ a) refl refl j

-- a list behind another is stored behind it
pub sets-append : (xs ys l : List ℕ) (i : ℕ) → sets l i (xs ++ ys) ≡ sets (sets l i xs) (i + length xs) ys
sets-append [] ys l i = ap (λ (k : ℕ). sets l k ys) (sym (add-zero i))
sets-append (x ∷ xs) ys l i = sets-append xs ys (set l i x) (suc i) ∙ ap (λ (k : ℕ). sets (sets (set l i x) (suc i) xs) k ys) (omega arith)

-- past the end nothing is stored
pub sets-past : (l : List ℕ) (i : ℕ) (xs : List ℕ) → length l ≤ i → sets l i xs ≡ l
sets-past l i [] h = refl
sets-past l i (x ∷ xs) h = ap (λ (m : List ℕ). sets m (suc i) xs) (set_out l i x h) ∙ sets-past l (suc i) xs (omega arith)

-- all that stands from a place on
pub part-behind : (l : List ℕ) (i : ℕ) → take (length l - i) (drop i l) ≡ drop i l
part-behind l i = take_all (length l - i) (drop i l) (omega (arith, length-drop i l))
