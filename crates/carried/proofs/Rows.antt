-- Bytes written one behind the other, and row by row as a loop does.
-- Assumes nothing.
use mathlib.Core.{List.{List, [], ◌∷◌, ◌++◌}, Path.{◌≡◌, refl, sym, ap, ap₂, ◌∙◌}}
use Prim.Native.Nat.{ℕ, zero, suc, ◌+◌, ◌*◌}
use native.Mathlib.{Numerals.add-one, Omega.arith}
use lib.{ListN.{length, length-append, set}, Seq.{sets, length-sets}}
use Rattle.basics.proofs.Lists.{sets-append}
use Rattle.carried.specs.{Laid.Laid, Panels.rows_below}

pub laid-length : {l xs m : List ℕ} {i : ℕ} → Laid l i xs m → length m ≡ length l
laid-length {l} {xs} {m} {i} h = ap length h.is ∙ length-sets l i xs

pub laid-byte : {l m : List ℕ} {i b : ℕ} → m ≡ set l i b → Laid l i (b ∷ []) m
laid-byte e = record { is = e }

pub laid_as : {l xs ys m : List ℕ} {i : ℕ} → xs ≡ ys → Laid l i xs m → Laid l i ys m
laid_as {l} {i = i} e h = record { is = h.is ∙ ap (sets l i) e }

pub laid-whole : {l xs m : List ℕ} {i : ℕ} → Laid l i xs m → m ≡ sets l i xs
laid-whole h = h.is

-- two writes, one right behind the other
pub laid_then : {l xs m ys o : List ℕ} {i k : ℕ} (n : ℕ) → Laid l i xs m → length xs ≡ n → k ≡ i + n → Laid m k ys o → Laid l i (xs ++ ys) o
laid_then {l} {xs} {m} {ys} {o} {i} n first long at next =
    record {
      is =
          next.is
          ∙ ap₂ (λ (q : List ℕ) (j : ℕ). sets q j ys) first.is (at ∙ ap (λ (j : ℕ). i + j) (sym long))
          ∙ sym (sets-append xs ys l i);
    }

-- ---- rows

pub rows_next : (n : ℕ) (f : ℕ → List ℕ) → rows_below (n + 1) f ≡ rows_below n f ++ f n
unfolding rows_below
rows_next n f = ap (λ (m : ℕ). rows_below m f) (add-one n)

-- rows of w bytes each
pub length-rows : (w : ℕ) (f : ℕ → List ℕ) → ((k : ℕ) → length (f k) ≡ w) → (n : ℕ) → length (rows_below n f) ≡ w * n
unfolding rows_below
length-rows w f h zero = omega arith
length-rows w f h (suc n) = length-append (rows_below n f) (f n) ∙ ap₂ ◌+◌ (length-rows w f h n) (h n) ∙ omega arith

-- a loop that writes rows: nothing yet, and one row more
pub rows_start : (f : ℕ → List ℕ) (i : ℕ) (l : List ℕ) → Laid l i (rows_below 0 f) l
unfolding rows_below
rows_start f i l = record { is = refl }

pub rows-turn :
    (w : ℕ) (f : ℕ → List ℕ) → ((k : ℕ) → length (f k) ≡ w) → (i n : ℕ) {k : ℕ} {l m o : List ℕ} →
    Laid l i (rows_below n f) m → k ≡ i + w * n → Laid m k (f n) o → Laid l i (rows_below (n + 1) f) o
rows-turn w f h i n done at next =
    laid_as (sym (rows_next n f)) (laid_then (w * n) done (length-rows w f h n) at next)

pub rows_end : (f : ℕ → List ℕ) {i n : ℕ} {l o : List ℕ} (m : ℕ) → n ≡ m → Laid l i (rows_below n f) o → Laid l i (rows_below m f) o
rows_end f m e h = laid_as (ap (λ (k : ℕ). rows_below k f) e) h
