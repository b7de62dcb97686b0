-- The numbers of a body and the fields of a record, each way: a law over the place for the numbers of one byte, and one for
-- the value behind them.
-- Assumes nothing.
use mathlib.Core.{Bool.{Bool, true, false}, List.{List, [], ◌∷◌, ◌++◌}, Path.{◌≡◌, refl, sym, ap, ap₂, subst, ◌∙◌}}
use Prim.Native.Nat.{ℕ, zero, suc, ◌^◌, ◌≤◌, ◌<◌}
use native.Mathlib.{Nat.{not-suc-le-zero, le_of_suc-le-suc}, Omega.arith}
use lib.{Dec.{ltb, eqb, lit<}, ListN.{length, get_or, take, replicate, length-replicate, get_or-replicate, get_or-append}}
use lib.Seq.{length-take-le, get_or-take, get_or_at, ext_get_or}
use borrow.Author.Tests.{lt-ltb, ltb-true, eqb-true}
use Rattle.basics.{proofs.Choices.{ite-true, ite-case}, specs.Choice.ite}
use Rattle.codec.specs.{Items.Fits, Numbers.Bytes}
use Rattle.schedule.specs.Records.{row, single, value_behind, clear}

-- ---- what was put into a body is there

module _ (m : ℕ) (l : List ℕ) (long : m ≤ length l) where
  pub single-kept : (tail : List ℕ) (j : ℕ) → clear (ltb j m) (get_or l j 0) ≡ true → single m (take m l ++ tail) j ≡ get_or l j 0
  unfolding single clear ite
  single-kept tail j h = by (ltb j m) refl h
    where
      by : (has : Bool) → ltb j m ≡ has → ite has true (eqb (get_or l j 0) 0) ≡ true → ite has (get_or (take m l ++ tail) j 0) 0 ≡ get_or l j 0
      by true e z =
          let here : j < m = ltb-true _ _ e in
          get_or-append (take m l) tail 0 j (omega (arith, length-take-le m l long)) ∙ get_or-take m l j 0 here
      by false e z = sym (eqb-true _ _ z)

  pub value-kept : (valued : Bool) (v : ℕ) → clear valued v ≡ true → value_behind valued m (take m l ++ ite valued (v ∷ []) []) ≡ v
  unfolding value_behind clear ite
  value-kept true v h = get_or_at (take m l) v [] 0 m (length-take-le m l long)
  value-kept false v h = sym (eqb-true _ _ h)

pub row_fits :
    (m : ℕ) (valued : Bool) (l : List ℕ) (v : ℕ) → m ≤ length l → Bytes l → v < 2 ^ 32 →
    Fits (row m valued) (take m l ++ ite valued (v ∷ []) [])
unfolding row Fits Bytes ite
row_fits zero true l v long h w = (w, tt)
row_fits zero false l v long h w = tt
row_fits (suc m) valued [] v long h w = absurd (not-suc-le-zero long)
row_fits (suc m) valued (x ∷ l) v long h w = (h.0, row_fits m valued l v (le_of_suc-le-suc long) h.1 w)

-- ---- what is in a body, and in nothing else

pub single-clear : (m j : ℕ) (xs : List ℕ) → clear (ltb j m) (single m xs j) ≡ true
unfolding single clear ite
single-clear m j xs = by (ltb j m)
  where
    by : (has : Bool) → ite has true (eqb (ite has (get_or xs j 0) 0) 0) ≡ true
    by true = refl
    by false = refl

pub value-clear : (valued : Bool) (m : ℕ) (xs : List ℕ) → clear valued (value_behind valued m xs) ≡ true
unfolding value_behind clear ite
value-clear true m xs = refl
value-clear false m xs = refl

fits-at : (ks xs : List ℕ) → Fits ks xs → (j : ℕ) → get_or xs j 0 < 256 ^ get_or ks j 0
unfolding Fits
fits-at [] [] h j = lit< tt
fits-at [] (x ∷ xs) h j = absurd h
fits-at (k ∷ ks) [] h j = absurd h
fits-at (k ∷ ks) (x ∷ xs) h zero = h.0
fits-at (k ∷ ks) (x ∷ xs) h (suc j) = fits-at ks xs h.1 j

pub single-fits : (m : ℕ) (valued : Bool) (xs : List ℕ) → Fits (row m valued) xs → (j : ℕ) → single m xs j < 256
unfolding single row
single-fits m valued xs h j =
    ite-case (λ (x : ℕ). x < 256) (ltb j m) (get_or xs j 0) 0
    (λ t. subst (λ (k : ℕ). get_or xs j 0 < 256 ^ k) (width (ltb-true _ _ t)) (fits-at _ xs h j))
    (λ _. lit< tt)
  where
    width : j < m → ◌≡◌ {A = ℕ} (get_or (replicate m 1 ++ ite valued (4 ∷ []) []) j 0) 1
    width i = get_or-append (replicate m 1) _ 0 j (omega (arith, length-replicate {A = ℕ} m 1)) ∙ get_or-replicate m j 1 0 i

pub value-fits : (m : ℕ) (valued : Bool) (xs : List ℕ) → Fits (row m valued) xs → value_behind valued m xs < 2 ^ 32
unfolding value_behind row ite
value-fits m true xs h = subst (λ (k : ℕ). get_or xs m 0 < 256 ^ k) (get_or_at (replicate m 1) 4 [] 0 m (length-replicate m 1)) (fits-at _ xs h m)
value-fits m false xs h = lit< tt

record Split (m : ℕ) (valued : Bool) (xs : List ℕ) : Type 0 where
  long : m ≤ length xs
  whole : take m xs ++ ite valued (get_or xs m 0 ∷ []) [] ≡ xs

split : (m : ℕ) (valued : Bool) (xs : List ℕ) → Fits (row m valued) xs → Split m valued xs
unfolding row Fits ite
split zero true [] h = absurd h
split zero true (x ∷ []) h = record { long = omega arith; whole = refl }
split zero true (x ∷ y ∷ ys) h = absurd h.1
split zero false [] h = record { long = omega arith; whole = refl }
split zero false (x ∷ xs) h = absurd h
split (suc m) valued [] h = absurd h
split (suc m) valued (x ∷ xs) h =
    let s : Split m valued xs = split m valued xs h.1 in
    record { long = omega (arith, s.long); whole = ap (λ (l : List ℕ). x ∷ l) s.whole }

singles-of : (m : ℕ) (xs : List ℕ) → m ≤ 3 → m ≤ length xs → take m (single m xs 0 ∷ single m xs 1 ∷ single m xs 2 ∷ []) ≡ take m xs
unfolding single
singles-of m xs few long =
    ext_get_or 0 _ _ (have ∙ sym (length-take-le m xs long))
    (λ i h. let here : i < m = omega (arith, have, h) in get_or-take m _ i 0 here ∙ at i here ∙ sym (get_or-take m xs i 0 here))
  where
    three : List ℕ
    three = single m xs 0 ∷ single m xs 1 ∷ single m xs 2 ∷ []

    have : length (take m three) ≡ m
    have = length-take-le m three few

    at : (i : ℕ) → i < m → get_or three i 0 ≡ get_or xs i 0
    at zero h = ite-true _ _ (lt-ltb _ _ h)
    at (suc zero) h = ite-true _ _ (lt-ltb _ _ h)
    at (suc (suc zero)) h = ite-true _ _ (lt-ltb _ _ h)
    at (suc (suc (suc i))) h = absurd (omega arith)

-- a body of the format is the numbers of its fields
pub row-whole :
    (m : ℕ) (valued : Bool) (xs : List ℕ) → m ≤ 3 → Fits (row m valued) xs →
    take m (single m xs 0 ∷ single m xs 1 ∷ single m xs 2 ∷ []) ++ ite valued (value_behind valued m xs ∷ []) [] ≡ xs
unfolding value_behind ite
row-whole m valued xs few h =
    let s : Split m valued xs = split m valued xs h in
    ap₂ ◌++◌ (singles-of m xs few s.long) (same valued) ∙ s.whole
  where
    same : (valued : Bool) → ite valued (ite valued (get_or xs m 0) 0 ∷ []) [] ≡ ite valued (get_or xs m 0 ∷ []) []
    same true = refl
    same false = refl
