-- The laws of marks at the seven places, after cases by computation.
-- Assumes nothing.
use mathlib.Core.{Bool.{Bool, true, false}, List.{List, [], ◌∷◌, map}, Path.{◌≡◌, refl, sym, ap, ◌∙◌}}
use Prim.Native.Nat.{ℕ, ◌-◌, ◌≤◌, ◌<◌}
use native.Mathlib.Omega.{arith}
use lib.{Dec.{leb, ltb, eqb}, ListN.{length, get_or, set, replicate, length-set, get_or-replicate}}
use lib.Seq.{ext_get_or, set_out, get_or-set_same, get_or-set_other}
use borrow.Author.Tests.{lt-ltb, le-ltb, eqb-true, eqb-false}
use Rattle.basics.proofs.{Below.{length-list_below, get_or-list_below, count-alike}, Choices.both-false-left}
use Rattle.basics.specs.{Below.{one_if, count_below, list_below}, Choice.both}
use Rattle.tables.specs.{Marks.{has_w, reaches_w, has_r, is_other, among, marks, only_place, enough}, declared.ReadNo.ReadNo}
use Rattle.tables.specs.declared.WriteNo.{WriteNo}

-- five panels, of which two may be down: three are enough, two are not
three-of-five : (enough 5 2 (λ (j : ℕ). ltb j 3) ≡ true) × (enough 5 2 (λ (j : ℕ). ltb j 2) ≡ false)
unfolding enough among count_below one_if both
three-of-five = (refl, refl)

-- panels 1 to 5 are at 3, 2, 3, 4, 0; there are no panels 6 and 7
abbrev ws : List WriteNo
ws = map (λ (x : ℕ). record { 0 = x }) (3 ∷ 2 ∷ 3 ∷ 4 ∷ 0 ∷ 0 ∷ 0 ∷ [])

abbrev rs : List ReadNo
rs = map (λ (y : ℕ). record { 0 = y }) (1 ∷ 0 ∷ 0 ∷ 1 ∷ 0 ∷ 0 ∷ 0 ∷ [])

marked : (marks 5 (has_w ws 3) ≡ true ∷ false ∷ true ∷ false ∷ false ∷ false ∷ false ∷ [])
    × (marks 5 (reaches_w ws 3) ≡ true ∷ false ∷ true ∷ true ∷ false ∷ false ∷ false ∷ [])
    × (marks 5 (has_r rs 0) ≡ false ∷ true ∷ true ∷ false ∷ true ∷ false ∷ false ∷ [])
    × (marks 5 (is_other 2) ≡ true ∷ false ∷ true ∷ true ∷ true ∷ false ∷ false ∷ [])
    × (only_place 2 ≡ false ∷ false ∷ true ∷ false ∷ false ∷ false ∷ false ∷ [])
unfolding marks has_w reaches_w has_r is_other only_place among list_below both
marked = (refl, refl, refl, refl, refl)

module _ (n : ℕ) (f : ℕ → Bool) where
  pub among_below : (j : ℕ) → j < n → among n f j ≡ f j
  unfolding among both
  among_below j h = rw (lt-ltb j n h)

  pub among-past : (j : ℕ) → n ≤ j → among n f j ≡ false
  unfolding among
  among-past j h = both-false-left (f j) (le-ltb j n h)

  pub get_or-marks : (j : ℕ) → j < 7 → get_or (marks n f) j false ≡ among n f j
  unfolding marks
  get_or-marks j h = get_or-list_below 7 (among n f) j false h

-- what the code counts is whether enough pass
pub enough-marked : (n t : ℕ) (f : ℕ → Bool) → leb (n - t) (count_below 7 (λ (j : ℕ). get_or (marks n f) j false)) ≡ enough n t f
unfolding enough
enough-marked n t f = ap (leb (n - t)) (count-alike 7 _ (among n f) (get_or-marks n f))

pub only_at : (k j : ℕ) → j < 7 → get_or (only_place k) j false ≡ eqb j k
unfolding only_place
only_at k j h = get_or-list_below 7 (λ (i : ℕ). eqb i k) j false h

-- setting one place marks it alone
pub only_set : (k : ℕ) → set (replicate 7 false) k true ≡ only_place k
unfolding only_place
only_set k = ext_get_or false _ _ (long ∙ sym (length-list_below 7 (λ (j : ℕ). eqb j k))) (λ i l. at i (omega (arith, l, long)) (eqb i k) refl)
  where
    long : length (set (replicate 7 false) k true) ≡ 7
    long = length-set (replicate 7 false) k true

    at : (i : ℕ) → i < 7 → (b : Bool) → eqb i k ≡ b → get_or (set (replicate 7 false) k true) i false ≡ get_or (only_place k) i false
    at i l true e =
        let same : i ≡ k = eqb-true _ _ e in
        ap (λ (m : ℕ). get_or (set (replicate 7 false) k true) m false) same
        ∙ get_or-set_same (replicate 7 false) k true false (omega (arith, l, same))
        ∙ sym (only_at k i l ∙ e)
    at i l false e =
        get_or-set_other (replicate 7 false) k i true false (eqb-false _ _ e)
        ∙ get_or-replicate 7 i false false l
        ∙ sym (only_at k i l ∙ e)

-- past the seven places nothing is marked
pub only_none : (k : ℕ) → 7 ≤ k → replicate 7 false ≡ only_place k
only_none k h = sym (set_out (replicate 7 false) k true h) ∙ only_set k
