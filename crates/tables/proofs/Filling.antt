-- Filling a list from the front, an entry a turn, as the loops that make tables do.
-- Assumes nothing.
use mathlib.Core.{Bool.{Bool, true, false}, List.{List, [], ◌∷◌, ◌++◌}, Path.{◌≡◌, refl, sym, ap, ◌∙◌}}
use Prim.Native.Nat.{ℕ, suc, ◌+◌, ◌-◌, ◌≤◌, ◌<◌}
use native.Mathlib.{Numerals.add-one, Omega.arith}
use lib.Dec.{ltb}
use lib.ListN.{length, get_or, drop, set, replicate, length-append, length-drop, length-replicate, get_or-replicate, get_or-append}
use lib.Seq.{drop-cons, append_snoc, set_at, get_or-append-add, get_or-drop, ext_get_or}
use borrow.Author.Tests.{ltb-true, ltb-false}
use Rattle.basics.{proofs.Below.{length-list_below, get_or-list_below, list_below-next}, specs.Below.list_below}

module _ {A : Type 0} (f : ℕ → A) where
  pub filled_none : (z : List A) → z ≡ list_below 0 f ++ drop 0 z
  unfolding list_below
  filled_none z = refl

  pub filled_next : (d : A) (k : ℕ) (z : List A) → k < length z → set (list_below k f ++ drop k z) k (f k) ≡ list_below (k + 1) f ++ drop (k + 1) z
  filled_next d k z h =
      ap (λ (l : List A). set (list_below k f ++ l) k (f k)) (drop-cons z k d h)
      ∙ set_at (list_below k f) (get_or z k d) (drop (suc k) z) (f k) k (length-list_below k f)
      ∙ sym (append_snoc (list_below k f) (f k) (drop (suc k) z))
      ∙ sym (ap (λ (l : List A). l ++ drop (k + 1) z) (list_below-next k f) ∙ ap (λ (m : ℕ). (list_below k f ++ (f k ∷ [])) ++ drop m z) (add-one k))

  -- what is filled in no more is z already
  pub filled-rest : (z : A) (n m : ℕ) → m ≤ n → ((k : ℕ) → m ≤ k → k < n → f k ≡ z) → list_below m f ++ drop m (replicate n z) ≡ list_below n f
  filled-rest z n m h rest =
      ext_get_or z _ _ (long ∙ sym (length-list_below n f)) (λ i l. at i (omega (arith, l, long)) (ltb i m) refl)
    where
      behind : List A
      behind = drop m (replicate n z)

      long : length (list_below m f ++ behind) ≡ n
      long = simp (length-append, length-list_below, length-drop, length-replicate) (omega arith)

      at : (i : ℕ) → i < n → (b : Bool) → ltb i m ≡ b → get_or (list_below m f ++ behind) i z ≡ get_or (list_below n f) i z
      at i l true e =
          let lower : i < m = ltb-true _ _ e in
          get_or-append (list_below m f) behind z i (omega (arith, length-list_below m f)) ∙ get_or-list_below m f i z lower ∙ sym (get_or-list_below n f i z l)
      at i l false e =
          let upper : m ≤ i = ltb-false _ _ e in
          let same : i ≡ length (list_below m f) + (i - m) = omega (arith, length-list_below m f) in
          ap (λ (j : ℕ). get_or (list_below m f ++ behind) j z) same
          ∙ get_or-append-add (list_below m f) behind (i - m) z
          ∙ get_or-drop m (replicate n z) (i - m) z
          ∙ get_or-replicate n (m + (i - m)) z z (omega arith)
          ∙ sym (get_or-list_below n f i z l ∙ rest i upper l)
