-- What the code of four-byte numbers needs: a place past the end, and the four bytes one by one.
-- Assumes nothing.
use mathlib.Core.{Bool.{Bool, true, false}, List.{List, [], ◌∷◌}, Path.{◌≡◌, refl, sym, ap, ap₂, ◌∙◌}}
use Prim.Native.Nat.{ℕ, zero, suc, ◌+◌, ◌*◌, ◌^◌, ◌≤◌}
use native.Mathlib.{Nat.{div-one, zero-mul, add-zero}, Numerals.towards_suc, Omega.arith}
use lib.{Dec.ltb, ListN.{length, get_or, get_or-eq_default, take}}
use borrow.Author.Tests.{ltb-true, ltb-false}
use Rattle.std.specs.{Prelude.min, Int.{w32, from_be_bytes, to_be_bytes}}
use Rattle.codec.specs.Numbers.{bytes_of, number_at}

pub number_at-past : (k : ℕ) (s : List ℕ) (at : ℕ) → length s ≤ at → number_at k s at ≡ 0
unfolding number_at
number_at-past zero s at h = refl
number_at-past (suc k) s at h =
    let none : get_or s at 0 ≡ 0 = get_or-eq_default s 0 h in
    let less : number_at k s (suc at) ≡ 0 = number_at-past k s (suc at) (omega arith) in
    ap₂ (λ (b m : ℕ). b * 256 ^ k + m) none less ∙ simp (zero-mul, add-zero)

-- what is the same at every place from n on may be asked at n in place of any of them
pub within : {A : Type 0} (f : ℕ → A) (d : A) (n at : ℕ) → ((i : ℕ) → n ≤ i → f i ≡ d) → f (min at n) ≡ f at
within f d n at past = pick (ltb at n) refl
  where
    pick : (b : Bool) → ltb at n ≡ b → f (min at n) ≡ f at
    pick true e = let h = ltb-true _ _ e in ap f (omega arith)
    pick false e = let h = ltb-false _ _ e in past (min at n) (omega arith) ∙ sym (past at h)

pub word-within : (s : List ℕ) (at : ℕ) → number_at 4 s (min at (length s)) ≡ number_at 4 s at
word-within s at = within (number_at 4 s) 0 (length s) at (number_at-past 4 s)

pub word-read :
    (s : List ℕ) (at : ℕ) →
    from_be_bytes w32 (get_or s at 0 ∷ get_or s (at + 1) 0 ∷ get_or s (at + 2) 0 ∷ get_or s (at + 3) 0 ∷ []) ≡ number_at 4 s at
unfolding number_at
word-read s at = simp towards_suc (omega arith)

pub word-written : (v : ℕ) {k : ℕ} {xs : List ℕ} → xs ≡ to_be_bytes w32 v → k ≡ 4 → take k xs ≡ bytes_of 4 v
unfolding bytes_of
word-written v e f = ap₂ take f e ∙ simp div-one
