-- A test counted as 1 or 0.
-- Assumes nothing.
use mathlib.Core.{Bool.{Bool, true, false}, Logic.{◌≢◌, ◌⊎◌, inl, inr}, Path.{◌≡◌, refl, ap, ◌∙◌}}
use Prim.Native.Nat.{ℕ, ◌≤◌}
use native.Mathlib.Omega.{arith}
use lib.Dec.{eqb}
use borrow.Author.Tests.{eq-eqb, ne_eqb}
use mir.Val.{bool_byte}
use Rattle.basics.specs.Below.{one_if}

pub one : one_if true ≡ 1
unfolding one_if
one = refl

pub nought : one_if false ≡ 0
unfolding one_if
nought = refl

pub one-most : (b : Bool) → one_if b ≤ 1
one-most true = omega (arith, one)
one-most false = omega (arith, nought)

pub one-true : (b : Bool) → one_if b ≡ 1 → b ≡ true
one-true true e = refl
one-true false e = absurd (omega (arith, nought))

pub one-false : (b : Bool) → one_if b ≡ 0 → b ≡ false
one-false true e = absurd (omega (arith, one))
one-false false e = refl

pub nought-or-one : (b : Bool) → (one_if b ≡ 0) ⊎ (one_if b ≡ 1)
nought-or-one true = inr one
nought-or-one false = inl nought

-- two numbers, the same or not
pub one_same : {m k : ℕ} → m ≡ k → one_if (eqb m k) ≡ 1
one_same e = ap one_if (eq-eqb _ _ e) ∙ one

pub nought-apart : {m k : ℕ} → m ≢ k → one_if (eqb m k) ≡ 0
nought-apart d = ap one_if (ne_eqb _ _ d) ∙ nought

-- a test as a number, as std makes it
pub byte-is : (b : Bool) → bool_byte b ≡ one_if b
unfolding one_if
byte-is true = refl
byte-is false = refl
