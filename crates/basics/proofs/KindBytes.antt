-- The laws of kinds and their bytes: each byte has one kind or none, and each kind gives its byte back.
-- Assumes nothing.
use mathlib.Core.{Path.{◌≡◌, refl, sym, subst, ◌∙◌}}
use Prim.Native.Nat.{ℕ, ◌<◌}
use native.Mathlib.{Decide.ℕ_discrete, Omega.arith}
use Rattle.std.specs.Prelude.{Result, Ok, Err}
use borrow.Author.Tests.{ne_eqb}
use Rattle.basics.specs.{Choice.ite, Kinds.{byte_of, kind_of}}
use Rattle.basics.specs.declared.refused.Refusal.{Refusal, TheVariants.UnknownKind}
use Rattle.basics.specs.declared.kinds.Kind.{Kind, TheVariants.{Write0, Write1, Read, Proceed}}
use Rattle.basics.proofs.Choices.{ite-false}

pub kind-back : (k : Kind) → kind_of (byte_of k) ≡ Ok k
unfolding kind_of ite
kind-back Write0 = refl
kind-back Write1 = refl
kind-back Read = refl
kind-back Proceed = refl

pub kind-is : {b : ℕ} (k : Kind) → b ≡ byte_of k → kind_of b ≡ Ok k
kind-is k e = subst (λ (x : ℕ). kind_of x ≡ Ok k) (sym e) (kind-back k)

pub kind-other : (b : ℕ) → 3 < b → kind_of b ≡ Err UnknownKind
unfolding kind_of
kind-other b l =
    ite-false _ _ (ne_eqb b 0 (λ e. omega (arith, e, l))) ∙ ite-false _ _ (ne_eqb b 1 (λ e. omega (arith, e, l)))
    ∙ ite-false _ _ (ne_eqb b 2 (λ e. omega (arith, e, l))) ∙ ite-false _ _ (ne_eqb b 3 (λ e. omega (arith, e, l)))

-- what holds of each kind, and of every other byte, holds of each byte
pub kind-case {κ} : (P : ℕ → Result Kind Refusal → Type κ) → ((k : Kind) → P (byte_of k) (Ok k)) → ((b : ℕ) → 3 < b → P b (Err UnknownKind)) → (b : ℕ) → P b (kind_of b)
kind-case P known other b = by (ℕ_discrete b 0) (ℕ_discrete b 1) (ℕ_discrete b 2) (ℕ_discrete b 3)
  where
    one : (k : Kind) → b ≡ byte_of k → P b (kind_of b)
    one k e = subst (λ (x : ℕ). P x (kind_of x)) (sym e) (subst (P (byte_of k)) (sym (kind-back k)) (known k))

    by : Dec (b ≡ 0) → Dec (b ≡ 1) → Dec (b ≡ 2) → Dec (b ≡ 3) → P b (kind_of b)
    by (yes e) d2 d3 d4 = one Write0 e
    by (no n) (yes e) d3 d4 = one Write1 e
    by (no n) (no m) (yes e) d4 = one Read e
    by (no n) (no m) (no l) (yes e) = one Proceed e
    by (no n) (no m) (no l) (no k) =
        let low : 3 < b = omega (arith, n, m, l, k) in subst (P b) (sym (kind-other b low)) (other b low)
