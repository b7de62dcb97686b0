-- The laws of a choice by kind: what it is at each kind, and that what holds of all five outcomes holds of it.
-- Assumes nothing.
use mathlib.Core.{Logic.◌≢◌, Path.{◌≡◌, refl, sym, ◌∙◌}}
use Prim.Native.Nat.{ℕ, ◌<◌}
use native.Mathlib.Omega.{arith}
use lib.Dec.{eqb}
use borrow.Author.Tests.{eqb-true, eqb-false, ne_eqb}
use Rattle.basics.{proofs.Choices.ite-case, specs.Choice.ite, specs.Kinds.{byte_of, kind_of}}
use Rattle.basics.proofs.KindBytes as bytes
use Rattle.basics.specs.declared.{kinds.Kind.{Kind, TheVariants.{Write0, Write1, Read, Proceed}}, refused.Refusal.Refusal}
use Rattle.std.specs.Prelude.{Result, Ok, Err}
use Rattle.channels.specs.Channels.{by_kind}

pub at-write0 {ℓ} : {A : Type ℓ} {k : ℕ} (a b c d e : A) → k ≡ 0 → by_kind k a b c d e ≡ a
unfolding by_kind ite
at-write0 a b c d e h = rw h

pub at-write1 {ℓ} : {A : Type ℓ} {k : ℕ} (a b c d e : A) → k ≡ 1 → by_kind k a b c d e ≡ b
unfolding by_kind ite
at-write1 a b c d e h = rw h

pub at_read {ℓ} : {A : Type ℓ} {k : ℕ} (a b c d e : A) → k ≡ 2 → by_kind k a b c d e ≡ c
unfolding by_kind ite
at_read a b c d e h = rw h

pub at-proceed {ℓ} : {A : Type ℓ} {k : ℕ} (a b c d e : A) → k ≡ 3 → by_kind k a b c d e ≡ d
unfolding by_kind ite
at-proceed a b c d e h = rw h

pub at_other {ℓ} : {A : Type ℓ} {k : ℕ} (a b c d e : A) → 3 < k → by_kind k a b c d e ≡ e
unfolding by_kind ite
at_other {k = k} a b c d e h = simp (ne_eqb k 0 (omega arith), ne_eqb k 1 (omega arith), ne_eqb k 2 (omega arith), ne_eqb k 3 (omega arith))

-- the outcome at a kind, or at a byte that is none
abbrev pub pick {ℓ} : {A : Type ℓ} → Result Kind Refusal → A → A → A → A → A → A
pick (Ok Write0) a b c d e = a
pick (Ok Write1) a b c d e = b
pick (Ok Read) a b c d e = c
pick (Ok Proceed) a b c d e = d
pick (Err x) a b c d e = e

-- a choice by a byte is a choice by its kind, as the code makes it
pub by_kind-pick {ℓ} : {A : Type ℓ} (k : ℕ) (a b c d e : A) → by_kind k a b c d e ≡ pick (kind_of k) a b c d e
by_kind-pick k a b c d e = bytes.kind-case (λ j r. by_kind j a b c d e ≡ pick r a b c d e) known (λ j h. at_other a b c d e h) k
  where
    known : (r : Kind) → by_kind (byte_of r) a b c d e ≡ pick (Ok r) a b c d e
    known Write0 = at-write0 a b c d e refl
    known Write1 = at-write1 a b c d e refl
    known Read = at_read a b c d e refl
    known Proceed = at-proceed a b c d e refl

pub not_at : {m k j : ℕ} → m ≢ k → k ≡ j → m ≢ j
not_at d e f = d (f ∙ sym e)

-- of another kind, what stands for this one does not matter
pub but-write0 {ℓ} : {A : Type ℓ} {k : ℕ} (a a' b c d e : A) → k ≢ 0 → by_kind k a b c d e ≡ by_kind k a' b c d e
unfolding by_kind ite
but-write0 {k = k} a a' b c d e h = simp (ne_eqb k 0 h)

pub but-write1 {ℓ} : {A : Type ℓ} {k : ℕ} (a b b' c d e : A) → k ≢ 1 → by_kind k a b c d e ≡ by_kind k a b' c d e
unfolding by_kind ite
but-write1 {k = k} a b b' c d e h = simp (ne_eqb k 1 h)

pub but-read {ℓ} : {A : Type ℓ} {k : ℕ} (a b c c' d e : A) → k ≢ 2 → by_kind k a b c d e ≡ by_kind k a b c' d e
unfolding by_kind ite
but-read {k = k} a b c c' d e h = simp (ne_eqb k 2 h)

pub but-proceed {ℓ} : {A : Type ℓ} {k : ℕ} (a b c d d' e : A) → k ≢ 3 → by_kind k a b c d e ≡ by_kind k a b c d' e
unfolding by_kind ite
but-proceed {k = k} a b c d d' e h = simp (ne_eqb k 3 h)

-- what holds of all five outcomes, each at its kind, holds of the choice
pub kind-case {ℓ κ} :
    {A : Type ℓ} (P : A → Type κ) (k : ℕ) {a b c d e : A} →
    (k ≡ 0 → P a) → (k ≡ 1 → P b) → (k ≡ 2 → P c) → (k ≡ 3 → P d) → (3 < k → P e) → P (by_kind k a b c d e)
unfolding by_kind
kind-case P k f g h i j =
    ite-case P (eqb k 0) _ _ (λ p. f (eqb-true _ _ p)) λ p.
    ite-case P (eqb k 1) _ _ (λ q. g (eqb-true _ _ q)) λ q.
    ite-case P (eqb k 2) _ _ (λ r. h (eqb-true _ _ r)) λ r.
    ite-case P (eqb k 3) _ _ (λ s. i (eqb-true _ _ s)) λ s. j (past (eqb-false _ _ p) (eqb-false _ _ q) (eqb-false _ _ r) (eqb-false _ _ s))
  where
    past : (k ≡ 0 → ⊥) → (k ≡ 1 → ⊥) → (k ≡ 2 → ⊥) → (k ≡ 3 → ⊥) → 3 < k
    past a b c d = omega arith
