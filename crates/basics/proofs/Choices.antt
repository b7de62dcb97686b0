-- The laws of a choice and of two tests at once.
-- Assumes nothing.
use mathlib.Core.{Bool.{Bool, true, false}, Path.{◌≡◌, refl, sym, subst, ◌∙◌}}
use Rattle.std.specs.Prelude.{Option, Some, None}
use Rattle.basics.specs.Choice.{ite, both, some_or}

pub ite-true {ℓ} : {A : Type ℓ} {b : Bool} (x y : A) → b ≡ true → ite b x y ≡ x
unfolding ite
ite-true x y h = rw h

pub ite-false {ℓ} : {A : Type ℓ} {b : Bool} (x y : A) → b ≡ false → ite b x y ≡ y
unfolding ite
ite-false x y h = rw h

-- what holds of both outcomes, each where its test came out so, holds of the choice
pub ite-case {ℓ κ} : {A : Type ℓ} (P : A → Type κ) (b : Bool) (x y : A) → (b ≡ true → P x) → (b ≡ false → P y) → P (ite b x y)
unfolding ite
ite-case P true x y f g = f refl
ite-case P false x y f g = g refl

-- two choices by one test: what holds of their first outcomes and of their second ones, each where the test came out so, holds of them
pub ite-two {ℓ κ μ} :
    {A : Type ℓ} {B : Type κ} (R : A → B → Type μ) (b : Bool) (x y : A) (u v : B) → (b ≡ true → R x u) → (b ≡ false → R y v) → R (ite b x y) (ite b u v)
unfolding ite
ite-two R true x y u v f g = f refl
ite-two R false x y u v f g = g refl

-- no test comes out both ways
pub clash : {A : Type 0} {b : Bool} → b ≡ false → b ≡ true → A
clash {A} {b} f t = absurd (subst (λ (c : Bool). tell c) (sym f ∙ t) tt)
  where
    tell : Bool → Type 0
    tell true = ⊥
    tell false = Unit {0}

-- what does not come out true comes out false
pub not_so : {b : Bool} → (b ≡ true → ⊥) → b ≡ false
not_so {b = true} h = absurd (h refl)
not_so {b = false} h = refl

pub both_left : (a b : Bool) → both a b ≡ true → a ≡ true
unfolding both
both_left true b h = refl
both_left false b h = h

pub both_right : (a b : Bool) → both a b ≡ true → b ≡ true
unfolding both
both_right true b h = h
both_right false b h = clash refl h

pub both_true : {a b : Bool} → a ≡ true → b ≡ true → both a b ≡ true
unfolding both
both_true ha hb = rw (ha, hb)

pub both-false-left : {a : Bool} (b : Bool) → a ≡ false → both a b ≡ false
unfolding both
both-false-left b h = rw h

pub both-false-right : (a : Bool) {b : Bool} → b ≡ false → both a b ≡ false
unfolding both
both-false-right true h = h
both-false-right false h = refl

pub some_or-none {ℓ} : {A : Type ℓ} {B : Type 0} {o : Option B} (f : B → A) (x : A) → o ≡ None → some_or o f x ≡ x
unfolding some_or
some_or-none f x h = rw h

pub some_or-some {ℓ} : {A : Type ℓ} {B : Type 0} {o : Option B} {b : B} (f : B → A) (x : A) → o ≡ Some b → some_or o f x ≡ f b
unfolding some_or
some_or-some f x h = rw h
