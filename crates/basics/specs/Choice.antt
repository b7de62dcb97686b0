-- A choice by a test, a choice by whether something is there, and two tests at once. They stay shut: a proof goes by the laws of proofs/Choices, or unfolds them by name.
-- Assumes nothing.
use Rattle.std.specs.Prelude.{Bool, true, false, Option, Some, None}

unfoldable pub ite {ℓ} : {A : Type ℓ} → Bool → A → A → A
ite true x y = x
ite false x y = y

unfoldable pub both : Bool → Bool → Bool
both true b = b
both false b = false

-- what f makes of what is there, and x where nothing is
unfoldable pub some_or {ℓ} : {A : Type ℓ} {B : Type 0} → Option B → (B → A) → A → A
some_or None f x = x
some_or (Some b) f x = f b
