-- In every step but a delivery the sender's channels are those of the panel that acts.
-- Assumes nothing.
use mathlib.Core.{Logic.{◌⊎◌, inl, inr}, Path.{◌≡◌, refl, sym, subst}}
use Prim.Native.Nat.{ℕ}
use Rattle.parts.specs.{Acting.{actor_of, sender_of}, declared.Step.Step, declared.Step.TheVariants.{Write, Read, Lose, Rest}}

abbrev pub OtherStep : Step → Type 0
OtherStep m = ((v : ℕ) × (m ≡ Write v)) ⊎ (((i : ℕ) × (m ≡ Read i)) ⊎ (((i : ℕ) × (m ≡ Lose i)) ⊎ ((i : ℕ) × (m ≡ Rest i))))

pub sender-acts : (m : Step) (w : ℕ) → OtherStep m → actor_of m w ≡ sender_of m w
unfolding actor_of sender_of
sender-acts m w (inl (v, e)) = subst (λ (x : Step). actor_of x w ≡ sender_of x w) (sym e) refl
sender-acts m w (inr (inl (i, e))) = subst (λ (x : Step). actor_of x w ≡ sender_of x w) (sym e) refl
sender-acts m w (inr (inr (inl (i, e)))) = subst (λ (x : Step). actor_of x w ≡ sender_of x w) (sym e) refl
sender-acts m w (inr (inr (inr (i, e)))) = subst (λ (x : Step). actor_of x w ≡ sender_of x w) (sym e) refl
