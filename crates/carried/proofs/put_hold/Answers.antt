use Prim.Native.Nat.{ℕ}
use mathlib.Core.{List.{[], ◌∷◌}, Path.{refl, ap}}
use Rattle.carried.proofs.{Past.laid-within, Rows.{laid-byte, laid_then, laid_as}}
use Rattle.carried.specs.Panels.{hold_bytes}
use Rattle.carried.proofs.put_hold.Goals as goal

pub returns : goal.returns
unfolding hold_bytes
returns c = laid-within c.args.at c.min-at.ensures (laid_then 1 (laid_as (ap (λ (b : ℕ). b ∷ []) c.byte_if.ensures) (laid-byte c.put_byte.ensures)) refl refl (record { is = c.put_word.ensures }))
