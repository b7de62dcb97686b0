-- Past the end of the bytes every place is like the end itself.
-- Assumes nothing.
use mathlib.Core.{List.List, Path.{◌≡◌, ap, ◌∙◌}}
use Prim.Native.Nat.{ℕ, ◌+◌}
use native.Mathlib.{Omega.arith}
use Rattle.std.specs.Prelude.{min}
use lib.{ListN.{length, get_or-eq_default}, Seq.sets}
use Rattle.basics.proofs.Lists.{sets-past}
use Rattle.codec.proofs.Words.{number_at-past, within}
use Rattle.tables.specs.Places.{no_hold}
use Rattle.carried.specs.{Laid.Laid, Panels.hold_from}

pub hold-within : (s : List ℕ) (at : ℕ) → hold_from s (min at (length s)) ≡ hold_from s at
unfolding hold_from
hold-within s at =
    within (hold_from s) no_hold (length s) at (λ i h. simp (get_or-eq_default s 0 h, number_at-past 4 s (i + 1) (omega arith)))

pub laid-within : {l xs m : List ℕ} {i : ℕ} (at : ℕ) → i ≡ min at (length l) → Laid l i xs m → Laid l at xs m
laid-within {l} {xs} at e h =
    record { is = h.is ∙ ap (λ (k : ℕ). sets l k xs) e ∙ within (λ (k : ℕ). sets l k xs) l (length l) at (λ k p. sets-past l k xs p) }
