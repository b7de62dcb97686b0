use Prim.Native.Nat.{ℕ}
use lib.{ListN.{length, set}, Seq.set_out}
use mathlib.Core.{Bool.true, Path.{◌≡◌, sym, ap}}
use native.Mathlib.Omega.{arith}
use Rattle.parts.proofs.down_too.Goals as goal

pub returns-then-at-lt7 : goal.returns-then-at-lt7
returns-then-at-lt7 c = ap (λ (k : ℕ). set c.args.down k true) c.place_of-at.ensures

pub returns-else-at-lt7 : goal.returns-else-at-lt7
returns-else-at-lt7 c = let long : length c.args.down ≡ 7 = c.well_formed.0.1.0.1 in
    sym (set_out c.args.down _ true (omega (arith, c.if-at-lt7.false, c.place_of-at.ensures)))
