use mathlib.Core.Path.{◌≡◌, refl}
use native.Mathlib.Omega.{arith}
use Rattle.basics.{proofs.Below.count_next, specs.Below.count_below}
use Rattle.tables.proofs.enough.Goals as goal

pub loop-m-init : goal.loop-m-init
unfolding count_below
loop-m-init c = (omega arith, refl)

pub loop-m-preserved : goal.loop-m-preserved
loop-m-preserved c = (omega arith, simp (count_next, c.one_if-count.ensures.0, c.loop-m.invariant.1))

pub returns : goal.returns
returns c = let e : c.loop-m.m-index ≡ 7 = omega arith in simp (c.from.ensures, c.saturating_sub.ensures, c.loop-m.invariant.1, e)
