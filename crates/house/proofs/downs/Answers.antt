use mathlib.Core.Path.{◌≡◌, refl}
use native.Mathlib.Omega.{arith}
use Rattle.basics.{proofs.Below.count_next, specs.Below.count_below}
use Rattle.house.specs.NetForm.{downs_in}
use Rattle.house.proofs.downs.Goals as goal

pub loop-d-init : goal.loop-d-init
unfolding count_below
loop-d-init c = (omega arith, refl)

pub loop-d-preserved : goal.loop-d-preserved
loop-d-preserved c = (omega arith, simp (count_next, c.one_if-count.ensures.0, c.loop-d.invariant.1))

pub returns : goal.returns
unfolding downs_in
returns c = let e : c.loop-d.d-index ≡ 7 = omega arith in (simp (c.loop-d.invariant.1, e), omega arith)
