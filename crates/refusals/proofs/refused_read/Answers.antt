use native.Mathlib.Omega.{arith}
use Rattle.refusals.proofs.Refusing.{first-sized}
use Rattle.refusals.proofs.refused_read.Goals as goal

pub overflow_sub-i : goal.overflow_sub-i
overflow_sub-i c = let s = first-sized c.args.p _ c.in_ok-refused_first.ensures in omega (arith, s.low, c.wide-i.ensures.0)

pub bounds-p-i : goal.bounds-p-i
bounds-p-i c = let s = first-sized c.args.p _ c.in_ok-refused_first.ensures in omega (arith, s.low, s.high, c.wide-i.ensures.0)
