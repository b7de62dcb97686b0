use native.Mathlib.Omega.{arith}
use Rattle.refusals.proofs.Refusing.{peer-place}
use Rattle.refusals.proofs.refused_read_from.Goals as goal

pub overflow_sub-i : goal.overflow_sub-i
overflow_sub-i c = let s = peer-place c.args.p _ _ c.in_ok-refused_peer.ensures in omega (arith, s.2.low, c.wide-i.ensures.0)

pub overflow_sub-k : goal.overflow_sub-k
overflow_sub-k c = let s = peer-place c.args.p _ _ c.in_ok-refused_peer.ensures in omega (arith, s.0, c.wide-k.ensures.0)

pub bounds-p-k : goal.bounds-p-k
bounds-p-k c = let s = peer-place c.args.p _ _ c.in_ok-refused_peer.ensures in omega (arith, s.0, s.1, c.wide-k.ensures.0)

pub bounds-p-i : goal.bounds-p-i
bounds-p-i c = let s = peer-place c.args.p _ _ c.in_ok-refused_peer.ensures in omega (arith, s.2.low, s.2.high, c.wide-i.ensures.0)

pub bounds-p-k-2 : goal.bounds-p-k-2
bounds-p-k-2 c = let s = peer-place c.args.p _ _ c.in_ok-refused_peer.ensures in omega (arith, s.0, s.1, c.wide-k.ensures.0)
