use native.Mathlib.Omega.{arith}
use Rattle.refusals.proofs.Refusing.{peer-place}
use Rattle.refusals.proofs.refused_write_from.Goals as goal

pub overflow_sub-wide : goal.overflow_sub-wide
overflow_sub-wide c = let s = peer-place c.args.p _ _ c.in_ok-refused_peer.ensures in omega (arith, s.0, c.wide.ensures.0)

pub stray-requires : goal.stray-requires
stray-requires c = let s = peer-place c.args.p _ _ c.in_ok-refused_peer.ensures in (s.2, omega (arith, s.0, s.1, c.wide.ensures.0))
