use native.Mathlib.Omega.{arith}
use mathlib.Core.Path.{sym}
use Rattle.basics.specs.declared.kinds.Kind.TheVariants.{Write0, Write1, Read, Proceed}
use Rattle.basics.proofs.KindBytes.{kind-is, kind-other}
use Rattle.basics.proofs.kinds.KindTryFromU8.try_from.Goals as goal

pub returns-in-0 : goal.returns-in-0
returns-in-0 c = sym (kind-is Write0 c.in-0.is)

pub returns-in-1 : goal.returns-in-1
returns-in-1 c = sym (kind-is Write1 c.in-1.is)

pub returns-in-2 : goal.returns-in-2
returns-in-2 c = sym (kind-is Read c.in-2.is)

pub returns-in-3 : goal.returns-in-3
returns-in-3 c = sym (kind-is Proceed c.in-3.is)

pub returns-in_default : goal.returns-in_default
returns-in_default c = sym (kind-other c.args.byte (omega (arith, c.in_default)))
