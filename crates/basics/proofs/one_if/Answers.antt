use mathlib.Core.Path.{◌∙◌}
use native.Mathlib.Omega.{arith}
use Rattle.basics.proofs.Ones.{byte-is, one-most}
use Rattle.basics.proofs.one_if.Goals as goal

pub returns : goal.returns
returns c = let e = c.from.ensures ∙ byte-is c.args.b in (e, omega (arith, e, one-most c.args.b))
