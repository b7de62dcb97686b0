use mathlib.Core.Path.{◌∙◌}
use Rattle.basics.proofs.Ones.{byte-is}
use Rattle.basics.proofs.byte_if.Goals as goal

pub returns : goal.returns
returns c = c.from.ensures ∙ byte-is c.args.b
