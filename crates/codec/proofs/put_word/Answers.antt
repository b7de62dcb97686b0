use mathlib.Core.Path.{ap, ◌∙◌}
use lib.Seq.{sets}
use native.Mathlib.Omega.{arith}
use Rattle.codec.proofs.Words.{word-written}
use Rattle.codec.proofs.put_word.Goals as goal

pub returns : goal.returns
returns c = c.loop-k.invariant ∙ ap (sets c.args.area.now c.args.at) (word-written c.args.v c.to_be_bytes.ensures (omega arith))
