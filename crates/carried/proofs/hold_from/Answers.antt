use Rattle.carried.proofs.Past.{hold-within}
use Rattle.carried.specs.Panels.{hold_from}
use Rattle.carried.proofs.hold_from.Goals as goal

pub returns : goal.returns
unfolding hold_from
returns c = simp (c.byte_at.ensures, c.word_at.ensures, c.min-at.ensures) (hold-within c.args.bytes.now c.args.at)
