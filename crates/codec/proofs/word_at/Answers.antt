use Rattle.codec.proofs.{Words.{word-read, word-within}}
use Rattle.codec.proofs.word_at.Goals as goal

pub returns : goal.returns
returns c = simp (c.from_be_bytes.ensures, c.byte_at.ensures, c.byte_at-2.ensures, c.byte_at-3.ensures, c.byte_at-4.ensures, word-read, c.min-at.ensures, word-within)
