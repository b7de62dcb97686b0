-- Each contract of this crate allows one outcome.
-- Assumes nothing.
use mathlib.Core.Path.{refl, sym, ◌∙◌}
use Rattle.basics.specs.Outcome.{OneResult, OneOutcome}
use Rattle.codec.proofs.byte_at.Kinds as byte-at-kinds
use Rattle.codec.proofs.byte_at.Reads as byte_at
use Rattle.codec.proofs.word_at.Kinds as word-at-kinds
use Rattle.codec.proofs.word_at.Reads as word_at
use Rattle.codec.proofs.put_byte.Kinds as put-byte-kinds
use Rattle.codec.proofs.put_byte.Reads as put_byte
use Rattle.codec.proofs.put_word.Kinds as put-word-kinds
use Rattle.codec.proofs.put_word.Reads as put_word

pub byte-at-only : OneResult 1 byte-at-kinds.ps byte-at-kinds.r byte_at.Post
byte-at-only κs a x y e f p q = p ∙ sym q

pub word-at-only : OneResult 1 word-at-kinds.ps word-at-kinds.r word_at.Post
word-at-only κs a x y e f p q = p ∙ sym q

pub put-byte-only : OneOutcome 1 put-byte-kinds.ps put-byte-kinds.r (λ κs e. e.0.now) put_byte.Post
put-byte-only κs a x y e f p q = (refl, p ∙ sym q)

pub put-word-only : OneOutcome 1 put-word-kinds.ps put-word-kinds.r (λ κs e. e.0.now) put_word.Post
put-word-only κs a x y e f p q = (refl, p ∙ sym q)
