-- The kinds of message: "0 WRITE0 and 1 WRITE1 with the value in 4 bytes; 2 READ and 3 PROCEED with none".
-- Assumes nothing.
use Rattle.std.specs.Prelude.{ℕ, Result, Ok, Err, eqb}
use Rattle.basics.specs.Choice.{ite}
use Rattle.basics.specs.declared.refused.Refusal.{Refusal, TheVariants.UnknownKind}
use Rattle.basics.specs.declared.kinds.Kind.{Kind, TheVariants.{Write0, Write1, Read, Proceed}}

abbrev pub byte_of : Kind → ℕ
byte_of Write0 = 0
byte_of Write1 = 1
byte_of Read = 2
byte_of Proceed = 3

-- the kind of a byte; 15: "unknown kind byte"
unfoldable pub kind_of : ℕ → Result Kind Refusal
kind_of b =
    ite (eqb b 0) (Ok Write0)
    (ite (eqb b 1) (Ok Write1)
    (ite (eqb b 2) (Ok Read)
    (ite (eqb b 3) (Ok Proceed) (Err UnknownKind))))
