-- Messages on the wire: "0 WRITE0 and 1 WRITE1 with the value in 4 bytes; 2 READ and 3 PROCEED with none". Reading takes
-- one message from the front and says how many bytes it used; writing tries 3, then 15.
-- Assumes nothing.
use Rattle.std.specs.Prelude.{ℕ, Result, Ok, Err}
use mathlib.Core.{Bool.{Bool, true}, List.{List, [], ◌∷◌}}
use lib.{Dec.{ltb, eqb}, ListN.{length, get_or}, Seq.sets}
use Rattle.basics.specs.{Choice.{ite, both}, Kinds.kind_of}
use Rattle.basics.specs.declared.{kinds.Kind.Kind, refused.Refusal.Refusal}
use Rattle.basics.specs.declared.refused.Refusal.TheVariants.{AreaTooShort, UnknownKind, CutShort}
use Rattle.codec.specs.Items.{Format, Item, size_of, written, item_at}
use Rattle.codec.specs.Items as Items
use Rattle.wire.specs.declared.Taken.{Taken}

-- the kinds that carry a value: WRITE0 and WRITE1
unfoldable pub carries : ℕ → Bool
carries k = ltb k 2

unfoldable pub wire : Format
wire = record { known = λ k. ltb k 4; widths = λ k. ite (carries k) (4 ∷ []) [] }

-- a message as an item: the value stands in the body of a kind that carries one
unfoldable pub item_of : ℕ → ℕ → Item
item_of k v = record { kind = k; numbers = ite (carries k) (v ∷ []) [] }

-- the bytes of a message
unfoldable pub bytes_of_message : ℕ → ℕ → List ℕ
bytes_of_message k v = written wire (item_of k v)

-- kind and value are a message: a kind, and no value other than zero with one that carries none
unfoldable pub sendable : ℕ → ℕ → Bool
sendable k v = both (ltb k 4) (ite (carries k) true (eqb v 0))

-- the refusal by which an item is none: 15 or 16
unfoldable pub refusal_of : ℕ → Refusal
refusal_of n = ite (eqb n 15) UnknownKind CutShort

-- a message of the kind of a byte
unfoldable pub of_kind : Result Kind Refusal → ℕ → ℕ → Result Taken Refusal
of_kind (Ok k) v n = Ok (record { kind = k; value = v; used = n })
of_kind (Err r) v n = Err r

-- what reading answers: kind, value and how many bytes were used, or a refusal; a message without a value has 0
unfoldable pub message_of : Items.Taken → Result Taken Refusal
message_of (Items.Taken.taken i n) = of_kind (kind_of i.kind) (get_or i.numbers 0 0) n
message_of (Items.Taken.refused n) = Err (refusal_of n)

unfoldable pub reading : List ℕ → Result Taken Refusal
reading s = message_of (item_at wire s 0)

-- what writing leaves: its answer, and the area
pub record Written : Type 0 where
  pub answer : Result ℕ Refusal
  pub area : List ℕ

-- 3: the area is shorter than the message, an unknown kind counting one byte; 15: no message; both leave the area alone
unfoldable pub writing : ℕ → ℕ → List ℕ → Written
writing k v area =
    ite (ltb (length area) (size_of wire k)) (record { answer = Err AreaTooShort; area = area })
    (ite (sendable k v)
    (record { answer = Ok (size_of wire k); area = sets area 0 (bytes_of_message k v) })
    (record { answer = Err UnknownKind; area = area }))
