-- Schedule records: "0 set-up (n, t, writer, 4-byte initial value), 1 write (4-byte value), 2 read (panel), 3 WRITE0,
-- 4 WRITE1, 5 READ, 6 PROCEED (sender, receiver), 7 power loss (panel), 8 drain". Reading takes the record that stands at a
-- place of the schedule and says how many bytes it used; writing tries 3, then 15.
-- Assumes nothing.
use Rattle.std.specs.Prelude.{ℕ, Result, Ok, Err}
use mathlib.Core.{Bool.{Bool, true}, List.{List, [], ◌∷◌, ◌++◌}}
use lib.{Dec.{ltb, eqb}, ListN.{length, get_or, take, replicate}, Seq.sets}
use Rattle.basics.specs.Choice.{ite, both}
use Rattle.basics.specs.declared.refused.Refusal.{Refusal, TheVariants.{AreaTooShort, UnknownKind, CutShort}}
use Rattle.codec.specs.Items.{Format, Item, size_of, written, item_at}
use Rattle.codec.specs.Items as Items
use Rattle.schedule.specs.declared.{Record.Record, Taken.Taken, Unread.Unread}

-- "Their body lengths by kind, 0 to 8, are 7, 4, 1, 2, 2, 2, 2, 1, 0"
abbrev pub lengths : List ℕ
lengths = 7 ∷ 4 ∷ 1 ∷ 2 ∷ 2 ∷ 2 ∷ 2 ∷ 1 ∷ 0 ∷ []

-- how many numbers of one byte a body begins with: n, t and writer of a set-up, the panel of a read and of a power loss,
-- sender and receiver of a delivery
abbrev pub singles_by_kind : List ℕ
singles_by_kind = 3 ∷ 0 ∷ 1 ∷ 2 ∷ 2 ∷ 2 ∷ 2 ∷ 1 ∷ 0 ∷ []

unfoldable pub singles : ℕ → ℕ
singles k = get_or singles_by_kind k 0

-- the kinds whose body ends with a value: set-up and write
unfoldable pub carries : ℕ → Bool
carries k = ltb k 2

-- the widths of so many numbers of one byte, and of a value behind them
unfoldable pub row : ℕ → Bool → List ℕ
row m valued = replicate m 1 ++ ite valued (4 ∷ []) []

unfoldable pub records : Format
records = record { known = λ k. ltb k 9; widths = λ k. row (singles k) (carries k) }

-- a record as an item: of a, b, c and value, those that its kind has
unfoldable pub item_of : Record → Item
item_of r =
    record {
      kind = r.kind;
      numbers = take (singles r.kind) (r.a ∷ r.b ∷ r.c ∷ []) ++ ite (carries r.kind) (r.value ∷ []) [];
    }

-- the bytes of a record
unfoldable pub bytes_of_record : Record → List ℕ
bytes_of_record r = written records (item_of r)

-- number j of those of one byte, and the value behind m of them; zero where there is none
unfoldable pub single : ℕ → List ℕ → ℕ → ℕ
single m xs j = ite (ltb j m) (get_or xs j 0) 0

unfoldable pub value_behind : Bool → ℕ → List ℕ → ℕ
value_behind valued m xs = ite valued (get_or xs m 0) 0

-- an item as a record: what its kind does not have is zero
unfoldable pub record_of : Item → Record
record_of i =
    record {
      kind = i.kind;
      a = single (singles i.kind) i.numbers 0;
      b = single (singles i.kind) i.numbers 1;
      c = single (singles i.kind) i.numbers 2;
      value = value_behind (carries i.kind) (singles i.kind) i.numbers;
    }

-- the refusal by which an item is none: 15 or 16
unfoldable pub refusal_of : ℕ → Refusal
refusal_of n = ite (eqb n 15) UnknownKind CutShort

-- a refusal, with the kind byte as it stands
unfoldable pub refusing : Refusal → ℕ → Result Taken Unread
refusing r k = Err (record { refusal = r; kind = k })

-- what reading answers at a place with kind byte k: the record and how many bytes it used, or a refusal, which uses none
unfoldable pub answered : ℕ → Items.Taken → Result Taken Unread
answered k (Items.Taken.taken i n) = Ok (record { «record» = record_of i; used = n })
answered k (Items.Taken.refused n) = refusing (refusal_of n) k

unfoldable pub reading : List ℕ → ℕ → Result Taken Unread
reading s at = answered (get_or s at 0) (item_at records s at)

-- a number that the kind has, or zero
unfoldable pub clear : Bool → ℕ → Bool
clear has x = ite has true (eqb x 0)

-- a record: a kind, and zero in what the kind does not have
unfoldable pub writable : Record → Bool
writable r =
    both (ltb r.kind 9)
    (both (clear (ltb 0 (singles r.kind)) r.a)
    (both (clear (ltb 1 (singles r.kind)) r.b)
    (both (clear (ltb 2 (singles r.kind)) r.c)
    (clear (carries r.kind) r.value))))

-- what writing leaves: its answer, and the area
pub record Outcome : Type 0 where
  pub answer : Result ℕ Refusal
  pub area : List ℕ

-- 3: the area is shorter than the record, an unknown kind counting one byte; 15: no record; both leave the area alone
unfoldable pub writing : Record → List ℕ → Outcome
writing r area =
    ite (ltb (length area) (size_of records r.kind)) (record { answer = Err AreaTooShort; area = area })
    (ite (writable r)
    (record { answer = Ok (size_of records r.kind); area = sets area 0 (bytes_of_record r) })
    (record { answer = Err UnknownKind; area = area }))
