-- The laws of schedule records, under the names that every codec here has: reading what was written (`read-written`),
-- writing what was read (`written_read`), no two records share their bytes (`written-injective`), no record's bytes begin
-- another's (`written-prefix-free`), and what is accepted or refused exactly when. All by the laws of items.
-- Assumes nothing.
use mathlib.Core.{Bool.true, List.{List, [], ◌∷◌, ◌++◌}, Logic.{◌⊎◌, inl, inr, ◌↔◌}, Path.{◌≡◌, refl, sym, ap, subst, ◌∙◌}}
use Prim.Native.Nat.{ℕ, ◌+◌, ◌^◌, ◌≤◌, ◌<◌}
use native.Mathlib.Omega.{arith}
use lib.{Dec.{ltb}, ListN.{length, get_or, take, drop}}
use borrow.Author.Tests.{ltb-true}
use Rattle.std.specs.Prelude.{Result, Ok, Err}
use Rattle.basics.specs.declared.refused.Refusal.{Refusal, TheVariants.{UnknownKind, CutShort}}
use Rattle.basics.{proofs.Choices.{both_true, both_left, both_right}, specs.Choice.ite}
use Rattle.codec.{proofs.Items.{Whole, Cut, Unknown, FoundAt, standing, item-whole}, specs.Items.{Item, size_of, written, item_at, Proper}}
use Rattle.codec.specs.Numbers.{Bytes}
use Rattle.codec.specs.Items as Items
use Rattle.codec.proofs.Items as items
use Rattle.schedule.specs.Records.{singles, carries, records, item_of, bytes_of_record, record_of, refusal_of, refusing, answered, reading, clear, writable}
use Rattle.schedule.specs.declared.{Record.Record, Taken.Taken, Unread.Unread}
use Rattle.schedule.proofs.Fields.{single-kept, value-kept, row_fits, single-clear, value-clear, single-fits, value-fits, row-whole}
use Rattle.schedule.proofs.Lengths.{singles-few}

-- a record of the schedule: a kind, zero in what the kind does not have, and numbers of one byte and of four
pub record Scheduled (r : Record) : Type 0 where
  pub whole : writable r ≡ true
  pub a-fits : r.a < 256
  pub b-fits : r.b < 256
  pub c-fits : r.c < 256
  pub value-fits : r.value < 2 ^ 32

-- what writing asks of a record, part by part
record Tests (r : Record) : Type 0 where
  kind_known : ltb r.kind 9 ≡ true
  a-clear : clear (ltb 0 (singles r.kind)) r.a ≡ true
  b-clear : clear (ltb 1 (singles r.kind)) r.b ≡ true
  c-clear : clear (ltb 2 (singles r.kind)) r.c ≡ true
  value-clear : clear (carries r.kind) r.value ≡ true

tests : (r : Record) → writable r ≡ true → Tests r
unfolding writable
tests r h =
    let a = both_right _ _ h in
    let b = both_right _ _ a in
    let c = both_right _ _ b in
    record { kind_known = both_left _ _ h; a-clear = both_left _ _ a; b-clear = both_left _ _ b; c-clear = both_left _ _ c; value-clear = both_right _ _ c }

-- ---- a record and its item

-- the fields of a record's item are the record's
record-kept : (r : Record) → writable r ≡ true → record_of (item_of r) ≡ r
unfolding record_of item_of
record-kept r h =
    let t : Tests r = tests r h in
    let few : singles r.kind ≤ 3 = singles-few r.kind in
    λ i.
    record {
      kind = r.kind;
      a = single-kept (singles r.kind) three few tail 0 t.a-clear i;
      b = single-kept (singles r.kind) three few tail 1 t.b-clear i;
      c = single-kept (singles r.kind) three few tail 2 t.c-clear i;
      value = value-kept (singles r.kind) three few (carries r.kind) r.value t.value-clear i;
    }
  where
    three : List ℕ
    three = r.a ∷ r.b ∷ r.c ∷ []

    tail : List ℕ
    tail = ite (carries r.kind) (r.value ∷ []) []

pub proper : (r : Record) → Scheduled r → Proper records (item_of r)
unfolding item_of records Bytes
proper r s =
    record {
      kind_known = (tests r s.whole).kind_known;
      kind_byte = omega (arith, ltb-true r.kind 9 (tests r s.whole).kind_known);
      numbers_fit = row_fits _ _ (r.a ∷ r.b ∷ r.c ∷ []) r.value (singles-few r.kind) (s.a-fits, (s.b-fits, (s.c-fits, tt))) s.value-fits;
    }

-- an item of the format is the item of its record
item-kept : (i : Item) → Proper records i → item_of (record_of i) ≡ i
unfolding item_of record_of records
item-kept i h =
    ap (λ (xs : List ℕ). record { kind = i.kind; numbers = xs })
    (row-whole (singles i.kind) (carries i.kind) i.numbers (singles-few i.kind) h.numbers_fit)

item-scheduled : (i : Item) → Proper records i → Scheduled (record_of i)
unfolding record_of records writable
item-scheduled i h =
    record {
      whole =
          both_true h.kind_known
          (both_true (single-clear m 0 i.numbers)
          (both_true (single-clear m 1 i.numbers)
          (both_true (single-clear m 2 i.numbers) (value-clear (carries i.kind) m i.numbers))));
      a-fits = single-fits m (carries i.kind) i.numbers h.numbers_fit 0;
      b-fits = single-fits m (carries i.kind) i.numbers h.numbers_fit 1;
      c-fits = single-fits m (carries i.kind) i.numbers h.numbers_fit 2;
      value-fits = value-fits m (carries i.kind) i.numbers h.numbers_fit;
    }
  where
    m : ℕ
    m = singles i.kind

-- ---- reading what was written

pub read-written :
    (r : Record) (p rest : List ℕ) → Scheduled r →
    reading (p ++ (bytes_of_record r ++ rest)) (length p) ≡ Ok (record { «record» = r; used = length (bytes_of_record r) })
unfolding reading answered bytes_of_record
read-written r p rest s =
    ap (answered _) (items.read-written records (item_of r) p rest (proper r s))
    ∙ ap (λ (q : Record). Ok (record { «record» = q; used = length (written records (item_of r)) })) (record-kept r s.whole)

-- ---- no two records share their bytes, and none begins another

pub written-prefix-free : (r q : Record) (x y : List ℕ) → Scheduled r → Scheduled q → bytes_of_record r ++ x ≡ bytes_of_record q ++ y → r ≡ q
unfolding bytes_of_record
written-prefix-free r q x y s t e =
    sym (record-kept r s.whole) ∙ ap record_of (items.written-prefix-free records (item_of r) (item_of q) x y (proper r s) (proper q t) e) ∙ record-kept q t.whole

pub written-injective : (r q : Record) → Scheduled r → Scheduled q → bytes_of_record r ≡ bytes_of_record q → r ≡ q
written-injective r q s t e = written-prefix-free r q [] [] s t (ap (λ (l : List ℕ). l ++ []) e)

-- ---- writing what was read

-- what a record that was read at a place is: a record, whose bytes are those from the place on
pub record ReadAs (s : List ℕ) (at : ℕ) (r : Record) (n : ℕ) : Type 0 where
  pub scheduled : Scheduled r
  pub size : n ≡ size_of records r.kind
  pub within : at + n ≤ length s
  pub bytes : bytes_of_record r ≡ take n (drop at s)

found_as : (s : List ℕ) (at : ℕ) (i : Item) (n : ℕ) → Bytes s → item_at records s at ≡ Items.Taken.taken i n → ReadAs s at (record_of i) n
unfolding bytes_of_record record_of
found_as s at i n h e =
    let f : FoundAt records s at i n = items.written_read records s at i n h e in
    record {
      scheduled = item-scheduled i f.proper;
      size = f.size;
      within = f.within;
      bytes = ap (written records) (item-kept i f.proper) ∙ f.bytes;
    }

pub written_read : (s : List ℕ) (at : ℕ) (t : Taken) → Bytes s → reading s at ≡ Ok t → ReadAs s at t.«record» t.used
unfolding reading answered refusing
written_read s at t h e = by (item_at records s at) refl e
  where
    by : (i : Items.Taken) → item_at records s at ≡ i → answered (get_or s at 0) i ≡ Ok t → ReadAs s at t.«record» t.used
    by (Items.Taken.taken i n) f g =
        let same : record { «record» = record_of i; used = n } ≡ t = cc in
        subst (λ (x : Taken). ReadAs s at x.«record» x.used) same (found_as s at i n h f)
    by (Items.Taken.refused n) f g = cc

-- ---- exactly when

abbrev refused_by : Result Taken Unread → Refusal
refused_by (Ok t) = CutShort
refused_by (Err u) = u.refusal

module _ (s : List ℕ) (at : ℕ) where
  unknown-to : Unknown records s at → reading s at ≡ refusing UnknownKind (get_or s at 0)
  unfolding reading answered refusal_of ite
  unknown-to u = ap (answered _) ((items.refused-15-iff records s at).1 u)

  short-to : (length s ≤ at) ⊎ Cut records s at → reading s at ≡ refusing CutShort (get_or s at 0)
  unfolding reading answered refusal_of ite
  short-to h = ap (answered _) ((items.refused-16-iff records s at).1 h)

  -- the record that stands there
  whole-to : Whole records s at → reading s at ≡ Ok (record { «record» = record_of (standing records s at); used = size_of records (get_or s at 0) })
  unfolding reading answered
  whole-to w = ap (answered _) (item-whole records s at w.byte-there w.kind_known w.body-there)

  data Seen : Type 0 where
    unknown : Unknown records s at → Seen
    short : (length s ≤ at) ⊎ Cut records s at → Seen
    whole : Whole records s at → Seen

  seen_of : items.Seen records s at → Seen
  seen_of (items.Seen.none h e) = short (inl h)
  seen_of (items.Seen.unknown h n e) = unknown (record { byte-there = h; no_kind = n })
  seen_of (items.Seen.cut h k l e) = short (inr (record { byte-there = h; kind_known = k; body-short = l }))
  seen_of (items.Seen.whole h k l e) = whole (record { byte-there = h; kind_known = k; body-there = l })

  seen : Seen
  seen = seen_of (items.seen records s at)

  accepted-from : (t : Taken) → reading s at ≡ Ok t → Seen → Whole records s at
  unfolding refusing
  accepted-from t e (unknown u) = let z = unknown-to u in cc
  accepted-from t e (short h) = let z = short-to h in cc
  accepted-from t e (whole w) = w

  unknown-from : reading s at ≡ refusing UnknownKind (get_or s at 0) → Seen → Unknown records s at
  unfolding refusing
  unknown-from e (unknown u) = u
  unknown-from e (short h) = let z = ap refused_by (sym (short-to h) ∙ e) in cc
  unknown-from e (whole w) = let z = whole-to w in cc

  short-from : reading s at ≡ refusing CutShort (get_or s at 0) → Seen → (length s ≤ at) ⊎ Cut records s at
  unfolding refusing
  short-from e (unknown u) = let z = ap refused_by (sym (unknown-to u) ∙ e) in cc
  short-from e (short h) = h
  short-from e (whole w) = let z = whole-to w in cc

  refused-from : (u : Unread) → reading s at ≡ Err u → Seen → ((u.refusal ≡ UnknownKind) ⊎ (u.refusal ≡ CutShort)) × (u.kind ≡ get_or s at 0)
  unfolding refusing
  refused-from u e (unknown n) =
      let same : u ≡ record { refusal = UnknownKind; kind = get_or s at 0 } = let z = unknown-to n in cc in
      (inl (ap (λ (x : Unread). x.refusal) same), ap (λ (x : Unread). x.kind) same)
  refused-from u e (short h) =
      let same : u ≡ record { refusal = CutShort; kind = get_or s at 0 } = let z = short-to h in cc in
      (inr (ap (λ (x : Unread). x.refusal) same), ap (λ (x : Unread). x.kind) same)
  refused-from u e (whole w) = let z = whole-to w in cc

  pub accepted-iff : ((t : Taken) × (reading s at ≡ Ok t)) ↔ Whole records s at
  accepted-iff = (λ a. accepted-from a.0 a.1 seen, λ w. (record { «record» = record_of (standing records s at); used = size_of records (get_or s at 0) }, whole-to w))

  pub refused-15-iff : (reading s at ≡ refusing UnknownKind (get_or s at 0)) ↔ Unknown records s at
  refused-15-iff = (λ e. unknown-from e seen, unknown-to)

  pub refused-16-iff : (reading s at ≡ refusing CutShort (get_or s at 0)) ↔ ((length s ≤ at) ⊎ Cut records s at)
  refused-16-iff = (λ e. short-from e seen, short-to)

  pub refused-only : (u : Unread) → reading s at ≡ Err u → (u.refusal ≡ UnknownKind) ⊎ (u.refusal ≡ CutShort)
  refused-only u e = (refused-from u e seen).0

  -- a refusal shows the kind byte as it stands
  pub refused-shows : (u : Unread) → reading s at ≡ Err u → u.kind ≡ get_or s at 0
  refused-shows u e = (refused-from u e seen).1

  accepted-as : (t : Taken) → reading s at ≡ Ok t → t ≡ record { «record» = record_of (standing records s at); used = size_of records (get_or s at 0) }
  accepted-as t e = let z = whole-to (accepted-from t e seen) in cc

  -- an accepted record uses as many bytes as its kind has
  pub accepted-used : (t : Taken) → reading s at ≡ Ok t → t.used ≡ size_of records (get_or s at 0)
  accepted-used t e = ap (λ (x : Taken). x.used) (accepted-as t e)

  -- and lies within the schedule
  pub accepted-within : (t : Taken) → reading s at ≡ Ok t → at + t.used ≤ length s
  accepted-within t e = let w = accepted-from t e seen in omega (arith, w.body-there, accepted-used t e)

  -- and its kind is the byte that stands there
  pub kind-shown : (t : Taken) → reading s at ≡ Ok t → t.«record».kind ≡ get_or s at 0
  unfolding record_of
  kind-shown t e = ap (λ (x : Taken). x.«record».kind) (accepted-as t e)
