-- The cases of reading and writing a record, one law each: what the code's proofs cite.
-- Assumes nothing.
use mathlib.Core.{Bool.{Bool, true, false, ◌&&◌, ◌||◌}, List.{List, [], ◌∷◌, ◌++◌, append-nil}, Path.{◌≡◌, refl, sym, ap, ap₂, subst₂, ◌∙◌}}
use Prim.Native.Nat.{ℕ, zero, suc, ◌+◌, ◌-◌, ◌*◌, ◌%◌, ◌^◌, ◌≤◌, ◌<◌}
use native.Mathlib.{Nat.{add-zero, not-suc-le-zero, le_of_suc-le-suc, mod-eq_of_lt, div-one}, Omega.arith}
use lib.{Dec.{ltb, eqb}, ListN.{length, get_or, set, take, drop, replicate, length-take, length-drop, length-set}, Seq.{sets, sets-eq, length-take-le, take_all}}
use borrow.Author.Tests.{lt-ltb, le-ltb, ltb-true, ltb-false}
use Rattle.basics.{proofs.Choices.{ite-true, ite-false}, specs.Choice.{ite, both}}
use Rattle.std.specs.Prelude.{Ok, Err}
use borrow.Rule.Slice.PartMut.{put_mid}
use Rattle.std.proofs.lemmas.Slice.{put_mid-paste}
use Rattle.basics.proofs.Lists.{sets-append}
use Rattle.std.proofs.lemmas.List.{get_or-take, get_or-drop, get_or_past}
use Rattle.basics.specs.declared.refused.Refusal.{TheVariants.{AreaTooShort, UnknownKind, CutShort}}
use Rattle.codec.proofs.Items.{item-none, item-unknown, item-cut, item-whole}
use Rattle.codec.specs.{Items.{total, size_of, body_of, written, numbers_at, item_at}, Numbers.{bytes_of, number_at, Bytes}}
use Rattle.schedule.specs.Records.{singles, carries, row, records, item_of, bytes_of_record, single, value_behind, record_of, refusal_of, refusing, answered, reading, clear, writable, writing}
use Rattle.schedule.specs.declared.Record.{Record}
use Rattle.schedule.proofs.Lengths.{singles-few, size-is, size-few, singles-within}

-- ---- computed: the records of the description's listing, and one of each refusal

-- `00 03 01 01 00 00 02 BC`, `01 00 00 02 8A`, `04 01 02`, `04 02 01`, `02 03`, `08`
listing : List ℕ
listing = 0 ∷ 3 ∷ 1 ∷ 1 ∷ 0 ∷ 0 ∷ 2 ∷ 188 ∷ 1 ∷ 0 ∷ 0 ∷ 2 ∷ 138 ∷ 4 ∷ 1 ∷ 2 ∷ 4 ∷ 2 ∷ 1 ∷ 2 ∷ 3 ∷ 8 ∷ []

listing-read :
    (reading listing 0 ≡ Ok (record { «record» = record { kind = 0; a = 3; b = 1; c = 1; value = 700 }; used = 8 }))
    × (reading listing 8 ≡ Ok (record { «record» = record { kind = 1; a = 0; b = 0; c = 0; value = 650 }; used = 5 }))
    × (reading listing 13 ≡ Ok (record { «record» = record { kind = 4; a = 1; b = 2; c = 0; value = 0 }; used = 3 }))
    × (reading listing 19 ≡ Ok (record { «record» = record { kind = 2; a = 3; b = 0; c = 0; value = 0 }; used = 2 }))
    × (reading listing 21 ≡ Ok (record { «record» = record { kind = 8; a = 0; b = 0; c = 0; value = 0 }; used = 1 }))
    × (reading listing 22 ≡ Err (record { refusal = CutShort; kind = 0 }))
unfolding listing reading answered item_at records row singles carries size_of total numbers_at number_at record_of single value_behind refusing refusal_of ite
listing-read = (refl, refl, refl, refl, refl, refl)

refused-read :
    (reading (9 ∷ []) 0 ≡ Err (record { refusal = UnknownKind; kind = 9 }))
    × (reading (7 ∷ 3 ∷ 1 ∷ 0 ∷ 0 ∷ 2 ∷ []) 2 ≡ Err (record { refusal = CutShort; kind = 1 }))
unfolding reading answered item_at records row singles carries size_of total numbers_at number_at record_of single value_behind refusing refusal_of ite
refused-read = (refl, refl)

-- a set-up, with the area past it as it was; a read with a value; an unknown kind, with no room and with room for one byte
written-cases :
    (writing (record { kind = 0; a = 3; b = 1; c = 1; value = 700 }) (9 ∷ 9 ∷ 9 ∷ 9 ∷ 9 ∷ 9 ∷ 9 ∷ 9 ∷ 9 ∷ [])
    ≡ record { answer = Ok 8; area = 0 ∷ 3 ∷ 1 ∷ 1 ∷ 0 ∷ 0 ∷ 2 ∷ 188 ∷ 9 ∷ [] })
    × (writing (record { kind = 2; a = 3; b = 0; c = 0; value = 1 }) (9 ∷ 9 ∷ []) ≡ record { answer = Err UnknownKind; area = 9 ∷ 9 ∷ [] })
    × (writing (record { kind = 9; a = 0; b = 0; c = 0; value = 0 }) [] ≡ record { answer = Err AreaTooShort; area = [] })
    × (writing (record { kind = 9; a = 0; b = 0; c = 0; value = 0 }) (9 ∷ []) ≡ record { answer = Err UnknownKind; area = 9 ∷ [] })
unfolding writing writable clear both ite bytes_of_record item_of records row singles carries size_of total written body_of bytes_of
written-cases = (refl, refl, refl, refl)

-- ---- kinds

known : (k : ℕ) → k < 9 → records.known k ≡ true
unfolding records
known k h = lt-ltb _ _ h

not_known : (k : ℕ) → 9 ≤ k → records.known k ≡ false
unfolding records
not_known k h = le-ltb _ _ h

-- ---- reading

module _ (s : List ℕ) (at : ℕ) where
  pub reading-none : length s ≤ at → reading s at ≡ Err (record { refusal = CutShort; kind = 0 })
  unfolding reading answered refusing refusal_of ite
  reading-none h = ap (answered _) (item-none records s at h) ∙ ap (refusing CutShort) (get_or_past s at 0 h)

  pub reading-unknown : at < length s → 9 ≤ get_or s at 0 → reading s at ≡ Err (record { refusal = UnknownKind; kind = get_or s at 0 })
  unfolding reading answered refusing refusal_of ite
  reading-unknown h l = ap (answered _) (item-unknown records s at h (not_known _ l))

  pub reading-cut : at < length s → get_or s at 0 < 9 → length s < at + size_of records (get_or s at 0) → reading s at ≡ Err (record { refusal = CutShort; kind = get_or s at 0 })
  unfolding reading answered refusing refusal_of ite
  reading-cut h l short = ap (answered _) (item-cut records s at h (known _ l) short)

-- what is read of a body of so many numbers of one byte and, perhaps, a value
numbers-single : (m : ℕ) (ks s : List ℕ) (at j : ℕ) → j < m → get_or (numbers_at (replicate m 1 ++ ks) s at) j 0 ≡ get_or s (at + j) 0
unfolding numbers_at number_at
numbers-single zero ks s at j h = absurd (not-suc-le-zero h)
numbers-single (suc m) ks s at zero h = omega (arith, ap (λ (p : ℕ). get_or s p 0) (add-zero at))
numbers-single (suc m) ks s at (suc j) h = numbers-single m ks s (1 + at) j (le_of_suc-le-suc h) ∙ ap (λ (p : ℕ). get_or s p 0) (omega arith)

numbers-value : (m : ℕ) (s : List ℕ) (at : ℕ) → get_or (numbers_at (replicate m 1 ++ (4 ∷ [])) s at) m 0 ≡ number_at 4 s (at + m)
unfolding numbers_at
numbers-value zero s at = ap (number_at 4 s) (sym (add-zero at))
numbers-value (suc m) s at = numbers-value m s (1 + at) ∙ ap (number_at 4 s) (omega arith)

-- a choice of which only the first outcome is known to be the same
first-same : (b : Bool) (x y z : ℕ) → (b ≡ true → x ≡ y) → ite b x z ≡ ite b y z
unfolding ite
first-same true x y z h = h refl
first-same false x y z h = refl

module _ (m : ℕ) (valued : Bool) (s : List ℕ) (at : ℕ) where
  single-read : (j p : ℕ) → p ≡ at + j → single m (numbers_at (row m valued) s at) j ≡ ite (ltb j m) (get_or s p 0) 0
  unfolding single row
  single-read j p e =
      first-same (ltb j m) _ _ 0 (λ t. numbers-single m _ s at j (ltb-true _ _ t) ∙ ap (λ (q : ℕ). get_or s q 0) (sym e))

  value_read : (p : ℕ) → p ≡ at + m → value_behind valued m (numbers_at (row m valued) s at) ≡ ite valued (number_at 4 s p) 0
  unfolding value_behind row ite
  value_read p e = by valued
    where
      by : (b : Bool) → ite b (get_or (numbers_at (replicate m 1 ++ ite b (4 ∷ []) []) s at) m 0) 0 ≡ ite b (number_at 4 s p) 0
      by true = numbers-value m s at ∙ ap (number_at 4 s) (sym e)
      by false = refl

-- the same, read of the body by itself: its first m bytes, and those behind them
number-same : (k : ℕ) (s t : List ℕ) (p q : ℕ) → ((j : ℕ) → j < k → get_or s (p + j) 0 ≡ get_or t (q + j) 0) → number_at k s p ≡ number_at k t q
unfolding number_at
number-same zero s t p q h = refl
number-same (suc k) s t p q h =
    ap₂ (λ (x y : ℕ). x * 256 ^ k + y) (subst₂ (λ (i j : ℕ). get_or s i 0 ≡ get_or t j 0) (add-zero p) (add-zero q) (h 0 (omega arith)))
    (number-same k s t (suc p) (suc q) (λ j l. subst₂ (λ (i j : ℕ). get_or s i 0 ≡ get_or t j 0) (omega arith) (omega arith) (h (suc j) (omega arith))))

module _ (s : List ℕ) (p n m : ℕ) where
  abbrev part : List ℕ
  part = take n (drop p s)

  in_part : (j : ℕ) → j < n → get_or part j 0 ≡ get_or s (p + j) 0
  in_part j h = get_or-take n (drop p s) j 0 h ∙ get_or-drop p s j 0

  first-read : (j : ℕ) → m ≤ n → get_or (take m part) j 0 ≡ ite (ltb j m) (get_or s (p + j) 0) 0
  unfolding ite
  first-read j few = by (ltb j m) refl
    where
      by : (b : Bool) → ltb j m ≡ b → get_or (take m part) j 0 ≡ ite b (get_or s (p + j) 0) 0
      by true e = let h : j < m = ltb-true _ _ e in get_or-take m part j 0 h ∙ in_part j (omega arith)
      by false e = get_or_past (take m part) j 0 (omega (arith, length-take m part, ltb-false _ _ e))

  last-read : (valued : Bool) → n ≡ m + ite valued 4 0 → number_at 4 (drop m part) 0 ≡ ite valued (number_at 4 s (p + m)) 0
  unfolding ite number_at
  last-read true e = number-same 4 (drop m part) s 0 (p + m) (λ j h. get_or-drop m part (0 + j) 0 ∙ in_part (m + (0 + j)) (omega arith) ∙ ap (λ (q : ℕ). get_or s q 0) (omega arith))
  last-read false e = number-same 4 (drop m part) [] 0 0 (λ j h. get_or_past (drop m part) (0 + j) 0 (omega (arith, e, length-drop m part, length-take n (drop p s))))

module _ (s : List ℕ) (at : ℕ) where
  -- the body of a record that stands there
  abbrev body : List ℕ
  body = take (at + size_of records (get_or s at 0) - (at + 1)) (drop (at + 1) s)

  pub reading-whole :
      at < length s → get_or s at 0 < 9 → at + size_of records (get_or s at 0) ≤ length s →
      reading s at
      ≡ Ok (record {
        «record» = record {
          kind = get_or s at 0;
          a = get_or (take (singles (get_or s at 0)) body) 0 0;
          b = get_or (take (singles (get_or s at 0)) body) 1 0;
          c = get_or (take (singles (get_or s at 0)) body) 2 0;
          value = number_at 4 (drop (singles (get_or s at 0)) body) 0;
        };
        used = size_of records (get_or s at 0);
      })
  unfolding reading answered record_of records
  reading-whole h l fits =
      ap (answered _) (item-whole records s at h (known _ l) fits)
      ∙ (λ i. Ok (record {
        «record» = record { kind = get_or s at 0; a = one 0 i; b = one 1 i; c = one 2 i; value = last i };
        used = size_of records (get_or s at 0);
      }))
    where
      k : ℕ
      k = get_or s at 0

      n : ℕ
      n = at + size_of records k - (at + 1)

      wide : n ≡ singles k + ite (carries k) 4 0
      wide = omega (arith, size-is k)

      one : (j : ℕ) → single (singles k) (numbers_at (row (singles k) (carries k)) s (suc at)) j ≡ get_or (take (singles k) body) j 0
      one j = single-read (singles k) (carries k) s (suc at) j (at + 1 + j) (omega arith) ∙ sym (first-read s (at + 1) n (singles k) j (omega (arith, wide)))

      last : value_behind (carries k) (singles k) (numbers_at (row (singles k) (carries k)) s (suc at)) ≡ number_at 4 (drop (singles k) body) 0
      last = value_read (singles k) (carries k) s (suc at) (at + 1 + singles k) (omega arith) ∙ sym (last-read s (at + 1) n (singles k) (carries k) wide)

-- by which the check itself finds what is read
pub ruleset read = (reading-none, reading-unknown, reading-cut, reading-whole, size-few, singles-within)

-- ---- writing

module _ (r : Record) (area : List ℕ) where
  pub writing-short : length area < size_of records r.kind → writing r area ≡ record { answer = Err AreaTooShort; area = area }
  unfolding writing
  writing-short h = ite-true _ _ (lt-ltb _ _ h)

  pub writing-refused :
      size_of records r.kind ≤ length area → writable r ≡ false → writing r area ≡ record { answer = Err UnknownKind; area = area }
  unfolding writing
  writing-refused h n = ite-false _ _ (le-ltb _ _ h) ∙ ite-false _ _ n

  pub writing-done :
      size_of records r.kind ≤ length area → writable r ≡ true →
      writing r area ≡ record { answer = Ok (size_of records r.kind); area = sets area 0 (bytes_of_record r) }
  unfolding writing
  writing-done h y = ite-false _ _ (le-ltb _ _ h) ∙ ite-true _ _ y

one_byte : (x : ℕ) → x < 256 → bytes_of 1 x ≡ x ∷ []
unfolding bytes_of
one_byte x h = ap (λ (b : ℕ). b ∷ []) (ap (λ (b : ℕ). b % 256) (div-one x) ∙ mod-eq_of_lt h)

-- the bytes of a body: its numbers of one byte as they are, and the four of a value
body_bytes :
    (m : ℕ) (valued : Bool) (l : List ℕ) (v : ℕ) → m ≤ length l → Bytes l →
    body_of (row m valued) (take m l ++ ite valued (v ∷ []) []) ≡ take m l ++ ite valued (bytes_of 4 v) []
unfolding row body_of Bytes ite
body_bytes zero true l v long h = append-nil (bytes_of 4 v)
body_bytes zero false l v long h = refl
body_bytes (suc m) valued [] v long h = absurd (not-suc-le-zero long)
body_bytes (suc m) valued (x ∷ l) v long h = ap₂ ◌++◌ (one_byte x h.0) (body_bytes m valued l v (le_of_suc-le-suc long) h.1)

pub bytes-are : (r : Record) → Bytes (r.a ∷ r.b ∷ r.c ∷ []) → bytes_of_record r ≡ r.kind ∷ (take (singles r.kind) (r.a ∷ r.b ∷ r.c ∷ []) ++ ite (carries r.kind) (bytes_of 4 r.value) [])
unfolding bytes_of_record written item_of records
bytes-are r h = ap (λ (l : List ℕ). r.kind ∷ l) (body_bytes (singles r.kind) (carries r.kind) (r.a ∷ r.b ∷ r.c ∷ []) r.value (singles-few r.kind) h)

bytes-bare : (r : Record) → Bytes (r.a ∷ r.b ∷ r.c ∷ []) → 2 ≤ r.kind → bytes_of_record r ≡ r.kind ∷ take (singles r.kind) (r.a ∷ r.b ∷ r.c ∷ [])
unfolding carries ite
bytes-bare r bytes h = bytes-are r bytes ∙ simp (le-ltb _ _ h, append-nil)

bytes-valued : (r : Record) → Bytes (r.a ∷ r.b ∷ r.c ∷ []) → r.kind < 2 → bytes_of_record r ≡ r.kind ∷ (take (singles r.kind) (r.a ∷ r.b ∷ r.c ∷ []) ++ bytes_of 4 r.value)
unfolding carries ite
bytes-valued r bytes h = bytes-are r bytes ∙ simp (lt-ltb _ _ h)

-- the tests of a record, as the code puts them together
all_of : (k a b c v : Bool) → (((k && a) && b) && c) && v ≡ both k (both a (both b (both c v)))
unfolding both
all_of true true true true v = refl
all_of true true true false v = refl
all_of true true false c v = refl
all_of true false b c v = refl
all_of false a b c v = refl

either_is : (has : Bool) (x : ℕ) → has || eqb x 0 ≡ clear has x
unfolding clear ite
either_is true x = refl
either_is false x = refl

pub writable-is :
    (r : Record) →
    (((ltb r.kind 9 && (ltb 0 (singles r.kind) || eqb r.a 0)) && (ltb 1 (singles r.kind) || eqb r.b 0)) && (ltb 2 (singles r.kind) || eqb r.c 0)) && (ltb r.kind 2 || eqb r.value 0)
    ≡ writable r
unfolding writable carries
writable-is r = simp either_is (all_of _ _ _ _ _)

-- by which the check itself finds what is a record
pub ruleset tests = (writable-is)

-- a part stored where it has room
stored : (l xs : List ℕ) (at k : ℕ) → k ≡ length xs → at + k ≤ length l → put_mid at k l xs ≡ sets l at xs
stored l xs at k e h =
    put_mid-paste at k l xs xs k refl refl e
    ∙ ap₂ (λ (ys : List ℕ) (n : ℕ). take at l ++ ys ++ drop (at + n) l) (take_all k xs (omega arith)) e
    ∙ sym (sets-eq xs l at (omega arith))

-- the length of an area whose first byte was stored
pub room : (l : List ℕ) (k : ℕ) → length (set l 0 k) ≡ length l
room l k = length-set l 0 k

-- the outcome of the code that lays a record's bytes down
module _ (r : Record) (area : List ℕ) {n : ℕ} (e : n ≡ size_of records r.kind) (fits : n ≤ length area) (y : writable r ≡ true) (ha : r.a < 256) (hb : r.b < 256) (hc : r.c < 256) where
  three : List ℕ
  three = take (singles r.kind) (r.a ∷ r.b ∷ r.c ∷ [])

  many : length three ≡ singles r.kind
  unfolding three
  many = length-take-le (singles r.kind) (r.a ∷ r.b ∷ r.c ∷ []) (singles-few r.kind)

  front : List ℕ
  front = put_mid 1 (1 + singles r.kind - 1) (set area 0 r.kind) three

  laid : front ≡ sets area 0 (r.kind ∷ three)
  unfolding front
  laid = stored (set area 0 r.kind) three 1 (1 + singles r.kind - 1) (omega (arith, many)) (omega (arith, length-set area 0 r.kind, singles-within r.kind))

  bytes : Bytes (r.a ∷ r.b ∷ r.c ∷ [])
  unfolding Bytes
  bytes = (ha, (hb, (hc, tt)))

  done : {after : List ℕ} → after ≡ sets area 0 (bytes_of_record r) → record { answer = Ok n; area = after } ≡ writing r area
  done a = ap₂ (λ (m : ℕ) (l : List ℕ). record { answer = Ok m; area = l }) e a ∙ sym (writing-done r area (omega arith) y)

  pub written-bare : 2 ≤ r.kind → record { answer = Ok n; area = put_mid 1 (1 + singles r.kind - 1) (set area 0 r.kind) (take (singles r.kind) (r.a ∷ r.b ∷ r.c ∷ [])) } ≡ writing r area
  unfolding three front
  written-bare h = done (laid ∙ ap (sets area 0) (sym (bytes-bare r bytes h)))

  pub written-valued :
      r.kind < 2 →
      record { answer = Ok n; area = sets (put_mid 1 (1 + singles r.kind - 1) (set area 0 r.kind) (take (singles r.kind) (r.a ∷ r.b ∷ r.c ∷ []))) (1 + singles r.kind) (bytes_of 4 r.value) }
      ≡ writing r area
  unfolding three front
  written-valued h =
      done
      (ap (λ (l : List ℕ). sets l (1 + singles r.kind) (bytes_of 4 r.value)) laid
      ∙ ap (λ (i : ℕ). sets (sets area 0 (r.kind ∷ three)) i (bytes_of 4 r.value)) (omega (arith, many))
      ∙ sym (sets-append (r.kind ∷ three) (bytes_of 4 r.value) area 0)
      ∙ ap (sets area 0) (sym (bytes-valued r bytes h)))

-- by which the check itself finds what is written
pub ruleset written_by = (writing-short, writing-refused, written-bare, written-valued, size-few, singles-within, room)
