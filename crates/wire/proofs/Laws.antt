-- The laws of messages on the wire, under the names that every codec here has: reading what was written (`read-written`),
-- writing what was read (`written_read`), no two messages share their bytes (`written-injective`), no message's
-- bytes begin another's (`written-prefix-free`), and what is accepted or refused exactly when. All by the laws of items.
-- Assumes nothing.
use mathlib.Core.{Bool.{Bool, true, false}, List.{List, [], ◌∷◌, ◌++◌}, Logic.{◌⊎◌, inl, inr, ◌↔◌}, Path.{◌≡◌, refl, sym, ap, ap₂, subst₂, ◌∙◌}}
use Prim.Native.Nat.{ℕ, ◌+◌, ◌^◌, ◌≤◌, ◌<◌}
use native.Mathlib.Omega.{arith}
use lib.{Dec.{eqb, lit<}, ListN.{length, get_or, take, drop, length-drop}}
use borrow.Author.Tests.{lt-ltb, ltb-true, eqb-true}
use Rattle.std.specs.Prelude.{Result, Ok, Err}
use Rattle.basics.{proofs.{Choices.{both_true, both_left, both_right}, KindBytes.kind-back}, specs.{Choice.ite, Kinds.{byte_of, kind_of}}}
use Rattle.basics.specs.declared.kinds.Kind.{Kind}
use Rattle.basics.specs.declared.refused.Refusal.{Refusal, TheVariants.{UnknownKind, CutShort}}
use Rattle.codec.{proofs.Items.{Whole, Cut, Unknown, FoundAt, standing, item-whole}, specs.Items.{Item, size_of, written, item_at, Fits, Proper}}
use Rattle.codec.specs.Numbers.{Bytes}
use Rattle.codec.specs.Items as Items
use Rattle.codec.proofs.Items as items
use Rattle.wire.specs.declared.Taken.{Taken}
use Rattle.wire.specs.Messages.{carries, wire, item_of, bytes_of_message, sendable, refusal_of, of_kind, message_of, reading}
use Rattle.wire.proofs.Cases.{byte-is, kinded}

-- a message: a kind, and a value of four bytes, zero with a kind that carries none
pub record Message (k v : ℕ) : Type 0 where
  pub sent : sendable k v ≡ true
  pub value-fits : v < 2 ^ 32

kind_known : (k v : ℕ) → sendable k v ≡ true → k < 4
unfolding sendable
kind_known k v h = ltb-true k 4 (both_left _ _ h)

-- the value that stands in a message's item is its value
value-kept : (k v : ℕ) → sendable k v ≡ true → get_or (item_of k v).numbers 0 0 ≡ v
unfolding item_of sendable ite
value-kept k v h = by_kind (carries k) (both_right _ _ h)
  where
    by_kind : (b : Bool) → ite b true (eqb v 0) ≡ true → get_or (ite b (v ∷ []) []) 0 0 ≡ v
    by_kind true e = refl
    by_kind false e = sym (eqb-true _ _ e)

pub proper : (k v : ℕ) → Message k v → Proper wire (item_of k v)
unfolding item_of wire ite Fits
proper k v m =
    record {
      kind_known = lt-ltb _ _ (kind_known k v m.sent);
      kind_byte = let h : k < 4 = kind_known k v m.sent in omega arith;
      numbers_fit = by_kind (carries k);
    }
  where
    by_kind : (b : Bool) → Fits (ite b (4 ∷ []) []) (ite b (v ∷ []) [])
    by_kind true = (m.value-fits, tt)
    by_kind false = tt

-- ---- reading what was written

pub read-written :
    (k : Kind) (v : ℕ) (rest : List ℕ) → Message (byte_of k) v →
    reading (bytes_of_message (byte_of k) v ++ rest) ≡ Ok (record { kind = k; value = v; used = length (bytes_of_message (byte_of k) v) })
unfolding reading message_of of_kind bytes_of_message item_of
read-written k v rest m =
    ap message_of (items.read-written wire (item_of (byte_of k) v) [] rest (proper (byte_of k) v m))
    ∙ simp (kind-back k, value-kept (byte_of k) v m.sent)

-- ---- no two messages share their bytes, and none begins another

same_item : (k v l u : ℕ) → Message k v → Message l u → item_of k v ≡ item_of l u → (k ≡ l) × (v ≡ u)
unfolding item_of
same_item k v l u m o e =
    (ap (λ (i : Item). i.kind) e, sym (value-kept k v m.sent) ∙ ap (λ (i : Item). get_or i.numbers 0 0) e ∙ value-kept l u o.sent)

pub written-prefix-free :
    (k v l u : ℕ) (x y : List ℕ) → Message k v → Message l u → bytes_of_message k v ++ x ≡ bytes_of_message l u ++ y → (k ≡ l) × (v ≡ u)
unfolding bytes_of_message
written-prefix-free k v l u x y m o e = same_item k v l u m o (items.written-prefix-free wire _ _ x y (proper k v m) (proper l u o) e)

pub written-injective : (k v l u : ℕ) → Message k v → Message l u → bytes_of_message k v ≡ bytes_of_message l u → (k ≡ l) × (v ≡ u)
written-injective k v l u m o e = written-prefix-free k v l u [] [] m o (ap (λ (s : List ℕ). s ++ []) e)

-- ---- writing what was read

-- a body of the format: one number where the kind carries one, none where not
abbrev Shape : Bool → List ℕ → Type 0
Shape b xs = (xs ≡ ite b (get_or xs 0 0 ∷ []) []) × (ite b true (eqb (get_or xs 0 0) 0) ≡ true) × (get_or xs 0 0 < 2 ^ 32)

shape : (b : Bool) (xs : List ℕ) → Fits (ite b (4 ∷ []) []) xs → Shape b xs
unfolding ite Fits
shape true [] h = absurd h
shape true (x ∷ []) h = (refl, refl, h.0)
shape true (x ∷ y ∷ ys) h = absurd h.1
shape false [] h = (refl, refl, lit< tt)
shape false (x ∷ xs) h = absurd h

-- an item of the format is the item of its kind and of the value in it
whole_item : (i : Item) → Proper wire i → (i ≡ item_of i.kind (get_or i.numbers 0 0)) × Message i.kind (get_or i.numbers 0 0)
unfolding item_of wire sendable
whole_item i h =
    let s : Shape (carries i.kind) i.numbers = shape (carries i.kind) i.numbers h.numbers_fit in
    (ap (λ (xs : List ℕ). record { kind = i.kind; numbers = xs }) s.0, record { sent = both_true h.kind_known s.1; value-fits = s.2 })

-- what reading gave, from its answer
abbrev AsMessage : Items.Taken → Taken → Type 0
AsMessage t m = (i : Item) × (t ≡ Items.Taken.taken i m.used) × (i.kind ≡ byte_of m.kind) × (get_or i.numbers 0 0 ≡ m.value)

as-message : (t : Items.Taken) (m : Taken) → message_of t ≡ Ok m → AsMessage t m
unfolding message_of of_kind
as-message (Items.Taken.taken i n) m e = go (kind_of i.kind) refl e
  where
    go : (j : Result Kind Refusal) → kind_of i.kind ≡ j → of_kind j (get_or i.numbers 0 0) n ≡ Ok m → AsMessage (Items.Taken.taken i n) m
    go (Ok k) h f =
        let same : record { kind = k; value = get_or i.numbers 0 0; used = n } ≡ m = cc in
        (i, ap (λ (t : Taken). Items.Taken.taken i t.used) same, byte-is i.kind h ∙ ap (λ (t : Taken). byte_of t.kind) same, ap (λ (t : Taken). t.value) same)
    go (Err r) h f = cc
as-message (Items.Taken.refused r) m e = cc

-- what a message that was read is: a message, whose bytes are those at the front
pub record ReadAs (s : List ℕ) (k v n : ℕ) : Type 0 where
  pub message : Message k v
  pub size : n ≡ size_of wire k
  pub within : n ≤ length s
  pub bytes : bytes_of_message k v ≡ take n s

pub written_read : (s : List ℕ) (m : Taken) → Bytes s → reading s ≡ Ok m → ReadAs s (byte_of m.kind) m.value m.used
unfolding bytes_of_message
written_read s m h e =
    let a : AsMessage (item_at wire s 0) m = as-message (item_at wire s 0) m (unfold reading in e) in
    let f : FoundAt wire s 0 a.0 m.used = items.written_read wire s 0 a.0 m.used h a.1 in
    let w : (a.0 ≡ item_of a.0.kind (get_or a.0.numbers 0 0)) × Message a.0.kind (get_or a.0.numbers 0 0) = whole_item a.0 f.proper in
    record {
      message = subst₂ (λ (x y : ℕ). Message x y) a.2 a.3 w.1;
      size = f.size ∙ ap (size_of wire) a.2;
      within = omega (arith, f.within);
      bytes = sym (ap (written wire) (w.0 ∙ ap₂ item_of a.2 a.3)) ∙ f.bytes;
    }

-- ---- exactly when

abbrev used_in : Result Taken Refusal → ℕ
used_in (Ok m) = m.used
used_in (Err r) = 0

module _ (s : List ℕ) where
  unknown-to : Unknown wire s 0 → reading s ≡ Err UnknownKind
  unfolding reading message_of refusal_of ite
  unknown-to u = ap message_of ((items.refused-15-iff wire s 0).1 u)

  short-to : (length s ≤ 0) ⊎ Cut wire s 0 → reading s ≡ Err CutShort
  unfolding reading message_of refusal_of ite
  short-to h = ap message_of ((items.refused-16-iff wire s 0).1 h)

  whole-to : Whole wire s 0 → (m : Taken) × (reading s ≡ Ok m)
  unfolding reading message_of of_kind wire
  whole-to w =
      let k = kinded _ (ltb-true _ _ w.kind_known) in (
        record { kind = k.0; value = get_or (standing wire s 0).numbers 0 0; used = size_of wire (get_or s 0 0) },
        ap message_of (item-whole wire s 0 w.byte-there w.kind_known w.body-there) ∙ simp k.1,
      )

  data Seen : Type 0 where
    unknown : Unknown wire s 0 → Seen
    short : (length s ≤ 0) ⊎ Cut wire s 0 → Seen
    whole : Whole wire s 0 → Seen

  seen_of : items.Seen wire s 0 → Seen
  seen_of (items.Seen.none h e) = short (inl h)
  seen_of (items.Seen.unknown h n e) = unknown (record { byte-there = h; no_kind = n })
  seen_of (items.Seen.cut h k l e) = short (inr (record { byte-there = h; kind_known = k; body-short = l }))
  seen_of (items.Seen.whole h k l e) = whole (record { byte-there = h; kind_known = k; body-there = l })

  accepted-from : (m : Taken) → reading s ≡ Ok m → Seen → Whole wire s 0
  accepted-from m e (unknown u) = let z = unknown-to u in cc
  accepted-from m e (short h) = let z = short-to h in cc
  accepted-from m e (whole w) = w

  unknown-from : reading s ≡ Err UnknownKind → Seen → Unknown wire s 0
  unknown-from e (unknown u) = u
  unknown-from e (short h) = let z = short-to h in cc
  unknown-from e (whole w) = let z = (whole-to w).1 in cc

  short-from : reading s ≡ Err CutShort → Seen → (length s ≤ 0) ⊎ Cut wire s 0
  short-from e (unknown u) = let z = unknown-to u in cc
  short-from e (short h) = h
  short-from e (whole w) = let z = (whole-to w).1 in cc

  only-from : (r : Refusal) → reading s ≡ Err r → Seen → (r ≡ UnknownKind) ⊎ (r ≡ CutShort)
  only-from r e (unknown u) = let z = unknown-to u in inl (cc)
  only-from r e (short h) = let z = short-to h in inr (cc)
  only-from r e (whole w) = let z = (whole-to w).1 in cc

  seen : Seen
  seen = seen_of (items.seen wire s 0)

  pub accepted-iff : ((m : Taken) × (reading s ≡ Ok m)) ↔ Whole wire s 0
  accepted-iff = (λ a. accepted-from a.0 a.1 seen, whole-to)

  pub refused-15-iff : (reading s ≡ Err UnknownKind) ↔ Unknown wire s 0
  refused-15-iff = (λ e. unknown-from e seen, unknown-to)

  pub refused-16-iff : (reading s ≡ Err CutShort) ↔ ((length s ≤ 0) ⊎ Cut wire s 0)
  refused-16-iff = (λ e. short-from e seen, short-to)

  pub refused-only : (r : Refusal) → reading s ≡ Err r → (r ≡ UnknownKind) ⊎ (r ≡ CutShort)
  refused-only r e = only-from r e seen

  -- an accepted message uses as many bytes as its kind has
  pub accepted-used : (m : Taken) → reading s ≡ Ok m → m.used ≡ size_of wire (get_or s 0 0)
  unfolding whole-to
  accepted-used m e = let z = (whole-to (accepted-from m e seen)).1 in ap (λ (r : Result Taken Refusal). used_in r) (sym e ∙ z)

-- and lies within the bytes, wherever it stands
pub accepted-within : (s : List ℕ) (at : ℕ) (m : Taken) → reading (drop at s) ≡ Ok m → at + m.used ≤ length s
accepted-within s at m e =
    let w = (accepted-iff (drop at s)).0 (m, e) in
    omega (arith, w.byte-there, w.body-there, accepted-used (drop at s) m e, length-drop at s)
