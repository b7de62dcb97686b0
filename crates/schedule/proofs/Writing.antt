-- The laws of writing a record into a lent area: which answer exactly when, what the area holds afterwards, and that
-- reading gives the record back.
-- Assumes nothing.
use mathlib.Core.{Bool.{Bool, true, false}, List.{List, [], ◌++◌}, Logic.◌↔◌, Path.{◌≡◌, refl, ap, ◌∙◌}}
use Prim.Native.Nat.{ℕ, ◌≤◌, ◌<◌}
use native.Mathlib.{Nat.zero-add, Omega.arith}
use lib.{Dec.ltb, ListN.{length, drop}, Seq.{sets, sets-eq}}
use borrow.Author.Tests.{ltb-true, ltb-false}
use Rattle.std.specs.Prelude.{Ok, Err}
use Rattle.basics.specs.declared.refused.Refusal.{Refusal, TheVariants.{AreaTooShort, UnknownKind}}
use Rattle.codec.{proofs.Items.length-written, specs.Items.size_of}
use Rattle.schedule.specs.{Records.{records, item_of, bytes_of_record, reading, writable, Outcome, writing}, declared.Record.Record}
use Rattle.schedule.proofs.{Cases.{writing-short, writing-refused, writing-done}, Laws.{Scheduled, proper, read-written}}

pub length-bytes : (r : Record) → Scheduled r → length (bytes_of_record r) ≡ size_of records r.kind
unfolding bytes_of_record item_of
length-bytes r s = length-written records (item_of r) (proper r s)

module _ (r : Record) (area : List ℕ) where
  data Seen : Type 0 where
    short : length area < size_of records r.kind → writing r area ≡ record { answer = Err AreaTooShort; area = area } → Seen
    no_record :
        size_of records r.kind ≤ length area → writable r ≡ false → writing r area ≡ record { answer = Err UnknownKind; area = area } → Seen
    done :
        size_of records r.kind ≤ length area → writable r ≡ true →
        writing r area ≡ record { answer = Ok (size_of records r.kind); area = sets area 0 (bytes_of_record r) } → Seen

  seen-record : size_of records r.kind ≤ length area → (b : Bool) → writable r ≡ b → Seen
  seen-record h true e = done h e (writing-done r area h e)
  seen-record h false e = no_record h e (writing-refused r area h e)

  seen-room : (b : Bool) → ltb (length area) (size_of records r.kind) ≡ b → Seen
  seen-room true e = short (ltb-true _ _ e) (writing-short r area (ltb-true _ _ e))
  seen-room false e = seen-record (ltb-false _ _ e) (writable r) refl

  seen : Seen
  seen = seen-room (ltb (length area) (size_of records r.kind)) refl

  -- ---- exactly when

  answered : {o : Outcome} → writing r area ≡ o → (writing r area).answer ≡ o.answer
  answered e = ap (λ (o : Outcome). o.answer) e

  short-of : (writing r area).answer ≡ Err AreaTooShort → Seen → length area < size_of records r.kind
  short-of e (short h q) = h
  short-of e (no_record h n q) = let z = answered q in cc
  short-of e (done h y q) = let z = answered q in cc

  none_of : (writing r area).answer ≡ Err UnknownKind → Seen → (size_of records r.kind ≤ length area) × (writable r ≡ false)
  none_of e (short h q) = let z = answered q in cc
  none_of e (no_record h n q) = (h, n)
  none_of e (done h y q) = let z = answered q in cc

  done-of : (n : ℕ) → (writing r area).answer ≡ Ok n → Seen → (size_of records r.kind ≤ length area) × (writable r ≡ true)
  done-of n e (short h q) = let z = answered q in cc
  done-of n e (no_record h x q) = let z = answered q in cc
  done-of n e (done h y q) = (h, y)

  pub write-refused-3-iff : ((writing r area).answer ≡ Err AreaTooShort) ↔ (length area < size_of records r.kind)
  write-refused-3-iff = (λ e. short-of e seen, λ h. answered (writing-short r area h))

  pub write-refused-15-iff : ((writing r area).answer ≡ Err UnknownKind) ↔ ((size_of records r.kind ≤ length area) × (writable r ≡ false))
  write-refused-15-iff = (λ e. none_of e seen, λ h. answered (writing-refused r area h.0 h.1))

  pub write-accepted-iff : ((n : ℕ) × ((writing r area).answer ≡ Ok n)) ↔ ((size_of records r.kind ≤ length area) × (writable r ≡ true))
  write-accepted-iff = (λ a. done-of a.0 a.1 seen, λ h. (size_of records r.kind, answered (writing-done r area h.0 h.1)))

  -- ---- the area

  left_alone : (x : Refusal) → (writing r area).answer ≡ Err x → Seen → (writing r area).area ≡ area
  left_alone x e (short h q) = ap (λ (o : Outcome). o.area) q
  left_alone x e (no_record h n q) = ap (λ (o : Outcome). o.area) q
  left_alone x e (done h y q) = let z = answered q in cc

  -- a refusal leaves the area as it was
  pub refused-untouched : (x : Refusal) → (writing r area).answer ≡ Err x → (writing r area).area ≡ area
  refused-untouched x e = left_alone x e seen

  -- a record that is taken stands at the front, and the area past it is as it was
  pub written-front : Scheduled r → size_of records r.kind ≤ length area → (writing r area).area ≡ bytes_of_record r ++ drop (size_of records r.kind) area
  written-front s h =
      ap (λ (o : Outcome). o.area) (writing-done r area h s.whole)
      ∙ sets-eq (bytes_of_record r) area 0 (omega (arith, length-bytes r s))
      ∙ ap (λ (n : ℕ). bytes_of_record r ++ drop n area) (zero-add _ ∙ length-bytes r s)

  -- and is read back from there
  pub written-reads-back :
      Scheduled r → size_of records r.kind ≤ length area →
      reading (writing r area).area 0 ≡ Ok (record { «record» = r; used = size_of records r.kind })
  written-reads-back s h =
      ap (λ (l : List ℕ). reading l 0) (written-front s h)
      ∙ read-written r [] (drop (size_of records r.kind) area) s
      ∙ ap (λ (n : ℕ). Ok (record { «record» = r; used = n })) (length-bytes r s)
