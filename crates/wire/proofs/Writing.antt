-- The laws of writing a message into a lent area: which answer exactly when, what the area holds afterwards, and that
-- reading gives the message back.
-- Assumes nothing.
use mathlib.Core.{Bool.{Bool, true, false}, List.{List, ◌++◌}, Logic.◌↔◌, Path.{◌≡◌, refl, ap, ◌∙◌}}
use Prim.Native.Nat.{ℕ, ◌≤◌, ◌<◌}
use native.Mathlib.{Nat.zero-add, Omega.arith}
use lib.{Dec.ltb, ListN.{length, drop}, Seq.{sets, sets-eq}}
use borrow.Author.Tests.{ltb-true, ltb-false}
use Rattle.std.specs.Prelude.{Ok, Err}
use Rattle.basics.specs.Kinds.{byte_of}
use Rattle.basics.specs.declared.kinds.Kind.{Kind}
use Rattle.basics.specs.declared.refused.Refusal.{Refusal, TheVariants.{AreaTooShort, UnknownKind}}
use Rattle.codec.{proofs.Items.length-written, specs.Items.size_of}
use Rattle.wire.specs.Messages.{wire, item_of, bytes_of_message, sendable, reading, Written, writing}
use Rattle.wire.proofs.{Cases.{writing-short, writing-refused, writing-sent}, Laws.{Message, proper, read-written}}

pub length-bytes : (k v : ℕ) → Message k v → length (bytes_of_message k v) ≡ size_of wire k
unfolding bytes_of_message item_of
length-bytes k v m = length-written wire (item_of k v) (proper k v m)

module _ (k v : ℕ) (area : List ℕ) where
  pub data Seen : Type 0 where
    short : length area < size_of wire k → writing k v area ≡ record { answer = Err AreaTooShort; area = area } → Seen
    no-message : size_of wire k ≤ length area → sendable k v ≡ false → writing k v area ≡ record { answer = Err UnknownKind; area = area } → Seen
    sent : size_of wire k ≤ length area → sendable k v ≡ true → writing k v area ≡ record { answer = Ok (size_of wire k); area = sets area 0 (bytes_of_message k v) } → Seen

  seen-message : size_of wire k ≤ length area → (b : Bool) → sendable k v ≡ b → Seen
  seen-message h true e = sent h e (writing-sent k v area h e)
  seen-message h false e = no-message h e (writing-refused k v area h e)

  seen-room : (b : Bool) → ltb (length area) (size_of wire k) ≡ b → Seen
  seen-room true e = short (ltb-true _ _ e) (writing-short k v area (ltb-true _ _ e))
  seen-room false e = seen-message (ltb-false _ _ e) (sendable k v) refl

  pub seen : Seen
  seen = seen-room (ltb (length area) (size_of wire k)) refl

  -- ---- exactly when

  answered : {o : Written} → writing k v area ≡ o → (writing k v area).answer ≡ o.answer
  answered e = ap (λ (o : Written). o.answer) e

  short-of : (writing k v area).answer ≡ Err AreaTooShort → Seen → length area < size_of wire k
  short-of e (short h r) = h
  short-of e (no-message h n r) = let z = answered r in cc
  short-of e (sent h y r) = let z = answered r in cc

  none_of : (writing k v area).answer ≡ Err UnknownKind → Seen → (size_of wire k ≤ length area) × (sendable k v ≡ false)
  none_of e (short h r) = let z = answered r in cc
  none_of e (no-message h n r) = (h, n)
  none_of e (sent h y r) = let z = answered r in cc

  sent-of : (n : ℕ) → (writing k v area).answer ≡ Ok n → Seen → (size_of wire k ≤ length area) × (sendable k v ≡ true)
  sent-of n e (short h r) = let z = answered r in cc
  sent-of n e (no-message h x r) = let z = answered r in cc
  sent-of n e (sent h y r) = (h, y)

  pub write-refused-3-iff : ((writing k v area).answer ≡ Err AreaTooShort) ↔ (length area < size_of wire k)
  write-refused-3-iff = (λ e. short-of e seen, λ h. answered (writing-short k v area h))

  pub write-refused-15-iff : ((writing k v area).answer ≡ Err UnknownKind) ↔ ((size_of wire k ≤ length area) × (sendable k v ≡ false))
  write-refused-15-iff = (λ e. none_of e seen, λ h. answered (writing-refused k v area h.0 h.1))

  pub write-accepted-iff : ((n : ℕ) × ((writing k v area).answer ≡ Ok n)) ↔ ((size_of wire k ≤ length area) × (sendable k v ≡ true))
  write-accepted-iff = (λ a. sent-of a.0 a.1 seen, λ h. (size_of wire k, answered (writing-sent k v area h.0 h.1)))

  -- ---- the area

  left_alone : (r : Refusal) → (writing k v area).answer ≡ Err r → Seen → (writing k v area).area ≡ area
  left_alone n e (short h r) = ap (λ (o : Written). o.area) r
  left_alone n e (no-message h x r) = ap (λ (o : Written). o.area) r
  left_alone n e (sent h y r) = let z = answered r in cc

  -- a refusal leaves the area as it was
  pub refused-untouched : (r : Refusal) → (writing k v area).answer ≡ Err r → (writing k v area).area ≡ area
  refused-untouched r e = left_alone r e seen

  -- a message that is taken stands at the front, and the area past it is as it was
  pub written-front : Message k v → size_of wire k ≤ length area → (writing k v area).area ≡ bytes_of_message k v ++ drop (size_of wire k) area
  written-front m h =
      ap (λ (o : Written). o.area) (writing-sent k v area h m.sent)
      ∙ sets-eq (bytes_of_message k v) area 0 (omega (arith, length-bytes k v m))
      ∙ ap (λ (n : ℕ). bytes_of_message k v ++ drop n area) (zero-add _ ∙ length-bytes k v m)

-- and is read back from there
pub written-reads-back :
    (k : Kind) (v : ℕ) (area : List ℕ) → Message (byte_of k) v → size_of wire (byte_of k) ≤ length area →
    reading (writing (byte_of k) v area).area ≡ Ok (record { kind = k; value = v; used = size_of wire (byte_of k) })
written-reads-back k v area m h =
    ap reading (written-front (byte_of k) v area m h)
    ∙ read-written k v (drop (size_of wire (byte_of k)) area) m
    ∙ ap (λ (n : ℕ). Ok (record { kind = k; value = v; used = n })) (length-bytes (byte_of k) v m)
