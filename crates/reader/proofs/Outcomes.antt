-- Each contract of this crate allows one outcome. `new` and `next` give or take a struct that holds a reference: each one's clause
-- is read off (`-says`), and allows one outcome (`-only`).
-- Assumes nothing.
use mathlib.Core.{List.List, Path.{◌≡◌, refl, sym, ap, ◌∙◌}}
use Prim.Native.Nat.{ℕ}
use seplogic.Ra.Ura.{Ura}
use base.Logic.{SProp}
use prog.{Memory.Memory, Routine.Routine}
use types.Logic.{Logic}
use contract.{Lifetimes.Lfts, Monad.{Fun, fact}}
use denote.{MutBor.MutBor, Ref.Bor}
use Rattle.basics.specs.Outcome.{OneResult}
use Rattle.std.specs.Prelude.{Result}
use Rattle.basics.specs.declared.refused.Refusal.{Refusal}
use Rattle.schedule.specs.declared.Unread.{Unread}
use Rattle.schedule.specs.declared.Taken as Scheduled
use Rattle.wire.specs.declared.Taken.{Taken}
use Rattle.reader.specs.declared.Reader.{Reader}
use Rattle.reader.specs.Reading.{Next, started}
use Rattle.reader.specs.Records as OfRecords
use Rattle.reader.specs.Messages as OfMessages
use Rattle.reader.specs.contracts.new as new-reader
use Rattle.reader.specs.contracts.records.next as next-record
use Rattle.reader.proofs.records.record_at.Kinds as record-at-kinds
use Rattle.reader.proofs.records.record_at.Reads as record-at
use Rattle.reader.specs.contracts.wire_messages.next as next-message
use Rattle.reader.proofs.wire_messages.message_at.Kinds as message-at-kinds
use Rattle.reader.proofs.wire_messages.message_at.Reads as message-at

pub record-at-only : OneResult 1 record-at-kinds.ps record-at-kinds.r record-at.Post
record-at-only κs a x y e f p q = p ∙ sym q

pub message-at-only : OneResult 1 message-at-kinds.ps message-at-kinds.r message-at.Post
message-at-only κs a x y e f p q = p ∙ sym q

-- ---- `new`, one function under the names of both modules

module _ {M : Type 1} {𝓤 : Ura M} (𝓛 : Logic 𝓤) (mem : Memory → SProp 𝓤) (run : Routine → Fun 𝓤) where
  pub new-says : (κs : Lfts 1) (s : Bor (List ℕ)) (r : Reader) → new-reader.ensures-1 𝓛 κs mem run s (record { entry = s; exit = s }) r ≡ fact 𝓤 (r ≡ started s)
  new-says κs s r = refl

pub new-records-only : (s : Bor (List ℕ)) {r q : Reader} → r ≡ started s → q ≡ started s → r ≡ q
new-records-only s e f = e ∙ sym f

pub new-messages-only : (s : Bor (List ℕ)) {r q : Reader} → r ≡ started s → q ≡ started s → r ≡ q
new-messages-only s e f = e ∙ sym f

-- ---- records

module _ {M : Type 1} {𝓤 : Ura M} (𝓛 : Logic 𝓤) (mem : Memory → SProp 𝓤) (run : Routine → Fun 𝓤) where
  pub next-record-says :
      (κs : Lfts 2) (r q : MutBor Reader) (a : Result Scheduled.Taken Unread) →
      next-record.ensures-1 𝓛 κs mem run r (record { entry = r; exit = q }) a ≡ fact 𝓤 (record { read = a; reader = q.now } ≡ OfRecords.next r.now)
  next-record-says κs r q a = refl

pub next-record-only :
    (h : Reader) {a b : Result Scheduled.Taken Unread} {r q : Reader} →
    record { read = a; reader = r } ≡ OfRecords.next h → record { read = b; reader = q } ≡ OfRecords.next h → (a ≡ b) × (r ≡ q)
next-record-only h e f = (ap (λ (n : Next Scheduled.Taken Unread). n.read) (e ∙ sym f), ap (λ (n : Next Scheduled.Taken Unread). n.reader) (e ∙ sym f))

-- ---- messages

module _ {M : Type 1} {𝓤 : Ura M} (𝓛 : Logic 𝓤) (mem : Memory → SProp 𝓤) (run : Routine → Fun 𝓤) where
  pub next-message-says :
      (κs : Lfts 2) (r q : MutBor Reader) (a : Result Taken Refusal) →
      next-message.ensures-1 𝓛 κs mem run r (record { entry = r; exit = q }) a ≡ fact 𝓤 (record { read = a; reader = q.now } ≡ OfMessages.next r.now)
  next-message-says κs r q a = refl

pub next-message-only :
    (h : Reader) {a b : Result Taken Refusal} {r q : Reader} →
    record { read = a; reader = r } ≡ OfMessages.next h → record { read = b; reader = q } ≡ OfMessages.next h → (a ≡ b) × (r ≡ q)
next-message-only h e f = (ap (λ (n : Next Taken Refusal). n.read) (e ∙ sym f), ap (λ (n : Next Taken Refusal). n.reader) (e ∙ sym f))
