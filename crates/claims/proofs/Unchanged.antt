-- "A refusal gives its number only and alters no table, channel or buffer", of every call.
-- Assumes nothing.
use Prim.Native.Nat.{ℕ, zero, suc, ◌+◌}
use mathlib.Core.{Bool.{Bool, true, false}, List.{List, []}, Logic.◌≢◌, Path.{◌≡◌, refl, sym, ap, ◌∙◌}}
use lib.{Dec.ltb, ListN.length}
use borrow.Author.Tests.{ltb-true, ltb-false}
use Rattle.std.specs.Prelude.{Result, Ok, Err}
use Rattle.basics.{proofs.Choices.ite-case, specs.Refusal.{Trial, code}, specs.declared.refused.Refusal.Refusal}
use Rattle.wire.specs.Messages.{writing}
use Rattle.wire.proofs.Writing as message
use Rattle.schedule.specs.Records as records
use Rattle.schedule.specs.declared.Record.{Record}
use Rattle.schedule.proofs.Writing as entry
use Rattle.messages.{proofs.Laying.further-none, specs.Area.{Area, laid_in, room_of}, specs.Sends.{Message, messages_of}}
use Rattle.form.specs.declared.Tables.{Tables}
use Rattle.refusals.specs.Refusals.{Event, refusal}
use Rattle.events.specs.Events.{happens}
use Rattle.panel.specs.{Calls.{panel_of, next_of, after, told, called}, declared.Next.Next, declared.Panel.Panel}
use Rattle.promise.{proofs.AfterEvents.after-code, proofs.Happenings.{code_is, refused-tables, refused-messages}, specs.View.code_of}
use Rattle.house.specs.declared.Network.{Network}
use Rattle.steps.{proofs.Draining.by-case, proofs.Settling.{code-nothing, tried-case, settled_case}, specs.Drain.{next_in, drain_by, drain_in, drained}}
use Rattle.steps.specs.Numbers.{load_of}
use Rattle.steps.specs.Steps.{tried, settled, checked, write_in, read_in, deliver_in, lose_in, written, begun, delivered, lost}
use Rattle.steps.specs.declared.{Drained.Drained, Stepped.Stepped}
use Rattle.listing.specs.Listing.{longest, listing}
use Rattle.listing.proofs.Answering as listed
use Rattle.claims.specs.Tried.{Call, answer_of, SamePanel, SameBare, Unchanged}

-- ---- a panel

module _ (p : Panel) (e : Event) where
  event-unchanged : (a : Area) → refusal p.tables (room_of a) e ≢ 0 → SamePanel p e a
  unfolding called told
  event-unchanged a n =
      let none : messages_of (happens p.tables (room_of a) e).sends ≡ [] = refused-messages p.tables (room_of a) e n in
      record {
        panel = ap (λ (t : Tables). panel_of t) (refused-tables p.tables (room_of a) e n);
        count = ap length none;
        area = ap (λ (ms : List Message). laid_in 0 ms a) none ∙ sym (further-none {l = record { count = 0; area = a }}).area_is;
      }

  bare-unchanged : refusal p.tables 107 e ≢ 0 → SameBare p e
  unfolding after next_of
  bare-unchanged n =
      record {
        panel = ap (λ (t : Tables). panel_of t) (refused-tables p.tables 107 e n);
        messages = refused-messages p.tables 107 e n;
      }

-- ---- a network

abbrev Same : Network → Stepped → Type 0
Same s a = code_of a.answer ≢ 0 → a.network ≡ s

settled-unchanged : (s s₁ : Network) (i : ℕ) (q : Next) → Same s (settled s s₁ i q)
settled-unchanged s s₁ i q = settled_case s s₁ i q (Same s) (λ _ _ _. refl) (λ _. refl) (λ a n. absurd (n a.code))

tried-unchanged : (ts : List Trial) (s : Network) (a : Stepped) → Same s a → Same s (tried ts s a)
tried-unchanged ts s a h = tried-case ts s a (Same s) (λ _ _ _. refl) (λ _. h)

checked-unchanged : (s : Network) (a : Stepped) → Same s a → Same s (checked s a)
unfolding checked
checked-unchanged s a h = ite-case (Same s) _ _ _ (λ _. h) (λ _ _. refl)

module _ (s : Network) where
  write-unchanged : (v : ℕ) → Same s (written s v)
  unfolding write_in
  write-unchanged v = checked-unchanged s _ (tried-unchanged _ s _ (settled-unchanged s s _ _))

  read-unchanged : (i : ℕ) → Same s (begun s i)
  unfolding read_in
  read-unchanged i = checked-unchanged s _ (tried-unchanged _ s _ (settled-unchanged s s _ _))

  deliver-unchanged : (k i j : ℕ) → Same s (delivered s k i j)
  unfolding deliver_in
  deliver-unchanged k i j = checked-unchanged s _ (tried-unchanged _ s _ (settled-unchanged s _ _ _))

  lose-unchanged : (i : ℕ) → Same s (lost s i)
  unfolding lose_in
  lose-unchanged i = checked-unchanged s _ (tried-unchanged _ s _ (λ n. absurd (n code-nothing)))

-- a drain, refused as a whole
drain-keeps : (f : ℕ) (s₀ s : Network) (m : ℕ) → code (drain_by f s₀ s m).answer ≢ 0 → (drain_by f s₀ s m).network ≡ s₀
unfolding drain_by
drain-keeps zero s₀ s m = λ n. absurd (n refl)
drain-keeps (suc f) s₀ s m =
    by-case f s₀ s m (λ (d : Drained). code d.answer ≢ 0 → d.network ≡ s₀) (λ _ n. absurd (n refl))
    (λ x _ _. drain-keeps f s₀ (next_in s x).network (m + 1)) (λ _ _ _ _ _. refl)

pub drain-unchanged : (s : Network) → code (drained s).answer ≢ 0 → (drained s).network ≡ s
unfolding drained drain_in
drain-unchanged s =
    ite-case (λ (d : Drained). code d.answer ≢ 0 → d.network ≡ s) _ _ _ (λ _. drain-keeps (suc (load_of s)) s s 0) (λ _ _. refl)

-- ---- a lent byte area

-- what is refused is refused as something
refused-as : {A : Type 0} (m : Result A Refusal) → code m ≢ 0 → (r : Refusal) × (m ≡ Err r)
refused-as (Ok x) n = absurd (n refl)
refused-as (Err r) n = (r, refl)

message-unchanged : (k v : ℕ) (area : List ℕ) → code (writing k v area).answer ≢ 0 → (writing k v area).area ≡ area
message-unchanged k v area n = let q = refused-as _ n in message.refused-untouched k v area q.0 q.1

record-unchanged : (r : Record) (area : List ℕ) → code (records.writing r area).answer ≢ 0 → (records.writing r area).area ≡ area
record-unchanged r area n = let q = refused-as _ n in entry.refused-untouched r area q.0 q.1

list-unchanged : (s area : List ℕ) → code (listing s area).answer ≢ 0 → (listing s area).area ≡ area
list-unchanged s area n = by (ltb (length area) longest) refl
  where
    by : (b : Bool) → ltb (length area) longest ≡ b → (listing s area).area ≡ area
    by true e = listed.refused-untouched s area (ltb-true _ _ e)
    by false e = absurd (n ((listed.accepted-iff s area).1 (ltb-false _ _ e)))

-- ---- all calls

pub unchanged : (c : Call) → answer_of c ≢ 0 → Unchanged c
unfolding answer_of Unchanged called told
unchanged (Call.set_up_panel n t writer i v) _ = tt
unchanged (Call.event p e a) n = event-unchanged p e a (λ z. n (code_is p.tables (room_of a) e ∙ z))
unchanged (Call.event_bare p e) n = bare-unchanged p e (λ z. n (after-code p e ∙ z))
unchanged (Call.setting_up n t writer v) _ = tt
unchanged (Call.write s v) n = write-unchanged s v n
unchanged (Call.read s i) n = read-unchanged s i n
unchanged (Call.deliver s k i j) n = deliver-unchanged s k i j n
unchanged (Call.lose s i) n = lose-unchanged s i n
unchanged (Call.search s) _ = tt
unchanged (Call.write_message k v area) n = message-unchanged k v area n
unchanged (Call.read_message s) _ = tt
unchanged (Call.write_record r area) n = record-unchanged r area n
unchanged (Call.read_record s at) _ = tt
unchanged (Call.list s area) n = list-unchanged s area n
