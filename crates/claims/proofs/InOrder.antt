-- Every call answers by the first of its trials that applies, 0 where none does.
-- Assumes nothing.
use Prim.Native.Nat.{ℕ, ◌-◌, ◌<◌}
use mathlib.Core.{Bool.not, List.{List, ◌∷◌, []}, Path.{◌≡◌, sym, ap, subst}}
use native.Mathlib.Omega.{arith}
use borrow.Author.Tests.{ltb-true, ltb-false, not-true, not-false}
use Rattle.std.specs.Prelude.{Result}
use Rattle.basics.specs.{Refusal.{refuse, first_of, code}, declared.refused.Refusal.Refusal, declared.refused.Refusal.TheVariants.NotInForm}
use Rattle.wire.specs.Messages.{wire, Written}
use Rattle.wire.specs.Messages as wires
use Rattle.wire.proofs.Cases as messages
use Rattle.wire.proofs.Laws as message
use Rattle.schedule.specs.Records.{records, refusing, Outcome}
use Rattle.schedule.specs.Records as schedules
use Rattle.schedule.proofs.Cases as entries
use Rattle.schedule.proofs.Laws as entry
use Rattle.messages.specs.Area.{room_of}
use Rattle.form.proofs.InForm.{InForm}
use Rattle.refusals.specs.Refusals.{refusal, Event.{write, read}}
use Rattle.panel.specs.Calls.{told, called, made, set_up_trials}
use Rattle.promise.{proofs.AfterEvents.after-code, proofs.Answers.{at-writer, peer-test}, proofs.Happenings.code_is, specs.View.code_of}
use Rattle.channels.proofs.ByKind.{kind-case}
use Rattle.house.{proofs.NetForms.{Formed, form-view, writer-low, writer-high}, specs.NetForm.net_form}
use Rattle.house.specs.{Places.{tables_at, n_of, writer_of}, declared.Network.Network}
use Rattle.steps.proofs.Passing.{receiver-place, may_read, MayDeliver, may-deliver}
use Rattle.steps.{proofs.Settling.code-nothing, specs.Moves.arriving, specs.Search.sought, specs.SetUp.set_up}
use Rattle.steps.specs.Steps.{write_trials, read_trials, deliver_trials, lose_trials, comes, write_in, read_in, deliver_in, lose_in, written, begun, delivered, lost}
use Rattle.listing.proofs.Answering as listed
use Rattle.claims.specs.Tried.{Call, read_number, answer_of, step_trials, without, item_trials, trials_of, First}
use Rattle.claims.proofs.Trying.{first-of, tries, passes, given-first, item-first, Settled, checked-first, step-first}

-- ---- a panel at a place of a network in form

module _ (s : Network) (f : Formed s) where
  at-writer-place : InForm (tables_at s (writer_of s - 1)) × Settled (tables_at s (writer_of s - 1)) (write 0)
  at-writer-place =
      let within : writer_of s - 1 < n_of s = omega (arith, writer-low s f, writer-high s f) in
      let m = f.member (writer_of s - 1) within in
      (m.in-form, at-writer _ (omega (arith, m.own-number, m.same_writer, writer-low s f)))

  at-receiver : (k i j : ℕ) → MayDeliver s k i j → InForm (tables_at s (j - 1)) × Settled (tables_at s (j - 1)) (arriving s k i j)
  unfolding comes
  at-receiver k i j may =
      let m = f.member (j - 1) (receiver-place may.pair) in
      let peer = peer-test (tables_at s (j - 1)) i may.pair.sender-low (omega (arith, may.pair.sender-high, m.same-n))
      (λ (e : i ≡ (tables_at s (j - 1)).number). may.pair.apart (omega (arith, e, m.own-number, may.pair.receiver-low))) in
      (m.in-form, kind-case (Settled (tables_at s (j - 1))) k (λ _. peer) (λ _. peer) (λ _. peer) (λ _. peer) (λ _. peer))

-- ---- the steps of a network

module _ (s : Network) where
  write-first : (v : ℕ) → code_of (written s v).answer ≡ first_of (step_trials s (write_trials s) s (writer_of s - 1) (write v))
  unfolding write_in write_trials
  write-first v = step-first s s (writer_of s - 1) (write v) (write_trials s) (λ f _. at-writer-place s (form-view s f))

  read_first : (i : ℕ) → code_of (begun s i).answer ≡ first_of (step_trials s (read_trials s i) s (i - 1) read)
  unfolding read_in read_trials
  read_first i =
      step-first s s (i - 1) read (read_trials s i)
      (λ f z. let m = (may_read s i).0 z in (((form-view s f).member (i - 1) (omega (arith, m.low, m.high))).in-form, tt))

  deliver-first :
      (k i j : ℕ) → code_of (delivered s k i j).answer ≡ first_of (step_trials s (deliver_trials s k i j) (without s k i j) (j - 1) (arriving s k i j))
  unfolding deliver_in deliver_trials
  deliver-first k i j =
      step-first s (without s k i j) (j - 1) (arriving s k i j) (deliver_trials s k i j)
      (λ f z. at-receiver s (form-view s f) k i j ((may-deliver s k i j).0 z))

  lose-first : (i : ℕ) → code_of (lost s i).answer ≡ first_of (refuse NotInForm (not (net_form s)) ∷ lose_trials s i)
  unfolding lose_in lose_trials
  lose-first i = checked-first s (lose_trials s i) [] _ (λ _ _. passes code-nothing)

  search-first : code (sought s) ≡ first_of (refuse NotInForm (not (net_form s)) ∷ [])
  unfolding sought
  search-first = given-first _ _

-- ---- bytes

number : {A : Type 0} {a b : Result A Refusal} → a ≡ b → code a ≡ code b
number e = ap (λ (m : Result _ Refusal). code m) e

module _ (s : List ℕ) where
  message-first : code (wires.reading s) ≡ first_of (item_trials wire s 0)
  message-first =
      item-first wire s 0 (λ u. number ((message.refused-15-iff s).1 u)) (λ h. number ((message.refused-16-iff s).1 h))
      (λ w. number ((message.accepted-iff s).1 w).1)

  record-first : (at : ℕ) → read_number (schedules.reading s at) ≡ first_of (item_trials records s at)
  unfolding read_number refusing
  record-first at =
      item-first records s at (λ u. ap read_number ((entry.refused-15-iff s at).1 u)) (λ h. ap read_number ((entry.refused-16-iff s at).1 h))
      (λ w. ap read_number ((entry.accepted-iff s at).1 w).1)

-- ---- all calls

pub answers : (c : Call) → answer_of c ≡ first_of (trials_of c)
unfolding answer_of trials_of refusal called told made set_up_trials set_up
answers (Call.set_up_panel n t writer i v) = given-first _ _
answers (Call.event p e a) = code_is p.tables (room_of a) e
answers (Call.event_bare p e) = after-code p e
answers (Call.setting_up n t writer v) = given-first _ _
answers (Call.write s v) = write-first s v
answers (Call.read s i) = read_first s i
answers (Call.deliver s k i j) = deliver-first s k i j
answers (Call.lose s i) = lose-first s i
answers (Call.search s) = search-first s
answers (Call.write_message k v area) =
    tries _ _ (λ e. ap wrote (messages.writing-short k v area (ltb-true _ _ e))) λ e.
    tries _ [] (λ h. ap wrote (messages.writing-refused k v area (ltb-false _ _ e) (not-true _ h)))
    (λ h. passes (ap wrote (messages.writing-sent k v area (ltb-false _ _ e) (not-false _ h))))
  where
    wrote : Written → ℕ
    wrote o = code o.answer
answers (Call.read_message s) = message-first s
answers (Call.write_record r area) =
    tries _ _ (λ e. ap wrote (entries.writing-short r area (ltb-true _ _ e))) λ e.
    tries _ [] (λ h. ap wrote (entries.writing-refused r area (ltb-false _ _ e) (not-true _ h)))
    (λ h. passes (ap wrote (entries.writing-done r area (ltb-false _ _ e) (not-false _ h))))
  where
    wrote : Outcome → ℕ
    wrote o = code o.answer
answers (Call.read_record s at) = record-first s at
answers (Call.list s area) =
    tries _ [] (λ e. (listed.refused-3-iff s area).1 (ltb-true _ _ e)) (λ e. passes ((listed.accepted-iff s area).1 (ltb-false _ _ e)))

pub first-that-applies : (c : Call) → First (trials_of c) (answer_of c)
first-that-applies c = subst (First (trials_of c)) (sym (answers c)) (first-of (trials_of c))
