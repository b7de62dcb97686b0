-- The public calls that can refuse, what each answers, and what each tries, in order: the description's list of refusals, call by call.
-- Not here: a drain, which tries 2 and then what its deliveries try (specs/Acts); the calls of `edges`, which are the panel's over another
-- area, and those of `reader`, which read at the place that it keeps.
-- Assumes nothing.
use Rattle.std.specs.Prelude.{ℕ, ◌+◌, ◌-◌, ◌<◌, Result, Ok, Err}
use mathlib.Core.{Bool.{true, false, not}, List.{List, [], ◌∷◌, ◌++◌}, Path.◌≡◌}
use lib.{Dec.{leb, ltb}, ListN.{length, get_or}}
use Rattle.basics.specs.{Choice.{ite, both}, Refusal.{Trial, refuse, number_of, code}}
use Rattle.basics.specs.declared.refused.Refusal.TheVariants.{OutOfRange, NotInForm, AreaTooShort, NoSuchPanel, ChannelFull, UnknownKind, CutShort}
use Rattle.codec.specs.Items.{Format, size_of}
use Rattle.wire.specs.Messages.{wire, sendable}
use Rattle.wire.specs.Messages as wires
use Rattle.schedule.specs.{Records.{records, writable}, declared.{Record.Record, Taken.Taken, Unread.Unread}}
use Rattle.schedule.specs.Records as schedules
use Rattle.messages.specs.{Area.{Area, room_of}, Sends.messages_of}
use Rattle.form.specs.Form.{fits, is_panel}
use Rattle.refusals.specs.Refusals.{Event, trials}
use Rattle.panel.specs.{Calls.{made, after, called}, declared.Panel.Panel}
use Rattle.promise.specs.View.{code_of}
use Rattle.channels.specs.Posting.{posted_all, taken}
use Rattle.house.specs.{NetForm.net_form, Places.{panel_at, tables_at, row_at, writer_of, with_row}, declared.Network.Network}
use Rattle.steps.specs.{Moves.arriving, Search.sought, SetUp.set_up}
use Rattle.steps.specs.Steps.{write_trials, read_trials, deliver_trials, lose_trials, written, begun, delivered, lost}
use Rattle.listing.specs.Listing.{longest, listing}

pub data Call : Type 0 where
  -- a panel: set-up with n, t, writer, number and initial value; an event, with a lent message area and without
  set_up_panel : ℕ → ℕ → ℕ → ℕ → ℕ → Call
  event : Panel → Event → Area → Call
  event_bare : Panel → Event → Call
  -- a network: set-up with n, t, writer and initial value; starts, a delivery (kind, sender, receiver), power loss, search
  setting_up : ℕ → ℕ → ℕ → ℕ → Call
  write : Network → ℕ → Call
  read : Network → ℕ → Call
  deliver : Network → ℕ → ℕ → ℕ → Call
  lose : Network → ℕ → Call
  search : Network → Call
  -- bytes: a message (kind, value) into an area, and from bytes; a record into an area, and from a place of a schedule
  write_message : ℕ → ℕ → List ℕ → Call
  read_message : List ℕ → Call
  write_record : Record → List ℕ → Call
  read_record : List ℕ → ℕ → Call
  -- the listing of a schedule, into an area
  list : List ℕ → List ℕ → Call

-- ---- what a call answers: 0 where it acts, else the refusal's number

-- of a record that was read
unfoldable pub read_number : Result Taken Unread → ℕ
read_number (Ok t) = 0
read_number (Err u) = number_of u.refusal

unfoldable pub answer_of : Call → ℕ
answer_of (set_up_panel n t writer i v) = code (made n t writer i v)
answer_of (event p e a) = code_of (called p e a).outcome.answer
answer_of (event_bare p e) = code_of (after p e).answer
answer_of (setting_up n t writer v) = code (set_up n t writer v)
answer_of (write s v) = code_of (written s v).answer
answer_of (read s i) = code_of (begun s i).answer
answer_of (deliver s k i j) = code_of (delivered s k i j).answer
answer_of (lose s i) = code_of (lost s i).answer
answer_of (search s) = code (sought s)
answer_of (write_message k v area) = code (wires.writing k v area).answer
answer_of (read_message s) = code (wires.reading s)
answer_of (write_record r area) = code (schedules.writing r area).answer
answer_of (read_record s at) = read_number (schedules.reading s at)
answer_of (list s area) = code (listing s area).answer

-- ---- what a call tries, in order

-- the trials whose number is above k
unfoldable pub above : ℕ → List Trial → List Trial
above k [] = []
above k (t ∷ ts) = ite (ltb k (number_of t.refusal)) (t ∷ above k ts) (above k ts)

-- 2, then the step's own trials; then those of the event at the panel in place i (its 2, 3, 4 and 6 are settled by then); and at last 14,
-- room in the channels of s₁ for what the panel sends
unfoldable pub step_trials : Network → List Trial → Network → ℕ → Event → List Trial
step_trials s own s₁ i e =
    refuse NotInForm (not (net_form s))
    ∷ own ++ (above 6 (trials (tables_at s i) 107 e) ++ (refuse ChannelFull (not (posted_all (row_at s₁ i) (after (panel_at s i) e).sends).fits) ∷ []))

-- the network without the message that is delivered
abbrev pub without : Network → ℕ → ℕ → ℕ → Network
without s k i j = with_row s (i - 1) (taken (row_at s (i - 1)) (j - 1) k)

-- an item read at a place: "unknown kind byte"; "no byte, or body cut short"
unfoldable pub item_trials : Format → List ℕ → ℕ → List Trial
item_trials f s at =
    refuse UnknownKind (both (ltb at (length s)) (not (f.known (get_or s at 0))))
    ∷ refuse CutShort (ite (leb (length s) at) true (ltb (length s) (at + size_of f (get_or s at 0))))
    ∷ []

unfoldable pub trials_of : Call → List Trial
trials_of (set_up_panel n t writer i v) = refuse OutOfRange (not (fits n t writer)) ∷ refuse NoSuchPanel (not (is_panel n i)) ∷ []
-- 2, 3; then by the event: 6, 7, 8 (write), 7, 8 (read), 4 and 11 (WRITE), 4 and 13 (READ), 4 and 12 (PROCEED)
trials_of (event p e a) = trials p.tables (room_of a) e
trials_of (event_bare p e) = trials p.tables 107 e
trials_of (setting_up n t writer v) = refuse OutOfRange (not (fits n t writer)) ∷ []
-- 2, 5, 7, 8, 14
trials_of (write s v) = step_trials s (write_trials s) s (writer_of s - 1) (Event.write v)
-- 2, 4, 5, 7, 8, 14
trials_of (read s i) = step_trials s (read_trials s i) s (i - 1) Event.read
-- 2, 4, 5, 9; 11, 12 or 13 by kind; 14
trials_of (deliver s k i j) = step_trials s (deliver_trials s k i j) (without s k i j) (j - 1) (arriving s k i j)
-- 2, 4, 5, 10
trials_of (lose s i) = refuse NotInForm (not (net_form s)) ∷ lose_trials s i
trials_of (search s) = refuse NotInForm (not (net_form s)) ∷ []
trials_of (write_message k v area) = refuse AreaTooShort (ltb (length area) (size_of wire k)) ∷ refuse UnknownKind (not (sendable k v)) ∷ []
trials_of (read_message s) = item_trials wire s 0
trials_of (write_record r area) = refuse AreaTooShort (ltb (length area) (size_of records r.kind)) ∷ refuse UnknownKind (not (writable r)) ∷ []
trials_of (read_record s at) = item_trials records s at
trials_of (list s area) = refuse AreaTooShort (ltb (length area) longest) ∷ []

-- ---- what is said of them

-- k is the number of the first trial that applies, and 0 where none does
pub data First : List Trial → ℕ → Type 0 where
  none : First [] 0
  here : {t : Trial} {ts : List Trial} → t.given ≡ true → First (t ∷ ts) (number_of t.refusal)
  later : {t : Trial} {ts : List Trial} {k : ℕ} → t.given ≡ false → First ts k → First (t ∷ ts) k

-- the numbers rise from low on
abbrev pub Rising : ℕ → List Trial → Type 0
Rising low [] = Unit {0}
Rising low (t ∷ ts) = (low < number_of t.refusal) × Rising (number_of t.refusal) ts

-- a panel's call with a lent area leaves all as it was
pub record SamePanel (p : Panel) (e : Event) (a : Area) : Type 0 where
  pub panel : (called p e a).outcome.panel ≡ p
  pub count : (called p e a).outcome.count ≡ 0
  pub area : (called p e a).area ≡ a

-- and so does one without
pub record SameBare (p : Panel) (e : Event) : Type 0 where
  pub panel : (after p e).panel ≡ p
  pub messages : messages_of (after p e).sends ≡ []

-- what the call was given to change is as it was: panel, network, lent area
unfoldable pub Unchanged : Call → Type 0
Unchanged (set_up_panel n t writer i v) = Unit {0}
Unchanged (event p e a) = SamePanel p e a
Unchanged (event_bare p e) = SameBare p e
Unchanged (setting_up n t writer v) = Unit {0}
Unchanged (write s v) = (written s v).network ≡ s
Unchanged (read s i) = (begun s i).network ≡ s
Unchanged (deliver s k i j) = (delivered s k i j).network ≡ s
Unchanged (lose s i) = (lost s i).network ≡ s
Unchanged (search s) = Unit {0}
Unchanged (write_message k v area) = (wires.writing k v area).area ≡ area
Unchanged (read_message s) = Unit {0}
Unchanged (write_record r area) = (schedules.writing r area).area ≡ area
Unchanged (read_record s at) = Unit {0}
Unchanged (list s area) = (listing s area).area ≡ area
