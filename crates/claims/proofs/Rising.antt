-- What a call tries is tried from low to high: in each list of trials the numbers rise. By a test that computes over the list.
-- Assumes nothing.
use Prim.Native.Nat.{ℕ, ◌-◌}
use mathlib.Core.{Bool.{Bool, true}, List.{List, [], ◌∷◌}, Path.{◌≡◌, refl}}
use lib.Dec.{ltb}
use borrow.Author.Tests.{ltb-true}
use Rattle.basics.{proofs.Choices.{both_left, both_right}, specs.Choice.{ite, both}, specs.Refusal.{Trial, number_of}}
use Rattle.messages.specs.Area.{room_of}
use Rattle.form.specs.declared.Tables.{Tables}
use Rattle.refusals.specs.Refusals.{Event, first_trials, peer_trials, write_from_trials, read_from_trials, proceed_from_trials, trials}
use Rattle.refusals.specs.Refusals.Event.{write, read, write_from, read_from, proceed_from}
use Rattle.refusals.specs.Refusals as refusals
use Rattle.channels.proofs.ByKind.{kind-case}
use Rattle.house.specs.declared.Network.{Network}
use Rattle.steps.specs.{Moves.arriving, Steps.{write_trials, read_trials, deliver_trials, lose_trials, comes}}
use Rattle.claims.specs.Tried.{Call, above, step_trials, without, item_trials, trials_of, Rising}

rises : ℕ → List Trial → Bool
rises low [] = true
rises low (t ∷ ts) = both (ltb low (number_of t.refusal)) (rises (number_of t.refusal) ts)

rises-so : (low : ℕ) (ts : List Trial) → rises low ts ≡ true → Rising low ts
unfolding rises
rises-so low [] e = tt
rises-so low (t ∷ ts) e = (ltb-true _ _ (both_left _ _ e), rises-so (number_of t.refusal) ts (both_right _ _ e))

event-rises : (p : Tables) (room : ℕ) (e : Event) → rises 0 (trials p room e) ≡ true
unfolding rises both trials refusals.write_trials refusals.read_trials write_from_trials read_from_trials proceed_from_trials peer_trials first_trials
event-rises p room (write v) = refl
event-rises p room read = refl
event-rises p room (write_from j b v) = refl
event-rises p room (read_from j) = refl
event-rises p room (proceed_from j) = refl

deliver-rises : (s : Network) (k i j : ℕ) → rises 0 (step_trials s (deliver_trials s k i j) (without s k i j) (j - 1) (arriving s k i j)) ≡ true
unfolding rises both comes step_trials deliver_trials trials write_from_trials read_from_trials proceed_from_trials peer_trials first_trials above ite
deliver-rises s k i j =
    kind-case (λ (e : Event). rises 0 (step_trials s (deliver_trials s k i j) (without s k i j) (j - 1) e) ≡ true) k
    (λ _. refl) (λ _. refl) (λ _. refl) (λ _. refl) (λ _. refl)

all-rise : (c : Call) → rises 0 (trials_of c) ≡ true
unfolding rises both trials_of item_trials lose_trials step_trials write_trials read_trials trials refusals.write_trials refusals.read_trials first_trials above ite
all-rise (Call.set_up_panel n t writer i v) = refl
all-rise (Call.event p e a) = event-rises p.tables (room_of a) e
all-rise (Call.event_bare p e) = event-rises p.tables 107 e
all-rise (Call.setting_up n t writer v) = refl
all-rise (Call.write s v) = refl
all-rise (Call.read s i) = refl
all-rise (Call.deliver s k i j) = deliver-rises s k i j
all-rise (Call.lose s i) = refl
all-rise (Call.search s) = refl
all-rise (Call.write_message k v area) = refl
all-rise (Call.read_message s) = refl
all-rise (Call.write_record r area) = refl
all-rise (Call.read_record s at) = refl
all-rise (Call.list s area) = refl

pub rising : (c : Call) → Rising 0 (trials_of c)
rising c = rises-so 0 (trials_of c) (all-rise c)
