-- What a panel's calls come to: the next panel, the result and what is sent; or, with a lent message area, the outcome and the
-- area afterwards.
-- Assumes nothing.
use Rattle.std.specs.Prelude.{ℕ, not, List, [], ◌∷◌, length, Result, Ok}
use Rattle.basics.specs.Refusal.{Trial, refuse, met, and_then}
use Rattle.basics.specs.declared.refused.Refusal.{Refusal, TheVariants.{OutOfRange, NoSuchPanel}}
use Rattle.messages.specs.{Area.{Area, laid_in, room_of}, Sends.messages_of}
use Rattle.form.specs.{Form.{fits, is_panel, fresh}, declared.Tables.Tables}
use Rattle.refusals.specs.Refusals.{Event}
use Rattle.events.specs.{Events.happens, declared.Done.Done}
use Rattle.panel.specs.declared.{Next.Next, Outcome.Outcome, Panel.Panel}

abbrev pub panel_of : Tables → Panel
panel_of t = record { tables = t }

-- ---- without a message area, which is room for 107 messages

unfoldable pub next_of : Done → Next
next_of d = record { panel = panel_of d.tables; answer = d.answer; sends = d.sends }

unfoldable pub after : Panel → Event → Next
after p e = next_of (happens p.tables 107 e)

-- ---- with a message area

pub record Called : Type 0 where
  pub outcome : Outcome
  pub area : Area

-- an event's messages in the area, and their count
unfoldable pub told : Done → Area → Called
told d a =
    record {
      outcome = record { panel = panel_of d.tables; answer = d.answer; count = length (messages_of d.sends) };
      area = laid_in 0 (messages_of d.sends) a;
    }

unfoldable pub called : Panel → Event → Area → Called
called p e a = told (happens p.tables (room_of a) e) a

-- ---- set-up

-- a panel of zeros, as it stands where set-up makes none
unfoldable pub nothing : Panel
nothing = panel_of (fresh 0 0 0 0 0)

-- set-up of a lone panel: 1 for n, t or writer, then 4 for its number
unfoldable pub set_up_trials : ℕ → ℕ → ℕ → ℕ → List Trial
set_up_trials n t writer number = refuse OutOfRange (not (fits n t writer)) ∷ refuse NoSuchPanel (not (is_panel n number)) ∷ []

unfoldable pub made : ℕ → ℕ → ℕ → ℕ → ℕ → Result Panel Refusal
made n t writer number initial = and_then (met (set_up_trials n t writer number)) (Ok (panel_of (fresh n t writer number initial)))
