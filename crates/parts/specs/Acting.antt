-- The network's steps on the parts that they touch: what each is refused for in the order in which it is tried, and the parts afterwards.
-- That these are the network's own steps is shown in proofs/Back.
-- Assumes nothing.
use Rattle.std.specs.Prelude.{ℕ, ◌+◌, ◌-◌, Bool, true, false, not, List, [], ◌∷◌, leb, eqb, get_or, set, Ok, Err, None}
use Rattle.basics.specs.{Choice.ite, Refusal.{Trial, refuse, met, unless}}
use Rattle.basics.specs.declared.refused.Refusal.{Refusal, TheVariants.{NoSuchPanel, PanelDown, NothingInFlight, TooManyDown, ChannelFull}}
use Rattle.form.specs.Form.{is_panel}
use Rattle.refusals.specs.Refusals.Event.{write, read}
use Rattle.panel.specs.{Calls.after, declared.Next.Next, declared.Panel.Panel}
use Rattle.channels.specs.{Channels.{has, value_in, channel_at}, Posting.{posted_all, taken}, declared.Posted.Posted, declared.Row.Row}
use Rattle.house.specs.NetForm.{may_be_down, downs_in}
use Rattle.steps.specs.Steps.{is_pair, comes}
use Rattle.parts.specs.declared.{Moved.Moved, Parts.Parts, Step.Step, Step.TheVariants.{Write, Read, Deliver, Lose, Rest}}

-- ---- steps by their numbers

abbrev pub delivery_step : ℕ → ℕ → ℕ → Step
delivery_step k i j = Deliver k i j

-- 1 a start of a write of v, 2 of a read by panel i, 3 a delivery to panel i from nobody, 4 power loss of panel i; else no step
unfoldable pub step_at : ℕ → ℕ → ℕ → Step
step_at what i v =
    ite (eqb what 1) (Write v)
    (ite (eqb what 2) (Read i)
    (ite (eqb what 3) (delivery_step 0 0 i)
    (ite (eqb what 4) (Lose i) (Rest i))))

-- ---- places

-- a place that a network has: panel i's, if it has one
unfoldable pub place_within : ℕ → ℕ
place_within i = ite (leb i 7) (i - 1) 0

-- of the panel that acts
unfoldable pub actor_of : Step → ℕ → ℕ
actor_of (Write v) writer = place_within writer
actor_of (Read i) writer = place_within i
actor_of (Deliver k i j) writer = place_within j
actor_of (Lose i) writer = place_within i
actor_of (Rest i) writer = place_within i

-- of the sender in a delivery, and else of the panel that acts
unfoldable pub sender_of : Step → ℕ → ℕ
sender_of (Write v) writer = actor_of (Write v) writer
sender_of (Read i) writer = actor_of (Read i) writer
sender_of (Deliver k i j) writer = place_within i
sender_of (Lose i) writer = actor_of (Lose i) writer
sender_of (Rest i) writer = actor_of (Rest i) writer

-- ---- the parts with one thing changed

abbrev pub with_from : Parts → Row → Parts
with_from x r = record { n = x.n; t = x.t; writer = x.writer; down = x.down; panel = x.panel; from = r; own = x.own }

abbrev pub with_taken : Parts → ℕ → ℕ → Parts
with_taken x k j = with_from x (taken x.from (j - 1) k)

abbrev pub with_actor : Parts → Panel → Row → Parts
with_actor x p r = record { n = x.n; t = x.t; writer = x.writer; down = x.down; panel = p; from = x.from; own = r }

abbrev pub with_down : Parts → ℕ → Parts
with_down x i =
    record { n = x.n; t = x.t; writer = x.writer; down = set x.down (i - 1) true; panel = x.panel; from = x.from; own = x.own }

-- ---- what is tried

abbrev pub refused_by : Parts → Refusal → Moved
refused_by x r = record { answer = Err r; parts = x }

unfoldable pub tried : List Trial → Parts → Moved → Moved
tried ts x a = unless (met ts) a (refused_by x)

abbrev pub is_down : Parts → ℕ → Bool
is_down x i = get_or x.down (i - 1) false

unfoldable pub write_trials : Parts → List Trial
write_trials x = refuse PanelDown (is_down x x.writer) ∷ []

unfoldable pub read_trials : Parts → ℕ → List Trial
read_trials x i = refuse NoSuchPanel (not (is_panel x.n i)) ∷ refuse PanelDown (is_down x i) ∷ []

unfoldable pub deliver_trials : Parts → ℕ → ℕ → ℕ → List Trial
deliver_trials x k i j =
    refuse NoSuchPanel (not (is_pair x.n i j)) ∷ refuse PanelDown (is_down x j) ∷ refuse NothingInFlight (not (has (channel_at x.from (j - 1)) k)) ∷ []

unfoldable pub lose_trials : Parts → ℕ → List Trial
lose_trials x i =
    refuse NoSuchPanel (not (is_panel x.n i)) ∷ refuse PanelDown (is_down x i) ∷ refuse TooManyDown (not (may_be_down x.t (downs_in x.down + 1))) ∷ []

-- ---- the steps

-- the panel has come to q, and what it sends goes into its channels in y; x are the parts before the step
unfoldable pub settled : Parts → Parts → Next → Moved
settled x y q =
    unless q.answer
    (let a : Posted = posted_all y.own q.sends in
    ite a.fits (record { answer = q.answer; parts = with_actor y q.panel a.row }) (refused_by x ChannelFull))
    (refused_by x)

unfoldable pub written : Parts → ℕ → Moved
written x v = tried (write_trials x) x (settled x x (after x.panel (write v)))

unfoldable pub begun : Parts → ℕ → Moved
begun x i = tried (read_trials x i) x (settled x x (after x.panel read))

unfoldable pub delivered : Parts → ℕ → ℕ → ℕ → Moved
delivered x k i j =
    tried (deliver_trials x k i j) x
    (settled x (with_taken x k j) (after x.panel (comes k i (value_in (channel_at x.from (j - 1)) k))))

unfoldable pub lost : Parts → ℕ → Moved
lost x i = tried (lose_trials x i) x (record { answer = Ok None; parts = with_down x i })

unfoldable pub moved : Parts → Step → Moved
moved x (Write v) = written x v
moved x (Read i) = begun x i
moved x (Deliver k i j) = delivered x k i j
moved x (Lose i) = lost x i
moved x (Rest i) = record { answer = Ok None; parts = x }
