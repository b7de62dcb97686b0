-- The network's steps but drain: starts, deliveries and power loss, what each is refused for in the order in which it is tried, and
-- the network afterwards.
-- Assumes nothing.
use Rattle.std.specs.Prelude.{ℕ, ◌+◌, ◌-◌}
use mathlib.Core.{Bool.{Bool, true, false, not}, List.{List, [], ◌∷◌}}
use Rattle.std.specs.Prelude.{eqb, Ok, Err, None}
use Rattle.basics.specs.{Choice.{ite, both}, Refusal.{Trial, refuse, met, unless}}
use Rattle.basics.specs.declared.refused.Refusal.{Refusal, TheVariants.{NotInForm, NoSuchPanel, PanelDown, NothingInFlight, TooManyDown, ChannelFull}}
use Rattle.form.specs.Form.{is_panel}
use Rattle.refusals.specs.Refusals.{Event, Event.{write, read, write_from, read_from, proceed_from}}
use Rattle.panel.specs.{Calls.after, declared.Next.Next}
use Rattle.channels.specs.{Channels.{by_kind, has, value_in}, Posting.{posted_all, taken}, declared.Posted.Posted}
use Rattle.house.specs.NetForm.{may_be_down, downs, net_form}
use Rattle.house.specs.Places.{panel_at, row_at, channel_of, down_at, n_of, t_of, writer_of, with_panel, with_row, with_down}
use Rattle.house.specs.declared.Network.{Network}
use Rattle.steps.specs.declared.Stepped.{Stepped}

-- "A refusal gives its number only and alters no table, channel or buffer"
abbrev pub refused_by : Network → Refusal → Stepped
refused_by s r = record { network = s; answer = Err r }

-- where no trial is met, a; else the first that is
unfoldable pub tried : List Trial → Network → Stepped → Stepped
tried ts s a = unless (met ts) a (refused_by s)

-- ---- what is tried: 4, 5, 9 and 10 here, 7, 8 and 11 to 13 by the panel, 14 last

-- two different panels
unfoldable pub is_pair : ℕ → ℕ → ℕ → Bool
is_pair n i j = both (is_panel n i) (both (is_panel n j) (not (eqb i j)))

unfoldable pub write_trials : Network → List Trial
write_trials s = refuse PanelDown (down_at s (writer_of s - 1)) ∷ []

unfoldable pub read_trials : Network → ℕ → List Trial
read_trials s i = refuse NoSuchPanel (not (is_panel (n_of s) i)) ∷ refuse PanelDown (down_at s (i - 1)) ∷ []

unfoldable pub deliver_trials : Network → ℕ → ℕ → ℕ → List Trial
deliver_trials s k i j =
    refuse NoSuchPanel (not (is_pair (n_of s) i j)) ∷ refuse PanelDown (down_at s (j - 1)) ∷ refuse NothingInFlight (not (has (channel_of s (i - 1) (j - 1)) k)) ∷ []

unfoldable pub lose_trials : Network → ℕ → List Trial
lose_trials s i =
    refuse NoSuchPanel (not (is_panel (n_of s) i)) ∷ refuse PanelDown (down_at s (i - 1)) ∷ refuse TooManyDown (not (may_be_down (t_of s) (downs s + 1))) ∷ []

-- ---- what a panel's event comes to

-- the panel at place i has come to q, and what it sends goes into its channels in s₁; s is the network before the step
unfoldable pub settled : Network → Network → ℕ → Next → Stepped
settled s s₁ i q =
    unless q.answer
    (let a : Posted = posted_all (row_at s₁ i) q.sends in
    ite a.fits (record { network = with_row (with_panel s₁ i q.panel) i a.row; answer = q.answer }) (refused_by s ChannelFull))
    (refused_by s)

-- a message of kind k from panel j, with value v
unfoldable pub comes : ℕ → ℕ → ℕ → Event
comes k j v = by_kind k (write_from j false v) (write_from j true v) (read_from j) (proceed_from j) (proceed_from j)

-- ---- the steps of a network in form

unfoldable pub write_in : Network → ℕ → Stepped
write_in s v = tried (write_trials s) s (settled s s (writer_of s - 1) (after (panel_at s (writer_of s - 1)) (write v)))

unfoldable pub read_in : Network → ℕ → Stepped
read_in s i = tried (read_trials s i) s (settled s s (i - 1) (after (panel_at s (i - 1)) read))

-- "A delivery takes one message out of the channel and runs the event; messages sent go into channels"
unfoldable pub deliver_in : Network → ℕ → ℕ → ℕ → Stepped
deliver_in s k i j =
    tried (deliver_trials s k i j) s
    (settled s (with_row s (i - 1) (taken (row_at s (i - 1)) (j - 1) k)) (j - 1)
    (after (panel_at s (j - 1)) (comes k i (value_in (channel_of s (i - 1) (j - 1)) k))))

unfoldable pub lose_in : Network → ℕ → Stepped
lose_in s i = tried (lose_trials s i) s (record { network = with_down s (i - 1); answer = Ok None })

-- ---- the steps: 2 is tried first

unfoldable pub checked : Network → Stepped → Stepped
checked s a = ite (net_form s) a (refused_by s NotInForm)

abbrev pub written : Network → ℕ → Stepped
written s v = checked s (write_in s v)

abbrev pub begun : Network → ℕ → Stepped
begun s i = checked s (read_in s i)

abbrev pub delivered : Network → ℕ → ℕ → ℕ → Stepped
delivered s k i j = checked s (deliver_in s k i j)

abbrev pub lost : Network → ℕ → Stepped
lost s i = checked s (lose_in s i)
