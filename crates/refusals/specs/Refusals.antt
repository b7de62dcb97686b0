-- The events at one panel, and which refusals each meets, in the order in which they are tried.
-- Assumes nothing.
use Rattle.std.specs.Prelude.{ℕ, ◌+◌, ◌-◌, ◌%◌}
use mathlib.Core.{Bool.{Bool, true, not}, List.{List, [], ◌∷◌, ◌++◌}}
use Rattle.std.specs.Prelude.{leb, ltb, eqb}
use Rattle.basics.specs.{Below.one_if, Choice.{ite, both}, Refusal.{Trial, refuse, first_of}}
use Rattle.basics.specs.declared.refused.Refusal.TheVariants.{NotInForm, AreaTooShort, NoSuchPanel, NotTheWriter, Unfinished, UsedUp, StrayWrite, StrayProceed, LineFull}
use Rattle.tables.specs.Places.{w_at, r_at, hold_at, line_at}
use Rattle.form.specs.{Form.{in_form, is_panel, at_writer, idle}, Setting.{own_w, own_r}, declared.Operation.Operation}
use Rattle.form.specs.declared.Tables.{Tables}

pub data Event : Type 0 where
  write : ℕ → Event
  read : Event
  write_from : ℕ → Bool → ℕ → Event
  read_from : ℕ → Event
  proceed_from : ℕ → Event

-- ---- refusals

-- j can send to this panel
unfoldable pub is_peer : Tables → ℕ → Bool
is_peer p j = both (is_panel p.n j) (not (eqb j p.number))

abbrev pub is_idle : Operation → Bool
is_idle o = idle o

-- the bit is (w[j]+1) mod 2 (line 11)
unfoldable pub right_bit : Tables → ℕ → Bool → Bool
right_bit p k b = eqb (one_if b) ((w_at p.w k + 1) % 2)

-- a WRITE's number "is above 200, or at the writer above w[i]"
unfoldable pub too_high : Tables → ℕ → Bool
too_high p x = ite (ltb 200 x) true (both (at_writer p) (ltb (own_w p) x))

-- 11: "WRITE whose number (w[j]+1, or w[j]+2 when the bit differs) is above 200, or at the writer above w[i]; or it must be held and one is held"
unfoldable pub stray : Tables → ℕ → Bool → Bool
stray p k b =
    ite (right_bit p k b) (too_high p (w_at p.w k + 1)) (ite (too_high p (w_at p.w k + 2)) true (hold_at p.held k).full)

-- 13: "READ that must wait, line has 100"
unfoldable pub line_full : Tables → ℕ → Bool
line_full p k = both (ltb (w_at p.w k) (own_w p)) (leb 100 (line_at p.lines k).len)

-- what every event may meet, and what one from a peer may; room is how many messages the lent area holds
unfoldable pub first_trials : Tables → ℕ → List Trial
first_trials p room = refuse NotInForm (not (in_form p)) ∷ refuse AreaTooShort (ltb room 107) ∷ []

unfoldable pub peer_trials : Tables → ℕ → ℕ → List Trial
peer_trials p room j = first_trials p room ++ (refuse NoSuchPanel (not (is_peer p j)) ∷ [])

unfoldable pub write_trials : Tables → ℕ → List Trial
write_trials p room =
    first_trials p room ++ (refuse NotTheWriter (not (at_writer p)) ∷ refuse Unfinished (not (is_idle p.operation)) ∷ refuse UsedUp (leb 200 (own_w p)) ∷ [])

unfoldable pub read_trials : Tables → ℕ → List Trial
read_trials p room = first_trials p room ++ (refuse Unfinished (not (is_idle p.operation)) ∷ refuse UsedUp (leb 100 (own_r p)) ∷ [])

unfoldable pub write_from_trials : Tables → ℕ → ℕ → Bool → List Trial
write_from_trials p room j b = peer_trials p room j ++ (refuse StrayWrite (stray p (j - 1) b) ∷ [])

unfoldable pub read_from_trials : Tables → ℕ → ℕ → List Trial
read_from_trials p room j = peer_trials p room j ++ (refuse LineFull (line_full p (j - 1)) ∷ [])

-- 12: "PROCEED with r[j] = r[i]"
unfoldable pub proceed_from_trials : Tables → ℕ → ℕ → List Trial
proceed_from_trials p room j = peer_trials p room j ++ (refuse StrayProceed (eqb (r_at p.r (j - 1)) (own_r p)) ∷ [])

-- "tried from low to high"
unfoldable pub trials : Tables → ℕ → Event → List Trial
trials p room (write v) = write_trials p room
trials p room read = read_trials p room
trials p room (write_from j b v) = write_from_trials p room j b
trials p room (read_from j) = read_from_trials p room j
trials p room (proceed_from j) = proceed_from_trials p room j

-- the number of the refusal, 0 for none
unfoldable pub refusal : Tables → ℕ → Event → ℕ
refusal p room e = first_of (trials p room e)
