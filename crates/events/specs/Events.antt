-- What an event comes to at one panel: refused, or its rule and then the look at the operation.
-- Assumes nothing.
use Rattle.std.specs.Prelude.{ℕ, ◌-◌, Result, Option, Ok, Err}
use Rattle.basics.specs.{Choice.ite, Refusal.{met, unless}, declared.refused.Refusal.Refusal}
use Rattle.messages.specs.Sends.{no_sends}
use Rattle.form.specs.declared.Tables.{Tables}
use Rattle.events.specs.{Look.look, Rules.{write_rule, read_rule, take_rule, hold_rule, read_from_rule, proceed_rule}}
use Rattle.events.specs.declared.{Done.Done, Finished.Finished, Looked.Looked, Ruled.Ruled}
use Rattle.refusals.specs.Refusals.{Event, right_bit, trials, Event.{write, read, write_from, read_from, proceed_from}}

-- the result of an event: why it is refused, or else what it finished, if anything
abbrev pub Answer : Type 0
Answer = Result (Option Finished) Refusal

-- its own rule
unfoldable pub rule : Tables → Event → Ruled
rule p (write v) = write_rule p v
rule p read = read_rule p
rule p (write_from j b v) = ite (right_bit p (j - 1) b) (take_rule p (j - 1) v) (hold_rule p (j - 1) v)
rule p (read_from j) = read_from_rule p (j - 1)
rule p (proceed_from j) = proceed_rule p (j - 1)

-- "A refusal gives its number only and alters no table"
unfoldable pub refused_by : Tables → Refusal → Done
refused_by p r = record { tables = p; answer = Err r; sends = no_sends }

-- the operation is looked at after the rule
unfoldable pub looked_at : Ruled → Done
looked_at q = let l : Looked = look q.tables in record { tables = l.tables; answer = Ok l.finished; sends = q.sends }

-- all that an event comes to
unfoldable pub happens : Tables → ℕ → Event → Done
happens p room e = unless (met (trials p room e)) (looked_at (rule p e)) (refused_by p)
