use mathlib.Core.Path.{sym, ◌∙◌}
use native.Mathlib.Omega.{arith}
use Rattle.listing.proofs.Answering.{too_long_lem, not-too-long, short, done}
use Rattle.listing.proofs.listing.Goals as goal

pub returns-then-out-lt-LONGEST-clause-out_after : goal.returns-then-out-lt-LONGEST-clause-out_after
returns-then-out-lt-LONGEST-clause-out_after c = short _ _ (omega arith)

pub returns-then-schedule-gt-MOST-clause-out_after : goal.returns-then-schedule-gt-MOST-clause-out_after
returns-then-schedule-gt-MOST-clause-out_after c =
    done _ _ c.if-out-lt-LONGEST.false (c.too_long.ensures ∙ sym (too_long_lem _ (omega arith))) c.put_all.ensures

pub returns-clause-out_after : goal.returns-clause-out_after
returns-clause-out_after c = done _ _ c.if-out-lt-LONGEST.false (sym (not-too-long _ (omega arith))) c.put_lines.ensures.0
