use native.Mathlib.Omega.{arith}
use Rattle.text.proofs.{Decimal.length_most, Lines.line-laid}
use Rattle.text.proofs.line_text.Goals as goal

pub push_number-requires : goal.push_number-requires
push_number-requires c = omega (arith, length_most 10 c.args.l.step (omega arith) (omega arith))

pub returns : goal.returns
returns c =
    line-laid
    c.args.l
    c.push_number.ensures
    c.push_panel.ensures
    (rw c.first.ensures at c.push_panel-2.ensures)
    (rw c.second.ensures at c.push_panel-3.ensures)
    c.push_panel-4.ensures
    c.push_result.ensures
    c.push.ensures
