use native.Mathlib.Omega.{arith}
use Rattle.text.proofs.{Appending.{behind, named}, Lines.byte-most}
use Rattle.text.specs.Text.{panel_text}
use Rattle.text.proofs.Text.push_panel.Goals as goal

pub push_number-requires : goal.push_number-requires
push_number-requires c = omega (arith, byte-most c.from.result)

pub returns-in-Some : goal.returns-in-Some
unfolding panel_text
returns-in-Some c = named 4 (simp (c.in-Some.is, c.from.ensures)) (omega (arith, byte-most c.from.result)) (behind c.push.ensures c.push_number.ensures)

pub returns-in-None : goal.returns-in-None
unfolding panel_text
returns-in-None c = named 4 (simp c.in-None.is) (omega arith) (behind c.push.ensures c.push-in-None.ensures)
