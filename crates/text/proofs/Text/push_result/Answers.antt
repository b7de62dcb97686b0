use native.Mathlib.Omega.{arith}
use Rattle.text.proofs.{Appending.{behind, named}, Decimal.length_most}
use Rattle.text.specs.Text.{result_text}
use Rattle.text.proofs.Text.push_result.Goals as goal

pub push_number-requires : goal.push_number-requires
push_number-requires c = omega (arith, length_most 10 c.in-Some.r.number (omega arith) (omega arith))

pub returns-in-Some : goal.returns-in-Some
unfolding result_text
returns-in-Some c =
    let most = length_most 10 c.in-Some.r.number (omega arith) (omega arith) in
    named 12 (simp c.in-Some.is) (omega (arith, most)) (behind c.push.ensures (behind c.push-in-Some.ensures c.push_number.ensures))

pub returns-in-None : goal.returns-in-None
unfolding result_text
returns-in-None c = named 12 (simp c.in-None.is) (omega arith) (behind c.push.ensures c.push-in-None.ensures)
