use mathlib.Core.Path.{ap}
use lib.ListN.{length-append}
use native.Mathlib.Omega.{arith}
use Rattle.text.proofs.{Appending.{behind, long_as, named}, Decimal.{dec-digit, dec-more, length_more, length_some, length_most}}
use Rattle.text.specs.declared.Text.{Text}
use Rattle.text.proofs.Text.+push_number.Goals as goal
use Rattle.text.proofs.Text.+push_number.Goals.{then-n-ge10, else-n-ge10}

pub push_number-requires : goal.push_number-requires
push_number-requires t c = (omega arith, omega (arith, length_more c.args.n c.if-n-ge10.true))

pub push-requires : goal.push-requires
push-requires t c =
    elim c.if-n-ge10.branch [
      | then-n-ge10 w ↦ omega (arith, ap (λ (s : Text). s.length) w.self-is, long_as _ _ w.push_number.ensures.text, length_more c.args.n w.if-n-ge10.true)
      | else-n-ge10 w ↦ omega (arith, ap (λ (s : Text). s.length) w.self-is, length_some c.args.n)
    ]

pub returns : goal.returns
returns t c =
    let most = length_most 10 c.args.n (omega arith) (omega arith) in
    elim c.if-n-ge10.branch [
      | then-n-ge10 w ↦
          let more = length_more c.args.n w.if-n-ge10.true in
          named 10 (dec-more c.args.n w.if-n-ge10.true) (simp length-append (omega (arith, more, most))) (behind w.push_number.ensures (rw w.self-is at c.push.ensures))
      | else-n-ge10 w ↦ named 10 (dec-digit c.args.n (omega arith)) (omega arith) (rw w.self-is at c.push.ensures)
    ]
