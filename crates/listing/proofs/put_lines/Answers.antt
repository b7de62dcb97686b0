use native.Mathlib.Omega.{arith}
use Rattle.listing.proofs.{Laying.{header-long, header-place, header-area, put-long}}
use Rattle.listing.proofs.{LineByLine.{lays-first, lays-next, lays_all, fewer-left, step-few, at-few}, Turned.turn-next}
use Rattle.listing.proofs.put_lines.Goals as goal

pub slice_bounds-put_all-end : goal.slice_bounds-put_all-end
slice_bounds-put_all-end c = header-long c.first_line-first.ensures

pub put_all-at-requires : goal.put_all-at-requires
put_all-at-requires c = omega (arith, header-long c.first_line-first.ensures)

pub loop-b-init : goal.loop-b-init
loop-b-init c = lays-first _ _ (header-place c.first_line-first.ensures c.put_all-at.ensures) c.opened-start.ensures

pub put_line-at-requires : goal.put_line-at-requires
put_line-at-requires c = (omega (arith, at-few _ _ c.loop-b.invariant c.requires), omega (arith, step-few _ _ c.loop-b.invariant c.requires))

pub overflow_add-step : goal.overflow_add-step
overflow_add-step c = record { fits = omega (arith, step-few _ _ c.loop-b.invariant c.requires) }

pub next_turn-turn-requires : goal.next_turn-turn-requires
next_turn-turn-requires c = omega (arith, step-few _ _ c.loop-b.invariant c.requires, c.loop-b.invariant.few)

pub loop-b-smaller : goal.loop-b-smaller
loop-b-smaller c = fewer-left _ _ c.loop-b.invariant _ c.in-Some.is (turn-next _ _ c.loop-b.b (λ e. (c.loop-b.invariant.holds e).good) c.next_turn-turn.ensures c.step_in_place-answer.ensures c.after_turn-b.ensures)

pub loop-b-preserved : goal.loop-b-preserved
loop-b-preserved c = lays-next _ _ c.loop-b.invariant _ c.in-Some.is c.put_line-at.ensures (turn-next _ _ c.loop-b.b (λ e. (c.loop-b.invariant.holds e).good) c.next_turn-turn.ensures c.step_in_place-answer.ensures c.after_turn-b.ensures)

pub shape_of-out : goal.shape_of-out
shape_of-out c = put-long (lays_all _ _ c.loop-b.invariant c.in_default.is (header-area c.first_line-first.ensures c.put_all-at.ensures))

pub returns : goal.returns
returns c = (lays_all _ _ c.loop-b.invariant c.in_default.is (header-area c.first_line-first.ensures c.put_all-at.ensures), at-few _ _ c.loop-b.invariant c.requires)
