use mathlib.Core.Path.{sym}
use Rattle.steps.proofs.Networks.{good-test}
use Rattle.parts.specs.Steps.{step_in}
use Rattle.network.proofs.Along.{along-start, along-done, along-refused, along-falls, along-next}
use Rattle.network.proofs.drain_in.Goals as goal

pub loop-found-init : goal.loop-found-init
loop-found-init c = along-start _ c.requires c.whole.ensures.1

pub step_in-o-requires : goal.step_in-o-requires
step_in-o-requires c = good-test _ c.loop-found.invariant.good

pub returns-in-Err : goal.returns-in-Err
unfolding step_in
returns-in-Err c = along-refused c.loop-found.invariant (sym c.in-Some.ensures) c.step_in-o.ensures c.in-Err.is

pub loop-found-smaller : goal.loop-found-smaller
unfolding step_in
loop-found-smaller c = along-falls c.loop-found.invariant (sym c.in-Some.ensures) c.step_in-o.ensures c.in_default-answer.is

pub loop-found-preserved : goal.loop-found-preserved
unfolding step_in
loop-found-preserved c = along-next c.loop-found.invariant (sym c.in-Some.ensures) c.step_in-o.ensures c.in_default-answer.is

pub returns : goal.returns
returns c = along-done c.loop-found.invariant (sym c.in_default.ensures)
