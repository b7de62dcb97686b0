use Rattle.steps.specs.Numbers.{load_of}
use Rattle.network.proofs.Along.{Along}
use Rattle.network.proofs.drain_in.Given as goal

abbrev pub invariant-loop-found : goal.invariant-loop-found
invariant-loop-found l = Along l.s l.at l.count

abbrev pub decreases-loop-found : goal.decreases-loop-found
decreases-loop-found l = load_of l.at
