use mathlib.Core.Path.{sym}
use Rattle.house.proofs.Turns.{hit-is}
use Rattle.house.specs.Search.{flying}
use Rattle.house.proofs.first_in_flight.Goals as goal

pub returns-then-has : goal.returns-then-has
returns-then-has c = sym
    (hit-is (flying c.args.rows c.args.down) c.search.from c.loop-to.to c.loop-kind.kind c.has.ensures
    c.search-test.true c.loop-to-test.true c.loop-kind-test.true c.search.invariant.1 c.loop-to.invariant.1 c.loop-kind.invariant.1 c.if-not-off.true c.if-has.true)
