use Rattle.events.proofs.{Happening.{takes-learn, takes-lag, take-learns, take-lags, take_meets}}
use Rattle.events.proofs.take.take.Goals as goal

pub spread-c-requires : goal.spread-c-requires
spread-c-requires c = takes-learn c.args.p _ c.args.v _ c.wide-i.ensures.0 c.requires c.if-x-y.true

pub learned-q-requires : goal.learned-q-requires
learned-q-requires c = takes-learn c.args.p _ c.args.v _ c.wide-i.ensures.0 c.requires c.if-x-y.true

pub returns-then-x-y : goal.returns-then-x-y
returns-then-x-y c = simp (c.reached.ensures, c.learned-q.ensures, c.spread-c.ensures) (take-learns c.args.p _ _ _ c.wide-i.ensures.0 c.if-x-y.true)

pub value_of-requires : goal.value_of-requires
value_of-requires c = takes-lag c.args.p _ c.args.v _ c.wide-i.ensures.0 c.requires c.if-x-y-2.true

pub returns-then-x-y-2 : goal.returns-then-x-y-2
returns-then-x-y-2 c = simp (c.reached-q.ensures, c.only_place.ensures, c.value_of.ensures) (take-lags c.args.p _ _ _ c.wide-i.ensures.0 c.if-x-y.false c.if-x-y-2.true)

pub returns : goal.returns
returns c = simp (c.reached-q.ensures, c.no_cast.ensures) (take_meets c.args.p _ _ _ c.wide-i.ensures.0 c.if-x-y.false c.if-x-y-2.false)
