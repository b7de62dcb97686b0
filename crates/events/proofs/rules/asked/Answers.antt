use Prim.Native.Nat.{ℕ, ◌-◌, ◌<◌}
use mathlib.Core.Path.{sym, subst}
use native.Mathlib.Omega.{arith}
use Rattle.tables.specs.Places.{r_at}
use Rattle.events.specs.Rules.{read_rule}
use Rattle.events.proofs.rules.asked.Goals as goal

pub overflow_add-q : goal.overflow_add-q
overflow_add-q c = omega (arith, subst (λ (i : ℕ). r_at c.args.p.r (i - 1) < 100) (sym c.wide-i.ensures.0) c.requires.1)

pub returns : goal.returns
unfolding read_rule
returns c = simp (c.with_operation-q.ensures, c.wide-i.ensures.0)
