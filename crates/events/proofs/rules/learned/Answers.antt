use Prim.Native.Nat.{ℕ, ◌-◌, ◌<◌}
use mathlib.Core.Path.{sym, subst}
use native.Mathlib.Omega.{arith}
use Rattle.tables.specs.Places.{w_at}
use Rattle.events.specs.Rules.{learned}
use Rattle.events.proofs.rules.learned.Goals as goal

pub overflow_add-q : goal.overflow_add-q
overflow_add-q c = omega (arith, subst (λ (i : ℕ). w_at c.args.p.w (i - 1) < 200) (sym c.wide-i.ensures.0) c.requires.1)

pub bounds-q-x : goal.bounds-q-x
bounds-q-x c = omega (arith, c.wide-x.ensures.0, subst (λ (i : ℕ). w_at c.args.p.w (i - 1) < 200) (sym c.wide-i.ensures.0) c.requires.1)

pub returns : goal.returns
unfolding learned
returns c = simp (c.wide-x.ensures.0, c.wide-i.ensures.0)
