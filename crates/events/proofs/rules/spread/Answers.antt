use Prim.Native.Nat.{ℕ, ◌-◌, ◌<◌}
use mathlib.Core.Path.{sym, subst}
use native.Mathlib.Omega.{arith}
use Rattle.tables.specs.Places.{w_at}
use Rattle.events.specs.Rules.{learned, spread}
use Rattle.events.proofs.rules.spread.Goals as goal

pub overflow_add-ws : goal.overflow_add-ws
overflow_add-ws c = omega (arith, subst (λ (i : ℕ). w_at c.args.p.w (i - 1) < 200) (sym c.wide-i.ensures.0) c.requires.1)

pub overflow_add-result : goal.overflow_add-result
overflow_add-result c = omega (arith, subst (λ (i : ℕ). w_at c.args.p.w (i - 1) < 200) (sym c.wide-i.ensures.0) c.requires.1)

pub returns : goal.returns
unfolding spread learned
returns c = simp (c.has_w.ensures, c.wide-i.ensures.0)
