use Prim.Native.Nat.{◌-◌}
use mathlib.Core.Path.{◌≡◌}
use Rattle.basics.specs.Below.{all_below}
use Rattle.tables.specs.{Form.entry_ok, Places.w_at}
use Rattle.tables.proofs.line_ok.Given as goal

abbrev pub invariant-loop-x : goal.invariant-loop-x
invariant-loop-x v =
    (v.place ≡ v.x-index)
    × (v.before ≡ w_at v.fn.l.sn (v.x-index - 1))
    × (v.ok ≡ all_below v.x-index (entry_ok v.fn.l v.fn.low.0 v.fn.high.0))
