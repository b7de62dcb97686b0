use Prim.Native.Nat.{ℕ, ◌+◌, ◌<◌}
use mathlib.Core.{List.List, Path.{◌≡◌, ap, ◌∙◌}}
use lib.ListN.{get_or, take, drop}
use lib.Seq.{get_or-take, get_or-drop}
use Rattle.codec.specs.Numbers.{bytes_of}
use native.Mathlib.Omega.{arith}
use Rattle.codec.{proofs.Numbers.length-bytes_of}
use Rattle.carried.proofs.{Rows.{laid_as, rows_start, rows-turn, rows_end}}
use Rattle.carried.specs.Panels.{values_bytes}
use Rattle.carried.proofs.put_values.Goals as goal

behind-first : (xs : List ℕ) (k : ℕ) → k < 200 → get_or (take 200 (drop 1 xs)) k 0 ≡ get_or xs (k + 1) 0
behind-first xs k h = get_or-take 200 (drop 1 xs) k 0 h ∙ get_or-drop 1 xs k 0 ∙ ap (λ (i : ℕ). get_or xs i 0) (omega arith)

pub loop-k-init : goal.loop-k-init
loop-k-init c = rows_start _ _ _

pub loop-k-preserved : goal.loop-k-preserved
loop-k-preserved c =
    let value = behind-first c.args.history.now c.loop-k.k (omega arith) in
    rows-turn 4 _ (λ k. length-bytes_of 4 _) _ _ c.loop-k.invariant (omega arith) (laid_as (ap (bytes_of 4) value) (record { is = c.put_word.ensures }))

pub returns : goal.returns
unfolding values_bytes
returns c = rows_end _ 200 (omega arith) c.loop-k.invariant
