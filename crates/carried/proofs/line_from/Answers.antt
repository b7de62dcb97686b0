use Prim.Native.Nat.{ℕ, ◌+◌}
use borrow.Author.Rules.{rules}
use Rattle.tables.proofs.Made.{made-by}
use Rattle.carried.specs.Panels.{line_from, write_no_from}
use Rattle.carried.proofs.line_from.Goals as goal

pub returns : goal.returns
unfolding line_from
returns c =
    let entries = made-by _ _ 100 (λ (k : ℕ). write_no_from c.args.bytes.now (c.args.at + 1 + k)) (search rules) c.from_fn.ensures.items in
    simp (c.byte_at.ensures, entries)
