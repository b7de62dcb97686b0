use mathlib.Core.Path.{refl}
use Rattle.listing.proofs.Laying.{line-put}
use Rattle.listing.proofs.put_line.Goals as goal

pub returns : goal.returns
returns c =
    let t = c.line_text-t.ensures in
    line-put c.args.l _ _ refl t.0 t.1 t.2 c.put_all.ensures c.requires.1
