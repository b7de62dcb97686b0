use mathlib.Core.Path.{◌≡◌, sym, subst}
use Prim.Native.Nat.{ℕ}
use lib.ListN.{take}
use Rattle.bench.proofs.Laying.{lays}
use Rattle.bench.specs.Counts.{IsPrefixLen}
use Rattle.listing.specs.Listing.{listing_of}
use Rattle.bench.proofs.lay.Goals as goal

pub returns-clause-area_after : goal.returns-clause-area_after
returns-clause-area_after c =
    subst (λ (n : ℕ). take n c.listing.new.out ≡ listing_of c.args.schedule.now) (sym c.unwrap_or.ensures)
    (lays _ _ _ c.listing.ensures.out_after c.listing.ensures.within c.requires).1

pub returns-clause-prefix_len : goal.returns-clause-prefix_len
returns-clause-prefix_len c =
    subst (λ (n : ℕ). IsPrefixLen n c.listing.new.out) (sym c.unwrap_or.ensures)
    (lays _ _ _ c.listing.ensures.out_after c.listing.ensures.within c.requires).0
