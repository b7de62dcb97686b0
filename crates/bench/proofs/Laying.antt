-- What the listing's call leaves in an area of that length: the listing, at the front.
-- Assumes nothing.
use Prim.Native.Nat.{ℕ, ◌≤◌}
use mathlib.Core.{List.List, Path.{◌≡◌, sym, ap, subst, ◌∙◌}}
use borrow.Author.Tests.{le-ltb}
use native.Mathlib.Omega.{arith}
use lib.{ListN.{length, take}, Seq.{sets, length-sets, length-take-le, sets-eq, take-append_seam}}
use Rattle.basics.proofs.Choices.{ite-false}
use Rattle.std.specs.{Prelude.Ok, Result.result_unwrap_or}
use Rattle.steps.specs.Drain.{counted}
use Rattle.bench.specs.Counts.{IsPrefixLen}
use Rattle.listing.specs.Listing.{listing_of, longest, listing, Outcome}

-- from a bound on a count to what the contracts and `&area[..n]` ask
pub prefix_len_of_le : (n : ℕ) (xs : List ℕ) → n ≤ length xs → IsPrefixLen n xs
prefix_len_of_le n xs h = (h, sym (length-take-le n xs h))

abbrev Lays : List ℕ → Outcome → Type 0
Lays bytes o = IsPrefixLen (result_unwrap_or o.answer 0) o.area × (take (result_unwrap_or o.answer 0) o.area ≡ listing_of bytes)

-- a text that fits, stored at the front
front : (text area : List ℕ) → length text ≤ length area → IsPrefixLen (length text) (sets area 0 text) × (take (length text) (sets area 0 text) ≡ text)
front text area h = (
  prefix_len_of_le _ _ (omega (arith, length-sets area 0 text)),
  ap (take (length text)) (sets-eq text area 0 (omega (arith, h))) ∙ take-append_seam text _,
)

pub lays : (bytes area : List ℕ) (o : Outcome) → o ≡ listing bytes area → counted o.answer ≤ length area → longest ≡ length area → Lays bytes o
unfolding listing
lays bytes area o e w h =
    subst (Lays bytes) (sym taken) (front (listing_of bytes) area (subst (λ (q : Outcome). counted q.answer ≤ length area) taken w))
  where
    taken : o ≡ record { answer = Ok (length (listing_of bytes)); area = sets area 0 (listing_of bytes) }
    taken = e ∙ ite-false _ _ (le-ltb (length area) longest (omega arith))
