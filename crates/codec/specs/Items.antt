-- Items: "one byte of kind, then a body whose length the kind fixes". A body is a row of numbers, each of a width that
-- the kind fixes too. Messages on the wire and schedule records are items, each by a format of its own.
-- Assumes nothing.
use Rattle.std.specs.Prelude.{ℕ, suc, ◌+◌, ◌^◌, ◌<◌}
use mathlib.Core.{Bool.{Bool, true}, List.{List, [], ◌∷◌, ◌++◌}, Path.◌≡◌}
use lib.{Dec.leb, ListN.{length, get_or}}
use Rattle.basics.specs.Choice.{ite}
use Rattle.codec.specs.Numbers.{bytes_of, number_at}

-- which bytes are kinds, and the widths, in bytes, of the numbers in a kind's body
pub record Format : Type 0 where
  pub known : ℕ → Bool
  pub widths : ℕ → List ℕ

pub record Item : Type 0 where
  pub kind : ℕ
  pub numbers : List ℕ

-- what reading gives: the item and how many bytes it took, or the number of a refusal
pub data Taken : Type 0 where
  taken : Item → ℕ → Taken
  refused : ℕ → Taken

unfoldable pub total : List ℕ → ℕ
total [] = 0
total (k ∷ ks) = k + total ks

-- the length of an item of kind k; of a byte that is no kind, with no widths, 1
unfoldable pub size_of : Format → ℕ → ℕ
size_of f k = suc (total (f.widths k))

unfoldable pub body_of : List ℕ → List ℕ → List ℕ
body_of [] xs = []
body_of (k ∷ ks) [] = []
body_of (k ∷ ks) (x ∷ xs) = bytes_of k x ++ body_of ks xs

-- an item's bytes
unfoldable pub written : Format → Item → List ℕ
written f i = i.kind ∷ body_of (f.widths i.kind) i.numbers

-- the numbers of the given widths, one behind the other from place at on
unfoldable pub numbers_at : List ℕ → List ℕ → ℕ → List ℕ
numbers_at [] s at = []
numbers_at (k ∷ ks) s at = number_at k s at ∷ numbers_at ks s (k + at)

-- reading an item at place at: no byte there is 16, a byte that is no kind 15, a body cut short 16
unfoldable pub item_at : Format → List ℕ → ℕ → Taken
item_at f s at =
    ite (leb (length s) at) (refused 16)
    (ite (f.known (get_or s at 0))
    (ite (leb (at + size_of f (get_or s at 0)) (length s))
    (taken (record { kind = get_or s at 0; numbers = numbers_at (f.widths (get_or s at 0)) s (suc at) }) (size_of f (get_or s at 0)))
    (refused 16))
    (refused 15))

-- the numbers are as many as the widths, and each fits its own
unfoldable pub Fits : List ℕ → List ℕ → Type 0
Fits [] [] = Unit {0}
Fits [] (x ∷ xs) = ⊥
Fits (k ∷ ks) [] = ⊥
Fits (k ∷ ks) (x ∷ xs) = (x < 256 ^ k) × Fits ks xs

-- an item of the format: a kind, a byte, with the numbers of its body
pub record Proper (f : Format) (i : Item) : Type 0 where
  pub kind_known : f.known i.kind ≡ true
  pub kind_byte : i.kind < 256
  pub numbers_fit : Fits (f.widths i.kind) i.numbers
