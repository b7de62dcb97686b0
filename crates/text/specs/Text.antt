-- The text of the bench's listing, as numbers of bytes: "Lines end in LF; fields stand one space apart, numbers in decimal."
-- Assumes nothing.
use Rattle.std.specs.Prelude.{ℕ, zero, suc, ◌+◌, ◌-◌, ◌*◌, ◌/◌, ◌%◌, ◌≤◌, Option, Some, None}
use mathlib.Core.{List.{List, [], ◌∷◌, ◌++◌}, Path.◌≡◌}
use lib.{ListN.{length, replicate}, Seq.sets}
use Rattle.text.specs.declared.{Line.Line, Noted.Noted, Panels.{Panels, TheVariants.{Neither, One, Two}}, Text.Text}

-- `step kind a b answer result` and LF
unfoldable pub first_line : List ℕ
first_line =
    115 ∷ 116 ∷ 101 ∷ 112 ∷ 32
    ∷ 107 ∷ 105 ∷ 110 ∷ 100 ∷ 32
    ∷ 97 ∷ 32
    ∷ 98 ∷ 32
    ∷ 97 ∷ 110 ∷ 115 ∷ 119 ∷ 101 ∷ 114 ∷ 32
    ∷ 114 ∷ 101 ∷ 115 ∷ 117 ∷ 108 ∷ 116 ∷ 10 ∷ []

-- `too long` and LF
unfoldable pub too_long : List ℕ
too_long = 116 ∷ 111 ∷ 111 ∷ 32 ∷ 108 ∷ 111 ∷ 110 ∷ 103 ∷ 10 ∷ []

-- ---- numbers

-- the last digits of m, at most k of them; none of 0
unfoldable pub leading : ℕ → ℕ → List ℕ
leading zero m = []
leading (suc k) zero = []
leading (suc k) (suc m) = leading k (suc m / 10) ++ ((48 + suc m % 10) ∷ [])

-- n in decimal, with the fewest digits: in front of the last those of n / 10, which are no more than n
unfoldable pub dec : ℕ → List ℕ
dec n = leading n (n / 10) ++ ((48 + n % 10) ∷ [])

-- what digits read as, behind those that read as v
unfoldable pub read_behind : ℕ → List ℕ → ℕ
read_behind v [] = v
read_behind v (d ∷ ds) = read_behind (v * 10 + (d - 48)) ds

-- each is the byte of a digit
unfoldable pub Digits : List ℕ → Type 0
Digits [] = Unit {0}
Digits (d ∷ ds) = (48 ≤ d) × (d ≤ 57) × Digits ds

-- ---- a line

-- the number in the place of a, and the number in the place of b
unfoldable pub first_panel : Panels → Option ℕ
first_panel Neither = None
first_panel (One a) = Some a
first_panel (Two a b) = Some a

unfoldable pub second_panel : Panels → Option ℕ
second_panel Neither = None
second_panel (One a) = None
second_panel (Two a b) = Some b

-- a panel's number, or `-` where there is none
unfoldable pub panel_text : Option ℕ → List ℕ
panel_text None = 45 ∷ []
panel_text (Some n) = dec n

-- the letter of what finished and its number, or `-`
unfoldable pub result_text : Option Noted → List ℕ
result_text None = 45 ∷ []
result_text (Some r) = r.letter ∷ dec r.number

unfoldable pub fields : Line → List (List ℕ)
fields l =
    dec l.step
    ∷ dec l.kind
    ∷ panel_text (first_panel l.panels)
    ∷ panel_text (second_panel l.panels)
    ∷ dec l.answer
    ∷ result_text l.result
    ∷ []

-- one space apart
unfoldable pub spaced : List (List ℕ) → List ℕ
spaced [] = []
spaced (x ∷ []) = x
spaced (x ∷ y ∷ ys) = x ++ (32 ∷ spaced (y ∷ ys))

unfoldable pub line_text : Line → List ℕ
line_text l = spaced (fields l) ++ (10 ∷ [])

-- ---- in 40 places

-- bs, and zero in the places past them
unfoldable pub text_of : List ℕ → Text
text_of bs = record { length = length bs; bytes = bs ++ replicate (40 - length bs) 0 }

-- t with bs behind it
unfoldable pub appended : Text → List ℕ → Text
appended t bs = record { length = t.length + length bs; bytes = sets t.bytes t.length bs }

-- r is t with bs behind it, at most k bytes longer
pub record Appended (t : Text) (bs : List ℕ) (k : ℕ) (r : Text) : Type 0 where
  pub text : r ≡ appended t bs
  pub most : r.length ≤ t.length + k
