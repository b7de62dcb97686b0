-- Computed: the lines of the description's listing, lines of refusals, and the longest line.
-- Assumes nothing.
use mathlib.Core.{List.{List, [], ◌∷◌, map}, Path.{◌≡◌, refl}}
use Prim.Native.Nat.{ℕ}
use lib.ListN.{length}
use Rattle.std.specs.Prelude.{Option, Some, None}
use Rattle.text.specs.Text.{leading, dec, first_panel, second_panel, panel_text, result_text, fields, spaced, line_text}
use Rattle.text.specs.declared.{Line.Line, Noted.Noted, Panels.{Panels, TheVariants.{Neither, One, Two}}}

row : ℕ → ℕ → Panels → ℕ → Option Noted → Line
row step kind panels answer result =
    record { step = step; kind = kind; panels = panels; answer = answer; result = result }

noted : ℕ → ℕ → Option Noted
noted letter number = Some (record { letter = letter; number = number })

-- the steps of the listing
listed : List Line
listed =
    row 1 0 Neither 0 None
    ∷ row 2 1 Neither 0 None
    ∷ row 3 4 (Two 1 2) 0 None
    ∷ row 4 4 (Two 2 1) 0 (noted 119 1)
    ∷ row 5 2 (One 3) 0 None
    ∷ row 6 4 (Two 1 3) 0 None
    ∷ row 7 4 (Two 2 3) 0 None
    ∷ row 8 4 (Two 3 1) 0 None
    ∷ row 9 5 (Two 3 1) 0 None
    ∷ row 10 6 (Two 1 3) 0 (noted 114 650)
    ∷ row 11 4 (Two 3 2) 0 None
    ∷ row 12 5 (Two 3 2) 0 None
    ∷ row 13 6 (Two 2 3) 0 None
    ∷ row 14 8 Neither 0 (noted 100 8)
    ∷ []

-- its lines after the first: `1 0 - - 0 -` up to `14 8 - - 0 d8`
shown : List (List ℕ)
shown =
    (49 ∷ 32 ∷ 48 ∷ 32 ∷ 45 ∷ 32 ∷ 45 ∷ 32 ∷ 48 ∷ 32 ∷ 45 ∷ 10 ∷ [])
    ∷ (50 ∷ 32 ∷ 49 ∷ 32 ∷ 45 ∷ 32 ∷ 45 ∷ 32 ∷ 48 ∷ 32 ∷ 45 ∷ 10 ∷ [])
    ∷ (51 ∷ 32 ∷ 52 ∷ 32 ∷ 49 ∷ 32 ∷ 50 ∷ 32 ∷ 48 ∷ 32 ∷ 45 ∷ 10 ∷ [])
    ∷ (52 ∷ 32 ∷ 52 ∷ 32 ∷ 50 ∷ 32 ∷ 49 ∷ 32 ∷ 48 ∷ 32 ∷ 119 ∷ 49 ∷ 10 ∷ [])
    ∷ (53 ∷ 32 ∷ 50 ∷ 32 ∷ 51 ∷ 32 ∷ 45 ∷ 32 ∷ 48 ∷ 32 ∷ 45 ∷ 10 ∷ [])
    ∷ (54 ∷ 32 ∷ 52 ∷ 32 ∷ 49 ∷ 32 ∷ 51 ∷ 32 ∷ 48 ∷ 32 ∷ 45 ∷ 10 ∷ [])
    ∷ (55 ∷ 32 ∷ 52 ∷ 32 ∷ 50 ∷ 32 ∷ 51 ∷ 32 ∷ 48 ∷ 32 ∷ 45 ∷ 10 ∷ [])
    ∷ (56 ∷ 32 ∷ 52 ∷ 32 ∷ 51 ∷ 32 ∷ 49 ∷ 32 ∷ 48 ∷ 32 ∷ 45 ∷ 10 ∷ [])
    ∷ (57 ∷ 32 ∷ 53 ∷ 32 ∷ 51 ∷ 32 ∷ 49 ∷ 32 ∷ 48 ∷ 32 ∷ 45 ∷ 10 ∷ [])
    ∷ (49 ∷ 48 ∷ 32 ∷ 54 ∷ 32 ∷ 49 ∷ 32 ∷ 51 ∷ 32 ∷ 48 ∷ 32 ∷ 114 ∷ 54 ∷ 53 ∷ 48 ∷ 10 ∷ [])
    ∷ (49 ∷ 49 ∷ 32 ∷ 52 ∷ 32 ∷ 51 ∷ 32 ∷ 50 ∷ 32 ∷ 48 ∷ 32 ∷ 45 ∷ 10 ∷ [])
    ∷ (49 ∷ 50 ∷ 32 ∷ 53 ∷ 32 ∷ 51 ∷ 32 ∷ 50 ∷ 32 ∷ 48 ∷ 32 ∷ 45 ∷ 10 ∷ [])
    ∷ (49 ∷ 51 ∷ 32 ∷ 54 ∷ 32 ∷ 50 ∷ 32 ∷ 51 ∷ 32 ∷ 48 ∷ 32 ∷ 45 ∷ 10 ∷ [])
    ∷ (49 ∷ 52 ∷ 32 ∷ 56 ∷ 32 ∷ 45 ∷ 32 ∷ 45 ∷ 32 ∷ 48 ∷ 32 ∷ 100 ∷ 56 ∷ 10 ∷ [])
    ∷ []

listing-shown : map line_text listed ≡ shown
unfolding listed shown row noted line_text fields spaced first_panel second_panel panel_text result_text dec leading
listing-shown = refl

-- `2 7 3 - 10 -`: a power loss refused; `1 9 - - 15 -`: an unknown kind
refusals-shown :
    (line_text (row 2 7 (One 3) 10 None) ≡ 50 ∷ 32 ∷ 55 ∷ 32 ∷ 51 ∷ 32 ∷ 45 ∷ 32 ∷ 49 ∷ 48 ∷ 32 ∷ 45 ∷ 10 ∷ [])
    × (line_text (row 1 9 Neither 15 None) ≡ 49 ∷ 32 ∷ 57 ∷ 32 ∷ 45 ∷ 32 ∷ 45 ∷ 32 ∷ 49 ∷ 53 ∷ 32 ∷ 45 ∷ 10 ∷ [])
unfolding row noted line_text fields spaced first_panel second_panel panel_text result_text dec leading
refusals-shown = (refl, refl)

longest : length (line_text (row 4294967295 255 (Two 255 255) 255 (noted 114 4294967295))) ≡ 39
unfolding row noted line_text fields spaced first_panel second_panel panel_text result_text dec leading
longest = refl
