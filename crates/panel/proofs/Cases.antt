-- The description's cases for set-up, computed on the definitions: P "n=7, t=3 taken", P "n=6, t=3 refused 1", and the other sides
-- of the same line.
-- Assumes nothing.
use mathlib.Core.{List.{[], ◌∷◌}, Path.{◌≡◌, refl}}
use Rattle.basics.specs.{Choice.{ite, both}, Refusal.{code, met}}
use Rattle.form.specs.Form.{fits, is_panel, empty_line, fresh}
use Rattle.panel.specs.Calls.{made, set_up_trials}

set-ups :
    code (made 7 3 1 1 0) ∷ code (made 6 3 1 1 0) ∷ code (made 0 0 1 1 0) ∷ code (made 8 0 1 1 0) ∷ code (made 3 1 0 1 0)
    ∷ code (made 3 1 4 1 0) ∷ code (made 3 128 1 1 0) ∷ code (made 3 1 1 4 0) ∷ []
    ≡ 0 ∷ 1 ∷ 1 ∷ 1 ∷ 1 ∷ 1 ∷ 1 ∷ 4 ∷ []
unfolding made set_up_trials met fits is_panel ite both fresh empty_line
set-ups = refl
