-- Panels made by hand, clause by clause of "in form".
-- Assumes nothing.
use Prim.Native.Nat.{ℕ, ◌-◌}
use mathlib.Core.{Bool.{Bool, true, false}, List.{List, [], ◌∷◌}, Path.{◌≡◌, refl}}
use lib.ListN.{set, replicate}
use Rattle.basics.specs.{Below.all_below, Choice.{ite, both}}
use Rattle.tables.specs.{Form.{entry_ok, line_ok, hold_ok, quiet_ok, unknown_ok, history_ok}, Places.{no_write, no_read}}
use Rattle.form.specs.Form.{fits, is_panel, at_writer, place_with, place_ok, operation_ok, in_form, empty_line, fresh}
use Rattle.form.specs.{Setting.{set_w, set_r, set_operation}, declared.Operation.TheVariants.{Writing, FirstWait, SecondWait}}
use Rattle.form.specs.declared.Tables.{Tables}

-- panel i of three, writer 1, that knows x writes and has begun y reads
at : ℕ → ℕ → ℕ → Tables
at i x y = set_r (set_w (fresh 3 1 1 i 700) (set (replicate 7 no_write) (i - 1) (record { 0 = x }))) (set (replicate 7 no_read) (i - 1) (record { 0 = y }))

forms : List Bool
unfolding at ite both all_below entry_ok line_ok hold_ok quiet_ok unknown_ok history_ok fits is_panel at_writer place_with place_ok operation_ok in_form empty_line fresh
forms =
    in_form (set_operation (at 1 1 0) Writing)
    ∷ in_form (set_operation (at 2 1 0) Writing)
    ∷ in_form (set_operation (at 1 0 0) Writing)
    ∷ in_form (set_operation (at 2 0 1) FirstWait)
    ∷ in_form (set_operation (at 2 0 0) FirstWait)
    ∷ in_form (set_operation (at 2 1 1) (SecondWait (record { 0 = 1 })))
    ∷ in_form (set_operation (at 2 1 1) (SecondWait (record { 0 = 2 })))
    -- r past n
    ∷ in_form (set_r (at 2 0 1) (set (set (replicate 7 no_read) 1 (record { 0 = 1 })) 3 (record { 0 = 1 })))
    ∷ []

formed : forms ≡ true ∷ false ∷ false ∷ true ∷ false ∷ true ∷ false ∷ false ∷ []
unfolding forms
formed = refl
