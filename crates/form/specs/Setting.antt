-- A panel with one of its tables changed, and the places of a panel's own numbers.
-- Assumes nothing.
use Rattle.std.specs.Prelude.{ℕ, ◌-◌, List}
use Rattle.tables.specs.{Places.{w_at, r_at}, declared.Hold.Hold, declared.Line.Line, declared.ReadNo.ReadNo, declared.WriteNo.WriteNo}
use Rattle.form.specs.declared.{Operation.Operation, Tables.Tables}

-- i, as a place: panel 1 has place 0
abbrev pub own_place : Tables → ℕ
own_place p = p.number - 1

-- w[i] and r[i]
abbrev pub own_w : Tables → ℕ
own_w p = w_at p.w (p.number - 1)

abbrev pub own_r : Tables → ℕ
own_r p = r_at p.r (p.number - 1)

abbrev pub set_w : Tables → List WriteNo → Tables
set_w p ws =
    record { n = p.n; t = p.t; writer = p.writer; number = p.number; w = ws; r = p.r; history = p.history; held = p.held; lines = p.lines; operation = p.operation }

abbrev pub set_r : Tables → List ReadNo → Tables
set_r p rs =
    record { n = p.n; t = p.t; writer = p.writer; number = p.number; w = p.w; r = rs; history = p.history; held = p.held; lines = p.lines; operation = p.operation }

abbrev pub set_history : Tables → List ℕ → Tables
set_history p h =
    record { n = p.n; t = p.t; writer = p.writer; number = p.number; w = p.w; r = p.r; history = h; held = p.held; lines = p.lines; operation = p.operation }

abbrev pub set_held : Tables → List Hold → Tables
set_held p hs =
    record { n = p.n; t = p.t; writer = p.writer; number = p.number; w = p.w; r = p.r; history = p.history; held = hs; lines = p.lines; operation = p.operation }

abbrev pub set_lines : Tables → List Line → Tables
set_lines p ls =
    record { n = p.n; t = p.t; writer = p.writer; number = p.number; w = p.w; r = p.r; history = p.history; held = p.held; lines = ls; operation = p.operation }

abbrev pub set_operation : Tables → Operation → Tables
set_operation p o =
    record { n = p.n; t = p.t; writer = p.writer; number = p.number; w = p.w; r = p.r; history = p.history; held = p.held; lines = p.lines; operation = o }
