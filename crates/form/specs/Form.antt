-- When a panel is in form, clause by clause as the description's paragraph has it, and the panel that set-up makes.
-- Assumes nothing.
use Rattle.std.specs.Prelude.{ℕ, ◌+◌, ◌*◌, Bool, true, false}
use lib.{Dec.{leb, ltb, eqb}, ListN.{replicate, set}}
use Rattle.basics.specs.{Below.all_below, Choice.{ite, both}}
use Rattle.tables.specs.{Form.{hold_ok, line_ok, quiet_ok, history_ok}, Places.{w_at, r_at, hold_at, line_at, no_write, no_read, no_hold}}
use Rattle.tables.specs.declared.{Hold.Hold, Line.Line}
use Rattle.form.specs.{Setting.{own_w, own_r}, declared.Operation.Operation}
use Rattle.form.specs.declared.{Operation.TheVariants.{Idle, Writing, FirstWait, SecondWait}, Tables.Tables}

-- what set-up takes: "n 1 to 7; t with 2·t < n; writer 1 to n"
unfoldable pub fits : ℕ → ℕ → ℕ → Bool
fits n t writer = both (leb 1 n) (both (leb n 7) (both (ltb (2 * t) n) (both (leb 1 writer) (leb writer n))))

-- j is a panel's number
unfoldable pub is_panel : ℕ → ℕ → Bool
is_panel n j = both (leb 1 j) (leb j n)

unfoldable pub at_writer : Tables → Bool
at_writer p = eqb p.number p.writer

-- at each place: "w[j] ≤ w[i]", "r[j] ≤ r[i]", the hold, the line; "nothing is held or waiting for i itself"; "places past n" are zero
unfoldable pub place_with : ℕ → ℕ → ℕ → ℕ → Hold → Line → Bool → Bool → Bool → Bool
place_with wj wi rj ri h l lead past own =
    both (leb wj wi)
    (both (leb rj ri)
    (both (hold_ok h wj wi lead)
    (both (line_ok l wj wi)
    (both (ite (ite past true own) (quiet_ok h l) true)
    (ite past (both (eqb wj 0) (eqb rj 0)) true)))))

unfoldable pub place_ok : Tables → ℕ → Bool
place_ok p j =
    place_with (w_at p.w j) (own_w p) (r_at p.r j) (own_r p) (hold_at p.held j) (line_at p.lines j)
    (at_writer p) (leb p.n j) (eqb (j + 1) p.number)

unfoldable pub idle : Operation → Bool
idle Idle = true
idle Writing = false
idle FirstWait = false
idle (SecondWait sn) = false

-- "writing only at the writer with w[i] ≥ 1; reading only with r[i] ≥ 1, and sn ≤ w[i]"; outside the second wait there is no sn
unfoldable pub operation_ok : Operation → Bool → ℕ → ℕ → Bool
operation_ok Idle w x y = true
operation_ok Writing w x y = both w (leb 1 x)
operation_ok FirstWait w x y = leb 1 y
operation_ok (SecondWait sn) w x y = both (leb 1 y) (leb sn.0 x)

unfoldable pub in_form : Tables → Bool
in_form p =
    both (fits p.n p.t p.writer)
    (both (is_panel p.n p.number)
    (both (leb (own_w p) 200)
    (both (leb (own_r p) 100)
    (both (all_below 7 (place_ok p))
    (both (history_ok p.history (own_w p))
    (operation_ok p.operation (at_writer p) (own_w p) (own_r p)))))))

-- a fresh panel: nothing written, read, held or waiting; value 0 is the initial value
unfoldable pub empty_line : Line
empty_line = record { len = 0; sn = replicate 100 no_write }

unfoldable pub fresh : ℕ → ℕ → ℕ → ℕ → ℕ → Tables
fresh n t writer number initial =
    record {
      n = n;
      t = t;
      writer = writer;
      number = number;
      w = replicate 7 no_write;
      r = replicate 7 no_read;
      history = set (replicate 201 0) 0 initial;
      held = replicate 7 no_hold;
      lines = replicate 7 empty_line;
      operation = Idle;
    }
