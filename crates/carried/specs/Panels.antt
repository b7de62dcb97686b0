-- A panel's tables as 1,566 bytes. In order: n, t, writer, number; the initial value; 7 write numbers; 7 read numbers; 7
-- holds, each a flag and a value; 7 lines, each a length and 100 numbers; the operation's stage and sn; the values 1 to 200.
-- A value is 4 bytes, high byte first. Any bytes stand for a panel: a byte past the end counts as 0.
-- Assumes nothing.
use Rattle.std.specs.Prelude.{ℕ, zero, suc, ◌+◌, ◌*◌}
use mathlib.Core.{Bool.not, List.{List, [], ◌∷◌, ◌++◌}}
use lib.{Dec.eqb, ListN.get_or}
use Rattle.basics.specs.{Below.{one_if, list_below}, Choice.ite}
use Rattle.codec.specs.Numbers.{bytes_of, number_at}
use Rattle.tables.specs.{Places.{w_at, r_at, hold_at, line_at}, declared.Hold.Hold, declared.Line.Line, declared.ReadNo.ReadNo}
use Rattle.tables.specs.declared.WriteNo.{WriteNo}
use Rattle.form.specs.declared.{Operation.Operation, Operation.TheVariants.{Idle, Writing, FirstWait, SecondWait}, Tables.Tables}

-- ---- a panel out of bytes

abbrev pub write_no_from : List ℕ → ℕ → WriteNo
write_no_from s at = record { 0 = get_or s at 0 }

abbrev pub read_no_from : List ℕ → ℕ → ReadNo
read_no_from s at = record { 0 = get_or s at 0 }

-- a flag other than 0 is true
unfoldable pub hold_from : List ℕ → ℕ → Hold
hold_from s at = record { full = not (eqb (get_or s at 0) 0); value = number_at 4 s (at + 1) }

unfoldable pub line_from : List ℕ → ℕ → Line
line_from s at = record { len = get_or s at 0; sn = list_below 100 (λ (k : ℕ). write_no_from s (at + 1 + k)) }

-- 0 idle, 1 writing, 2 the first wait, 3 the second, which alone has an sn
unfoldable pub operation_from : ℕ → ℕ → Operation
operation_from stage sn =
    ite (eqb stage 1) Writing (ite (eqb stage 2) FirstWait (ite (eqb stage 3) (SecondWait (record { 0 = sn })) Idle))

-- where value k stands: the initial value in front, the others behind the tables
unfoldable pub value_place : ℕ → ℕ
value_place k = ite (eqb k 0) 4 (762 + 4 * k)

unfoldable pub panel_from : List ℕ → Tables
panel_from s =
    record {
      n = get_or s 0 0;
      t = get_or s 1 0;
      writer = get_or s 2 0;
      number = get_or s 3 0;
      w = list_below 7 (λ (j : ℕ). write_no_from s (8 + j));
      r = list_below 7 (λ (j : ℕ). read_no_from s (15 + j));
      history = list_below 201 (λ (k : ℕ). number_at 4 s (value_place k));
      held = list_below 7 (λ (j : ℕ). hold_from s (22 + 5 * j));
      lines = list_below 7 (λ (j : ℕ). line_from s (57 + 101 * j));
      operation = operation_from (get_or s 764 0) (get_or s 765 0);
    }

-- ---- a panel as bytes

-- f 0, f 1, up to f (n - 1), one behind the other
unfoldable pub rows_below : ℕ → (ℕ → List ℕ) → List ℕ
rows_below zero f = []
rows_below (suc n) f = rows_below n f ++ f n

unfoldable pub head_bytes : ℕ → ℕ → ℕ → ℕ → ℕ → List ℕ
head_bytes n t writer number initial = n ∷ t ∷ writer ∷ number ∷ bytes_of 4 initial

unfoldable pub w_bytes : List WriteNo → List ℕ
w_bytes ws = rows_below 7 (λ (j : ℕ). w_at ws j ∷ [])

unfoldable pub r_bytes : List ReadNo → List ℕ
r_bytes rs = rows_below 7 (λ (j : ℕ). r_at rs j ∷ [])

unfoldable pub hold_bytes : Hold → List ℕ
hold_bytes h = one_if h.full ∷ bytes_of 4 h.value

unfoldable pub held_bytes : List Hold → List ℕ
held_bytes hs = rows_below 7 (λ (j : ℕ). hold_bytes (hold_at hs j))

unfoldable pub line_bytes : Line → List ℕ
line_bytes l = l.len ∷ rows_below 100 (λ (k : ℕ). w_at l.sn k ∷ [])

unfoldable pub lines_bytes : List Line → List ℕ
lines_bytes ls = rows_below 7 (λ (j : ℕ). line_bytes (line_at ls j))

unfoldable pub operation_bytes : Operation → List ℕ
operation_bytes Idle = 0 ∷ 0 ∷ []
operation_bytes Writing = 1 ∷ 0 ∷ []
operation_bytes FirstWait = 2 ∷ 0 ∷ []
operation_bytes (SecondWait sn) = 3 ∷ sn.0 ∷ []

unfoldable pub values_bytes : List ℕ → List ℕ
values_bytes values = rows_below 200 (λ (k : ℕ). bytes_of 4 (get_or values (k + 1) 0))

unfoldable pub panel_bytes : Tables → List ℕ
panel_bytes p =
    head_bytes p.n p.t p.writer p.number (get_or p.history 0 0)
    ++ (w_bytes p.w
    ++ (r_bytes p.r
    ++ (held_bytes p.held
    ++ (lines_bytes p.lines
    ++ (operation_bytes p.operation
    ++ values_bytes p.history)))))
