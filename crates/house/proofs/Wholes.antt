-- What the types of a network's arrays say of their lengths, read off the facts that the code has of each value that it is given.
-- Assumes nothing.
use mathlib.Core.{List.{List, [], ◌∷◌}, Path.◌≡◌}
use Prim.Native.Nat.{ℕ, zero, suc, ◌<◌}
use native.Mathlib.{Nat.{not-suc-le-zero}, Omega.arith}
use lib.ListN.{length, get_or}
use mir.Val.{Val}
use base.Fml.{Fml}
use denote.{Array.{each, in_array}, Shadow.{shadow}}
use Rattle.form.specs.{Shape.Shaped}
use Rattle.tables.specs.{Places.no_line, declared.Line.Line}
use Rattle.panel.specs.declared.Panel.{Panel}
use Rattle.channels.specs.{Channels.no_row, declared.Row.Row}
use Rattle.tables.specs.contracts.Line as line
use Rattle.panel.specs.contracts.Panel as panel
use Rattle.channels.specs.contracts.Row as row
use Rattle.house.specs.contracts.Network as network
use Rattle.house.specs.{Places.nobody, Whole.Whole, declared.Network.Network}

-- what each element's type says holds of the element at a place
each-at :
    {A : Type 0} (P : A → Type 0) (own : A → List Val → Fml) → ((x : A) (vs : List Val) → shadow (own x vs) → P x) →
    (xs : List A) (us : List Val) → shadow (each A own xs us) → (d : A) (i : ℕ) → i < length xs → P (get_or xs i d)
each-at P own says [] us h d i l = absurd (not-suc-le-zero l)
each-at P own says (x ∷ xs) [] h d i l = absurd h
each-at P own says (x ∷ xs) (u ∷ us) h d zero l = says x _ h.0
each-at P own says (x ∷ xs) (u ∷ us) h d (suc i) l = each-at P own says xs us h.1 d i (omega arith)

array-at :
    {A : Type 0} (P : A → Type 0) (own : A → List Val → Fml) → ((x : A) (vs : List Val) → shadow (own x vs) → P x) →
    (n : ℕ) (xs : List A) (vs : List Val) → shadow (in_array A own n xs vs) → (d : A) (i : ℕ) → i < n → P (get_or xs i d)
array-at P own says n xs vs h d i l = each-at P own says xs h.0 h.1.1 d i (omega (arith, h.1.0.1))

line-long : (l : Line) (vs : List Val) → shadow ((line.the_row).own_val l vs) → length l.sn ≡ 100
line-long l vs h = h.1.1.1.0.1.0.1

row-long : (r : Row) (vs : List Val) → shadow ((row.the_row).own_val r vs) → length r.to ≡ 7
row-long r vs h = h.1.1.0.1.0.1

panel-shaped : (p : Panel) (vs : List Val) → shadow ((panel.the_row).own_val p vs) → Shaped p.tables
panel-shaped p vs h =
    let t = h.1.1.0.1.1.1.1.1 in
    let lines = t.1.1.1.1.1.0 in
    record {
      w_long = t.1.0.1.0.1;
      r_long = t.1.1.0.1.0.1;
      history_long = t.1.1.1.0.1.0.1;
      held_long = t.1.1.1.1.0.1.0.1;
      lines_long = record { seven = lines.1.0.1; hundred = array-at (λ (l : Line). length l.sn ≡ 100) (line.the_row).own_val line-long 7 p.tables.lines _ lines no_line };
    }

pub whole_lem : (s : Network) (vs : List Val) → shadow ((network.the_row).own_val s vs) → Whole s
whole_lem s vs h =
    let panels = h.1.1.0 in
    let rows = h.1.1.1.0 in
    record {
      panels_long = panels.1.0.1;
      rows_long = rows.1.0.1;
      down_long = h.1.1.1.1.0.1.0.1;
      panel_shaped = array-at (λ (p : Panel). Shaped p.tables) (panel.the_row).own_val panel-shaped 7 s.panels _ panels nobody;
      row_long = array-at (λ (r : Row). length r.to ≡ 7) (row.the_row).own_val row-long 7 s.rows _ rows no_row;
    }
