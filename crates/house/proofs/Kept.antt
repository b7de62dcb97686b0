-- A store keeps a network in form: a panel of the network in its own place, a row of channels in form, one more panel down where as
-- many may be. n, t, the writer and the initial value stay.
-- Assumes nothing.
use mathlib.Core.{Bool.{Bool, true, false}, Path.{◌≡◌, refl, sym, ap, subst, ◌∙◌}}
use Prim.Native.Nat.{ℕ, ◌+◌, ◌<◌}
use native.Mathlib.{Decide.ℕ_discrete, Omega.arith}
use Rattle.basics.proofs.Below.{count-alike}
use Rattle.unused.specs.Unused.{unused}
use Rattle.panel.specs.declared.Panel.{Panel}
use Rattle.channels.specs.{Channels.row_ok, declared.Row.Row}
use Rattle.house.specs.NetForm.{may_be_down, downs_in, downs}
use Rattle.house.specs.{Places.{tables_at, row_at, down_at, n_of, t_of, writer_of, initial_of, with_panel, with_row, with_down}, Whole.Whole}
use Rattle.house.specs.declared.Network.{Network}
use Rattle.house.proofs.NetForms.{Member, FormedAs, Formed, formed}
use Rattle.house.proofs.Stores.{panel-with-panel, panel-with-panel-ne, row-with-row, row-with-row-ne, down-with-down, down-with-down-ne, downs-with-panel-kept, downs-with-row-kept, downs-with-down}

-- ---- a panel

module _
    (s : Network) (whole : Whole s) (f : Formed s) (i : ℕ) (within : i < n_of s) (p : Panel)
    (new : Member p.tables (n_of s) (t_of s) (writer_of s) (initial_of s) (i + 1)) where
  form-as-before : FormedAs (with_panel s i p) (n_of s) (t_of s) (writer_of s) (initial_of s)
  form-as-before =
      record {
        n-low = f.n-low;
        n-high = f.n-high;
        member = λ j l. at j l (ℕ_discrete j i);
        past = λ j l seven.
            (ap (λ (q : Panel). unused q.tables) (panel-with-panel-ne s i j p (λ e. absurd (omega arith))) ∙ (f.past j l seven).0, (f.past j l seven).1);
        few = ap (may_be_down (t_of s)) (downs-with-panel-kept s i p) ∙ f.few;
        rows = f.rows;
      }
    where
      at : (j : ℕ) → j < n_of s → Dec (j ≡ i) → Member (tables_at (with_panel s i p) j) (n_of s) (t_of s) (writer_of s) (initial_of s) (j + 1)
      at j l (yes e) =
          subst (λ (k : ℕ). Member (tables_at (with_panel s i p) k) (n_of s) (t_of s) (writer_of s) (initial_of s) (k + 1)) (sym e)
          (subst (λ (q : Panel). Member q.tables (n_of s) (t_of s) (writer_of s) (initial_of s) (i + 1))
          (sym (panel-with-panel s whole i (omega (arith, within, f.n-high)) p)) new)
      at j l (no d) =
          subst (λ (q : Panel). Member q.tables (n_of s) (t_of s) (writer_of s) (initial_of s) (j + 1)) (sym (panel-with-panel-ne s i j p d)) (f.member j l)

  pub form-with-panel : Formed (with_panel s i p)
  form-with-panel = formed _ _ _ _ _ form-as-before

  pub n-with-panel : n_of (with_panel s i p) ≡ n_of s
  n-with-panel = (form-as-before.member 0 f.n-low).same-n

  pub t-with-panel : t_of (with_panel s i p) ≡ t_of s
  t-with-panel = (form-as-before.member 0 f.n-low).same-t

  pub writer-with-panel : writer_of (with_panel s i p) ≡ writer_of s
  writer-with-panel = (form-as-before.member 0 f.n-low).same_writer

  pub initial-with-panel : initial_of (with_panel s i p) ≡ initial_of s
  initial-with-panel = (form-as-before.member 0 f.n-low).same-initial

-- ---- a row

pub form-with-row : (s : Network) → Whole s → Formed s → (i : ℕ) (r : Row) → row_ok r (n_of s) i ≡ true → Formed (with_row s i r)
form-with-row s whole f i r ok =
    record {
      n-low = f.n-low;
      n-high = f.n-high;
      member = f.member;
      past = f.past;
      few = ap (may_be_down (t_of s)) (downs-with-row-kept s i r) ∙ f.few;
      rows = λ j h. at j h (ℕ_discrete j i);
    }
  where
    at : (j : ℕ) → j < 7 → Dec (j ≡ i) → row_ok (row_at (with_row s i r) j) (n_of s) j ≡ true
    at j h (yes e) =
        ap (λ (k : ℕ). row_ok (row_at (with_row s i r) k) (n_of s) k) e
        ∙ ap (λ (q : Row). row_ok q (n_of s) i) (row-with-row s whole i (omega arith) r)
        ∙ ok
    at j h (no d) = ap (λ (q : Row). row_ok q (n_of s) j) (row-with-row-ne s i j r d) ∙ f.rows j h

-- ---- one more down

-- one that is down already stays so
downs-again : (s : Network) (i : ℕ) → Whole s → i < 7 → down_at s i ≡ true → downs (with_down s i) ≡ downs s
unfolding downs_in
downs-again s i whole h off = count-alike 7 (down_at (with_down s i)) (down_at s) (λ k l. at k (ℕ_discrete k i))
  where
    at : (k : ℕ) → Dec (k ≡ i) → down_at (with_down s i) k ≡ down_at s k
    at k (yes e) = ap (down_at (with_down s i)) e ∙ down-with-down s whole i h ∙ sym (ap (down_at s) e ∙ off)
    at k (no d) = down-with-down-ne s i k d

pub form-with-down : (s : Network) → Whole s → Formed s → (i : ℕ) → i < n_of s → may_be_down (t_of s) (downs s + 1) ≡ true → Formed (with_down s i)
form-with-down s whole f i within one_more =
    record {
      n-low = f.n-low;
      n-high = f.n-high;
      member = f.member;
      past = λ j l seven. ((f.past j l seven).0, down-with-down-ne s i j (λ e. absurd (omega arith)) ∙ (f.past j l seven).1);
      few = by (down_at s i) refl;
      rows = f.rows;
    }
  where
    seven : i < 7
    seven = omega (arith, within, f.n-high)

    by : (b : Bool) → down_at s i ≡ b → may_be_down (t_of s) (downs (with_down s i)) ≡ true
    by true e = ap (may_be_down (t_of s)) (downs-again s i whole seven e) ∙ f.few
    by false e = ap (may_be_down (t_of s)) (downs-with-down s i whole seven e) ∙ one_more
