-- A network that the laws speak of: in form, with the lengths that the code's arrays have. What stands at each of its places, in the
-- words of the promise and in numbers; no table and no channel is over-full.
-- Assumes nothing.
use mathlib.Core.{Bool.true, Path.{◌≡◌, sym, subst}}
use Prim.Native.Nat.{ℕ, ◌-◌, ◌≤◌, ◌<◌}
use native.Mathlib.{Decide.dec_lt, Omega.arith}
use Rattle.form.specs.declared.Tables.{Tables}
use Rattle.unused.proofs.Zero.{unused-is-fresh}
use Rattle.channels.{proofs.Flying.{cap, cap-write, cap-other}, proofs.RowForm.row_within, specs.Channels.in_flight}
use Rattle.house.{proofs.NetForms.{Formed, form-view, form_of, writer-low, writer-high}, specs.NetForm.net_form}
use Rattle.house.specs.{Places.{panel_at, tables_at, row_at, channel_of, n_of, writer_of}, Whole.Whole, declared.Network.Network}
use Rattle.protocol.proofs.Falling.{Filled, load-most}
use Rattle.promise.{proofs.AtPlace.{At, at-formed}, proofs.Numbers.fresh-view, specs.Facts.AllZero, specs.View.view_of}
use Rattle.promise.specs.Facts as facts
use Rattle.steps.specs.Numbers.{world_of, load_of}

pub record Good (s : Network) : Type 0 where
  pub form : Formed s
  pub whole : Whole s

pub good_of : (s : Network) → net_form s ≡ true → Whole s → Good s
good_of s h whole = record { form = form-view s h; whole = whole }

module _ (s : Network) (g : Good s) where
  pub good-test : net_form s ≡ true
  good-test = form_of s g.form

  pub place-seven : (i : ℕ) → i < n_of s → i < 7
  place-seven i h = omega (arith, h, g.form.n-high)

  pub writer-place : writer_of s - 1 < n_of s
  writer-place = omega (arith, writer-low s g.form, writer-high s g.form)

  pub at_place : (i : ℕ) → i < n_of s → At (n_of s) i (tables_at s i)
  at_place i h =
      record {
        good = record { form = (g.form.member i h).in-form; shape = g.whole.panel_shaped i (place-seven i h) };
        n-is = (g.form.member i h).same-n;
        number_is = (g.form.member i h).own-number;
      }

  pub formed-place : (i : ℕ) → i < n_of s → facts.Formed (n_of s) i (view_of (tables_at s i))
  formed-place i h = at-formed (n_of s) i (panel_at s i) (at_place i h)

  -- a place that is no panel's
  pub unused-place : (i : ℕ) → n_of s ≤ i → i < 7 → AllZero (view_of (tables_at s i))
  unused-place i h seven =
      subst (λ (p : Tables). AllZero (view_of p)) (sym (unused-is-fresh _ (g.whole.panel_shaped i seven) (g.form.past i h seven).0))
      (fresh-view 0 0 0 0 0)

  pub flying-most : (i l k : ℕ) → i < 7 → in_flight (channel_of s i l) k ≤ cap k
  flying-most i l k h = row_within (row_at s i) (n_of s) i (g.whole.row_long i h) (g.form.rows i h) l k

  pub filled : Filled (world_of s)
  filled =
      record {
        held = λ i l h _. held i l h (dec_lt i (n_of s));
        waiting = λ i l h _. waiting i l h (dec_lt i (n_of s));
        writes = λ i l k h _ b. omega (arith, flying-most i l k h, cap-write b);
        reads = λ i l h _. omega (arith, flying-most i l 2 h, cap-other {k = 2} (omega arith) (omega arith));
        proceeds = λ i l h _. omega (arith, flying-most i l 3 h, cap-other {k = 3} (omega arith) (omega arith));
      }
    where
      held : (i l : ℕ) → i < 7 → Dec (i < n_of s) → (view_of (tables_at s i)).held l ≤ 1
      held i l h (yes b) = (formed-place i b).held_top l
      held i l h (no b) = omega (arith, (unused-place i (omega arith) h).held l)

      waiting : (i l : ℕ) → i < 7 → Dec (i < n_of s) → (view_of (tables_at s i)).waiting l ≤ 100
      waiting i l h (yes b) = (formed-place i b).waiting_top l
      waiting i l h (no b) = omega (arith, (unused-place i (omega arith) h).waiting l)

  pub few-loads : load_of s ≤ 200000
  unfolding load_of
  few-loads = load-most (world_of s) filled
