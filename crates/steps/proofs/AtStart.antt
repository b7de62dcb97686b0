-- Set-up: where n, t and writer fit, a network in form of these numbers, whose panels are all zero and wait for nothing, with nothing in
-- flight and nobody down.
-- Assumes nothing.
use mathlib.Core.{Bool.{Bool, true, false}, Path.{◌≡◌, refl, sym, ap, subst, ◌∙◌}}
use Prim.Native.Nat.{ℕ, ◌+◌, ◌≤◌, ◌<◌}
use native.Mathlib.{Decide.dec_lt, Omega.arith}
use lib.ListN.{length, length-replicate, get_or-replicate}
use borrow.Author.Tests.{le-leb}
use Rattle.std.specs.{Prelude.{not, Result, Ok, Err}, Result.result_unwrap_or}
use Rattle.basics.{proofs.Refusals.{number-some, met-given, met-not, met-none}, specs.Refusal.{and_then, code}}
use Rattle.basics.specs.declared.refused.Refusal.{Refusal, TheVariants.{OutOfRange}}
use Rattle.basics.proofs.{Below.{length-list_below, get_or-list_below}, Choices.not_so, Lists.get_or-same}
use Rattle.basics.specs.Below.{one_if, count_below}
use Rattle.form.{proofs.InForm.{Fits, fits-view, panel-iff}, proofs.Shape.{Shaped, fresh-shaped}, specs.Form.{fits, fresh}}
use Rattle.form.specs.declared.Tables.{Tables}
use Rattle.unused.{proofs.Zero.fresh-is-unused, specs.Unused.unused}
use Rattle.panel.{proofs.Calling.{nothing_is, made-elsewhere, made-done}, specs.Calls.{panel_of, made, nothing}}
use Rattle.panel.specs.declared.Panel.{Panel}
use Rattle.protocol.proofs.AtFirst.{Fresh}
use Rattle.promise.proofs.{AtPlace.fresh_at, Numbers.{fresh-view, fresh-waits, fresh-initial, fresh-n, fresh-t, fresh-writer, fresh-number}}
use Rattle.promise.specs.{Facts.AllZero, View.{view_of, Waits}}
use Rattle.channels.proofs.{Flying.none-empty, RowForm.empty-row-ok, Rows.{length-empty, channel-of-empty}}
use Rattle.channels.specs.{Channels.{no_row, channel_at, in_flight, row_ok, empty_row}, declared.Channel.Channel, declared.Row.Row}
use Rattle.house.{proofs.NetForms.{Member, FormedAs, formed}, specs.NetForm.{may_be_down, downs_in, downs}}
use Rattle.house.specs.{Places.{nobody, panel_at, tables_at, row_at, down_at, n_of, t_of, writer_of, initial_of}, Whole.Whole}
use Rattle.house.specs.declared.Network.{Network}
use Rattle.steps.specs.{Moves.AllWait, Numbers.world_of, SetUp.{fresh_network, set_up}}
use Rattle.steps.proofs.Networks.{Good}

-- ---- set-up of one panel

abbrev or_nothing : Result Panel Refusal → Panel
or_nothing m = result_unwrap_or m nothing

abbrev member_at : ℕ → ℕ → ℕ → ℕ → ℕ → Panel
member_at n t writer v i = or_nothing (made n t writer (i + 1) v)

module _ (n t writer v : ℕ) (ok : fits n t writer ≡ true) where
  made-panel : (i : ℕ) → i < n → member_at n t writer v i ≡ panel_of (fresh n t writer (i + 1) v)
  made-panel i h = ap or_nothing (made-done n t writer (i + 1) v ok ((panel-iff n (i + 1)).1 (omega arith, omega arith)))

  made_nothing : (i : ℕ) → n ≤ i → member_at n t writer v i ≡ panel_of (fresh 0 0 0 0 0)
  made_nothing i h =
      ap or_nothing (made-elsewhere n t writer (i + 1) v ok (not_so λ e. omega (arith, ((panel-iff n (i + 1)).0 e).1)))
      ∙ nothing_is

-- ---- the network

-- nobody down is never too many
none-down : (t : ℕ) → may_be_down t 0 ≡ true
unfolding may_be_down
none-down t = le-leb 0 t (omega arith)

module _ (n t writer v : ℕ) where
  abbrev start : Network
  start = fresh_network n t writer v

  panel-at-first : (i : ℕ) → i < 7 → panel_at start i ≡ member_at n t writer v i
  unfolding fresh_network
  panel-at-first i h = get_or-list_below 7 (member_at n t writer v) i nobody h

  row-at-first : (i : ℕ) → i < 7 → row_at start i ≡ empty_row
  unfolding fresh_network
  row-at-first i h = get_or-replicate 7 i empty_row no_row h

  pub down-at-first : (i : ℕ) → down_at start i ≡ false
  unfolding fresh_network
  down-at-first i = get_or-same 7 false i

  pub downs-at-first : downs start ≡ 0
  unfolding fresh_network downs_in count_below one_if
  downs-at-first = refl

  module _ (ok : fits n t writer ≡ true) where
    sizes : Fits n t writer
    sizes = fits-view n t writer ok

    tables-at-first : (i : ℕ) → i < n → tables_at start i ≡ fresh n t writer (i + 1) v
    tables-at-first i h =
        ap (λ (p : Panel). p.tables) (panel-at-first i (omega (arith, h, sizes.n-high)) ∙ made-panel n t writer v ok i h)

    unused-at-first : (i : ℕ) → n ≤ i → i < 7 → tables_at start i ≡ fresh 0 0 0 0 0
    unused-at-first i h seven = ap (λ (p : Panel). p.tables) (panel-at-first i seven ∙ made_nothing n t writer v ok i h)

    member : (i : ℕ) → i < n → Member (fresh n t writer (i + 1) v) n t writer v (i + 1)
    member i h =
        record {
          in-form = (fresh_at n t writer i v ok h).good.form;
          same-n = fresh-n n t writer (i + 1) v;
          same-t = fresh-t n t writer (i + 1) v;
          same_writer = fresh-writer n t writer (i + 1) v;
          same-initial = fresh-initial n t writer (i + 1) v;
          own-number = fresh-number n t writer (i + 1) v;
        }

    form : FormedAs start n t writer v
    form =
        record {
          n-low = sizes.n-low;
          n-high = sizes.n-high;
          member = λ i h. subst (λ (p : Tables). Member p n t writer v (i + 1)) (sym (tables-at-first i h)) (member i h);
          past = λ i h seven. (ap unused (unused-at-first i h seven) ∙ fresh-is-unused, down-at-first i);
          few = ap (may_be_down t) downs-at-first ∙ none-down t;
          rows = λ i h. ap (λ (r : Row). row_ok r n i) (row-at-first i h) ∙ empty-row-ok n i;
        }

    shaped : (i : ℕ) → i < 7 → Dec (i < n) → Shaped (tables_at start i)
    shaped i h (yes b) = subst Shaped (sym (tables-at-first i b)) (fresh-shaped _ _ _ _ _)
    shaped i h (no b) = subst Shaped (sym (unused-at-first i (omega arith) h)) (fresh-shaped _ _ _ _ _)

    whole : Whole start
    unfolding fresh_network
    whole =
        record {
          panels_long = length-list_below 7 (member_at n t writer v);
          rows_long = length-replicate 7 empty_row;
          down_long = length-replicate 7 false;
          panel_shaped = λ i h. shaped i h (dec_lt i n);
          row_long = λ i h. ap (λ (r : Row). length r.to) (row-at-first i h) ∙ length-empty;
        }

    pub start-good : Good start
    start-good = record { form = formed start n t writer v form; whole = whole }

    pub start-n : n_of start ≡ n
    start-n = (form.member 0 sizes.n-low).same-n

    pub start-t : t_of start ≡ t
    start-t = (form.member 0 sizes.n-low).same-t

    pub start-writer : writer_of start ≡ writer
    start-writer = (form.member 0 sizes.n-low).same_writer

    pub start-initial : initial_of start ≡ v
    start-initial = (form.member 0 sizes.n-low).same-initial

    pub start-waits : AllWait start
    start-waits =
        record { waits = λ i h. subst Waits (sym (tables-at-first i (subst (λ (m : ℕ). i < m) start-n h))) (fresh-waits n t writer (i + 1) v) }

    zero-view : (i : ℕ) → i < n → AllZero (view_of (tables_at start i))
    zero-view i h = subst (λ (p : Tables). AllZero (view_of p)) (sym (tables-at-first i h)) (fresh-view n t writer (i + 1) v)

    pub start-fresh : Fresh n (world_of start)
    start-fresh =
        record {
          w = λ i j h _. (zero-view i h).w j;
          r = λ i j h _. (zero-view i h).r j;
          held = λ i j h _. (zero-view i h).held j;
          waiting = λ i j h _. (zero-view i h).waiting j;
          flying = λ i j k h _.
              ap (λ (r : Row). in_flight (channel_at r j) k) (row-at-first i (omega (arith, h, sizes.n-high)))
              ∙ ap (λ (c : Channel). in_flight c k) (channel-of-empty j)
              ∙ none-empty k;
        }

-- ---- the call

module _ (n t writer v : ℕ) where
  pub set-up-refused : fits n t writer ≡ false → set_up n t writer v ≡ Err OutOfRange
  unfolding set_up
  set-up-refused no-fit = ap (λ (m : Result Unit Refusal). and_then m (Ok (fresh_network n t writer v))) (met-given _ _ (ap not no-fit))

  pub set-up-taken : fits n t writer ≡ true → set_up n t writer v ≡ Ok (fresh_network n t writer v)
  unfolding set_up
  set-up-taken ok =
      ap (λ (m : Result Unit Refusal). and_then m (Ok (fresh_network n t writer v))) (met-not _ _ (ap not ok) ∙ met-none)

  pub set-up-fits : (s : Network) → set_up n t writer v ≡ Ok s → fits n t writer ≡ true
  set-up-fits s z = by (fits n t writer) refl
    where
      by : (b : Bool) → fits n t writer ≡ b → fits n t writer ≡ true
      by true e = e
      by false e = absurd (number-some OutOfRange (ap code (sym (set-up-refused e) ∙ z)))

  -- the network that it makes
  pub set-up-network : (s : Network) → set_up n t writer v ≡ Ok s → s ≡ fresh_network n t writer v
  set-up-network s z = ap (λ (m : Result Network Refusal). result_unwrap_or m s) (sym z ∙ set-up-taken (set-up-fits s z))
