-- A network in form, as a test that computes and as a record that proofs use, with a law each way; and that its live panels are
-- enough.
-- Assumes nothing.
use mathlib.Core.{Bool.{Bool, true, false, not, not-not}, Path.{◌≡◌, sym, ap, subst, ◌∙◌}}
use Prim.Native.Nat.{ℕ, ◌+◌, ◌≤◌, ◌<◌}
use native.Mathlib.{Nat.le_trans, Omega.arith}
use lib.Dec.{leb, ltb}
use borrow.Author.Tests.{ltb-true, ltb-false, lt-ltb, le-ltb, leb-true, le-leb, eqb-true, eq-eqb, not-true}
use Rattle.basics.proofs.{Below.{all-at, all_of}, Choices.{ite-true, ite-false, ite-case, both_left, both_right, both_true}}
use Rattle.basics.specs.{Below.all_below, Choice.{ite, both}}
use Rattle.tables.{proofs.Counting.count-more, proofs.Quorum.all-but-t, specs.Marks.{among, enough}}
use Rattle.form.specs.declared.Tables.{Tables}
use Rattle.form.proofs.InForm as form
use Rattle.unused.specs.Unused.{unused}
use Rattle.events.specs.Rules.{value_of}
use Rattle.channels.specs.Channels.{row_ok}
use Rattle.house.specs.NetForm.{may_be_down, downs_in, downs, member_with, place_ok, channels_ok, net_form}
use Rattle.house.specs.{Places.{tables_at, row_at, down_at, n_of, t_of, writer_of, initial_of}, Search.live, declared.Network.Network}

-- ---- one panel of a network

pub record Member (p : Tables) (n t writer initial number : ℕ) : Type 0 where
  pub in-form : form.InForm p
  pub same-n : p.n ≡ n
  pub same-t : p.t ≡ t
  pub same_writer : p.writer ≡ writer
  pub same-initial : value_of p 0 ≡ initial
  pub own-number : p.number ≡ number

pub member-view : (p : Tables) (n t writer initial number : ℕ) → member_with p n t writer initial number ≡ true → Member p n t writer initial number
unfolding member_with
member-view p n t writer initial number h =
    let on-n = both_right _ _ h in
    let on-t = both_right _ _ on-n in
    let on-writer = both_right _ _ on-t in
    let on-initial = both_right _ _ on-writer in
    record {
      in-form = form.form-view p (both_left _ _ h);
      same-n = eqb-true _ _ (both_left _ _ on-n);
      same-t = eqb-true _ _ (both_left _ _ on-t);
      same_writer = eqb-true _ _ (both_left _ _ on-writer);
      same-initial = eqb-true _ _ (both_left _ _ on-initial);
      own-number = eqb-true _ _ (both_right _ _ on-initial);
    }

pub member_of : (p : Tables) (n t writer initial number : ℕ) → Member p n t writer initial number → member_with p n t writer initial number ≡ true
unfolding member_with
member_of p n t writer initial number m =
    both_true (form.form_of p m.in-form)
    (both_true (eq-eqb _ _ m.same-n)
    (both_true (eq-eqb _ _ m.same-t)
    (both_true (eq-eqb _ _ m.same_writer) (both_true (eq-eqb _ _ m.same-initial) (eq-eqb _ _ m.own-number)))))

-- ---- the network

-- in form, of these n, t, writer and initial value
pub record FormedAs (s : Network) (n t writer initial : ℕ) : Type 0 where
  pub n-low : 1 ≤ n
  pub n-high : n ≤ 7
  pub member : (i : ℕ) → i < n → Member (tables_at s i) n t writer initial (i + 1)
  pub past : (i : ℕ) → n ≤ i → i < 7 → (unused (tables_at s i) ≡ true) × (down_at s i ≡ false)
  pub few : may_be_down t (downs s) ≡ true
  pub rows : (i : ℕ) → i < 7 → row_ok (row_at s i) n i ≡ true

abbrev pub Formed : Network → Type 0
Formed s = FormedAs s (n_of s) (t_of s) (writer_of s) (initial_of s)

pub form-view : (s : Network) → net_form s ≡ true → Formed s
unfolding net_form place_ok channels_ok
form-view s h =
    let on-places = both_right (leb 1 (n_of s)) _ h in
    let on-few = both_right (all_below 7 (place_ok s)) _ on-places in
    let low : 1 ≤ n_of s = leb-true _ _ (both_left _ _ h) in
    let place : (i : ℕ) → i < 7 → place_ok s i ≡ true = all-at 7 (place_ok s) (both_left _ _ on-places) in
    let inside : (i : ℕ) → i < 7 → i < n_of s → Member (tables_at s i) (n_of s) (t_of s) (writer_of s) (initial_of s) (i + 1)
    = λ i seven l. member-view _ _ _ _ _ _ (sym (ite-true _ _ (lt-ltb _ _ l)) ∙ place i seven) in
    let high : n_of s ≤ 7 = (inside 0 (omega arith) (omega arith)).in-form.sizes.n-high in
    record {
      n-low = low;
      n-high = high;
      member = λ i l. inside i (omega arith) l;
      past = λ i l seven.
          let outside : both (unused (tables_at s i)) (not (down_at s i)) ≡ true = sym (ite-false _ _ (le-ltb _ _ l)) ∙ place i seven in
          (both_left _ _ outside, not-true _ (both_right _ _ outside));
      few = both_left _ _ on-few;
      rows = all-at 7 (channels_ok s) (both_right _ _ on-few);
    }

pub form_of : (s : Network) → Formed s → net_form s ≡ true
unfolding net_form place_ok channels_ok
form_of s f =
    both_true (le-leb _ _ f.n-low)
    (both_true (all_of 7 (place_ok s) (λ i seven. place i seven))
    (both_true f.few (all_of 7 (channels_ok s) f.rows)))
  where
    place : (i : ℕ) → i < 7 →
        ite (ltb i (n_of s)) (member_with (tables_at s i) (n_of s) (t_of s) (writer_of s) (initial_of s) (i + 1)) (both (unused (tables_at s i)) (not (down_at s i))) ≡ true
    place i seven =
        ite-case (λ (b : Bool). b ≡ true) (ltb i (n_of s)) _ _
        (λ e. member_of _ _ _ _ _ _ (f.member i (ltb-true _ _ e)))
        (λ e. let p = f.past i (ltb-false _ _ e) seven in both_true p.0 (ap not p.1))

-- the numbers are those of the first panel
pub formed : (s : Network) (n t writer initial : ℕ) → FormedAs s n t writer initial → Formed s
formed s n t writer initial f =
    let first : Member (tables_at s 0) n t writer initial (0 + 1) = f.member 0 f.n-low in
    subst (λ (x : ℕ). FormedAs s x (t_of s) (writer_of s) (initial_of s)) (sym first.same-n)
    (subst (λ (x : ℕ). FormedAs s n x (writer_of s) (initial_of s)) (sym first.same-t)
    (subst (λ (x : ℕ). FormedAs s n t x (initial_of s)) (sym first.same_writer)
    (subst (λ (x : ℕ). FormedAs s n t writer x) (sym first.same-initial) f)))

-- ---- what a network in form is set up with

module _ (s : Network) (f : Formed s) where
  pub sizes : form.Fits (n_of s) (t_of s) (writer_of s)
  sizes = (f.member 0 f.n-low).in-form.sizes

  pub writer-low : 1 ≤ writer_of s
  writer-low = sizes.writer-low

  pub writer-high : writer_of s ≤ n_of s
  writer-high = sizes.writer-high

-- ---- what is down

module _ (s : Network) (f : Formed s) where
  pub few-down : downs s ≤ t_of s
  unfolding may_be_down
  few-down = leb-true _ _ f.few

  -- the live panels are enough
  pub live-enough : enough (n_of s) (t_of s) (live s) ≡ true
  unfolding among downs_in live
  live-enough =
      all-but-t (n_of s) (t_of s) f.n-high (live s)
      (le_trans (count-more 7 (among (n_of s) (λ (j : ℕ). not (live s j))) (down_at s) (λ k l e. sym (not-not (down_at s k)) ∙ both_right _ _ e)) few-down)
