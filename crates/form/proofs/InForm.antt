-- In form, as a test that computes and as a record that proofs use, with a law each way.
-- Assumes nothing.
use mathlib.Core.{Bool.{Bool, true, false}, Logic.◌↔◌, Path.{◌≡◌, refl, sym, ◌∙◌}}
use Prim.Native.Nat.{ℕ, ◌+◌, ◌*◌, ◌≤◌, ◌<◌}
use native.Mathlib.Omega.{arith}
use lib.{Dec.{leb, eqb}, ListN.get_or}
use borrow.Author.Tests.{ltb-true, leb-true, eqb-true, lt-ltb, le-leb, eq-eqb}
use Rattle.basics.proofs.{Below.{all-at, all_of}, Choices.{ite-true, ite-false, ite-case, both_left, both_right, both_true}}
use Rattle.basics.specs.Choice.{ite, both}
use Rattle.tables.{proofs.Form.{LineForm, line_ok-iff, HoldForm, hold_ok-iff, quiet_ok-iff, history_ok-iff}, specs.Form.quiet_ok}
use Rattle.tables.specs.{Places.{w_at, r_at, hold_at, line_at}, declared.Hold.Hold, declared.Line.Line}
use Rattle.form.specs.{Asked.Sized, Form.{fits, is_panel, at_writer, place_with, place_ok, operation_ok, in_form}, Setting.{own_w, own_r}}
use Rattle.form.specs.declared.Tables.{Tables}

-- ---- sizes

pub record Fits (n t writer : ℕ) : Type 0 where
  pub n-low : 1 ≤ n
  pub n-high : n ≤ 7
  pub t-small : 2 * t < n
  pub writer-low : 1 ≤ writer
  pub writer-high : writer ≤ n

pub fits-view : (n t writer : ℕ) → fits n t writer ≡ true → Fits n t writer
unfolding fits
fits-view n t writer h =
    record {
      n-low = leb-true _ _ (both_left _ _ h);
      n-high = leb-true _ _ (both_left _ _ (both_right _ _ h));
      t-small = ltb-true _ _ (both_left _ _ (both_right _ _ (both_right _ _ h)));
      writer-low = leb-true _ _ (both_left _ _ (both_right _ _ (both_right _ _ (both_right _ _ h))));
      writer-high = leb-true _ _ (both_right _ _ (both_right _ _ (both_right _ _ (both_right _ _ h))));
    }

pub fits-of : (n t writer : ℕ) → Fits n t writer → fits n t writer ≡ true
unfolding fits
fits-of n t writer f =
    both_true (le-leb _ _ f.n-low)
    (both_true (le-leb _ _ f.n-high)
    (both_true (lt-ltb _ _ f.t-small) (both_true (le-leb _ _ f.writer-low) (le-leb _ _ f.writer-high))))

-- a panel's number in 1..n
pub panel-iff : (n j : ℕ) → (is_panel n j ≡ true) ↔ ((1 ≤ j) × (j ≤ n))
unfolding is_panel
panel-iff n j = (λ e. (leb-true _ _ (both_left _ _ e), leb-true _ _ (both_right _ _ e)), λ h. both_true (le-leb _ _ h.0) (le-leb _ _ h.1))

-- ---- one place

-- the numbers, the hold and the line at place j of panel `number` of n; lead: at the writer
pub record PlaceForm (n number j wj wi rj ri : ℕ) (h : Hold) (l : Line) (lead : Bool) : Type 0 where
  pub w_below : wj ≤ wi
  pub r_below : rj ≤ ri
  pub hold : HoldForm h wj wi lead
  pub line : LineForm l wj wi
  pub own-quiet : j + 1 ≡ number → (h.full ≡ false) × (l.len ≡ 0)
  pub past-quiet : n ≤ j → (h.full ≡ false) × (l.len ≡ 0)
  pub past-zero : n ≤ j → (wj ≡ 0) × (rj ≡ 0)

abbrev pub PlaceOf : Tables → ℕ → Type 0
PlaceOf p j = PlaceForm p.n p.number j (w_at p.w j) (own_w p) (r_at p.r j) (own_r p) (hold_at p.held j) (line_at p.lines j) (at_writer p)

place_view : (p : Tables) (j : ℕ) → place_ok p j ≡ true → PlaceOf p j
unfolding place_ok place_with
place_view p j h =
    let h1 = both_right _ _ h in
    let h2 = both_right _ _ h1 in
    let h3 = both_right _ _ h2 in
    let h4 = both_right _ _ h3 in
    record {
      w_below = leb-true _ _ (both_left _ _ h);
      r_below = leb-true _ _ (both_left _ _ h1);
      hold = (hold_ok-iff _ _ _ _).0 (both_left _ _ h2);
      line = (line_ok-iff _ _ _).0 (both_left _ _ h3);
      own-quiet = λ e. (quiet_ok-iff _ _).0 (sym (ite-true _ _ (own_in (leb p.n j) (eq-eqb _ _ e))) ∙ both_left _ _ h4);
      past-quiet = λ l. (quiet_ok-iff _ _).0 (sym (ite-true _ _ (ite-true _ _ (le-leb _ _ l))) ∙ both_left _ _ h4);
      past-zero = λ l. let z : both (eqb (w_at p.w j) 0) (eqb (r_at p.r j) 0) ≡ true = sym (ite-true _ _ (le-leb _ _ l)) ∙ both_right _ _ h4 in
          (eqb-true _ _ (both_left _ _ z), eqb-true _ _ (both_right _ _ z));
    }
  where
    own_in : (b : Bool) → eqb (j + 1) p.number ≡ true → ite b true (eqb (j + 1) p.number) ≡ true
    own_in b e = ite-case (λ (x : Bool). x ≡ true) b true (eqb (j + 1) p.number) (λ _. refl) (λ _. e)

place_of : (p : Tables) (j : ℕ) → PlaceOf p j → place_ok p j ≡ true
unfolding place_ok place_with
place_of p j f =
    both_true (le-leb _ _ f.w_below)
    (both_true (le-leb _ _ f.r_below)
    (both_true ((hold_ok-iff _ _ _ _).1 f.hold)
    (both_true ((line_ok-iff _ _ _).1 f.line)
    (both_true
    (ite-case (λ (x : Bool). x ≡ true) _ (quiet_ok (hold_at p.held j) (line_at p.lines j)) true (λ c. (quiet_ok-iff _ _).1 (quiet (leb p.n j) refl c)) (λ _. refl))
    (ite-case (λ (x : Bool). x ≡ true) _ (both (eqb (w_at p.w j) 0) (eqb (r_at p.r j) 0)) true
    (λ c. both_true (eq-eqb _ _ (f.past-zero (leb-true _ _ c)).0) (eq-eqb _ _ (f.past-zero (leb-true _ _ c)).1))
    (λ _. refl))))))
  where
    quiet : (b : Bool) → leb p.n j ≡ b → ite b true (eqb (j + 1) p.number) ≡ true → ((hold_at p.held j).full ≡ false) × ((line_at p.lines j).len ≡ 0)
    quiet true e c = f.past-quiet (leb-true _ _ e)
    quiet false e c = f.own-quiet (eqb-true _ _ (sym (ite-false _ _ refl) ∙ c))

-- ---- the whole panel

pub record InForm (p : Tables) : Type 0 where
  pub sizes : Fits p.n p.t p.writer
  pub number-low : 1 ≤ p.number
  pub number-high : p.number ≤ p.n
  pub w_top : own_w p ≤ 200
  pub r_top : own_r p ≤ 100
  pub place : (j : ℕ) → j < 7 → PlaceOf p j
  pub unwritten : (k : ℕ) → k < 201 → own_w p < k → get_or p.history k 0 ≡ 0
  pub operation-form : operation_ok p.operation (at_writer p) (own_w p) (own_r p) ≡ true

pub form-view : (p : Tables) → in_form p ≡ true → InForm p
unfolding in_form
form-view p h =
    let h1 = both_right _ _ h in
    let h2 = both_right _ _ h1 in
    let h3 = both_right _ _ h2 in
    let h4 = both_right _ _ h3 in
    let h5 = both_right _ _ h4 in
    record {
      sizes = fits-view _ _ _ (both_left _ _ h);
      number-low = ((panel-iff _ _).0 (both_left _ _ h1)).0;
      number-high = ((panel-iff _ _).0 (both_left _ _ h1)).1;
      w_top = leb-true _ _ (both_left _ _ h2);
      r_top = leb-true _ _ (both_left _ _ h3);
      place = λ j l. place_view p j (all-at 7 (place_ok p) (both_left _ _ h4) j l);
      unwritten = (history_ok-iff _ _).0 (both_left _ _ h5);
      operation-form = both_right _ _ h5;
    }

pub form_of : (p : Tables) → InForm p → in_form p ≡ true
unfolding in_form
form_of p f =
    both_true (fits-of _ _ _ f.sizes)
    (both_true ((panel-iff _ _).1 (f.number-low, f.number-high))
    (both_true (le-leb _ _ f.w_top)
    (both_true (le-leb _ _ f.r_top)
    (both_true (all_of 7 (place_ok p) (λ j l. place_of p j (f.place j l)))
    (both_true ((history_ok-iff _ _).1 f.unwritten) f.operation-form)))))

pub sized : (p : Tables) → InForm p → Sized p
sized p f = record { low = f.number-low; high = let a : p.number ≤ p.n = f.number-high in let b : p.n ≤ 7 = f.sizes.n-high in omega arith }
