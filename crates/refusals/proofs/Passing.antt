-- What an event that no refusal meets has passed.
-- Assumes nothing.
use mathlib.Core.{Bool.{Bool, true, false}, List.{[], ◌∷◌, ◌++◌}, Logic.◌≢◌, Path.{◌≡◌, sym, ◌∙◌}}
use Prim.Native.Nat.{ℕ, ◌+◌, ◌-◌, ◌≤◌, ◌<◌}
use lib.Dec.{ltb, eqb}
use borrow.Author.Tests.{lt-ltb, ltb-false, leb-false, eqb-false, not-true, not-false}
use Rattle.basics.proofs.{Choices.{clash, not_so, ite-true, ite-false, both_left, both_right, both_true}, Refusals.{Passes, passed}}
use Rattle.basics.specs.Refusal.{first_of, refuse}
use Rattle.basics.specs.declared.refused.Refusal.{Refusal, TheVariants.{StrayWrite, StrayProceed, LineFull}}
use Rattle.tables.specs.Places.{w_at, r_at, line_at}
use Rattle.form.{proofs.InForm.panel-iff, specs.Form.{in_form, at_writer}, specs.Setting.{own_w, own_r}, specs.declared.Tables.Tables}
use Rattle.refusals.specs.Refusals.{is_peer, is_idle, right_bit, too_high, stray, line_full, first_trials, peer_trials, write_trials, read_trials, write_from_trials, read_from_trials, proceed_from_trials}

-- a write may start
pub record MayWrite (p : Tables) (room : ℕ) : Type 0 where
  pub form : in_form p ≡ true
  pub roomy : 107 ≤ room
  pub writer : at_writer p ≡ true
  pub idle : is_idle p.operation ≡ true
  pub left : own_w p < 200

pub may_write : (p : Tables) (room : ℕ) → first_of (write_trials p room) ≡ 0 → MayWrite p room
unfolding write_trials first_trials
may_write p room e =
    let h : Passes (write_trials p room) = passed (write_trials p room) e in
    record {
      form = not-false _ h.0;
      roomy = ltb-false _ _ h.1.0;
      writer = not-false _ h.1.1.0;
      idle = not-false _ h.1.1.1.0;
      left = leb-false _ _ h.1.1.1.1.0;
    }

-- a read may start
pub record MayRead (p : Tables) (room : ℕ) : Type 0 where
  pub form : in_form p ≡ true
  pub roomy : 107 ≤ room
  pub idle : is_idle p.operation ≡ true
  pub left : own_r p < 100

pub may_read : (p : Tables) (room : ℕ) → first_of (read_trials p room) ≡ 0 → MayRead p room
unfolding read_trials first_trials
may_read p room e =
    let h : Passes (read_trials p room) = passed (read_trials p room) e in
    record {
      form = not-false _ h.0;
      roomy = ltb-false _ _ h.1.0;
      idle = not-false _ h.1.1.0;
      left = leb-false _ _ h.1.1.1.0;
    }

-- a message may come from j
pub record MayCome (p : Tables) (room j : ℕ) : Type 0 where
  pub form : in_form p ≡ true
  pub roomy : 107 ≤ room
  pub low : 1 ≤ j
  pub high : j ≤ p.n
  pub other : j ≢ p.number

come : (p : Tables) (room j : ℕ) → in_form p ≡ true → 107 ≤ room → is_peer p j ≡ true → MayCome p room j
unfolding is_peer
come p room j f r h =
    record {
      form = f;
      roomy = r;
      low = ((panel-iff _ _).0 (both_left _ _ h)).0;
      high = ((panel-iff _ _).0 (both_left _ _ h)).1;
      other = eqb-false _ _ (not-true _ (both_right _ _ h));
    }

module _ (p : Tables) (room j : ℕ) where
  -- with one more test behind those of a peer
  pub may-come : (r : Refusal) (b : Bool) → first_of (peer_trials p room j ++ (refuse r b ∷ [])) ≡ 0 → MayCome p room j × (b ≡ false)
  unfolding peer_trials first_trials
  may-come r b e =
      let h : Passes (peer_trials p room j ++ (refuse r b ∷ [])) = passed (peer_trials p room j ++ (refuse r b ∷ [])) e in
      (come p room j (not-false _ h.0) (ltb-false _ _ h.1.0) (not-false _ h.1.1.0), h.1.1.1.0)

  pub may-write-from : (b : Bool) → first_of (write_from_trials p room j b) ≡ 0 → MayCome p room j × (stray p (j - 1) b ≡ false)
  unfolding write_from_trials
  may-write-from b e = may-come StrayWrite (stray p (j - 1) b) e

  pub may-read-from : first_of (read_from_trials p room j) ≡ 0 → MayCome p room j × (line_full p (j - 1) ≡ false)
  unfolding read_from_trials
  may-read-from e = may-come LineFull (line_full p (j - 1)) e

  pub may-proceed-from : first_of (proceed_from_trials p room j) ≡ 0 → MayCome p room j × (r_at p.r (j - 1) ≢ own_r p)
  unfolding proceed_from_trials
  may-proceed-from e =
      let h : MayCome p room j × (eqb (r_at p.r (j - 1)) (own_r p) ≡ false) = may-come StrayProceed (eqb (r_at p.r (j - 1)) (own_r p)) e in
      (h.0, eqb-false _ _ h.1)

-- ---- a WRITE that is not stray

-- a number that is not too high
low-number : (p : Tables) (x : ℕ) → too_high p x ≡ false → (x ≤ 200) × (at_writer p ≡ true → x ≤ own_w p)
unfolding too_high
low-number p x h = (ltb-false 200 x first, λ w. ltb-false (own_w p) x (second w))
  where
    first : ltb 200 x ≡ false
    first = not_so (λ e. clash h (ite-true _ _ e))

    second : at_writer p ≡ true → ltb (own_w p) x ≡ false
    second w = not_so (λ e. clash h (ite-false _ _ first ∙ both_true w e))

module _ (p : Tables) (k : ℕ) (b : Bool) (s : stray p k b ≡ false) where
  pub low-right : right_bit p k b ≡ true → (w_at p.w k + 1 ≤ 200) × (at_writer p ≡ true → w_at p.w k + 1 ≤ own_w p)
  unfolding stray
  low-right r = low-number p (w_at p.w k + 1) (sym (ite-true _ _ r) ∙ s)

  pub not-too-high : right_bit p k b ≡ false → too_high p (w_at p.w k + 2) ≡ false
  unfolding stray
  not-too-high r = not_so (λ e. clash (sym (ite-false _ _ r) ∙ s) (ite-true _ _ e))

  pub low_held : right_bit p k b ≡ false → (w_at p.w k + 2 ≤ 200) × (at_writer p ≡ true → w_at p.w k + 2 ≤ own_w p)
  low_held r = low-number p (w_at p.w k + 2) (not-too-high r)

-- ---- a READ that must wait finds room

pub line-room : (p : Tables) (k : ℕ) → line_full p k ≡ false → w_at p.w k < own_w p → (line_at p.lines k).len < 100
unfolding line_full
line-room p k full b = leb-false _ _ (not_so (λ e. clash full (both_true (lt-ltb _ _ b) e)))
