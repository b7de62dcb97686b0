-- The trials of an event one after the other, as its code tries them, and what the first of them have settled when the next are tried.
-- Assumes nothing.
use mathlib.Core.{Bool.{Bool, true, false, not}, List.{List, [], ◌∷◌, ◌++◌}, Logic.◌≢◌, Path.{◌≡◌, refl, sym, ap, ap₂, ◌∙◌}}
use Prim.Native.Nat.{ℕ, ◌-◌, ◌≤◌, ◌<◌}
use native.Mathlib.Omega.{arith}
use lib.Dec.{leb, ltb}
use borrow.Author.Tests.{lt-ltb, le-ltb, le-leb, lt-leb, eq-eqb, ne_eqb, not-false}
use Rattle.std.specs.Prelude.{Ok}
use Rattle.basics.proofs.Refusals.{passed, first-given, first-not, first-none, first_past, first_stops, none-met}
use Rattle.basics.specs.Refusal.{Trial, first_of, met, refuse, number_of}
use Rattle.basics.specs.declared.refused.Refusal.{Refusal, TheVariants.{StrayWrite, StrayProceed, LineFull}}
use Rattle.form.{proofs.InForm.{InForm, form-view, sized}, specs.Asked.Sized, specs.Form.{in_form, at_writer}, specs.Setting.{own_w, own_r}}
use Rattle.form.specs.declared.Tables.{Tables}
use Rattle.tables.specs.Places.{w_at, r_at, line_at}
use Rattle.basics.specs.Choice.{both}
use Rattle.refusals.specs.Refusals.{is_peer, is_idle, stray, line_full, first_trials, peer_trials, write_trials, read_trials, write_from_trials, read_from_trials, proceed_from_trials}
use Rattle.refusals.proofs.Passing.{MayCome, may-come}

module _ (p : Tables) (room : ℕ) where
  pub first-sized : Ok tt ≡ met (first_trials p room) → Sized p
  unfolding first_trials
  first-sized e = sized p (form-view p (not-false _ (passed (first_trials p room) (none-met _ e)).0))

  -- a peer's place
  pub peer-place : (j : ℕ) → Ok tt ≡ met (peer_trials p room j) → (1 ≤ j) × (j ≤ 7) × Sized p
  peer-place j e =
      let m : MayCome p room j = (may-come p room j StrayWrite false (first_past (peer_trials p room j) _ (none-met _ e) ∙ first-not _ _ refl ∙ first-none)).0 in
      let f : InForm p = form-view p m.form in
      let most : p.n ≤ 7 = f.sizes.n-high in
      let high : j ≤ p.n = m.high in
      (m.low, omega arith, sized p f)

  -- ---- the numbers, for proofs

  pub first-3 : in_form p ≡ true → room < 107 → 3 ≡ first_of (first_trials p room)
  unfolding first_trials
  first-3 h r = sym (first-not _ _ (ap not h) ∙ first-given _ _ (lt-ltb _ _ r))

  pub first-0 : in_form p ≡ true → 107 ≤ room → 0 ≡ first_of (first_trials p room)
  unfolding first_trials
  first-0 h r = sym (first-not _ _ (ap not h) ∙ first-not _ _ (le-ltb _ _ r) ∙ first-none)

  -- what stands behind 2 and 3
  pub behind : (us : List Trial) → first_of (first_trials p room) ≡ 0 → first_of (first_trials p room ++ us) ≡ first_of us
  behind us e = first_past (first_trials p room) us e

  pub write-first : (k : ℕ) → k ≡ first_of (first_trials p room) → k ≢ 0 → k ≡ first_of (write_trials p room)
  unfolding write_trials
  write-first k e n = sym (first_stops (first_trials p room) _ k n (sym e))

  pub read_first : (k : ℕ) → k ≡ first_of (first_trials p room) → k ≢ 0 → k ≡ first_of (read_trials p room)
  unfolding read_trials
  read_first k e n = sym (first_stops (first_trials p room) _ k n (sym e))

  module _ (j : ℕ) where
    pub peer-first : (k : ℕ) → k ≡ first_of (first_trials p room) → k ≢ 0 → k ≡ first_of (peer_trials p room j)
    unfolding peer_trials
    peer-first k e n = sym (first_stops (first_trials p room) _ k n (sym e))

    pub peer-0 : first_of (first_trials p room) ≡ 0 → is_peer p j ≡ true → 0 ≡ first_of (peer_trials p room j)
    unfolding peer_trials
    peer-0 e h = sym (behind _ e ∙ first-not _ _ (ap not h) ∙ first-none)

    -- one more test behind those of a peer
    module _ (r : Refusal) (b : Bool) where
      pub more_given : first_of (peer_trials p room j) ≡ 0 → b ≡ true → number_of r ≡ first_of (peer_trials p room j ++ (refuse r b ∷ []))
      more_given e h = sym (first_past (peer_trials p room j) _ e ∙ first-given _ _ h)

      pub more-0 : first_of (peer_trials p room j) ≡ 0 → b ≡ false → 0 ≡ first_of (peer_trials p room j ++ (refuse r b ∷ []))
      more-0 e h = sym (first_past (peer_trials p room j) _ e ∙ first-not _ _ h ∙ first-none)

    pub peer-4 : first_of (first_trials p room) ≡ 0 → is_peer p j ≡ false → 4 ≡ first_of (peer_trials p room j)
    unfolding peer_trials
    peer-4 e h = sym (behind _ e ∙ first-given _ _ (ap not h))

  module _ (e : first_of (first_trials p room) ≡ 0) where
    pub write-6 : at_writer p ≡ false → 6 ≡ first_of (write_trials p room)
    unfolding write_trials
    write-6 h = sym (behind _ e ∙ first-given _ _ (ap not h))

    pub write-7 : at_writer p ≡ true → is_idle p.operation ≡ false → 7 ≡ first_of (write_trials p room)
    unfolding write_trials
    write-7 h o = sym (behind _ e ∙ first-not _ _ (ap not h) ∙ first-given _ _ (ap not o))

    pub write-8 : at_writer p ≡ true → is_idle p.operation ≡ true → 200 ≤ own_w p → 8 ≡ first_of (write_trials p room)
    unfolding write_trials
    write-8 h o w = sym (behind _ e ∙ first-not _ _ (ap not h) ∙ first-not _ _ (ap not o) ∙ first-given _ _ (le-leb _ _ w))

    pub write-0 : at_writer p ≡ true → is_idle p.operation ≡ true → own_w p < 200 → 0 ≡ first_of (write_trials p room)
    unfolding write_trials
    write-0 h o w = sym (behind _ e ∙ first-not _ _ (ap not h) ∙ first-not _ _ (ap not o) ∙ first-not _ _ (lt-leb _ _ w) ∙ first-none)

    pub read-7 : is_idle p.operation ≡ false → 7 ≡ first_of (read_trials p room)
    unfolding read_trials
    read-7 o = sym (behind _ e ∙ first-given _ _ (ap not o))

    pub read-8 : is_idle p.operation ≡ true → 100 ≤ own_r p → 8 ≡ first_of (read_trials p room)
    unfolding read_trials
    read-8 o r = sym (behind _ e ∙ first-not _ _ (ap not o) ∙ first-given _ _ (le-leb _ _ r))

    pub read-0 : is_idle p.operation ≡ true → own_r p < 100 → 0 ≡ first_of (read_trials p room)
    unfolding read_trials
    read-0 o r = sym (behind _ e ∙ first-not _ _ (ap not o) ∙ first-not _ _ (lt-leb _ _ r) ∙ first-none)

-- ---- 11, 12 and 13; i and m are the panel's own number and the peer's as the code holds them

module _ (p : Tables) (room j i m : ℕ) (own : i ≡ p.number) (peer : m ≡ j) (e : first_of (peer_trials p room j) ≡ 0) where
  pub proceed-given : r_at p.r (m - 1) ≡ r_at p.r (i - 1) → 12 ≡ first_of (proceed_from_trials p room j)
  unfolding proceed_from_trials
  proceed-given h = more_given p room j StrayProceed _ e (eq-eqb _ _ (ap (λ (x : ℕ). r_at p.r (x - 1)) (sym peer) ∙ h ∙ ap (λ (x : ℕ). r_at p.r (x - 1)) own))

  pub proceed-0 : r_at p.r (m - 1) ≢ r_at p.r (i - 1) → 0 ≡ first_of (proceed_from_trials p room j)
  unfolding proceed_from_trials
  proceed-0 h =
      more-0 p room j StrayProceed _ e
      (ne_eqb _ _ (λ (s : r_at p.r (j - 1) ≡ own_r p). h (ap (λ (x : ℕ). r_at p.r (x - 1)) peer ∙ s ∙ ap (λ (x : ℕ). r_at p.r (x - 1)) (sym own))))

  full : Bool
  full = both (ltb (w_at p.w (m - 1)) (w_at p.w (i - 1))) (leb 100 (line_at p.lines (m - 1)).len)

  full_is : full ≡ line_full p (j - 1)
  unfolding full line_full
  full_is = ap₂ (λ (x y : ℕ). both (ltb (w_at p.w (x - 1)) (w_at p.w (y - 1))) (leb 100 (line_at p.lines (x - 1)).len)) peer own

  pub read-from-given : both (ltb (w_at p.w (m - 1)) (w_at p.w (i - 1))) (leb 100 (line_at p.lines (m - 1)).len) ≡ true → 13 ≡ first_of (read_from_trials p room j)
  unfolding read_from_trials full
  read-from-given h = more_given p room j LineFull _ e (sym full_is ∙ h)

  pub read-from-0 : both (ltb (w_at p.w (m - 1)) (w_at p.w (i - 1))) (leb 100 (line_at p.lines (m - 1)).len) ≡ false → 0 ≡ first_of (read_from_trials p room j)
  unfolding read_from_trials full
  read-from-0 h = more-0 p room j LineFull _ e (sym full_is ∙ h)

module _ (p : Tables) (room j m : ℕ) (b : Bool) (peer : m ≡ j) (e : first_of (peer_trials p room j) ≡ 0) where
  pub write-from-given : stray p (m - 1) b ≡ true → 11 ≡ first_of (write_from_trials p room j b)
  unfolding write_from_trials
  write-from-given h = more_given p room j StrayWrite _ e (ap (λ (x : ℕ). stray p (x - 1) b) (sym peer) ∙ h)

  pub write-from-0 : stray p (m - 1) b ≡ false → 0 ≡ first_of (write_from_trials p room j b)
  unfolding write_from_trials
  write-from-0 h = more-0 p room j StrayWrite _ e (ap (λ (x : ℕ). stray p (x - 1) b) (sym peer) ∙ h)
