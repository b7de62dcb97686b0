-- Which refusals a panel in form meets, in numbers: a start 6, 7 or 8, a delivery from a peer 11, 12 or 13 by its kind, or none; and of a
-- delivery when it is none, and what it has passed then.
-- Assumes nothing.
use mathlib.Core.{Bool.{Bool, true, false, not}, List.{List, [], ◌∷◌, ◌++◌}, Logic.{◌≢◌, ◌⊎◌, inl, inr}, Path.{◌≡◌, refl, sym, ap, ◌∙◌}}
use Prim.Native.Nat.{ℕ, suc, ◌+◌, ◌-◌, ◌%◌, ◌≤◌, ◌<◌}
use native.Mathlib.Omega.{arith}
use lib.Dec.{leb, eqb}
use borrow.Author.Tests.{eq-eqb, ne_eqb, eqb-true, lt-leb, le-ltb}
use Rattle.basics.proofs.{Choices.{clash, not_so, ite-true, ite-false, both_left, both_right, both_true, both-false-right}, Ones.one-false}
use Rattle.basics.{proofs.Refusals.first_past, specs.Below.one_if, specs.Refusal.{Trial, first_of, refuse, number_of}, specs.declared.refused.Refusal.{Refusal, TheVariants.{NotTheWriter, Unfinished, UsedUp, StrayWrite, StrayProceed, LineFull}}}
use Rattle.tables.specs.Places.{w_at, r_at, hold_at, line_at}
use Rattle.form.{proofs.InForm.{InForm, form_of, panel-iff}, specs.Form.at_writer, specs.Setting.{own_place, own_w, own_r}}
use Rattle.form.specs.declared.Tables.{Tables}
use Rattle.refusals.proofs.Passing.{MayCome, may-write-from, may-read-from, may-proceed-from, not-too-high}
use Rattle.refusals.proofs.Refusing.{first-0, peer-0, more_given, more-0}
use Rattle.refusals.specs.Refusals.{is_peer, is_idle, right_bit, too_high, stray, line_full, first_trials, peer_trials, write_trials, read_trials, write_from_trials, read_from_trials, proceed_from_trials, trials, refusal}
use Rattle.refusals.specs.Refusals.Event.{write, read, write_from, read_from, proceed_from}
use Rattle.promise.specs.View.{view_of}

-- ---- tests in numbers

pub at-writer : (p : Tables) → p.number ≡ p.writer → at_writer p ≡ true
unfolding at_writer
at-writer p e = eq-eqb _ _ e

pub writer-is : (p : Tables) → at_writer p ≡ true → p.number ≡ p.writer
unfolding at_writer
writer-is p e = eqb-true _ _ e

pub peer-test : (p : Tables) (j : ℕ) → 1 ≤ j → j ≤ p.n → j ≢ p.number → is_peer p j ≡ true
unfolding is_peer
peer-test p j low high other = both_true ((panel-iff _ _).1 (low, high)) (ap not (ne_eqb _ _ other))

module _ (p : Tables) (k : ℕ) (b : Bool) where
  pub right-bit : one_if b ≡ suc ((view_of p).w k) % 2 → right_bit p k b ≡ true
  unfolding right_bit view_of
  right-bit e = eq-eqb (one_if b) ((w_at p.w k + 1) % 2) (omega arith)

  pub other-bit : one_if b ≡ (view_of p).w k % 2 → right_bit p k b ≡ false
  unfolding right_bit view_of
  other-bit e = ne_eqb (one_if b) ((w_at p.w k + 1) % 2) (λ (s : one_if b ≡ (w_at p.w k + 1) % 2). omega arith)

-- ---- what an event that is not refused has passed

module _ (p : Tables) (room : ℕ) where
  pub write-from-told : (j : ℕ) (b : Bool) (v : ℕ) → refusal p room (write_from j b v) ≡ 0 → MayCome p room j × (stray p (j - 1) b ≡ false)
  unfolding refusal trials
  write-from-told j b v z = may-write-from p room j b z

  pub read-from-told : (j : ℕ) → refusal p room (read_from j) ≡ 0 → MayCome p room j × (line_full p (j - 1) ≡ false)
  unfolding refusal trials
  read-from-told j z = may-read-from p room j z

  pub proceed-from-told : (j : ℕ) → refusal p room (proceed_from j) ≡ 0 → MayCome p room j × ((view_of p).r (j - 1) ≢ (view_of p).r (own_place p))
  unfolding refusal trials view_of
  proceed-from-told j z = may-proceed-from p room j z

-- a WRITE of the other bit finds nothing held
pub stray-free : (p : Tables) (k : ℕ) (b : Bool) → stray p k b ≡ false → right_bit p k b ≡ false → (hold_at p.held k).full ≡ false
unfolding stray
stray-free p k b s r = sym (ite-false _ _ (not-too-high p k b s r)) ∙ sym (ite-false _ _ r) ∙ s

-- ---- a WRITE's number that can be

low-enough : (p : Tables) (x : ℕ) → x ≤ 200 → (at_writer p ≡ true → x ≤ own_w p) → too_high p x ≡ false
unfolding too_high
low-enough p x h lead =
    ite-false _ _ (le-ltb 200 x h) ∙ not_so (λ e. clash (le-ltb (own_w p) x (lead (both_left _ _ e))) (both_right _ _ e))

-- ---- a panel in form

module _ (p : Tables) (f : InForm p) where
  -- neither 2 nor 3
  first_passes : first_of (first_trials p 107) ≡ 0
  first_passes = sym (first-0 p 107 (form_of p f) (omega arith))

  behind-first : (us : List Trial) → first_of (first_trials p 107 ++ us) ≡ first_of us
  unfolding first_trials
  behind-first us = first_past (first_trials p 107) us first_passes

  pub write-refusal :
      (v : ℕ) → refusal p 107 (write v)
      ≡ first_of (refuse NotTheWriter (not (at_writer p))
      ∷ refuse Unfinished (not (is_idle p.operation))
      ∷ refuse UsedUp (leb 200 (own_w p))
      ∷ [])
  unfolding refusal trials write_trials
  write-refusal v = behind-first _

  pub read-refusal :
      refusal p 107 read
      ≡ first_of (refuse Unfinished (not (is_idle p.operation)) ∷ refuse UsedUp (leb 100 (own_r p)) ∷ [])
  unfolding refusal trials read_trials
  read-refusal = behind-first _

  -- ---- a delivery

  module _ (j : ℕ) (peer : is_peer p j ≡ true) where
    peer-passes : first_of (peer_trials p 107 j) ≡ 0
    peer-passes = sym (peer-0 p 107 j first_passes peer)

    -- one test stands behind those of a peer
    abbrev with-last : Refusal → Bool → ℕ
    with-last r b = first_of (peer_trials p 107 j ++ (refuse r b ∷ []))

    last-met : (r : Refusal) (b : Bool) → (with-last r b ≡ 0) ⊎ (with-last r b ≡ number_of r)
    last-met k true = inr (sym (more_given p 107 j k true peer-passes refl))
    last-met k false = inl (sym (more-0 p 107 j k false peer-passes refl))

    pub write-from-met : (b : Bool) (v : ℕ) → (refusal p 107 (write_from j b v) ≡ 0) ⊎ (refusal p 107 (write_from j b v) ≡ 11)
    unfolding refusal trials write_from_trials
    write-from-met b v = last-met StrayWrite (stray p (j - 1) b)

    pub read-from-met : (refusal p 107 (read_from j) ≡ 0) ⊎ (refusal p 107 (read_from j) ≡ 13)
    unfolding refusal trials read_from_trials
    read-from-met = last-met LineFull (line_full p (j - 1))

    pub proceed-from-met : (refusal p 107 (proceed_from j) ≡ 0) ⊎ (refusal p 107 (proceed_from j) ≡ 12)
    unfolding refusal trials proceed_from_trials
    proceed-from-met = last-met StrayProceed (eqb (r_at p.r (j - 1)) (own_r p))

    not-stray : (b : Bool) (v : ℕ) → stray p (j - 1) b ≡ false → refusal p 107 (write_from j b v) ≡ 0
    unfolding refusal trials write_from_trials
    not-stray b v s = sym (more-0 p 107 j StrayWrite (stray p (j - 1) b) peer-passes s)

    -- WRITE of the right bit: its number is w[j]+1
    pub write-from-accepted :
        (b : Bool) (v : ℕ) → right_bit p (j - 1) b ≡ true → suc ((view_of p).w (j - 1)) ≤ 200 →
        (at_writer p ≡ true → suc ((view_of p).w (j - 1)) ≤ (view_of p).w (own_place p)) →
        refusal p 107 (write_from j b v) ≡ 0
    unfolding view_of stray
    write-from-accepted b v r h lead =
        not-stray b v
        (ite-true _ _ r
        ∙ low-enough p (w_at p.w (j - 1) + 1) (omega arith) (λ w. let l : suc (w_at p.w (j - 1)) ≤ own_w p = lead w in omega arith))

    -- and of the other: w[j]+2, and nothing is held
    pub write-held-accepted :
        (b : Bool) (v : ℕ) → right_bit p (j - 1) b ≡ false → suc (suc ((view_of p).w (j - 1))) ≤ 200 →
        (at_writer p ≡ true → suc (suc ((view_of p).w (j - 1))) ≤ (view_of p).w (own_place p)) →
        (view_of p).held (j - 1) ≡ 0 → refusal p 107 (write_from j b v) ≡ 0
    unfolding view_of stray
    write-held-accepted b v r h lead free =
        not-stray b v
        (ite-false _ _ r
        ∙ ite-false _ _ (low-enough p (w_at p.w (j - 1) + 2) (omega arith) (λ w. let l : suc (suc (w_at p.w (j - 1))) ≤ own_w p = lead w in omega arith))
        ∙ one-false _ free)

    pub read-from-accepted : (view_of p).waiting (j - 1) < 100 → refusal p 107 (read_from j) ≡ 0
    unfolding refusal trials read_from_trials view_of line_full
    read-from-accepted h = sym (more-0 p 107 j LineFull (line_full p (j - 1)) peer-passes (both-false-right _ (lt-leb 100 (line_at p.lines (j - 1)).len h)))

    pub proceed-from-accepted : (view_of p).r (j - 1) ≢ (view_of p).r (own_place p) → refusal p 107 (proceed_from j) ≡ 0
    unfolding refusal trials proceed_from_trials view_of
    proceed-from-accepted n = sym (more-0 p 107 j StrayProceed (eqb (r_at p.r (j - 1)) (own_r p)) peer-passes (ne_eqb _ _ n))
