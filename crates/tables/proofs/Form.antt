-- Form as plain facts: cases by computation, and what each test of specs/Form says, both ways.
-- Assumes nothing.
use mathlib.Core.{Bool.{Bool, true, false, not}, List.{List, [], ◌∷◌, ◌++◌, map}, Logic.◌↔◌, Path.{◌≡◌, refl, sym, ap, subst, ◌∙◌}}
use Prim.Native.Nat.{ℕ, zero, suc, ◌+◌, ◌-◌, ◌≤◌, ◌<◌}
use native.Mathlib.{Decide.dec_lt, Nat.{add-zero, add-suc, le_refl, le_trans}, Omega.arith}
use lib.{Dec.{leb, ltb, eqb}, ListN.{length, get_or, replicate}}
use borrow.Author.Tests.{lt-ltb, le-ltb, le-leb, lt-leb, eq-eqb, ltb-true, ltb-false, leb-true, leb-false, eqb-true, not-true}
use Rattle.basics.proofs.{Below.{all-at, all_of}, Choices.{ite-true, ite-false, ite-case, both_left, both_right, both_true}}
use Rattle.basics.specs.{Below.all_below, Choice.{ite, both}}
use Rattle.tables.specs.{Form.{entry_ok, line_ok, hold_ok, quiet_ok, unknown_ok, history_ok}, Places.{no_write, w_at}, declared.Hold.Hold}
use Rattle.tables.specs.declared.Line.{Line}

-- ---- cases

-- so many READs wait, with these numbers in front; below, the peer is at 4 and the panel itself at 7
abbrev pub waiting : ℕ → List ℕ → Line
waiting n xs = record { len = n; sn = map (λ (x : ℕ). record { 0 = x }) xs ++ replicate (100 - length xs) no_write }

line-good : (line_ok (waiting 0 []) 4 7 ≡ true) × (line_ok (waiting 3 (5 ∷ 5 ∷ 7 ∷ [])) 4 7 ≡ true)
unfolding line_ok entry_ok all_below both ite
line-good = (refl, refl)

entry-at-the-peer : line_ok (waiting 2 (4 ∷ 5 ∷ [])) 4 7 ≡ false
unfolding line_ok entry_ok all_below both ite
entry-at-the-peer = refl

entry-not-known : line_ok (waiting 2 (5 ∷ 8 ∷ [])) 4 7 ≡ false
unfolding line_ok entry_ok all_below both ite
entry-not-known = refl

line-falls : line_ok (waiting 2 (6 ∷ 5 ∷ [])) 4 7 ≡ false
unfolding line_ok entry_ok all_below both ite
line-falls = refl

left-past-the-end : line_ok (waiting 1 (5 ∷ 5 ∷ [])) 4 7 ≡ false
unfolding line_ok entry_ok all_below both ite
left-past-the-end = refl

-- the next but one after w[j] is one of 200, and at the writer one that is written; an empty hold has value zero
held : (hold_ok (record { full = true; value = 9 }) 198 0 false ≡ true)
    × (hold_ok (record { full = true; value = 9 }) 199 0 false ≡ false)
    × (hold_ok (record { full = true; value = 9 }) 5 7 true ≡ true)
    × (hold_ok (record { full = true; value = 9 }) 6 7 true ≡ false)
    × (hold_ok (record { full = false; value = 9 }) 5 7 true ≡ false)
unfolding hold_ok both ite
held = (refl, refl, refl, refl, refl)

quiet : (quiet_ok (record { full = false; value = 0 }) (waiting 0 []) ≡ true)
    × (quiet_ok (record { full = true; value = 9 }) (waiting 0 []) ≡ false)
    × (quiet_ok (record { full = false; value = 0 }) (waiting 1 (5 ∷ [])) ≡ false)
unfolding quiet_ok both
quiet = (refl, refl, refl)

-- w[i] is 1, so what stands at 2 is zero
values : (history_ok (700 ∷ 650 ∷ replicate 199 0) 1 ≡ true) × (history_ok (700 ∷ 650 ∷ 651 ∷ replicate 198 0) 1 ≡ false)
unfolding history_ok unknown_ok all_below both ite
values = (refl, refl)

-- ---- a line

-- what does not fall from one number to the next does not fall at all
rising-far : (f : ℕ → ℕ) (n : ℕ) → ((k : ℕ) → suc k < n → f k ≤ f (suc k)) → (k d : ℕ) → k + d < n → f k ≤ f (k + d)
rising-far f n next k zero h = subst (λ (m : ℕ). f k ≤ f m) (sym (add-zero k)) (le_refl (f k))
rising-far f n next k (suc d) h =
    subst (λ (m : ℕ). f k ≤ f m) (sym (add-suc k d))
    (le_trans (rising-far f n next k d (omega arith)) (next (k + d) (omega arith)))

pub record LineForm (l : Line) (low high : ℕ) : Type 0 where
  pub short : l.len ≤ 100
  pub above : (k : ℕ) → k < l.len → low < w_at l.sn k
  pub within : (k : ℕ) → k < l.len → w_at l.sn k ≤ high
  pub rising : (k m : ℕ) → k < m → m < l.len → w_at l.sn k ≤ w_at l.sn m
  pub zero-past : (k : ℕ) → l.len ≤ k → k < 100 → w_at l.sn k ≡ 0

module _ (l : Line) (low high : ℕ) where
  -- one entry, within the line and past its end
  record Entry (k : ℕ) : Type 0 where
    above : low < w_at l.sn k
    within : w_at l.sn k ≤ high
    rising : w_at l.sn (k - 1) ≤ w_at l.sn k

  entry_in : (k : ℕ) → k < l.len → entry_ok l low high k ≡ true → Entry k
  unfolding entry_ok
  entry_in k h e =
      let i = sym (ite-true _ _ (lt-ltb k l.len h)) ∙ e in
      record { above = ltb-true _ _ (both_left _ _ i); within = leb-true _ _ (both_left _ _ (both_right _ _ i)); rising = leb-true _ _ (both_right _ _ (both_right _ _ i)) }

  entry_past : (k : ℕ) → l.len ≤ k → entry_ok l low high k ≡ true → w_at l.sn k ≡ 0
  unfolding entry_ok
  entry_past k h e = eqb-true _ _ (sym (ite-false _ _ (le-ltb k l.len h)) ∙ e)

  entry-ok : LineForm l low high → (k : ℕ) → k < 100 → (b : Bool) → ltb k l.len ≡ b → entry_ok l low high k ≡ true
  unfolding entry_ok
  entry-ok f k h true e =
      let i : k < l.len = ltb-true _ _ e in
      ite-true _ _ e ∙ both_true (lt-ltb _ _ (f.above k i)) (both_true (le-leb _ _ (f.within k i)) (le-leb _ _ (before k i)))
    where
      before : (k : ℕ) → k < l.len → w_at l.sn (k - 1) ≤ w_at l.sn k
      before zero i = le_refl _
      before (suc k) i = subst (λ (m : ℕ). w_at l.sn m ≤ w_at l.sn (suc k)) (omega arith) (f.rising k (suc k) (omega arith) i)
  entry-ok f k h false e = ite-false _ _ e ∙ eq-eqb _ _ (f.zero-past k (ltb-false _ _ e) h)

  formed : line_ok l low high ≡ true → LineForm l low high
  unfolding line_ok
  formed e =
      record {
        short = short;
        above = λ k h. (entry k h).above;
        within = λ k h. (entry k h).within;
        rising = λ k m h i. subst (λ (j : ℕ). w_at l.sn k ≤ w_at l.sn j) (omega arith) (rising-far (w_at l.sn) l.len next k (m - k) (omega arith));
        zero-past = λ k h i. entry_past k h (each k i);
      }
    where
      short : l.len ≤ 100
      short = leb-true _ _ (both_left _ _ e)

      each : (k : ℕ) → k < 100 → entry_ok l low high k ≡ true
      each = all-at 100 (entry_ok l low high) (both_right _ _ e)

      entry : (k : ℕ) → k < l.len → Entry k
      entry k h = entry_in k h (each k (omega (arith, short)))

      next : (k : ℕ) → suc k < l.len → w_at l.sn k ≤ w_at l.sn (suc k)
      next k h = subst (λ (m : ℕ). w_at l.sn m ≤ w_at l.sn (suc k)) (omega arith) (entry (suc k) h).rising

  pub line_ok-iff : (line_ok l low high ≡ true) ↔ LineForm l low high
  unfolding line_ok
  line_ok-iff =
      (formed, λ f. both_true (le-leb _ _ f.short) (all_of 100 (entry_ok l low high) (λ k h. entry-ok f k h (ltb k l.len) refl)))

-- nothing waits in a line whose peer knows as much
pub level-empty : {l : Line} {low high : ℕ} → LineForm l low high → low ≡ high → l.len ≡ 0
level-empty {l} f e = by (dec_lt 0 l.len)
  where
    by : Dec (0 < l.len) → l.len ≡ 0
    by (yes h) = absurd (omega (arith, f.above 0 h, f.within 0 h))
    by (no h) = omega arith

-- ---- a hold

pub record HoldForm (h : Hold) (low high : ℕ) (at_writer : Bool) : Type 0 where
  pub next-exists : h.full ≡ true → low + 2 ≤ 200
  pub next-written : h.full ≡ true → at_writer ≡ true → low + 2 ≤ high
  pub empty-zero : h.full ≡ false → h.value ≡ 0

module _ (h : Hold) (low high : ℕ) (at_writer : Bool) where
  hold-full : h.full ≡ true → hold_ok h low high at_writer ≡ both (leb (low + 2) 200) (ite at_writer (leb (low + 2) high) true)
  unfolding hold_ok
  hold-full f = ite-true _ _ f

  hold-empty : h.full ≡ false → hold_ok h low high at_writer ≡ eqb h.value 0
  unfolding hold_ok
  hold-empty f = ite-false _ _ f

  hold-ok : HoldForm h low high at_writer → (b : Bool) → h.full ≡ b → hold_ok h low high at_writer ≡ true
  hold-ok w true f =
      hold-full f ∙ both_true (le-leb _ _ (w.next-exists f)) (ite-case (λ (b : Bool). b ≡ true) at_writer _ _ (λ a. le-leb _ _ (w.next-written f a)) (λ _. refl))
  hold-ok w false f = hold-empty f ∙ eq-eqb _ _ (w.empty-zero f)

  pub hold_ok-iff : (hold_ok h low high at_writer ≡ true) ↔ HoldForm h low high at_writer
  hold_ok-iff = (
    λ e. record {
      next-exists = λ f. leb-true _ _ (both_left _ _ (sym (hold-full f) ∙ e));
      next-written = λ f a. leb-true _ _ (sym (ite-true _ _ a) ∙ both_right _ _ (sym (hold-full f) ∙ e));
      empty-zero = λ f. eqb-true _ _ (sym (hold-empty f) ∙ e);
    },
    λ w. hold-ok w h.full refl,
  )

-- ---- nothing held or waiting

pub quiet_ok-iff : (h : Hold) (l : Line) → (quiet_ok h l ≡ true) ↔ ((h.full ≡ false) × (l.len ≡ 0))
unfolding quiet_ok
quiet_ok-iff h l =
    (λ e. (not-true _ (both_left _ _ e), eqb-true _ _ (both_right _ _ e)), λ w. both_true (ap not w.0) (eq-eqb _ _ w.1))

-- ---- the values

module _ (history : List ℕ) (high : ℕ) where
  pub history_ok-iff : (history_ok history high ≡ true) ↔ ((k : ℕ) → k < 201 → high < k → get_or history k 0 ≡ 0)
  unfolding history_ok unknown_ok
  history_ok-iff =
      (λ e k h i. eqb-true _ _ (sym (ite-false _ _ (lt-leb k high i)) ∙ all-at 201 (unknown_ok history high) e k h), λ z. all_of 201 (unknown_ok history high) (λ k h. known z k h (leb k high) refl))
    where
      known : ((k : ℕ) → k < 201 → high < k → get_or history k 0 ≡ 0) → (k : ℕ) → k < 201 → (b : Bool) → leb k high ≡ b → unknown_ok history high k ≡ true
      known z k h true e = ite-true _ _ e
      known z k h false e = ite-false _ _ e ∙ eq-eqb _ _ (z k h (leb-false _ _ e))
