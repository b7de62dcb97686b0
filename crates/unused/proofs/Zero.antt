-- What unused tables are: the fresh tables of zeros, and no others.
-- Assumes nothing.
use mathlib.Core.{Bool.{true, false}, List.List, Logic.◌↔◌, Path.{◌≡◌, refl, sym, ap, ◌∙◌}}
use Prim.Native.Nat.{ℕ, ◌<◌}
use native.Mathlib.Omega.{arith}
use lib.{Dec.eqb, ListN.{length, get_or, replicate, length-replicate, get_or-replicate}, Seq.ext_get_or}
use borrow.Author.Tests.{eqb-true, not-true}
use Rattle.basics.{proofs.Below.all-at, proofs.Choices.{clash, both_left, both_right}, specs.Below.all_below, specs.Choice.both}
use Rattle.tables.specs.{Places.{w_at, r_at, hold_at, line_at, no_write, no_read, no_hold, no_line}, declared.Hold.Hold, declared.Line.Line}
use Rattle.form.{proofs.Shape.Shaped, specs.Form.{fresh, empty_line}, specs.declared.Operation.Operation}
use Rattle.form.specs.declared.{Operation.TheVariants.{Idle, Writing, FirstWait, SecondWait}, Tables.Tables}
use Rattle.unused.specs.Unused.{entry_zero, value_zero, line_unused, history_unused, place_with, place_unused, idle, unused}

-- a list of n entries that are all the same
all_same : {A : Type 0} (d x : A) (n : ℕ) (l : List A) → length l ≡ n → ((k : ℕ) → k < n → get_or l k d ≡ x) → l ≡ replicate n x
all_same d x n l long same =
    ext_get_or d l (replicate n x) (long ∙ sym (length-replicate n x))
    (λ k h. let m : k < n = omega (arith, long, h) in same k m ∙ sym (get_or-replicate n k x d m))

line-zero : (l : Line) → length l.sn ≡ 100 → line_unused l ≡ true → l ≡ empty_line
unfolding line_unused empty_line entry_zero
line-zero l long e =
    let none : l.len ≡ 0 = eqb-true _ _ (both_left _ _ e) in
    let zeros : l.sn ≡ replicate 100 no_write
    = all_same no_write no_write 100 l.sn long (λ k h. ap (λ (x : ℕ). record { 0 = x }) (eqb-true _ _ (all-at 100 (entry_zero l) (both_right _ _ e) k h))) in
    λ i. record { len = none i; sn = zeros i }

-- what one place is
record Zero (x y : ℕ) (h : Hold) (l : Line) : Type 0 where
  w-zero : x ≡ 0
  r-zero : y ≡ 0
  nothing-held : h ≡ no_hold
  line-unused : line_unused l ≡ true

place-zero : (x y : ℕ) (h : Hold) (l : Line) → place_with x y h l ≡ true → Zero x y h l
unfolding place_with
place-zero x y h l e =
    let a = both_right _ _ e in
    let b = both_right _ _ a in
    let c = both_right _ _ b in
    let full : h.full ≡ false = not-true _ (both_left _ _ b) in
    let value : h.value ≡ 0 = eqb-true _ _ (both_left _ _ c) in
    record {
      w-zero = eqb-true _ _ (both_left _ _ e);
      r-zero = eqb-true _ _ (both_left _ _ a);
      nothing-held = λ i. record { full = full i; value = value i };
      line-unused = both_right _ _ c;
    }

is-idle : (o : Operation) → idle o ≡ true → o ≡ Idle
unfolding idle
is-idle Idle e = refl
is-idle Writing e = clash refl e
is-idle FirstWait e = clash refl e
is-idle (SecondWait sn) e = clash refl e

pub fresh-is-unused : unused (fresh 0 0 0 0 0) ≡ true
unfolding unused fresh empty_line place_unused place_with history_unused line_unused entry_zero value_zero idle all_below both
fresh-is-unused = refl

-- every test that tables in use may fail
record Passed (p : Tables) : Type 0 where
  n-zero : p.n ≡ 0
  t-zero : p.t ≡ 0
  writer-zero : p.writer ≡ 0
  number-zero : p.number ≡ 0
  places-zero : (j : ℕ) → j < 7 → Zero (w_at p.w j) (r_at p.r j) (hold_at p.held j) (line_at p.lines j)
  history-zero : (k : ℕ) → k < 201 → get_or p.history k 0 ≡ 0
  not-busy : p.operation ≡ Idle

passed : (p : Tables) → unused p ≡ true → Passed p
unfolding unused history_unused value_zero place_unused
passed p e =
    let t-on = both_right (eqb p.n 0) _ e in
    let writer-on = both_right (eqb p.t 0) _ t-on in
    let number-on = both_right (eqb p.writer 0) _ writer-on in
    let places-on = both_right (eqb p.number 0) _ number-on in
    let history-on = both_right (all_below 7 (place_unused p)) _ places-on in
    record {
      n-zero = eqb-true _ _ (both_left _ _ e);
      t-zero = eqb-true _ _ (both_left _ _ t-on);
      writer-zero = eqb-true _ _ (both_left _ _ writer-on);
      number-zero = eqb-true _ _ (both_left _ _ number-on);
      places-zero = λ j h. place-zero _ _ _ _ (all-at 7 (place_unused p) (both_left _ _ places-on) j h);
      history-zero = λ k h. eqb-true _ _ (all-at 201 (value_zero p.history) (both_left _ _ history-on) k h);
      not-busy = is-idle p.operation (both_right _ _ history-on);
    }

pub unused-is-fresh : (p : Tables) → Shaped p → unused p ≡ true → p ≡ fresh 0 0 0 0 0
unfolding fresh
unused-is-fresh p s e =
    let z : Passed p = passed p e in
    let w : p.w ≡ replicate 7 no_write = all_same no_write no_write 7 p.w s.w_long (λ j h. ap (λ (x : ℕ). record { 0 = x }) (z.places-zero j h).w-zero) in
    let r : p.r ≡ replicate 7 no_read = all_same no_read no_read 7 p.r s.r_long (λ j h. ap (λ (x : ℕ). record { 0 = x }) (z.places-zero j h).r-zero) in
    let held : p.held ≡ replicate 7 no_hold = all_same no_hold no_hold 7 p.held s.held_long (λ j h. (z.places-zero j h).nothing-held) in
    let lines : p.lines ≡ replicate 7 empty_line
    = all_same no_line empty_line 7 p.lines s.lines_long.seven (λ j h. line-zero _ (s.lines_long.hundred j h) (z.places-zero j h).line-unused) in
    let history : p.history ≡ replicate 201 0 = all_same 0 0 201 p.history s.history_long z.history-zero in
    λ i.
    record {
      n = z.n-zero i;
      t = z.t-zero i;
      writer = z.writer-zero i;
      number = z.number-zero i;
      w = w i;
      r = r i;
      history = history i;
      held = held i;
      lines = lines i;
      operation = z.not-busy i;
    }

pub unused-iff : (p : Tables) → Shaped p → (unused p ≡ true) ↔ (p ≡ fresh 0 0 0 0 0)
unused-iff p s = (unused-is-fresh p s, λ e. ap unused e ∙ fresh-is-unused)
