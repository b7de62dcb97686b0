-- The table of record lengths: one computed claim over the whole table, and what it says of each kind.
-- Assumes nothing.
use mathlib.Core.{Bool.{Bool, true, false}, List.List, Path.{◌≡◌, refl, sym, ap, ◌∙◌}}
use Prim.Native.Nat.{ℕ, zero, suc, ◌+◌, ◌≤◌, ◌<◌}
use native.Mathlib.{Decide.dec_lt, Omega.arith}
use lib.{Dec.leb, ListN.{get_or, get_or-eq_default}}
use borrow.Author.Tests.{leb-true, le-ltb, lt-ltb}
use Rattle.basics.{proofs.Below.{all-at, get_or-list_below}, proofs.Choices.{ite-true, ite-false}, specs.Below.{all_below, list_below}}
use Rattle.basics.specs.Choice.{ite, both}
use Rattle.codec.specs.Items.{total, size_of}
use Rattle.schedule.specs.Records.{lengths, singles_by_kind, singles, carries, row, records}

-- each length is the sum of its kind's widths
table-right : lengths ≡ list_below 9 (λ (k : ℕ). total (records.widths k))
unfolding list_below records row singles carries ite total
table-right = refl

-- no kind has more than three numbers of one byte
few-singles : all_below 9 (λ (k : ℕ). leb (singles k) 3) ≡ true
unfolding all_below both singles
few-singles = refl

-- ---- past the table

pub length-past : (k : ℕ) → 9 ≤ k → get_or lengths k 0 ≡ 0
length-past k h = get_or-eq_default lengths 0 h

pub singles-past : (k : ℕ) → 9 ≤ k → singles k ≡ 0
unfolding singles
singles-past k h = get_or-eq_default singles_by_kind 0 h

widths-past : (k : ℕ) → 9 ≤ k → total (records.widths k) ≡ 0
unfolding records row carries ite total
widths-past k h = simp (singles-past k h, le-ltb k 2 (omega arith))

-- ---- at each kind

pub length-right : (k : ℕ) → get_or lengths k 0 ≡ total (records.widths k)
length-right k = by (dec_lt k 9)
  where
    by : Dec (k < 9) → get_or lengths k 0 ≡ total (records.widths k)
    by (yes h) = ap (λ (l : List ℕ). get_or l k 0) table-right ∙ get_or-list_below 9 (λ (j : ℕ). total (records.widths j)) k 0 h
    by (no h) = length-past k (omega arith) ∙ sym (widths-past k (omega arith))

pub singles-few : (k : ℕ) → singles k ≤ 3
singles-few k = by (dec_lt k 9)
  where
    by : Dec (k < 9) → singles k ≤ 3
    by (yes h) = leb-true _ _ (all-at 9 (λ (j : ℕ). leb (singles j) 3) few-singles k h)
    by (no h) = omega (arith, singles-past k (omega arith))

total-row : (m : ℕ) (valued : Bool) → total (row m valued) ≡ m + ite valued 4 0
unfolding row total ite
total-row zero true = refl
total-row zero false = refl
total-row (suc m) valued = omega (arith, total-row m valued)

module _ (k : ℕ) where
  -- the length of a body: its numbers of one byte, and four for a value
  body-length : get_or lengths k 0 ≡ singles k + ite (carries k) 4 0
  unfolding records
  body-length = length-right k ∙ total-row (singles k) (carries k)

  pub length-valued : k < 2 → get_or lengths k 0 ≡ singles k + 4
  unfolding carries
  length-valued h = body-length ∙ ap (λ (n : ℕ). singles k + n) (ite-true 4 0 (lt-ltb _ _ h))

  pub length-bare : 2 ≤ k → get_or lengths k 0 ≡ singles k
  unfolding carries
  length-bare h = body-length ∙ ap (λ (n : ℕ). singles k + n) (ite-false 4 0 (le-ltb _ _ h)) ∙ omega arith

  pub length-few : get_or lengths k 0 ≤ 7
  unfolding carries
  length-few = by (dec_lt k 2)
    where
      by : Dec (k < 2) → get_or lengths k 0 ≤ 7
      by (yes h) = omega (arith, length-valued h, singles-few k)
      by (no h) = omega (arith, length-bare (omega arith), singles-few k)

  pub size-right : size_of records k ≡ get_or lengths k 0 + 1
  unfolding size_of
  size-right = omega (arith, length-right k)

  pub size-is : size_of records k ≡ singles k + ite (carries k) 4 0 + 1
  size-is = size-right ∙ ap (λ (n : ℕ). n + 1) body-length

  pub size-few : size_of records k ≤ 8
  size-few = omega (arith, size-right, length-few)

  pub singles-within : singles k + 1 ≤ size_of records k
  singles-within = omega (arith, size-is)

-- by which the check itself finds the length of a record and of what it begins with
pub ruleset sizes = (length-valued, length-bare, singles-few, size-right)
