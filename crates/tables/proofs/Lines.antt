-- The laws of READs that join a line and leave it: what stands where afterwards, who leaves, and that the line stays in form.
-- Assumes nothing.
use mathlib.Core.{Bool.{Bool, true, false}, List.{[], ◌∷◌}, Path.{◌≡◌, refl, sym, ap, subst, subst₂, ◌∙◌}}
use Prim.Native.Nat.{ℕ, zero, suc, ◌+◌, ◌-◌, ◌≤◌, ◌<◌}
use native.Mathlib.{Nat.{zero-add, add-zero}, Omega.arith}
use lib.{Dec.{leb, ltb}, ListN.{length, get_or, length-set, get_or-eq_default}, Seq.{get_or-set_same, get_or-set_other}}
use borrow.Author.Tests.{le-leb, lt-leb, leb-true, leb-false, ltb-true, ltb-false}
use Rattle.basics.{proofs.Below.{length-list_below, get_or-list_below}, proofs.Choices.{ite-true, ite-false}, specs.Below.list_below}
use Rattle.basics.specs.Choice.{ite}
use Rattle.tables.specs.{Lines.{joined, leading, leaving, without}, Places.{no_write, w_at}, declared.Line.Line}
use Rattle.tables.specs.declared.WriteNo.{WriteNo}
use Rattle.tables.proofs.Form.{waiting, LineForm}

joins-behind : joined (waiting 1 (5 ∷ [])) (record { 0 = 7 }) ≡ waiting 2 (5 ∷ 7 ∷ [])
unfolding joined
joins-behind = refl

two-leave : (leaving (waiting 3 (5 ∷ 5 ∷ 7 ∷ [])) 5 ≡ 2) × (without (waiting 3 (5 ∷ 5 ∷ 7 ∷ [])) 2 ≡ waiting 1 (7 ∷ []))
unfolding leaving leading without list_below ite
two-leave = (refl, refl)

pub len-joined : (l : Line) (x : WriteNo) → (joined l x).len ≡ l.len + 1
unfolding joined
len-joined l x = refl

pub len-without : (l : Line) (m : ℕ) → (without l m).len ≡ l.len - m
unfolding without
len-without l m = refl

pub length-joined : (l : Line) (x : WriteNo) → length (joined l x).sn ≡ length l.sn
unfolding joined
length-joined l x = length-set l.sn l.len x

pub length_without : (l : Line) (m : ℕ) → length (without l m).sn ≡ 100
unfolding without
length_without l m = length-list_below 100 _

-- ---- what stands where

pub w_at-joined-last : (l : Line) (x : WriteNo) → l.len < length l.sn → w_at (joined l x).sn l.len ≡ x.0
unfolding joined
w_at-joined-last l x h = ap (λ (w : WriteNo). w.0) (get_or-set_same l.sn l.len x no_write h)

pub w_at-joined-ne : (l : Line) (x : WriteNo) (k : ℕ) → (k ≡ l.len → ⊥) → w_at (joined l x).sn k ≡ w_at l.sn k
unfolding joined
w_at-joined-ne l x k h = ap (λ (w : WriteNo). w.0) (get_or-set_other l.sn l.len k x no_write h)

pub w_at-without : (l : Line) (m k : ℕ) → k < 100 → w_at (without l m).sn k ≡ w_at l.sn (k + m)
unfolding without
w_at-without l m k h = ap (λ (w : WriteNo). w.0) (get_or-list_below 100 (λ (i : ℕ). get_or l.sn (i + m) no_write) k no_write h)

-- past the hundred places every entry reads as zero
pub w_at-past : (l : Line) (k : ℕ) → length l.sn ≡ 100 → 100 ≤ k → w_at l.sn k ≡ 0
w_at-past l k long h = ap (λ (w : WriteNo). w.0) (get_or-eq_default l.sn no_write (omega (arith, long, h)))

-- ---- who leaves

module _ (l : Line) (x : ℕ) where
  -- one more leaves, or none
  pub leading-more : (m k : ℕ) → w_at l.sn k ≤ x → leading l x (suc m) k ≡ suc (leading l x m (suc k))
  unfolding leading
  leading-more m k h = ite-true _ _ (le-leb _ _ h)

  pub leading-no-more : (m k : ℕ) → x < w_at l.sn k → leading l x (suc m) k ≡ 0
  unfolding leading
  leading-no-more m k h = ite-false _ _ (lt-leb _ _ h)

  -- m of a line's entries lead from place k on: those before the first that is above x
  record Leads (m k n : ℕ) : Type 0 where
    most : n ≤ m
    below : (i : ℕ) → i < n → w_at l.sn (k + i) ≤ x
    stops : n < m → x < w_at l.sn (k + n)

  leads : (m k : ℕ) → Leads m k (leading l x m k)
  unfolding leading
  leads zero k = record { most = omega arith; below = λ i h. absurd (omega (arith, h)); stops = λ h. absurd (omega (arith, h)) }
  leads (suc m) k = at (leads m (suc k)) (leb (w_at l.sn k) x) refl
    where
      more : Leads m (suc k) (leading l x m (suc k)) → w_at l.sn k ≤ x → Leads (suc m) k (suc (leading l x m (suc k)))
      more w h =
          record {
            most = omega (arith, w.most);
            below = elim [ zero ↦ λ i. subst (λ (j : ℕ). w_at l.sn j ≤ x) (sym (add-zero k)) h | suc i ↦ λ b. subst (λ (j : ℕ). w_at l.sn j ≤ x) (omega arith) (w.below i (omega (arith, b))) ];
            stops = λ b. subst (λ (j : ℕ). x < w_at l.sn j) (omega arith) (w.stops (omega (arith, b)));
          }

      none : x < w_at l.sn k → Leads (suc m) k 0
      none h = record { most = omega arith; below = λ i b. absurd (omega (arith, b)); stops = λ b. subst (λ (j : ℕ). x < w_at l.sn j) (sym (add-zero k)) h }

      at : Leads m (suc k) (leading l x m (suc k)) → (b : Bool) → leb (w_at l.sn k) x ≡ b → Leads (suc m) k (leading l x (suc m) k)
      at w true e = subst (Leads (suc m) k) (sym (ite-true _ _ e)) (more w (leb-true _ _ e))
      at w false e = subst (Leads (suc m) k) (sym (ite-false _ _ e)) (none (leb-false _ _ e))

  pub leaving-most : leaving l x ≤ l.len
  unfolding leaving
  leaving-most = (leads l.len 0).most

  pub leaving-below : (k : ℕ) → k < leaving l x → w_at l.sn k ≤ x
  unfolding leaving
  leaving-below k h = subst (λ (j : ℕ). w_at l.sn j ≤ x) (zero-add k) ((leads l.len 0).below k h)

  pub leaving-stops : leaving l x < l.len → x < w_at l.sn (leaving l x)
  unfolding leaving
  leaving-stops h = subst (λ (j : ℕ). x < w_at l.sn j) (zero-add _) ((leads l.len 0).stops h)

-- ---- lines kept in form

pub raised-form : (l : Line) (low high high' : ℕ) → LineForm l low high → high ≤ high' → LineForm l low high'
raised-form l low high high' f h =
    record { short = f.short; above = f.above; within = λ k i. omega (arith, f.within k i); rising = f.rising; zero-past = f.zero-past }

-- what holds of the entry that joins, and of the one at k before it, holds of entry k
of-joined : (P : ℕ → Type 0) (l : Line) (x : WriteNo) (k : ℕ) → l.len < length l.sn → k < l.len + 1 → P x.0 → (k < l.len → P (w_at l.sn k)) → P (w_at (joined l x).sn k)
of-joined P l x k room h last before = at (ltb k l.len) refl
  where
    at : (b : Bool) → ltb k l.len ≡ b → P (w_at (joined l x).sn k)
    at true e =
        let i : k < l.len = ltb-true _ _ e in
        subst P (sym (w_at-joined-ne l x k (omega arith))) (before i)
    at false e =
        let i : l.len ≤ k = ltb-false _ _ e in
        let same : l.len ≡ k = omega arith in
        subst P (sym (w_at-joined-last l x room) ∙ ap (w_at (joined l x).sn) same) last

module _ (l : Line) (low high x : ℕ) (f : LineForm l low high) (room : l.len < 100) (ahead : low < x) (newest : x ≡ high) (long : length l.sn ≡ 100) where
  at_joined : (P : ℕ → Type 0) (k : ℕ) → k < l.len + 1 → P x → (k < l.len → P (w_at l.sn k)) → P (w_at (joined l (record { 0 = x })).sn k)
  at_joined P k = of-joined P l (record { 0 = x }) k (omega (arith, room, long))

  pub joined-form : LineForm (joined l (record { 0 = x })) low high
  unfolding joined
  joined-form =
      record {
        short = omega (arith, room);
        above = λ k h. at_joined (λ (w : ℕ). low < w) k h ahead (f.above k);
        within = λ k h. at_joined (λ (w : ℕ). w ≤ high) k h (omega (arith, newest)) (f.within k);
        rising = rising;
        zero-past = λ k h i. w_at-joined-ne l (record { 0 = x }) k (omega (arith, h)) ∙ f.zero-past k (omega (arith, h)) i;
      }
    where
      rising : (k m : ℕ) → k < m → m < l.len + 1 → w_at (joined l (record { 0 = x })).sn k ≤ w_at (joined l (record { 0 = x })).sn m
      rising k m h i =
          let most : w_at l.sn k ≤ high = f.within k (omega (arith, h, i)) in
          subst (λ (w : ℕ). w ≤ w_at (joined l (record { 0 = x })).sn m) (sym (w_at-joined-ne l (record { 0 = x }) k (omega (arith, h, i))))
          (at_joined (λ (w : ℕ). w_at l.sn k ≤ w) m i (omega (arith, newest)) (f.rising k m h))

module _ (l : Line) (low low' high : ℕ) (f : LineForm l low high) (long : length l.sn ≡ 100) where
  pub without-form : LineForm (without l (leaving l low')) low' high
  unfolding without
  without-form =
      record {
        short = omega (arith, f.short);
        above = λ k h. subst (λ (w : ℕ). low' < w) (sym (stood k h)) (stays k (omega (arith, h)));
        within = λ k h. subst (λ (w : ℕ). w ≤ high) (sym (stood k h)) (f.within (k + m) (omega (arith, h)));
        rising = λ k j h i. subst₂ ◌≤◌ (sym (stood k (omega (arith, h, i)))) (sym (stood j i)) (f.rising (k + m) (j + m) (omega (arith, h)) (omega (arith, i)));
        zero-past = λ k h i. w_at-without l m k i ∙ past (k + m) (omega (arith, h)) (ltb (k + m) 100) refl;
      }
    where
      m : ℕ
      m = leaving l low'

      stood : (k : ℕ) → k < l.len - m → w_at (without l m).sn k ≡ w_at l.sn (k + m)
      stood k h = w_at-without l m k (omega (arith, h, f.short))

      stays : (k : ℕ) → k + m < l.len → low' < w_at l.sn (k + m)
      stays zero h = subst (λ (j : ℕ). low' < w_at l.sn j) (sym (zero-add m)) (leaving-stops l low' (omega (arith, h)))
      stays (suc k) h =
          let first = leaving-stops l low' (omega (arith, h)) in
          let later = f.rising m (suc k + m) (omega arith) h in
          omega (arith, first, later)

      past : (k : ℕ) → l.len ≤ k → (b : Bool) → ltb k 100 ≡ b → w_at l.sn k ≡ 0
      past k h true e = f.zero-past k h (ltb-true _ _ e)
      past k h false e = w_at-past l k long (ltb-false _ _ e)
