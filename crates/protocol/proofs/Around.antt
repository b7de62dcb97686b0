-- What the invariant says of one panel and of the others as it meets them: read off a world, and put back where that panel acted.
-- Assumes nothing.
use Prim.Native.Nat.{ℕ, suc, ◌+◌, ◌%◌, ◌≤◌, ◌<◌}
use mathlib.Core.{Logic.◌≢◌, Path.{◌≡◌, refl, sym, ap, subst, subst₂, ◌∙◌}}
use native.Mathlib.{Decide.ℕ_discrete, Omega.arith}
use Rattle.protocol.specs.{Invariant.{Pair, PairOf, none, Inv}, World.{View, World, Out, W, R, due, Starts, Delivers}}
use Rattle.protocol.proofs.Pairs.{pair_same}

-- Of panel p: `them` are the panels around it, `arriving` is what flies to it by sender and kind, `leaving` what flies from it. The
-- rest is its own: write numbers, held WRITEs, WRITEs in hand.

-- the WRITEs from p to l, and from l to p
abbrev pub PairTo : ℕ → (ℕ → View) → (ℕ → ℕ) → Out → ℕ → Type 0
PairTo p them w leaving l = Pair (due p w l) ((them l).w p) (leaving l (suc ((them l).w p) % 2)) (leaving l ((them l).w p % 2)) ((them l).held p) 0

abbrev pub PairFrom : ℕ → (ℕ → View) → (ℕ → ℕ → ℕ) → (ℕ → ℕ) → (ℕ → ℕ) → (ℕ → ℕ) → ℕ → Type 0
PairFrom p them arriving w held hand l = Pair (due l (them l).w p) (w l) (arriving l (suc (w l) % 2)) (arriving l (w l % 2)) (held l) (hand l)

-- `most` is the writer's own number
pub record WritesAround (n p writer most : ℕ) (them : ℕ → View) (arriving : ℕ → ℕ → ℕ) (w held hand : ℕ → ℕ) (leaving : Out) : Type 0 where
  pub own : (l : ℕ) → l < n → w l ≤ w p
  pub top : w p ≤ most
  pub leads : writer ≡ p → w p ≡ most
  pub others : (l : ℕ) → l < n → l ≢ p → (them l).w l ≤ most
  pub to : (l : ℕ) → l < n → l ≢ p → PairTo p them w leaving l
  pub from : (l : ℕ) → l < n → l ≢ p → PairFrom p them arriving w held hand l

-- the READs of p, and those of the others that p answers
pub record ReadsAround (n p : ℕ) (them : ℕ → View) (arriving : ℕ → ℕ → ℕ) (r waiting : ℕ → ℕ) (leaving : Out) : Type 0 where
  pub asked : (l : ℕ) → l < n → l ≢ p → r p ≡ leaving l 2 + (them l).waiting p + arriving l 3 + r l
  pub answers : (l : ℕ) → l < n → l ≢ p → (them l).r l ≡ arriving l 2 + waiting l + leaving l 3 + (them l).r p

-- ---- what stays

module _ {n p writer most : ℕ} {them : ℕ → View} {arriving : ℕ → ℕ → ℕ} {w held hand : ℕ → ℕ} {leaving : Out}
    (v : WritesAround n p writer most them arriving w held hand leaving) where
  -- what comes from l is as it was
  pub from-same :
      (l : ℕ) → l < n → l ≢ p → (coming : ℕ → ℕ) {x y z : ℕ} → ((k : ℕ) → k < 2 → coming k ≡ arriving l k) → x ≡ w l → y ≡ held l → z ≡ hand l
      → Pair (due l (them l).w p) x (coming (suc x % 2)) (coming (x % 2)) y z
  from-same l b d coming {y = y} {z} same ew eh eg =
      subst (λ (x : ℕ). Pair (due l (them l).w p) x (coming (suc x % 2)) (coming (x % 2)) y z) (sym ew)
      (pair_same refl refl (same _ (omega arith)) (same _ (omega arith)) eh eg (v.from l b d))

  -- p's numbers are the same and no WRITE leaves
  pub around-same :
      {arriving' : ℕ → ℕ → ℕ} {w' held' hand' : ℕ → ℕ} {leaving' : Out} → ((l : ℕ) → w' l ≡ w l) → ((l k : ℕ) → k < 2 → leaving' l k ≡ leaving l k)
      → ((l : ℕ) → l < n → l ≢ p → PairFrom p them arriving' w' held' hand' l) → WritesAround n p writer most them arriving' w' held' hand' leaving'
  around-same ew el from =
      record {
        own = λ l b. omega (arith, ew l, ew p, v.own l b);
        top = omega (arith, ew p, v.top);
        leads = λ e. ew p ∙ v.leads e;
        others = v.others;
        to = λ l b d. pair_same (omega (arith, ew p, ew l)) refl (el l _ (omega arith)) (el l _ (omega arith)) refl refl (v.to l b d);
        from = from;
      }

-- ---- off a world

-- what flies to p
abbrev pub inward : ℕ → World → ℕ → ℕ → ℕ
inward p s l k = s.flying l p k

-- p as it is in the world s, among the panels `them`
abbrev pub WritesAt : ℕ → ℕ → ℕ → ℕ → (ℕ → View) → World → Type 0
WritesAt n p writer most them s = WritesAround n p writer most them (inward p s) (s.panel p).w (s.panel p).held (λ (l : ℕ). 0) (s.flying p)

abbrev pub ReadsAt : ℕ → ℕ → (ℕ → View) → World → Type 0
ReadsAt n p them s = ReadsAround n p them (inward p s) (s.panel p).r (s.panel p).waiting (s.flying p)

module _ {n p writer : ℕ} {s : World} (v : Inv n writer none s) (b : p < n) where
  pub writes-around : WritesAt n p writer (W s writer writer) s.panel s
  writes-around =
      record {
        own = λ l c. v.own p l b c;
        top = v.top p b;
        leads = λ e. ap (λ (i : ℕ). W s i i) (sym e);
        others = λ l c d. v.top l c;
        to = λ l c d. v.pair p l b c (λ e. d (sym e));
        from = λ l c d. v.pair l p c b d;
      }

  pub reads-around : ReadsAt n p s.panel s
  reads-around = record { asked = λ l c d. v.reads p l b c (λ e. d (sym e)); answers = λ l c d. v.reads l p c b d }

-- ---- back to a world

-- p alone acted: the others, and what flies between them, are as they were
pub record Acted (p : ℕ) (s s' : World) : Type 0 where
  pub others : (i : ℕ) → i ≢ p → s'.panel i ≡ s.panel i
  pub flown : (i l k : ℕ) → i ≢ p → l ≢ p → s'.flying i l k ≡ s.flying i l k

pub started : {p : ℕ} {out : Out} {s s' : World} → Starts p out s s' → Acted p s s'
started h = record { others = h.others; flown = λ i l k d e. h.flown i l k d }

pub delivered : {q p k : ℕ} {out : Out} {s s' : World} → Delivers q p k out s s' → Acted p s s'
delivered h = record { others = h.others; flown = λ i l k d e. h.flown i l k d (λ _ f. absurd (e f)) }

module _ {n p writer most : ℕ} {s s' : World} (act : Acted p s s') (elsewhere : writer ≢ p → W s writer writer ≡ most)
    (ws : WritesAt n p writer most s.panel s') where
  -- the writer's own number is now `most`
  pub most-is : W s' writer writer ≡ most
  most-is = at (ℕ_discrete writer p)
    where
      at : Dec (writer ≡ p) → W s' writer writer ≡ most
      at (yes e) = ap (λ (i : ℕ). W s' i i) e ∙ ws.leads e
      at (no d) = ap (λ (a : View). a.w writer) (act.others writer d) ∙ elsewhere d

  back : (P : View → Type 0) (i : ℕ) → i ≢ p → P (s.panel i) → P (s'.panel i)
  back P i d h = subst P (sym (act.others i d)) h

  back-both : (P : View → View → Type 0) (i j : ℕ) → i ≢ p → j ≢ p → P (s.panel i) (s.panel j) → P (s'.panel i) (s'.panel j)
  back-both P i j d e h = subst₂ P (sym (act.others i d)) (sym (act.others j e)) h

  module _ (v : Inv n writer none s) (rs : ReadsAt n p s.panel s') where
    own : (i j : ℕ) → i < n → j < n → W s' i j ≤ W s' i i
    own i j bi bj = at (ℕ_discrete i p)
      where
        at : Dec (i ≡ p) → W s' i j ≤ W s' i i
        at (yes e) = subst (λ (x : ℕ). W s' x j ≤ W s' x x) (sym e) (ws.own j bj)
        at (no d) = back (λ a. a.w j ≤ a.w i) i d (v.own i j bi bj)

    top : (i : ℕ) → i < n → W s' i i ≤ W s' writer writer
    top i bi = subst (λ (x : ℕ). W s' i i ≤ x) (sym most-is) (at (ℕ_discrete i p))
      where
        at : Dec (i ≡ p) → W s' i i ≤ most
        at (yes e) = subst (λ (x : ℕ). W s' x x ≤ most) (sym e) ws.top
        at (no d) = back (λ a. a.w i ≤ most) i d (ws.others i bi d)

    pair : (i j : ℕ) → i < n → j < n → i ≢ j → PairOf s' none i j
    pair i j bi bj m = at (ℕ_discrete i p) (ℕ_discrete j p)
      where
        at : Dec (i ≡ p) → Dec (j ≡ p) → PairOf s' none i j
        at (yes e) (yes f) = absurd (m (e ∙ sym f))
        at (yes e) (no d) =
            subst (λ (x : ℕ). PairOf s' none x j) (sym e)
            (back (λ a. Pair (due p (s'.panel p).w j) (a.w p) (s'.flying p j (suc (a.w p) % 2)) (s'.flying p j (a.w p % 2)) (a.held p) 0) j d
            (ws.to j bj d))
        at (no d) (yes f) =
            subst (λ (x : ℕ). PairOf s' none i x) (sym f)
            (back (λ a. Pair (due i a.w p) (W s' p i) (s'.flying i p (suc (W s' p i) % 2)) (s'.flying i p (W s' p i % 2)) ((s'.panel p).held i) 0) i d
            (ws.from i bi d))
        at (no d) (no e) =
            back-both (λ a c. Pair (due i a.w j) (c.w i) (s'.flying i j (suc (c.w i) % 2)) (s'.flying i j (c.w i % 2)) (c.held i) 0) i j d e
            (pair_same refl refl (act.flown i j _ d e) (act.flown i j _ d e) refl refl (v.pair i j bi bj m))

    reads : (i j : ℕ) → i < n → j < n → i ≢ j → R s' i i ≡ s'.flying i j 2 + (s'.panel j).waiting i + s'.flying j i 3 + R s' i j
    reads i j bi bj m = at (ℕ_discrete i p) (ℕ_discrete j p)
      where
        at : Dec (i ≡ p) → Dec (j ≡ p) → R s' i i ≡ s'.flying i j 2 + (s'.panel j).waiting i + s'.flying j i 3 + R s' i j
        at (yes e) (yes f) = absurd (m (e ∙ sym f))
        at (yes e) (no d) =
            subst (λ (x : ℕ). R s' x x ≡ s'.flying x j 2 + (s'.panel j).waiting x + s'.flying j x 3 + R s' x j) (sym e)
            (back (λ a. R s' p p ≡ s'.flying p j 2 + a.waiting p + s'.flying j p 3 + R s' p j) j d (rs.asked j bj d))
        at (no d) (yes f) =
            subst (λ (x : ℕ). R s' i i ≡ s'.flying i x 2 + (s'.panel x).waiting i + s'.flying x i 3 + R s' i x) (sym f)
            (back (λ a. a.r i ≡ s'.flying i p 2 + (s'.panel p).waiting i + s'.flying p i 3 + a.r p) i d (rs.answers i bi d))
        at (no d) (no e) =
            back-both (λ a c. a.r i ≡ s'.flying i j 2 + c.waiting i + s'.flying j i 3 + a.r j) i j d e
            (omega (arith, act.flown i j 2 d e, act.flown j i 3 e d, v.reads i j bi bj m))

    pub inv-of : Inv n writer none s'
    inv-of = record { own = own; top = top; pair = pair; reads = reads }
