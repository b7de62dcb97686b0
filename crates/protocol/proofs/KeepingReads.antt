-- The invariant is kept by what READs and PROCEEDs do: a read begun, a READ answered or in line, a PROCEED counted.
-- Assumes nothing.
use Prim.Native.Nat.{ℕ, ◌+◌, ◌<◌}
use mathlib.Core.{Logic.◌≢◌, Path.{◌≡◌, refl, sym, subst}}
use native.Mathlib.{Decide.ℕ_discrete, Omega.arith}
use Rattle.protocol.specs.{Invariant.{none, Inv}, Promise.{NoWrites, Reads, ReadComes, ProceedComes}}
use Rattle.protocol.specs.World.{World, Out, W, R, Starts, Delivers}
use Rattle.protocol.proofs.Around.{from-same, around-same, WritesAt, writes-around, reads-around, started, delivered, inv-of}
use Rattle.protocol.proofs.Arriving.{kind-else, sender-else, one_less}

pub no_writes : {out : Out} → NoWrites out → (l k : ℕ) → k < 2 → out l k ≡ 0
no_writes {out} h l k b = at (ℕ_discrete k 0)
  where
    at : Dec (k ≡ 0) → out l k ≡ 0
    at (yes e) = subst (λ (x : ℕ). out l x ≡ 0) (sym e) (h.zeros l)
    at (no d) = let e : k ≡ 1 = omega arith in subst (λ (x : ℕ). out l x ≡ 0) (sym e) (h.ones l)

-- no WRITE came, went or was taken
untouched :
    {n p writer : ℕ} {s : World} (s' : World) → Inv n writer none s → p < n
    → ((l : ℕ) → W s' p l ≡ W s p l) → ((l : ℕ) → (s'.panel p).held l ≡ (s.panel p).held l)
    → ((l k : ℕ) → k < 2 → s'.flying p l k ≡ s.flying p l k) → ((l k : ℕ) → l ≢ p → k < 2 → s'.flying l p k ≡ s.flying l p k)
    → WritesAt n p writer (W s writer writer) s.panel s'
untouched {p = p} s' v b w held out coming =
    around-same (writes-around v b) w out
    (λ l c d. from-same (writes-around v b) l c d (λ k. s'.flying l p k) (λ k. coming l k d) (w l) (held l) refl)

module _ {n p writer : ℕ} {s s' : World} {out : Out} (v : Inv n writer none s) (h : Starts p out s s') (b : p < n)
    (a : Reads n p (s.panel p) out (s'.panel p)) where
  pub asked-keeps : Inv n writer none s'
  asked-keeps =
      inv-of (started h) (λ _. refl)
      (untouched s' v b a.w a.held (λ l k c. omega (arith, h.sent l k, no_writes a.writes l k c)) (λ l k d _. h.flown l p k d))
      v
      (let old = reads-around v b in
      record {
        asked = λ l c d. omega (arith, a.r_own, a.r_rest l d, h.sent l 2, a.reads l c d, h.flown l p 3 d, old.asked l c d);
        answers = λ l c d. omega (arith, h.flown l p 2 d, a.waiting l, h.sent l 3, a.proceeds l, old.answers l c d);
      })

module _ {n p q k writer : ℕ} {s s' : World} {out : Out} (v : Inv n writer none s) (h : Delivers q p k out s s')
    (bp : p < n) (bq : q < n) (d : q ≢ p) where
  module _ (a : ReadComes n p q (s.panel p) out (s'.panel p)) (kind : k ≡ 2) where
    read-answers : (l : ℕ) → l < n → l ≢ p → R s l l ≡ s'.flying l p 2 + (s'.panel p).waiting l + s'.flying p l 3 + R s l p
    read-answers l b m = at (ℕ_discrete l q)
      where
        at : Dec (l ≡ q) → R s l l ≡ s'.flying l p 2 + (s'.panel p).waiting l + s'.flying p l 3 + R s l p
        at (yes e) =
            subst (λ (x : ℕ). R s x x ≡ s'.flying x p 2 + (s'.panel p).waiting x + s'.flying p x 3 + R s x p) (sym e)
            (omega (arith, one_less h 2 kind, a.answered, h.sent q 3, (reads-around v bp).answers q bq d))
        at (no e) = omega (arith, sender-else h l 2 m e, a.waiting_rest l e, h.sent l 3, a.proceeds_rest l e, (reads-around v bp).answers l b m)

    pub read-came-keeps : Inv n writer none s'
    read-came-keeps =
        inv-of (delivered h) (λ _. refl)
        (untouched s' v bp a.w a.held (λ l x c. omega (arith, h.sent l x, no_writes a.writes l x c))
        (λ l x m c. kind-else h l x m (λ e. omega (arith, e, kind, c))))
        v
        (let old = reads-around v bp in
        record {
          asked = λ l b m. omega (arith, a.r p, a.r l, h.sent l 2, a.reads l, kind-else h l 3 m (λ e. omega (arith, e, kind)), old.asked l b m);
          answers = read-answers;
        })

  module _ (a : ProceedComes q (s.panel p) out (s'.panel p)) (kind : k ≡ 3) where
    proceed-asked : (l : ℕ) → l < n → l ≢ p → R s' p p ≡ s'.flying p l 2 + (s.panel l).waiting p + s'.flying l p 3 + R s' p l
    proceed-asked l b m = at (ℕ_discrete l q)
      where
        own : R s' p p ≡ R s p p
        own = a.r_rest p (λ e. d (sym e))

        at : Dec (l ≡ q) → R s' p p ≡ s'.flying p l 2 + (s.panel l).waiting p + s'.flying l p 3 + R s' p l
        at (yes e) =
            subst (λ (x : ℕ). R s' p p ≡ s'.flying p x 2 + (s.panel x).waiting p + s'.flying x p 3 + R s' p x) (sym e)
            (omega (arith, own, h.sent q 2, a.nothing q 2, one_less h 3 kind, a.r_from, (reads-around v bp).asked q bq d))
        at (no e) = omega (arith, own, h.sent l 2, a.nothing l 2, sender-else h l 3 m e, a.r_rest l e, (reads-around v bp).asked l b m)

    pub proceed-came-keeps : Inv n writer none s'
    proceed-came-keeps =
        inv-of (delivered h) (λ _. refl)
        (untouched s' v bp a.w a.held (λ l x c. omega (arith, h.sent l x, a.nothing l x))
        (λ l x m c. kind-else h l x m (λ e. omega (arith, e, kind, c))))
        v
        (let old = reads-around v bp in
        record {
          asked = proceed-asked;
          answers = λ l b m. omega (arith, kind-else h l 2 m (λ e. omega (arith, e, kind)), a.waiting l, h.sent l 3, a.nothing l 3, old.answers l b m);
        })
