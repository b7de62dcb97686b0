-- The invariant is kept by what WRITEs do: a write begun, a WRITE taken with the held one behind it, a WRITE held.
-- Assumes nothing.
use Prim.Native.Nat.{ℕ, suc, ◌+◌, ◌%◌, ◌≤◌, ◌<◌, min}
use mathlib.Core.{Logic.{◌≢◌, ◌⊎◌, inl, inr}, Path.{◌≡◌, refl, sym, subst, ◌∙◌}}
use native.Mathlib.{Decide.ℕ_discrete, Omega.arith}
use lib.Dec.{eqb}
use borrow.Author.Tests.{eq-eqb, ne_eqb}
use Rattle.basics.{proofs.Choices.{ite-true, ite-false}, specs.Choice.ite}
use Rattle.protocol.specs.{Invariant.{Pair, none, Inv}, Promise.{Writes, Takes, WriteComes, WriteWaits}}
use Rattle.protocol.specs.World.{World, Out, W, due, Starts, Delivers}
use Rattle.protocol.proofs.Around.{PairTo, PairFrom, WritesAround, WritesAt, inward, from-same, around-same}
use Rattle.protocol.proofs.Around.{writes-around, reads-around, started, delivered, most-is, inv-of}
use Rattle.protocol.proofs.{Arriving.{kind-else, sender-else, one_less}, Coming.released-all, Pairs.{pair_same, to-hand, to-hold}}
use Rattle.protocol.proofs.TakingOne.{ahead, sends, takes-keeps}

-- ---- the writer begins a write

module _ {n p : ℕ} {s s' : World} {out : Out} (v : Inv n p none s) (h : Starts p out s s') (b : p < n)
    (a : Writes n p (s.panel p) out (s'.panel p)) where
  begun_to : (l : ℕ) → l < n → l ≢ p → PairTo p s.panel (s'.panel p).w (s'.flying p) l
  begun_to l c d =
      let old : W s p l ≤ W s p p = v.own p l b c in
      let low : W s p l ≤ min (W s l l) (suc (W s l p)) = (v.pair l p c b d).low in
      sends (writes-around v b) (s'.panel p).w (s'.flying p) out a.writes (λ l k _. h.sent l k) l c d
      (omega (arith, a.w_own, a.w_rest l d)) (omega (arith, a.w_own, a.w_rest l d)) (omega (arith, a.w_rest l d))

  begun-own : (l : ℕ) → l < n → W s' p l ≤ W s' p p
  begun-own l c = at (ℕ_discrete l p)
    where
      at : Dec (l ≡ p) → W s' p l ≤ W s' p p
      at (yes e) = subst (λ (x : ℕ). W s' p x ≤ W s' p p) (sym e) (omega arith)
      at (no d) = omega (arith, a.w_own, a.w_rest l d, v.own p l b c)

  pub wrote-keeps : Inv n p none s'
  wrote-keeps =
      inv-of (started h) (λ d. absurd (d refl))
      (record {
        own = begun-own;
        top = omega arith;
        leads = λ _. a.w_own;
        others = λ l c d. omega (arith, v.top l c);
        to = begun_to;
        from = λ l c d. from-same (writes-around v b) l c d (λ k. s'.flying l p k) (λ k _. h.flown l p k d) (a.w_rest l d) (a.held l) refl;
      })
      v
      (let old = reads-around v b in
      record {
        asked = λ l c d. omega (arith, a.r p, a.r l, h.sent l 2, a.reads l, h.flown l p 3 d, old.asked l c d);
        answers = λ l c d. omega (arith, h.flown l p 2 d, a.waiting l, h.sent l 3, a.proceeds l, old.answers l c d);
      })

-- ---- a WRITE of q comes to p

-- what comes to p after the step, as the panels before it sent it
abbrev From : ℕ → World → World → (ℕ → ℕ) → (ℕ → ℕ) → (ℕ → ℕ) → ℕ → Type 0
From p s s' = PairFrom p s.panel (inward p s')

-- one WRITE of q is in hand
one : ℕ → ℕ → ℕ
one q l = ite (eqb l q) 1 0

one_at : (q : ℕ) → one q q ≡ 1
unfolding one
one_at q = ite-true _ _ (eq-eqb q q refl)

one-ne : (q l : ℕ) → l ≢ q → one q l ≡ 0
unfolding one
one-ne q l d = ite-false _ _ (ne_eqb l q d)

-- the two bits differ
bits : (x y : ℕ) → y ≡ suc x % 2 → x % 2 ≢ y
bits x y e f = omega (arith, e, f)

module _ {n p q k writer : ℕ} {s s' : World} {out : Out} (v : Inv n writer none s) (h : Delivers q p k out s s')
    (bp : p < n) (bq : q < n) (d : q ≢ p) where
  from-else : (l : ℕ) → l < n → l ≢ p → l ≢ q → {x y z : ℕ} → x ≡ W s p l → y ≡ (s.panel p).held l → z ≡ 0
      → Pair (due l (s.panel l).w p) x (s'.flying l p (suc x % 2)) (s'.flying l p (x % 2)) y z
  from-else l b m e = from-same (writes-around v bp) l b m (λ x. s'.flying l p x) (λ x _. sender-else h l x m e)

  module _ (a : WriteComes n p q (s.panel p) out (s'.panel p)) (bit : k ≡ suc (W s p q) % 2) where
    comes-from : (l : ℕ) → l < n → l ≢ p → From p s s' (s.panel p).w (s.panel p).held (one q) l
    comes-from l b m = at (ℕ_discrete l q)
      where
        at : Dec (l ≡ q) → From p s s' (s.panel p).w (s.panel p).held (one q) l
        at (yes e) =
            subst (From p s s' (s.panel p).w (s.panel p).held (one q)) (sym e)
            (pair_same refl refl refl (kind-else h q (W s p q % 2) d (bits (W s p q) k bit)) refl (one_at q)
            (to-hand (pair_same refl refl (one_less h (suc (W s p q) % 2) bit) refl refl refl (v.pair q p bq bp d))))
        at (no e) = from-else l b m e refl refl (one-ne q l e)

    abbrev Stage : (ℕ → ℕ) → (ℕ → ℕ) → (ℕ → ℕ) → Out → Type 0
    Stage = WritesAround n p writer (W s writer writer) s.panel (inward p s')

    in-hand : Stage (s.panel p).w (s.panel p).held (one q) (s.flying p)
    in-hand = around-same (writes-around v bp) (λ l. refl) (λ l x _. refl) comes-from

    both-sent : (l m : ℕ) → m < 2 → s'.flying p l m ≡ s.flying p l m + a.out₁ l m + a.out₂ l m
    both-sent l m b = at (ℕ_discrete m 0)
      where
        Sent : ℕ → Type 0
        Sent x = s'.flying p l x ≡ s.flying p l x + a.out₁ l x + a.out₂ l x

        at : Dec (m ≡ 0) → Sent m
        at (yes e) = subst Sent (sym e) (omega (arith, h.sent l 0, a.zeros l))
        at (no e) = let f : m ≡ 1 = omega arith in subst Sent (sym f) (omega (arith, h.sent l 1, a.ones l))

    all-taken-in : ((s.panel p).held q ≡ 0) ⊎ ((s.panel p).held q ≡ 1) → WritesAt n p writer (W s writer writer) s.panel s'
    all-taken-in (inl z) =
        takes-keeps in-hand only bq d (λ l m b. omega (arith, both-sent l m b, a.none_out z l m)) a.held_gone a.held_rest
        (one_at q) (sym z) (λ l m. sym (one-ne q l m))
      where
        only : Takes n p q (s.panel p).w (s'.panel p).w a.out₁
        only =
            let t = a.first in
            record {
              from = a.none_w z q ∙ t.from;
              own = a.none_w z p ∙ t.own;
              rest = λ l m o. a.none_w z l ∙ t.rest l m o;
              peers = t.peers;
              writes = record { next = λ l b m. omega (arith, t.writes.next l b m, a.none_w z p, a.none_w z l); else = t.writes.else };
            }
    all-taken-in (inr o) =
        takes-keeps after_one (a.then o) bq d both-sent a.held_gone (λ l m. refl) (one_at q) (sym a.held_gone) (λ l m. sym (one-ne q l m))
      where
        after_one : Stage a.between (s'.panel p).held (one q) (λ l m. s.flying p l m + a.out₁ l m)
        after_one = takes-keeps in-hand a.first bq d (λ l m b. refl) a.held_gone a.held_rest (one_at q) (one_at q ∙ sym o) (λ l m. refl)

    pub write-came-keeps : Inv n writer none s'
    write-came-keeps =
        inv-of (delivered h) (λ _. refl) (all-taken-in a.held_or_not) v
        (let old = reads-around v bp in
        record {
          asked = λ l b m. omega (arith, a.r p, a.r l, h.sent l 2, a.reads l, kind-else h l 3 m (λ e. omega (arith, e, bit)), old.asked l b m);
          answers = λ l b m. omega (arith, kind-else h l 2 m (λ e. omega (arith, e, bit)), released-all a l, h.sent l 3, old.answers l b m);
        })

    -- the writer never learns
    pub write-came-most : W s' writer writer ≡ W s writer writer
    write-came-most = most-is (delivered h) (λ _. refl) (all-taken-in a.held_or_not)

  module _ (a : WriteWaits q (s.panel p) out (s'.panel p)) (bit : k ≡ W s p q % 2) where
    waits-from : (l : ℕ) → l < n → l ≢ p → From p s s' (s'.panel p).w (s'.panel p).held (λ (i : ℕ). 0) l
    waits-from l b m = at (ℕ_discrete l q)
      where
        at : Dec (l ≡ q) → From p s s' (s'.panel p).w (s'.panel p).held (λ (i : ℕ). 0) l
        at (yes e) =
            subst (From p s s' (s'.panel p).w (s'.panel p).held (λ (i : ℕ). 0)) (sym e)
            (subst (λ (x : ℕ). Pair (due q (s.panel q).w p) x (s'.flying q p (suc x % 2)) (s'.flying q p (x % 2)) ((s'.panel p).held q) 0) (sym (a.w q))
            (pair_same refl refl (kind-else h q (suc (W s p q) % 2) d (λ f. bits (W s p q) _ refl (sym bit ∙ sym f))) refl a.held_now refl
            (to-hold (ahead (writes-around v bp) q bq d) (pair_same refl refl refl (one_less h (W s p q % 2) bit) refl refl (v.pair q p bq bp d)))))
        at (no e) = from-else l b m e (a.w l) (a.held_rest l e) refl

    still : (l m : ℕ) → s'.flying p l m ≡ s.flying p l m
    still l m = omega (arith, h.sent l m, a.nothing l m)

    pub write-waits-keeps : Inv n writer none s'
    write-waits-keeps =
        inv-of (delivered h) (λ _. refl) (around-same (writes-around v bp) a.w (λ l m _. still l m) waits-from) v
        (let old = reads-around v bp in
        record {
          asked = λ l b m. omega (arith, a.r p, a.r l, still l 2, kind-else h l 3 m (λ e. omega (arith, e, bit)), old.asked l b m);
          answers = λ l b m. omega (arith, kind-else h l 2 m (λ e. omega (arith, e, bit)), a.waiting l, still l 3, old.answers l b m);
        })
