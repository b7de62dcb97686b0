-- Deliveries are counted by the tables: each adds one, nothing else adds any, and so there are at most n·(n−1) for a write and
-- 2·(n−1) for a read.
-- Assumes nothing.
use Prim.Native.Nat.{ℕ, suc, ◌+◌, ◌-◌, ◌*◌, ◌≤◌, ◌<◌}
use mathlib.Core.{Logic.◌≢◌, Path.{◌≡◌, sym, ap, ap₂, subst, ◌∙◌}}
use native.Mathlib.{Decide.ℕ_discrete, Omega.arith}
use Rattle.protocol.specs.{Counts.{sum_pairs, came, made, begun}, Invariant.{none, Inv}}
use Rattle.protocol.specs.Promise.{Writes, Reads, WriteComes, WriteWaits, ReadComes, ProceedComes}
use Rattle.protocol.specs.World.{View, World, Out, W, R, Starts, Delivers}
use Rattle.protocol.proofs.{Around.{Acted, started, delivered}, Arriving.{kind-else, sender-else, one_less}}
use Rattle.protocol.proofs.Coming.{comes-one-more, comes-rest}
use Rattle.protocol.proofs.Sums.{sum_same, sum_more, sum-add, sum-each, sum-times, pairs-same, pairs-more, pairs-most}

-- of p's reads: READs that came to j and PROCEEDs that came back; of i at p: WRITEs taken or held and READs that came, r being i's reads
abbrev Outward : World → ℕ → ℕ → ℕ
Outward s p j = (R s p p - s.flying p j 2) + R s p j

abbrev Inward : ℕ → World → ℕ → ℕ → ℕ
Inward r s p i = (W s p i + (s.panel p).held i) + (r - s.flying i p 2)

-- ---- p acts, and all else stays

module _ {n p : ℕ} {s s' : World} (act : Acted p s s') (bp : p < n) where
  came-out : (j : ℕ) → j ≢ p → came s' p j ≡ (W s j p + (s.panel j).held p) + Outward s' p j
  came-out j d = ap (λ (a : View). (a.w p + a.held p) + Outward s' p j) (act.others j d)

  came-in : (i : ℕ) → i ≢ p → came s' i p ≡ Inward (R s i i) s' p i + R s i p
  came-in i d = ap (λ (a : View). (W s' p i + (s'.panel p).held i) + ((a.r i - s'.flying i p 2) + a.r p)) (act.others i d) ∙ omega arith

  came_same :
      (i j : ℕ) → i ≢ j → (i ≡ p → Outward s' p j ≡ Outward s p j) → (j ≡ p → Inward (R s i i) s' p i ≡ Inward (R s i i) s p i)
      → came s' i j ≡ came s i j
  came_same i j m out into = at (ℕ_discrete i p) (ℕ_discrete j p)
    where
      at : Dec (i ≡ p) → Dec (j ≡ p) → came s' i j ≡ came s i j
      at (yes e) f = subst (λ (x : ℕ). came s' x j ≡ came s x j) (sym e) (omega (arith, came-out j (λ g. m (e ∙ sym g)), out e))
      at (no d) (yes f) = subst (λ (x : ℕ). came s' i x ≡ came s i x) (sym f) (omega (arith, came-in i d, into f))
      at (no d) (no e) =
          ap₂ (λ (a c : View). (c.w i + c.held i) + ((a.r i - s'.flying i j 2) + a.r j)) (act.others i d) (act.others j e)
          ∙ ap (λ (x : ℕ). (W s j i + (s.panel j).held i) + ((R s i i - x) + R s i j)) (act.flown i j 2 d e)

  module _ (out : (j : ℕ) → j < n → j ≢ p → Outward s' p j ≡ Outward s p j) where
    made-same : ((i : ℕ) → i < n → i ≢ p → Inward (R s i i) s' p i ≡ Inward (R s i i) s p i) → made n s' ≡ made n s
    unfolding made
    made-same into = pairs-same n _ _ (λ i j bi bj m. came_same i j m (λ e. out j bj (λ f. m (e ∙ sym f))) (λ f. into i bi (λ e. m (e ∙ sym f))))

    made-more-in : (q : ℕ) → q < n → q ≢ p → Inward (R s q q) s' p q ≡ suc (Inward (R s q q) s p q)
        → ((i : ℕ) → i < n → i ≢ p → i ≢ q → Inward (R s i i) s' p i ≡ Inward (R s i i) s p i) → made n s' ≡ suc (made n s)
    unfolding made
    made-more-in q bq d more into =
        pairs-more n q p (came s) (came s') bq bp d (omega (arith, came-in q d, more))
        (λ i j bi bj m x. came_same i j m (λ e. out j bj (λ f. m (e ∙ sym f))) (λ f. into i bi (λ e. m (e ∙ sym f)) (λ e. x e f)))

  made-more-out : (q : ℕ) → q < n → q ≢ p → Outward s' p q ≡ suc (Outward s p q) → ((j : ℕ) → j < n → j ≢ p → j ≢ q → Outward s' p j ≡ Outward s p j)
      → ((i : ℕ) → i < n → i ≢ p → Inward (R s i i) s' p i ≡ Inward (R s i i) s p i) → made n s' ≡ suc (made n s)
  unfolding made
  made-more-out q bq d more out into =
      pairs-more n p q (came s) (came s') bp bq (λ e. d (sym e)) (omega (arith, came-out q d, more))
      (λ i j bi bj m x. came_same i j m (λ e. out j bj (λ f. m (e ∙ sym f)) (x e)) (λ f. into i bi (λ e. m (e ∙ sym f))))

  begun-same : R s' p p ≡ R s p p → begun n s' ≡ begun n s
  unfolding begun
  begun-same own = sum_same n _ _ (λ i b. at i (ℕ_discrete i p))
    where
      at : (i : ℕ) → Dec (i ≡ p) → R s' i i ≡ R s i i
      at i (yes e) = subst (λ (x : ℕ). R s' x x ≡ R s x x) (sym e) own
      at i (no d) = ap (λ (a : View). a.r i) (act.others i d)

  begun_more : R s' p p ≡ suc (R s p p) → begun n s' ≡ suc (begun n s)
  unfolding begun
  begun_more own = sum_more n p _ _ bp own (λ i b d. ap (λ (a : View). a.r i) (act.others i d))

-- ---- what starts delivers nothing

module _ {n p : ℕ} {s s' : World} {out : Out} (h : Starts p out s s') (bp : p < n) where
  module _ (a : Writes n p (s.panel p) out (s'.panel p)) where
    pub wrote-made : made n s' ≡ made n s
    wrote-made =
        made-same (started h) bp (λ j b d. omega (arith, a.r p, a.r j, h.sent j 2, a.reads j))
        (λ i b d. omega (arith, a.w_rest i d, a.held i, h.flown i p 2 d))

    pub wrote-begun : begun n s' ≡ begun n s
    wrote-begun = begun-same (started h) bp (a.r p)

  module _ (a : Reads n p (s.panel p) out (s'.panel p)) where
    pub asked-made : made n s' ≡ made n s
    asked-made =
        made-same (started h) bp (λ j b d. omega (arith, a.r_own, a.r_rest j d, h.sent j 2, a.reads j b d))
        (λ i b d. omega (arith, a.w i, a.held i, h.flown i p 2 d))

    pub asked-begun : begun n s' ≡ suc (begun n s)
    asked-begun = begun_more (started h) bp a.r_own

-- ---- each delivery adds one

module _ {n p q k : ℕ} {s s' : World} {out : Out} (h : Delivers q p k out s s') (bp : p < n) (bq : q < n) (d : q ≢ p) where
  -- no READ went away
  still : k ≢ 2 → (i : ℕ) → i ≢ p → s'.flying i p 2 ≡ s.flying i p 2
  still other i m = kind-else h i 2 m (λ e. other (sym e))

  module _ (a : WriteComes n p q (s.panel p) out (s'.panel p)) where
    pub write-came-made : k < 2 → made n s' ≡ suc (made n s)
    write-came-made b =
        let other : k ≢ 2 = omega (arith, b) in
        made-more-in (delivered h) bp (λ j c m. omega (arith, a.r p, a.r j, h.sent j 2, a.reads j)) q bq d
        (omega (arith, comes-one-more a, still other q d))
        (λ i c m e. omega (arith, comes-rest a i m e, a.held_rest i e, still other i m))

    pub write-came-begun : begun n s' ≡ begun n s
    write-came-begun = begun-same (delivered h) bp (a.r p)

  module _ (a : WriteWaits q (s.panel p) out (s'.panel p)) where
    pub write-waits-made : k < 2 → made n s' ≡ suc (made n s)
    write-waits-made b =
        let other : k ≢ 2 = omega (arith, b) in
        made-more-in (delivered h) bp (λ j c m. omega (arith, a.r p, a.r j, h.sent j 2, a.nothing j 2)) q bq d
        (omega (arith, a.w q, a.free, a.held_now, still other q d))
        (λ i c m e. omega (arith, a.w i, a.held_rest i e, still other i m))

    pub write-waits-begun : begun n s' ≡ begun n s
    write-waits-begun = begun-same (delivered h) bp (a.r p)

  module _ (a : ReadComes n p q (s.panel p) out (s'.panel p)) where
    -- a READ in flight is of a read that was begun
    pub read-came-made : k ≡ 2 → s.flying q p 2 ≤ R s q q → made n s' ≡ suc (made n s)
    read-came-made kind most =
        made-more-in (delivered h) bp (λ j c m. omega (arith, a.r p, a.r j, h.sent j 2, a.reads j)) q bq d
        (omega (arith, a.w q, a.held q, one_less h 2 kind, most))
        (λ i c m e. omega (arith, a.w i, a.held i, sender-else h i 2 m e))

    pub read-came-begun : begun n s' ≡ begun n s
    read-came-begun = begun-same (delivered h) bp (a.r p)

  module _ (a : ProceedComes q (s.panel p) out (s'.panel p)) where
    own : R s' p p ≡ R s p p
    own = a.r_rest p (λ e. d (sym e))

    pub proceed-came-made : k ≡ 3 → made n s' ≡ suc (made n s)
    proceed-came-made kind =
        made-more-out (delivered h) bp q bq d
        (omega (arith, own, a.r_from, h.sent q 2, a.nothing q 2))
        (λ j c m e. omega (arith, own, a.r_rest j e, h.sent j 2, a.nothing j 2))
        (λ i c m. omega (arith, a.w i, a.held i, still (omega (arith, kind)) i m))

    pub proceed-came-begun : begun n s' ≡ begun n s
    proceed-came-begun = begun-same (delivered h) bp own

-- ---- the bound

in_all : (x c n m r : ℕ) → x ≤ c * (n * m + 2 * r) → x ≤ m * (n * c) + 2 * (r * c)
in_all x c n m r h = omega arith

module _ {n writer : ℕ} {s : World} (v : Inv n writer none s) where
  -- WRITEs from i to j are at most what the writer wrote; READs and PROCEEDs at most the reads of i
  came-most : (i j : ℕ) → i < n → j < n → i ≢ j → came s i j ≤ W s writer writer + 2 * R s i i
  came-most i j bi bj d =
      let taken : W s j i + (s.panel j).held i ≤ W s writer writer = omega (arith, v.pair i j bi bj d, v.top i bi) in
      omega (arith, taken, v.reads i j bi bj d)

  pub made-most : made n s ≤ W s writer writer * (n * (n - 1)) + 2 * (begun n s * (n - 1))
  unfolding made begun
  made-most =
      in_all (sum_pairs n (came s)) (n - 1) n (W s writer writer) (begun n s)
      (subst (λ (x : ℕ). sum_pairs n (came s) ≤ (n - 1) * x)
      (sum-add n (λ i. W s writer writer) (λ i. 2 * R s i i) ∙ ap₂ ◌+◌ (sum-each n (W s writer writer)) (sum-times n 2 (λ i. R s i i)))
      (pairs-most n (came s) (λ i. W s writer writer + 2 * R s i i) came-most))
