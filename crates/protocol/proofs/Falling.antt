-- The load of a world falls at each delivery, and is at most 200,000 where no table or channel is over-full.
-- Assumes nothing.
use Prim.Native.Nat.{ℕ, zero, suc, ◌+◌, ◌*◌, ◌≤◌, ◌<◌}
use mathlib.Core.{Logic.◌≢◌, Path.{◌≡◌, ap, ap₂, ◌∙◌}}
use native.Mathlib.Omega.{arith}
use Rattle.basics.specs.Choice.{ite}
use Rattle.protocol.specs.{Counts.{panel_load, out_load, load, weight}, World.{World, Out, Delivers}}
use Rattle.protocol.proofs.{Arriving.kind-else, Loads.Weighed, Sums.{sum_same, sum-add, sum-at-most, sum-change, sum_moved}}

-- one message of kind k is gone
lighter : (k : ℕ) → k < 4 → (f g : ℕ → ℕ) → suc (g k) ≡ f k → ((m : ℕ) → m ≢ k → g m ≡ f m) → Weighed g + weight k ≡ Weighed f
unfolding weight ite
lighter zero b f g gone same = omega (arith, gone, same 1 (omega arith), same 2 (omega arith), same 3 (omega arith))
lighter (suc zero) b f g gone same = omega (arith, gone, same 0 (omega arith), same 2 (omega arith), same 3 (omega arith))
lighter (suc (suc zero)) b f g gone same = omega (arith, gone, same 0 (omega arith), same 1 (omega arith), same 3 (omega arith))
lighter (suc (suc (suc zero))) b f g gone same = omega (arith, gone, same 0 (omega arith), same 1 (omega arith), same 2 (omega arith))
lighter (suc (suc (suc (suc k)))) b f g gone same = absurd (omega arith)

module _ {q p k : ℕ} {out : Out} {s s' : World} (h : Delivers q p k out s s') (bp : p < 7) (bq : q < 7) (d : q ≢ p) (kind : k < 4) where
  -- what p sends joins what flies from it
  joined : out_load (s'.flying p) ≡ out_load (s.flying p) + out_load out
  unfolding out_load
  joined =
      sum_same 7 _ (λ l. Weighed (s.flying p l) + Weighed (out l)) (λ l _. omega (arith, h.sent l 0, h.sent l 1, h.sent l 2, h.sent l 3))
      ∙ sum-add 7 (λ l. Weighed (s.flying p l)) (λ l. Weighed (out l))

  -- what came is gone from what flies from q
  left : out_load (s'.flying q) + weight k ≡ out_load (s.flying q)
  unfolding out_load
  left =
      omega (
        arith,
        lighter k kind (s.flying q p) (s'.flying q p) h.gone (λ m. kind-else h q m d),
        sum-change 7 p (λ l. Weighed (s.flying q l)) (λ l. Weighed (s'.flying q l)) bp (λ l _ e. elsewhere l e),
      )
    where
      elsewhere : (l : ℕ) → l ≢ p → Weighed (s'.flying q l) ≡ Weighed (s.flying q l)
      elsewhere l e =
          let same : (m : ℕ) → s'.flying q l m ≡ s.flying q l m = λ m. h.flown q l m d (λ _ f. absurd (e f)) in
          omega (arith, same 0, same 1, same 2, same 3)

  others : (i : ℕ) → i ≢ p → i ≢ q → panel_load (s'.panel i) + out_load (s'.flying i) ≡ panel_load (s.panel i) + out_load (s.flying i)
  unfolding out_load
  others i e f =
      let same : (l m : ℕ) → s'.flying i l m ≡ s.flying i l m = λ l m. h.flown i l m e (λ g. absurd (f g)) in
      ap₂ ◌+◌ (ap panel_load (h.others i e)) (sum_same 7 _ _ (λ l _. omega (arith, same l 0, same l 1, same l 2, same l 3)))

  pub load-falls : panel_load (s'.panel p) + out_load out < panel_load (s.panel p) + weight k → load s' < load s
  unfolding load
  load-falls less =
      sum_moved 7 p q (weight k) (λ i. panel_load (s.panel i) + out_load (s.flying i)) (λ i. panel_load (s'.panel i) + out_load (s'.flying i)) bp bq d
      (omega (arith, less, joined)) (omega (arith, left, ap panel_load (h.others q d))) (λ i _ e f. others i e f)

-- ---- how much there can be

-- no table and no channel is over-full
pub record Filled (s : World) : Type 0 where
  pub held : (i l : ℕ) → i < 7 → l < 7 → (s.panel i).held l ≤ 1
  pub waiting : (i l : ℕ) → i < 7 → l < 7 → (s.panel i).waiting l ≤ 100
  pub writes : (i l k : ℕ) → i < 7 → l < 7 → k < 2 → s.flying i l k ≤ 1
  pub reads : (i l : ℕ) → i < 7 → l < 7 → s.flying i l 2 ≤ 100
  pub proceeds : (i l : ℕ) → i < 7 → l < 7 → s.flying i l 3 ≤ 100

module _ {s : World} (f : Filled s) (i : ℕ) (b : i < 7) where
  panel-most : panel_load (s.panel i) ≤ 7 * 2701
  unfolding panel_load
  panel-most = sum-at-most 7 2701 _ (λ l c. omega (arith, f.held i l b c, f.waiting i l b c))

  out-most : out_load (s.flying i) ≤ 7 * 304
  unfolding out_load
  out-most =
      sum-at-most 7 304 _
      (λ l c. omega (arith, f.writes i l 0 b c (omega arith), f.writes i l 1 b c (omega arith), f.reads i l b c, f.proceeds i l b c))

pub load-most : (s : World) → Filled s → load s ≤ 200000
unfolding load
load-most s f =
    let most : load s ≤ 7 * 21035 = sum-at-most 7 21035 _ (λ i b. omega (arith, panel-most f i b, out-most f i b)) in
    omega arith
