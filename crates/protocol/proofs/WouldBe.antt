-- The world that a step would come to is one that the step comes to: so the invariant tells, before anything is sent, that all of it
-- finds room.
-- Assumes nothing.
use Prim.Native.Nat.{ℕ, ◌+◌, ◌-◌, ◌≤◌}
use mathlib.Core.{Logic.◌≢◌, Path.{◌≡◌, refl, sym, ap, ◌∙◌}}
use native.Mathlib.Omega.{arith}
use borrow.Author.Tests.{eq-eqb, ne_eqb, eqb-true}
use Rattle.basics.proofs.Choices.{ite-true, ite-false, not_so, both_left, both_right, both_true}
use Rattle.protocol.specs.{World.{View, World, Out, Starts, Delivers}, Would.{acting, lacking}}

module _ (s : World) (p : ℕ) (b : View) (out : Out) where
  pub acting-own : (acting s p b out).panel p ≡ b
  unfolding acting
  acting-own = ite-true b (s.panel p) (eq-eqb p p refl)

  pub would-start : Starts p out s (acting s p b out)
  unfolding acting
  would-start =
      record {
        others = λ i d. ite-false b (s.panel i) (ne_eqb i p d);
        sent = λ l k. ite-true (s.flying p l k + out l k) (s.flying p l k) (eq-eqb p p refl);
        flown = λ i l k d. ite-false (s.flying i l k + out l k) (s.flying i l k) (ne_eqb i p d);
      }

module _ (s : World) (q p k : ℕ) where
  lacking-it : (lacking s q p k).flying q p k ≡ s.flying q p k - 1
  unfolding lacking
  lacking-it = ite-true _ _ (both_true (eq-eqb q q refl) (both_true (eq-eqb p p refl) (eq-eqb k k refl)))

  lacking-else : (i l m : ℕ) → (i ≡ q → l ≡ p → m ≢ k) → (lacking s q p k).flying i l m ≡ s.flying i l m
  unfolding lacking
  lacking-else i l m d =
      ite-false _ _ (not_so λ h.
      let more = both_right _ _ h in
      d (eqb-true _ _ (both_left _ _ h)) (eqb-true _ _ (both_left _ _ more)) (eqb-true _ _ (both_right _ _ more)))

  pub lacking-panel : (i : ℕ) → (lacking s q p k).panel i ≡ s.panel i
  unfolding lacking
  lacking-panel i = refl

  module _ (b : View) (out : Out) (d : q ≢ p) (there : 1 ≤ s.flying q p k) where
    pub would-deliver : Delivers q p k out s (acting (lacking s q p k) p b out)
    would-deliver =
        record {
          others = λ i e. starts.others i e ∙ same-panel i;
          sent = λ l m. starts.sent l m ∙ ap (λ (x : ℕ). x + out l m) (lacking-else p l m (λ e. absurd (d (sym e))));
          gone = let z : (acting (lacking s q p k) p b out).flying q p k ≡ s.flying q p k - 1 = starts.flown q p k d ∙ lacking-it in omega (arith, there, z);
          flown = λ i l m e f. starts.flown i l m e ∙ lacking-else i l m f;
        }
      where
        starts : Starts p out (lacking s q p k) (acting (lacking s q p k) p b out)
        starts = would-start (lacking s q p k) p b out

        same-panel : (i : ℕ) → (lacking s q p k).panel i ≡ s.panel i
        same-panel i = lacking-panel i
