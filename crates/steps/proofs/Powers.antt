-- Who is down: power loss takes one more panel down, and nothing else changes it.
-- Assumes nothing.
use mathlib.Core.{Bool.true, Logic.◌≢◌, Path.{◌≡◌, refl, ap, ◌∙◌}}
use Prim.Native.Nat.{ℕ, ◌+◌, ◌-◌, ◌<◌}
use native.Mathlib.{Decide.ℕ_discrete, Omega.arith}
use Rattle.basics.specs.Refusal.{code}
use Rattle.panel.specs.declared.Next.{Next}
use Rattle.promise.specs.View.{code_of}
use Rattle.house.{proofs.Stores.{down-with-down, down-with-down-ne, downs-with-down}, specs.NetForm.downs, specs.Places.{down_at, with_down}}
use Rattle.house.specs.declared.Network.{Network}
use Rattle.steps.specs.{Drain.drained, Moves.{Deliveries, none, more}}
use Rattle.steps.specs.Steps.{settled, write_trials, read_trials, deliver_trials, lose_trials, write_in, read_in, deliver_in, lose_in}
use Rattle.steps.specs.declared.{Stepped.Stepped}
use Rattle.steps.proofs.{Delivering.without, Networks.{Good, place-seven}, Passing.{MayLose, may-lose}}
use Rattle.steps.proofs.Settling.{settled_case, tried-case, Passed, tried-accepted}
use Rattle.steps.proofs.WholeDrain.{drained-refused, drained-deliveries}

-- ---- a panel acts

settled-down : (s s₁ : Network) (i : ℕ) (q : Next) → s₁.down ≡ s.down → (settled s s₁ i q).network.down ≡ s.down
settled-down s s₁ i q same = settled_case s s₁ i q (λ (a : Stepped). a.network.down ≡ s.down) (λ _ _. refl) refl (λ _. same)

module _ (s : Network) where
  abbrev SameDown : Stepped → Type 0
  SameDown a = a.network.down ≡ s.down

  pub write-down : (v : ℕ) → (write_in s v).network.down ≡ s.down
  unfolding write_in
  write-down v = tried-case (write_trials s) s _ SameDown (λ _ _. refl) (λ _. settled-down s s _ _ refl)

  pub read_down : (i : ℕ) → (read_in s i).network.down ≡ s.down
  unfolding read_in
  read_down i = tried-case (read_trials s i) s _ SameDown (λ _ _. refl) (λ _. settled-down s s _ _ refl)

  pub deliver-down : (k i j : ℕ) → (deliver_in s k i j).network.down ≡ s.down
  unfolding deliver_in
  deliver-down k i j = tried-case (deliver_trials s k i j) s _ SameDown (λ _ _. refl) (λ _. settled-down s (without s k i j) _ _ refl)

pub deliveries-down : {m : ℕ} {s s' : Network} → Deliveries m s s' → s'.down ≡ s.down
deliveries-down none = refl
deliveries-down {s = s} (more k i j ok rest) = deliveries-down rest ∙ deliver-down s k i j

pub drained-down : (s : Network) → Good s → (drained s).network.down ≡ s.down
drained-down s g = by (ℕ_discrete (code (drained s).answer) 0)
  where
    by : Dec (code (drained s).answer ≡ 0) → (drained s).network.down ≡ s.down
    by (yes z) = deliveries-down (drained-deliveries s g z)
    by (no n) = ap (λ (x : Network). x.down) (drained-refused s g n)

-- ---- power loss

pub record Lost (s : Network) (i : ℕ) : Type 0 where
  pub may : MayLose s i
  pub is : (lose_in s i).network ≡ with_down s (i - 1)
  pub own : down_at (lose_in s i).network (i - 1) ≡ true
  pub rest : (j : ℕ) → j ≢ i - 1 → down_at (lose_in s i).network j ≡ down_at s j
  pub one_more : downs (lose_in s i).network ≡ downs s + 1

pub lose-lost : (s : Network) → Good s → (i : ℕ) → code_of (lose_in s i).answer ≡ 0 → Lost s i
unfolding lose_in
lose-lost s g i ok =
    let p : Passed (lose_trials s i) s _ = tried-accepted (lose_trials s i) s _ ok in
    let m : MayLose s i = (may-lose s i).0 p.trials in
    let seven : i - 1 < 7 = place-seven s g (i - 1) (omega (arith, m.low, m.high)) in
    let is : (lose_in s i).network ≡ with_down s (i - 1) = ap (λ (a : Stepped). a.network) p.is in
    record {
      may = m;
      is = is;
      own = ap (λ (x : Network). down_at x (i - 1)) is ∙ down-with-down s g.whole (i - 1) seven;
      rest = λ j d. ap (λ (x : Network). down_at x j) is ∙ down-with-down-ne s (i - 1) j d;
      one_more = ap downs is ∙ downs-with-down s (i - 1) g.whole seven m.live;
    }
