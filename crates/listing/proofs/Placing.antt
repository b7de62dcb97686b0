-- A record after the set-up is a second set-up, a drain or another step: its lines, and the network after it. What holds in every run
-- from fresh is kept, and the deliveries made so far do not fall.
-- Assumes nothing.
use mathlib.Core.{List.{[], ◌∷◌}, Logic.◌≢◌, Path.{◌≡◌, sym, subst, ◌∙◌}}
use Prim.Native.Nat.{ℕ, ◌-◌, ◌≤◌}
use native.Mathlib.{Decide.ℕ_discrete, Omega.arith}
use lib.Dec.{eqb}
use borrow.Author.Tests.{eq-eqb, ne_eqb}
use Rattle.std.specs.Prelude.{Ok}
use Rattle.basics.proofs.Choices.{ite-true, ite-false, ite-case}
use Rattle.schedule.specs.declared.Record.{Record}
use Rattle.protocol.specs.Counts.{made}
use Rattle.house.specs.{Places.n_of, declared.Network.Network}
use Rattle.steps.{proofs.AtStart.{set-up-network, set-up-fits}, specs.Drain.drained, specs.Numbers.world_of, specs.SetUp.set_up}
use Rattle.steps.specs.{Steps.delivered, declared.Stepped.Stepped}
use Rattle.runs.{proofs.FromFresh.start-holds, proofs.Holding.{Holds, Went}, proofs.Running.step-fares, specs.Runs.{Step, did, does}}
use Rattle.runs.specs.Runs.Step.{write, read, deliver, lose}
use Rattle.listing.specs.Entries.{misplaced, told, drain_entries, stepped, entries, next}

-- ---- its lines

pub data Placed (s : Network) (r : Record) : Type 0 where
  setting_up : r.kind ≡ 0 → entries s r ≡ misplaced r ∷ [] → next s r ≡ s → Placed s r
  drains : r.kind ≢ 0 → r.kind ≡ 8 → entries s r ≡ drain_entries s → next s r ≡ (drained s).network → Placed s r
  steps : r.kind ≢ 0 → r.kind ≢ 8 → entries s r ≡ told r (stepped s r).answer ∷ [] → next s r ≡ (stepped s r).network → Placed s r

pub placed : (s : Network) (r : Record) → Placed s r
unfolding entries next
placed s r = by (ℕ_discrete r.kind 0) (ℕ_discrete r.kind 8)
  where
    by : Dec (r.kind ≡ 0) → Dec (r.kind ≡ 8) → Placed s r
    by (yes a) b = let z = eq-eqb _ _ a in setting_up a (ite-true _ _ z) (ite-true _ _ z)
    by (no a) (yes b) =
        let z = ne_eqb _ _ a in
        let e = eq-eqb _ _ b in
        drains a b (ite-false _ _ z ∙ ite-true _ _ e) (ite-false _ _ z ∙ ite-true _ _ e)
    by (no a) (no b) =
        let z = ne_eqb _ _ a in
        let e = ne_eqb _ _ b in
        steps a b (ite-false _ _ z ∙ ite-false _ _ e) (ite-false _ _ z ∙ ite-false _ _ e)

-- ---- what is kept

-- how many deliveries were made
abbrev pub made_in : Network → ℕ
made_in s = made (n_of s) (world_of s)

pub record Keeps (s s' : Network) : Type 0 where
  pub holds : Holds s'
  pub grows : made_in s ≤ made_in s'

went-keeps : {a r d : ℕ} {s s' : Network} → Went a r d s s' → Keeps s s'
went-keeps w = record { holds = w.holds; grows = omega (arith, w.came) }

module _ (s : Network) (h : Holds s) where
  does-keeps : (e : Step) → Keeps s (does s e).network
  does-keeps e = went-keeps (step-fares s h e).went

  pub stepped-keeps : (r : Record) → Keeps s (stepped s r).network
  unfolding stepped does did
  stepped-keeps r =
      ite-case Kept (eqb r.kind 1) _ _ (λ _. does-keeps (write r.value))
      (λ _. ite-case Kept (eqb r.kind 2) _ _ (λ _. does-keeps (read r.a))
      (λ _. ite-case Kept (eqb r.kind 7) _ _ (λ _. does-keeps (lose r.a)) (λ _. does-keeps (deliver (r.kind - 3) r.a r.b))))
    where
      Kept : Stepped → Type 0
      Kept a = Keeps s a.network

  pub delivered-keeps : (k i j : ℕ) → Keeps s (delivered s k i j).network
  unfolding does did
  delivered-keeps k i j = does-keeps (deliver k i j)

-- what set-up makes, where it is not refused
pub set-up-holds : (n t writer v : ℕ) (s : Network) → set_up n t writer v ≡ Ok s → Holds s
set-up-holds n t writer v s z = subst Holds (sym (set-up-network n t writer v s z)) (start-holds n t writer v (set-up-fits n t writer v s z))
