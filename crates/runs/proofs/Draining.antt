-- A drain in a run from fresh: it is never refused, and it is so many accepted deliveries.
-- Assumes nothing.
use Prim.Native.Nat.{ℕ, zero, suc, ◌+◌}
use mathlib.Core.Path.{◌≡◌, refl, sym, ap, subst, ◌∙◌}
use native.Mathlib.Omega.{arith}
use Rattle.std.specs.Prelude.{Result, Ok, Err}
use Rattle.basics.{proofs.Refusals.number-some, specs.Refusal.code, specs.declared.refused.Refusal.Refusal}
use Rattle.promise.specs.View.{code_of}
use Rattle.house.specs.declared.{InFlight.InFlight, Network.Network}
use Rattle.steps.proofs.{Draining.by-case, Settling.not-refused, WholeDrain.{drained-is, drained-deliveries, drained-still}}
use Rattle.steps.specs.{Drain.{counted, next_in, drain_by, drained}, Moves.{Deliveries, none, more}, Numbers.load_of, declared.Drained.Drained}
use Rattle.runs.specs.Claims.{Still}
use Rattle.runs.proofs.{Accepting.next-ok, Holding.{Holds, Went, went-none, deliver-went}, Quieting.still-searched}

pub went_then : {a b r t d e : ℕ} {s s₁ s₂ : Network} → Went a r d s s₁ → Went b t e s₁ s₂ → Went (a + b) (r + t) (d + e) s s₂
went_then x y =
    record {
      holds = y.holds;
      same = record {
        n = y.same.n ∙ x.same.n;
        t = y.same.t ∙ x.same.t;
        writer = y.same.writer ∙ x.same.writer;
        initial = y.same.initial ∙ x.same.initial;
      };
      written = omega (arith, x.written, y.written);
      asked = omega (arith, x.asked, y.asked);
      came = omega (arith, x.came, y.came);
    }

pub deliveries-went : {m : ℕ} {s s' : Network} → Holds s → Deliveries m s s' → Went 0 0 m s s'
deliveries-went {s = s} h none = went-none s h
deliveries-went {s = s} {s' = s'} h (more {m = m} k i j ok rest) =
    let one = deliver-went s h k i j ok in
    let e : 1 + m ≡ suc m = omega arith in
    subst (λ (x : ℕ). Went 0 0 x s s') e (went_then one (deliveries-went one.holds rest))

next-went : (s : Network) → Holds s → (x : InFlight) → code_of (next_in s x).answer ≡ 0 → Went 0 0 1 s (next_in s x).network
unfolding next_in
next-went s h x ok = deliver-went s h x.kind x.sender x.receiver ok

never-refused : (f : ℕ) (s₀ s : Network) (m : ℕ) → Holds s → code (drain_by f s₀ s m).answer ≡ 0
unfolding drain_by
never-refused zero s₀ s m h = refl
never-refused (suc f) s₀ s m h =
    by-case f s₀ s m (λ (d : Drained). code d.answer ≡ 0) (λ _. refl)
    (λ x e ok. never-refused f s₀ (next_in s x).network (m + 1) (next-went s h x ok).holds)
    (λ x r e bad. not-refused r (sym (ap code_of bad) ∙ next-ok s h x e))

module _ (s : Network) (h : Holds s) where
  pub drain-taken : code (drained s).answer ≡ 0
  drain-taken = ap (λ (d : Drained). code d.answer) (drained-is s h.good) ∙ never-refused (suc (load_of s)) s s 0 h

  -- it is not refused
  pub drain-ok : (drained s).answer ≡ Ok (counted (drained s).answer)
  drain-ok = by (drained s).answer drain-taken
    where
      by : (a : Result ℕ Refusal) → code a ≡ 0 → a ≡ Ok (counted a)
      by (Ok m) z = refl
      by (Err r) z = absurd (number-some r z)

  pub drain-went : Went 0 0 (counted (drained s).answer) s (drained s).network
  drain-went = deliveries-went h (drained-deliveries s h.good drain-taken)

  pub drain-still : Still (drained s).network
  drain-still = still-searched (drained s).network drain-went.holds.good (drained-still s h.good drain-taken)
