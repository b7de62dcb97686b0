-- Along a drain: the network that it has come to stays good, the deliveries stay few, and what is left to do is the whole drain.
-- Assumes nothing.
use mathlib.Core.Path.{◌≡◌, refl, sym, ap, subst, ◌∙◌}
use Prim.Native.Nat.{ℕ, suc, ◌+◌, ◌≤◌, ◌<◌}
use native.Mathlib.Omega.{arith}
use mathlib.Core.Bool.{true}
use Rattle.std.specs.Prelude.{Option, Ok, Err, Some, None}
use Rattle.basics.specs.declared.refused.Refusal.{Refusal}
use Rattle.events.specs.declared.Finished.{Finished}
use Rattle.promise.{proofs.Happenings.code-ok, specs.View.code_of}
use Rattle.house.specs.{NetForm.net_form, Search.first_in, Whole.Whole, declared.InFlight.InFlight, declared.Network.Network}
use Rattle.steps.proofs.{Draining.{next-kept, next-falls, drain-done, drain-step, drain-refused}, Networks.{Good, good_of, few-loads}}
use Rattle.steps.specs.{Drain.{drained_to, refused_as, next_in, drain_by, drain_in}, Numbers.load_of, Steps.deliver_in, declared.Stepped.Stepped}

-- a drain of s₀ that has come to s by m deliveries
pub record Along (s₀ s : Network) (m : ℕ) : Type 0 where
  pub good : Good s
  pub few : m + load_of s ≤ 200000
  pub rest : drain_by (suc (load_of s)) s₀ s m ≡ drain_in s₀

pub along-start : (s : Network) → net_form s ≡ true → Whole s → Along s s 0
unfolding drain_in
along-start s h whole = let g = good_of s h whole in record { good = g; few = omega (arith, few-loads s g); rest = refl }

module _ {s₀ s : Network} {m : ℕ} (a : Along s₀ s m) where
  pub along-done : first_in s ≡ None → drained_to s m ≡ drain_in s₀
  along-done e = sym (drain-done s₀ s m a.good e) ∙ a.rest

  -- o is what the delivery of what is found comes to
  module _ {x : InFlight} (there : first_in s ≡ Some x) {o : Stepped} (delivery : o ≡ deliver_in s x.kind x.sender x.receiver) where
    next : o ≡ next_in s x
    unfolding next_in
    next = delivery

    pub along-refused : {r : Refusal} → o.answer ≡ Err r → refused_as s₀ r ≡ drain_in s₀
    along-refused {r} bad = sym (drain-refused s₀ s m a.good x there r (ap (λ (y : Stepped). y.answer) (sym next) ∙ bad)) ∙ a.rest

    module _ {f : Option Finished} (ok : o.answer ≡ Ok f) where
      fine : code_of (next_in s x).answer ≡ 0
      fine = ap (λ (y : Stepped). code_of y.answer) (sym next) ∙ ap code_of ok ∙ code-ok f

      pub along-falls : load_of o.network < load_of s
      along-falls = subst (λ (y : Stepped). load_of y.network < load_of s) (sym next) (next-falls s a.good x fine)

      pub along-next : Along s₀ o.network (m + 1)
      along-next =
          subst (λ (y : Stepped). Along s₀ y.network (m + 1)) (sym next)
          (record {
            good = (next-kept s a.good x).good;
            few = omega (arith, a.few, next-falls s a.good x fine);
            rest = sym (drain-step s₀ s m a.good x there fine) ∙ a.rest;
          })
