-- A drain is one delivery after another: its number of steps does not run out, it goes on where the next delivery is accepted, stops
-- where there is none, and is refused as a whole where one is refused.
-- Assumes nothing.
use mathlib.Core.{Path.{◌≡◌, refl, sym, ap, subst, ◌∙◌}}
use Prim.Native.Nat.{ℕ, zero, suc, ◌+◌, ◌≤◌, ◌<◌}
use native.Mathlib.Omega.{arith}
use borrow.Author.Tests.{not-true}
use Rattle.std.specs.Prelude.{Option, Ok, Err, Some, None}
use Rattle.basics.{proofs.Choices.{some_or-none, some_or-some}, proofs.Refusals.{number-some, unless-ok, unless-err}, specs.Refusal.{code}}
use Rattle.basics.specs.declared.refused.Refusal.{Refusal}
use Rattle.events.specs.{Events.Answer, declared.Finished.Finished}
use Rattle.promise.{proofs.Happenings.code-ok, specs.View.code_of}
use Rattle.house.{proofs.Searching.{Hits, found, found-pair}, specs.Search.{live, first_in}, specs.declared.InFlight.InFlight, specs.declared.Network.Network}
use Rattle.steps.specs.{Drain.{drained_to, refused_as, counted, next_in, drain_by}, Moves.{Deliveries, none, more}, Numbers.load_of, declared.Drained.Drained}
use Rattle.steps.proofs.{Falling.deliver-falls, Keeping.{Kept, kept-none, kept_then, deliver-kept}, Networks.Good}
use Rattle.steps.proofs.{Passing.MayDeliver, Settling.{answer-of, not-refused}}

-- ---- the next delivery

-- what the search finds can be delivered
pub next-may : (s : Network) → Good s → (x : InFlight) → first_in s ≡ Some x → MayDeliver s x.kind x.sender x.receiver
unfolding live
next-may s g x e =
    let h : Hits s x = found s x e in
    record { pair = found-pair s g.form x e; live = not-true _ h.receiver-live; there = h.in-flight }

pub next-kept : (s : Network) → Good s → (x : InFlight) → Kept s (next_in s x).network
unfolding next_in
next-kept s g x = deliver-kept s g _ _ _

pub next-falls : (s : Network) → Good s → (x : InFlight) → code_of (next_in s x).answer ≡ 0 → load_of (next_in s x).network < load_of s
unfolding next_in
next-falls s g x ok = deliver-falls s g _ _ _ ok

-- ---- deliveries one after another

pub deliveries-kept : {m : ℕ} {s s' : Network} → Good s → Deliveries m s s' → Kept s s'
deliveries-kept {s = s} g none = kept-none s g
deliveries-kept {s = s} g (more k i j ok rest) = let h = deliver-kept s g k i j in kept_then s _ _ h (deliveries-kept h.good rest)

-- each lowers the load
pub deliveries-fall : {m : ℕ} {s s' : Network} → Good s → Deliveries m s s' → m + load_of s' ≤ load_of s
deliveries-fall g none = omega arith
deliveries-fall {s = s} g (more k i j ok rest) = omega (arith, deliveries-fall (deliver-kept s g k i j).good rest, deliver-falls s g k i j ok)

-- ---- one step of a drain

module _ (f : ℕ) (s₀ s : Network) (m : ℕ) where
  pub by-none : first_in s ≡ None → drain_by (suc f) s₀ s m ≡ drained_to s m
  unfolding drain_by
  by-none e = some_or-none _ _ e

  module _ (x : InFlight) (e : first_in s ≡ Some x) where
    by-ok : (b : Option Finished) → (next_in s x).answer ≡ Ok b → drain_by (suc f) s₀ s m ≡ drain_by f s₀ (next_in s x).network (m + 1)
    unfolding drain_by
    by-ok b h = some_or-some _ _ e ∙ unless-ok _ _ h

    pub by-refused : (r : Refusal) → (next_in s x).answer ≡ Err r → drain_by (suc f) s₀ s m ≡ refused_as s₀ r
    unfolding drain_by
    by-refused r h = some_or-some _ _ e ∙ unless-err _ _ h

    pub by_next : code_of (next_in s x).answer ≡ 0 → drain_by (suc f) s₀ s m ≡ drain_by f s₀ (next_in s x).network (m + 1)
    by_next z =
        answer-of (λ (a : Answer). (next_in s x).answer ≡ a → drain_by (suc f) s₀ s m ≡ drain_by f s₀ (next_in s x).network (m + 1)) by-ok
        (λ r h. not-refused r (ap code_of (sym h) ∙ z)) (next_in s x).answer refl

  -- what holds of each outcome holds of the drain
  pub by-case :
      (P : Drained → Type 0) → (first_in s ≡ None → P (drained_to s m)) →
      ((x : InFlight) → first_in s ≡ Some x → code_of (next_in s x).answer ≡ 0 → P (drain_by f s₀ (next_in s x).network (m + 1))) →
      ((x : InFlight) (r : Refusal) → first_in s ≡ Some x → (next_in s x).answer ≡ Err r → P (refused_as s₀ r)) → P (drain_by (suc f) s₀ s m)
  by-case P still next refused = by (first_in s) refl
    where
      by : (o : Option InFlight) → first_in s ≡ o → P (drain_by (suc f) s₀ s m)
      by None e = subst P (sym (by-none e)) (still e)
      by (Some x) e =
          answer-of (λ (a : Answer). (next_in s x).answer ≡ a → P (drain_by (suc f) s₀ s m))
          (λ b h. subst P (sym (by-ok x e b h)) (next x e (ap code_of h ∙ code-ok b)))
          (λ r h. subst P (sym (by-refused x e r h)) (refused x r e h)) (next_in s x).answer refl

-- ---- the number of steps does not run out

-- any number above the load will do
pub enough : (f h : ℕ) (s₀ s : Network) (m : ℕ) → Good s → load_of s < f → load_of s < h → drain_by f s₀ s m ≡ drain_by h s₀ s m
enough zero h s₀ s m g lf lh = absurd (omega arith)
enough (suc f) zero s₀ s m g lf lh = absurd (omega arith)
enough (suc f) (suc h) s₀ s m g lf lh =
    by-case f s₀ s m (λ (d : Drained). d ≡ drain_by (suc h) s₀ s m)
    (λ e. sym (by-none h s₀ s m e))
    (λ x e ok.
    let low : load_of (next_in s x).network < load_of s = next-falls s g x ok in
    enough f h s₀ (next_in s x).network (m + 1) (next-kept s g x).good (omega arith) (omega arith) ∙ sym (by_next h s₀ s m x e ok))
    (λ x r e bad. sym (by-refused h s₀ s m x e r bad))

module _ (s₀ s : Network) (m : ℕ) (g : Good s) where
  pub drain_by-enough : (f : ℕ) → load_of s < f → drain_by f s₀ s m ≡ drain_by (suc (load_of s)) s₀ s m
  drain_by-enough f l = enough f (suc (load_of s)) s₀ s m g l (omega arith)

  pub drain-done : first_in s ≡ None → drain_by (suc (load_of s)) s₀ s m ≡ drained_to s m
  drain-done e = by-none (load_of s) s₀ s m e

  module _ (x : InFlight) (e : first_in s ≡ Some x) where
    pub drain-step :
        code_of (next_in s x).answer ≡ 0 →
        drain_by (suc (load_of s)) s₀ s m ≡ drain_by (suc (load_of (next_in s x).network)) s₀ (next_in s x).network (m + 1)
    drain-step ok =
        by_next (load_of s) s₀ s m x e ok
        ∙ enough (load_of s) (suc (load_of (next_in s x).network)) s₀ (next_in s x).network (m + 1) (next-kept s g x).good (next-falls s g x ok)
        (omega arith)

    pub drain-refused : (r : Refusal) → (next_in s x).answer ≡ Err r → drain_by (suc (load_of s)) s₀ s m ≡ refused_as s₀ r
    drain-refused r bad = by-refused (load_of s) s₀ s m x e r bad

-- ---- a drain that is not refused

-- it made so many deliveries beyond m, and nothing is left in flight to a live panel
pub record Drains (m : ℕ) (s : Network) (d : Drained) : Type 0 where
  pub made : ℕ
  pub counts : counted d.answer ≡ m + made
  pub deliveries : Deliveries made s d.network
  pub still : first_in d.network ≡ None

one_more : {m : ℕ} {s : Network} {d : Drained} (x : InFlight) → code_of (next_in s x).answer ≡ 0 → Drains (m + 1) (next_in s x).network d → Drains m s d
unfolding next_in
one_more x ok h =
    record { made = suc h.made; counts = omega (arith, h.counts); deliveries = more _ _ _ ok h.deliveries; still = h.still }

pub drains : (f : ℕ) (s₀ s : Network) (m : ℕ) → Good s → load_of s < f → code (drain_by f s₀ s m).answer ≡ 0 → Drains m s (drain_by f s₀ s m)
drains zero s₀ s m g l = absurd (omega arith)
drains (suc f) s₀ s m g l =
    by-case f s₀ s m (λ (d : Drained). code d.answer ≡ 0 → Drains m s d)
    (λ e _. record { made = 0; counts = omega arith; deliveries = none; still = e })
    (λ x e ok z. one_more x ok (drains f s₀ (next_in s x).network (m + 1) (next-kept s g x).good (omega (arith, next-falls s g x ok)) z))
    (λ x r e bad z. absurd (number-some r z))
