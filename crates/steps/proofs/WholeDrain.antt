-- The drain as a call: a delivery of the first message and then a drain, or nothing to do, or refused as a whole. What it keeps, how many
-- deliveries it makes at most, and that nothing is left in flight to a live panel.
-- Assumes nothing.
use mathlib.Core.{Bool.{false, not}, Logic.◌≢◌, Path.{◌≡◌, refl, sym, ap, subst, ◌∙◌}}
use Prim.Native.Nat.{ℕ, zero, suc, ◌+◌, ◌≤◌, ◌<◌}
use native.Mathlib.{Decide.ℕ_discrete, Nat.add-zero, Omega.arith}
use Rattle.std.specs.Prelude.{Option, Result, Ok, Err, Some, None}
use Rattle.basics.{proofs.Choices.{ite-true, ite-false}, proofs.Refusals.{number-some, met-given, met-not, met-none}, specs.Refusal.{and_then, code}}
use Rattle.basics.specs.declared.refused.Refusal.{Refusal, TheVariants.{NotInForm}}
use Rattle.promise.specs.View.{code_of}
use Rattle.house.{proofs.Searching.{Free, none_found}, specs.NetForm.net_form, specs.Search.first_in, specs.declared.InFlight.InFlight}
use Rattle.house.specs.declared.Network.{Network}
use Rattle.steps.specs.{Drain.{drained_to, refused_as, counted, next_in, drain_by, drain_in, drained}, Moves.Deliveries, Numbers.load_of, Search.sought}
use Rattle.steps.specs.{Steps.{delivered}, declared.Drained.Drained, declared.Stepped.Stepped}
use Rattle.steps.proofs.Draining.{next-kept, deliveries-kept, deliveries-fall, by-case, by-none, by_next, by-refused, drain-done, drain-step, drain-refused, Drains, drains}
use Rattle.steps.proofs.{Keeping.{Kept, kept-none}, Networks.{Good, good-test}, Settling.checked-in-form}

-- ---- the same drain, begun elsewhere or after other deliveries

-- both end in the same network by as many deliveries more, or both are refused alike
data Alike (s₀ s₁ : Network) (m m₁ : ℕ) (d d₁ : Drained) : Type 0 where
  both-done : (x : Network) (c : ℕ) → d ≡ drained_to x (m + c) → d₁ ≡ drained_to x (m₁ + c) → Alike s₀ s₁ m m₁ d d₁
  both-refused : (r : Refusal) → d ≡ refused_as s₀ r → d₁ ≡ refused_as s₁ r → Alike s₀ s₁ m m₁ d d₁

module _ (s₀ s₁ : Network) where
  shifted : {m m₁ : ℕ} {d d₁ : Drained} → Alike s₀ s₁ (m + 1) (m₁ + 1) d d₁ → Alike s₀ s₁ m m₁ d d₁
  shifted {m} {m₁} (both-done x c e e₁) = both-done x (1 + c) (e ∙ ap (drained_to x) (further m c)) (e₁ ∙ ap (drained_to x) (further m₁ c))
    where
      further : (a b : ℕ) → a + 1 + b ≡ a + (1 + b)
      further a b = omega arith
  shifted (both-refused r e e₁) = both-refused r e e₁

  alike : (f : ℕ) (s : Network) (m m₁ : ℕ) → Alike s₀ s₁ m m₁ (drain_by f s₀ s m) (drain_by f s₁ s m₁)
  unfolding drain_by
  alike zero s m m₁ = both-done s 0 (ap (drained_to s) (sym (add-zero m))) (ap (drained_to s) (sym (add-zero m₁)))
  alike (suc f) s m m₁ =
      by-case f s₀ s m (λ (d : Drained). Alike s₀ s₁ m m₁ d (drain_by (suc f) s₁ s m₁))
      (λ e. both-done s 0 (ap (drained_to s) (sym (add-zero m))) (by-none f s₁ s m₁ e ∙ ap (drained_to s) (sym (add-zero m₁))))
      (λ x e ok. subst (Alike s₀ s₁ m m₁ _) (sym (by_next f s₁ s m₁ x e ok)) (shifted (alike f (next_in s x).network (m + 1) (m₁ + 1))))
      (λ x r e bad. both-refused r refl (by-refused f s₁ s m₁ x e r bad))

-- ---- not in form

module _ (s : Network) (out : net_form s ≡ false) where
  pub sought-out-of-form : sought s ≡ Err NotInForm
  unfolding sought
  sought-out-of-form = ap (λ (m : Result Unit Refusal). and_then m (Ok (first_in s))) (met-given _ _ (ap not out))

  pub drained-out-of-form : drained s ≡ refused_as s NotInForm
  unfolding drained
  drained-out-of-form = ite-false _ _ out

-- ---- in form

pub drained-is : (s : Network) → Good s → drained s ≡ drain_by (suc (load_of s)) s s 0
unfolding drained drain_in
drained-is s g = ite-true _ _ (good-test s g)

module _ (s : Network) (g : Good s) where
  pub sought-is : sought s ≡ Ok (first_in s)
  unfolding sought
  sought-is =
      ap (λ (m : Result Unit Refusal). and_then m (Ok (first_in s))) (met-not _ _ (ap not (good-test s g)) ∙ met-none)

  -- what a drain delivers next is what the search finds
  pub next-is : (x : InFlight) → delivered s x.kind x.sender x.receiver ≡ next_in s x
  unfolding next_in
  next-is x = checked-in-form s _ (good-test s g)

  -- ---- step by step

  pub drained-none : first_in s ≡ None → drained s ≡ drained_to s 0
  drained-none e = drained-is s g ∙ drain-done s s 0 g e

  module _ (x : InFlight) (there : first_in s ≡ Some x) where
    pub drained-stops : (r : Refusal) → (next_in s x).answer ≡ Err r → drained s ≡ refused_as s r
    drained-stops r bad = drained-is s g ∙ drain-refused s s 0 g x there r bad

    module _ (ok : code_of (next_in s x).answer ≡ 0) where
      abbrev rest : Drained
      rest = drained (next_in s x).network

      rest-alike : Alike s (next_in s x).network 1 0 (drained s) rest
      rest-alike =
          subst (λ (d : Drained). Alike s (next_in s x).network 1 0 d rest) (sym (drained-is s g ∙ drain-step s s 0 g x there ok))
          (subst (Alike s (next_in s x).network 1 0 _) (sym (drained-is (next_in s x).network (next-kept s g x).good))
          (alike s (next_in s x).network (suc (load_of (next_in s x).network)) (next_in s x).network 1 0))

      -- the rest is not refused: its network, and one delivery more
      pub drained-next : (m : ℕ) → rest.answer ≡ Ok m → drained s ≡ drained_to rest.network (m + 1)
      drained-next m z = by rest-alike
        where
          by : Alike s (next_in s x).network 1 0 (drained s) rest → drained s ≡ drained_to rest.network (m + 1)
          by (both-done y c e r) =
              let n : 0 + c ≡ m = ap counted (sym (ap (λ (d : Drained). d.answer) r) ∙ z) in
              e ∙ ap (drained_to y) (omega (arith, n)) ∙ ap (λ (w : Network). drained_to w (m + 1)) (sym (ap (λ (d : Drained). d.network) r))
          by (both-refused k e r) = absurd (number-some k (ap code (sym (ap (λ (d : Drained). d.answer) r) ∙ z)))

      -- it is refused: so is the whole
      pub drained-late : (r : Refusal) → rest.answer ≡ Err r → drained s ≡ refused_as s r
      drained-late r z = by rest-alike
        where
          by : Alike s (next_in s x).network 1 0 (drained s) rest → drained s ≡ refused_as s r
          by (both-done y c e d) = absurd (number-some r (ap code (sym z ∙ ap (λ (b : Drained). b.answer) d)))
          by (both-refused k e d) = e ∙ ap (λ (a : Result ℕ Refusal). record { network = s; answer = a }) (sym (ap (λ (b : Drained). b.answer) d) ∙ z)

  -- ---- and in the words of the calls: the message that the search finds is delivered

  module _ (x : InFlight) (any : sought s ≡ Ok (Some x)) where
    abbrev first : Stepped
    first = delivered s x.kind x.sender x.receiver

    there : first_in s ≡ Some x
    there = ap found (sym sought-is ∙ any)
      where
        found : Result (Option InFlight) Refusal → Option InFlight
        found (Ok o) = o
        found (Err r) = None

    pub drain-goes-on : (m : ℕ) → code_of first.answer ≡ 0 → (drained first.network).answer ≡ Ok m → drained s ≡ drained_to (drained first.network).network (m + 1)
    drain-goes-on m =
        subst
        (λ (a : Stepped). code_of a.answer ≡ 0 → (drained a.network).answer ≡ Ok m → drained s ≡ drained_to (drained a.network).network (m + 1))
        (sym (next-is x)) (λ ok. drained-next x there ok m)

    pub drain-breaks-off : (r : Refusal) → code_of first.answer ≡ 0 → (drained first.network).answer ≡ Err r → drained s ≡ refused_as s r
    drain-breaks-off r =
        subst (λ (a : Stepped). code_of a.answer ≡ 0 → (drained a.network).answer ≡ Err r → drained s ≡ refused_as s r)
        (sym (next-is x)) (λ ok. drained-late x there ok r)

    pub drain-fails : (r : Refusal) → first.answer ≡ Err r → drained s ≡ refused_as s r
    drain-fails r = subst (λ (a : Stepped). a.answer ≡ Err r → drained s ≡ refused_as s r) (sym (next-is x)) (drained-stops x there r)

  -- ---- as a whole

  -- refused: nothing happened
  pub drained-refused : code (drained s).answer ≢ 0 → (drained s).network ≡ s
  drained-refused n = by (subst (λ (d : Drained). Alike s s 0 0 d d) (sym (drained-is s g)) (alike s s (suc (load_of s)) s 0 0))
    where
      by : Alike s s 0 0 (drained s) (drained s) → (drained s).network ≡ s
      by (both-done x c e r) = absurd (n (ap (λ (d : Drained). code d.answer) e))
      by (both-refused k e r) = ap (λ (d : Drained). d.network) e

  drains_all : code (drained s).answer ≡ 0 → Drains 0 s (drained s)
  drains_all z =
      subst (Drains 0 s) (sym (drained-is s g))
      (drains (suc (load_of s)) s s 0 g (omega arith) (sym (ap (λ (d : Drained). code d.answer) (drained-is s g)) ∙ z))

  pub drained-deliveries : code (drained s).answer ≡ 0 → Deliveries (counted (drained s).answer) s (drained s).network
  drained-deliveries z =
      let h : Drains 0 s (drained s) = drains_all z in
      subst (λ (m : ℕ). Deliveries m s (drained s).network) (omega (arith, h.counts)) h.deliveries

  -- nothing is in flight to a live panel
  pub drained-still : code (drained s).answer ≡ 0 → first_in (drained s).network ≡ None
  drained-still z = (drains_all z).still

  pub drained-free : code (drained s).answer ≡ 0 → (i j k : ℕ) → i < 7 → j < 7 → k < 4 → Free (drained s).network i j k
  drained-free z = none_found (drained s).network (drained-still z)

  pub drained-kept : Kept s (drained s).network
  drained-kept = by (ℕ_discrete (code (drained s).answer) 0)
    where
      by : Dec (code (drained s).answer ≡ 0) → Kept s (drained s).network
      by (yes z) = deliveries-kept g (drained-deliveries z)
      by (no n) = subst (λ (x : Network). Kept s x) (sym (drained-refused n)) (kept-none s g)

  pub drained-most : counted (drained s).answer ≤ load_of s
  drained-most = by (drained s).answer refl
    where
      by : (a : Result ℕ Refusal) → (drained s).answer ≡ a → counted (drained s).answer ≤ load_of s
      by (Ok m) e = omega (arith, deliveries-fall g (drained-deliveries (ap code e)))
      by (Err r) e = omega (arith, ap counted e)
