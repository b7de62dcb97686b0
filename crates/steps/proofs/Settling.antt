-- What comes of a step: refused by the first trial that is met, by the panel, or by 14; or done. What holds of each outcome holds of the
-- step; and a step that is not refused is done.
-- Assumes nothing.
use mathlib.Core.{Bool.{Bool, true, false}, List.List, Logic.◌≢◌, Path.{◌≡◌, refl, sym, ap, subst, ◌∙◌}}
use Prim.Native.Nat.{ℕ}
use native.Mathlib.{Decide.ℕ_discrete}
use Rattle.std.specs.Prelude.{Option, Ok, Err, None}
use Rattle.basics.proofs.{Choices.{ite-true, ite-false}, Refusals.{number-some, unless-case, unless-passed, unless-ok, unless-err}}
use Rattle.basics.specs.Refusal.{Trial, first_of, number_of}
use Rattle.basics.specs.declared.refused.Refusal.{Refusal, TheVariants.{NotInForm, ChannelFull}}
use Rattle.events.specs.{Events.Answer, declared.Finished.Finished}
use Rattle.panel.specs.declared.Next.{Next}
use Rattle.promise.{proofs.Happenings.code-ok, specs.View.code_of}
use Rattle.channels.specs.Posting.{posted_all}
use Rattle.house.specs.{NetForm.net_form, Places.{row_at, with_panel, with_row}, declared.Network.Network}
use Rattle.steps.specs.{Steps.{refused_by, tried, settled, checked}, declared.Stepped.Stepped}

-- ---- a refusal's number

pub code-refused : (r : Refusal) → code_of (Err r) ≡ number_of r
unfolding code_of
code-refused r = refl

pub code-nothing : code_of (Ok None) ≡ 0
code-nothing = code-ok None

-- what is refused is not accepted
pub not-refused : {A : Type 0} (r : Refusal) → code_of (Err r) ≡ 0 → A
not-refused r z = absurd (number-some r (sym (code-refused r) ∙ z))

-- what holds of what finishes and of each refusal holds of an answer
pub answer-of : (P : Answer → Type 0) → ((f : Option Finished) → P (Ok f)) → ((r : Refusal) → P (Err r)) → (a : Answer) → P a
answer-of P ok err (Ok f) = ok f
answer-of P ok err (Err r) = err r

-- ---- 2 is tried first

module _ (s : Network) (a : Stepped) where
  pub checked-in-form : net_form s ≡ true → checked s a ≡ a
  unfolding checked
  checked-in-form h = ite-true _ _ h

  pub checked_refused : net_form s ≡ false → checked s a ≡ refused_by s NotInForm
  unfolding checked
  checked_refused h = ite-false _ _ h

-- ---- then the step's own trials

module _ (ts : List Trial) (s : Network) (a : Stepped) where
  pub tried-passed : first_of ts ≡ 0 → tried ts s a ≡ a
  unfolding tried
  tried-passed z = unless-passed ts _ _ z

  pub tried-case : (P : Stepped → Type 0) → ((r : Refusal) → first_of ts ≡ number_of r → P (refused_by s r)) → (first_of ts ≡ 0 → P a) → P (tried ts s a)
  unfolding tried
  tried-case P refused passed = unless-case P ts a (refused_by s) passed refused

  -- refused: the network is as it was, and the number is the first trial's
  pub tried-refused : first_of ts ≢ 0 → ((tried ts s a).network ≡ s) × (code_of (tried ts s a).answer ≡ first_of ts)
  tried-refused n =
      tried-case (λ (x : Stepped). (x.network ≡ s) × (code_of x.answer ≡ first_of ts)) (λ r e. (refl, code-refused r ∙ sym e)) (λ z. absurd (n z))

-- ---- then the panel, and at last 14

-- the panel at place i of s has come to q, and what it sends is in its channels
abbrev pub afterwards : Network → ℕ → Next → Network
afterwards s i q = with_row (with_panel s i q.panel) i (posted_all (row_at s i) q.sends).row

abbrev pub done_by : Network → ℕ → Next → Stepped
done_by s i q = record { network = afterwards s i q; answer = q.answer }

-- the panel accepts, and what it sends finds room
pub record Accepts (s : Network) (i : ℕ) (q : Next) : Type 0 where
  pub code : code_of q.answer ≡ 0
  pub room : (posted_all (row_at s i) q.sends).fits ≡ true

module _ (s s₁ : Network) (i : ℕ) (q : Next) where
  -- refused by the panel
  pub settled-err : (r : Refusal) → q.answer ≡ Err r → settled s s₁ i q ≡ refused_by s r
  unfolding settled
  settled-err r e = unless-err _ _ e

  pub settled-refused : code_of q.answer ≢ 0 → settled s s₁ i q ≡ record { network = s; answer = q.answer }
  settled-refused n = answer-of (λ (a : Answer). q.answer ≡ a → settled s s₁ i q ≡ record { network = s; answer = q.answer })
      (λ f e. absurd (n (ap code_of e ∙ code-ok f))) (λ r e. settled-err r e ∙ ap (λ (a : Answer). record { network = s; answer = a }) (sym e)) q.answer refl

  settled-ok : (f : Option Finished) → q.answer ≡ Ok f → (posted_all (row_at s₁ i) q.sends).fits ≡ true → settled s s₁ i q ≡ done_by s₁ i q
  unfolding settled
  settled-ok f e fit = unless-ok _ _ e ∙ ite-true _ _ fit

  settled-over : (f : Option Finished) → q.answer ≡ Ok f → (posted_all (row_at s₁ i) q.sends).fits ≡ false → settled s s₁ i q ≡ refused_by s ChannelFull
  unfolding settled
  settled-over f e full = unless-ok _ _ e ∙ ite-false _ _ full

  pub settled-full : code_of q.answer ≡ 0 → (posted_all (row_at s₁ i) q.sends).fits ≡ false → settled s s₁ i q ≡ refused_by s ChannelFull
  settled-full z full =
      answer-of (λ (a : Answer). q.answer ≡ a → settled s s₁ i q ≡ refused_by s ChannelFull) (λ f e. settled-over f e full)
      (λ r e. not-refused r (ap code_of (sym e) ∙ z)) q.answer refl

  pub settled-done : code_of q.answer ≡ 0 → (posted_all (row_at s₁ i) q.sends).fits ≡ true → settled s s₁ i q ≡ done_by s₁ i q
  settled-done z fit =
      answer-of (λ (a : Answer). q.answer ≡ a → settled s s₁ i q ≡ done_by s₁ i q) (λ f e. settled-ok f e fit)
      (λ r e. not-refused r (ap code_of (sym e) ∙ z)) q.answer refl

  pub settled_case :
      (P : Stepped → Type 0) → ((r : Refusal) → q.answer ≡ Err r → P (refused_by s r)) → P (refused_by s ChannelFull) →
      (Accepts s₁ i q → P (done_by s₁ i q)) → P (settled s s₁ i q)
  settled_case P refused full done =
      answer-of (λ (a : Answer). q.answer ≡ a → P (settled s s₁ i q)) (λ f e. posted f e (posted_all (row_at s₁ i) q.sends).fits refl)
      (λ r e. subst P (sym (settled-err r e)) (refused r e)) q.answer refl
    where
      posted : (f : Option Finished) → q.answer ≡ Ok f → (b : Bool) → (posted_all (row_at s₁ i) q.sends).fits ≡ b → P (settled s s₁ i q)
      posted f e true t = subst P (sym (settled-ok f e t)) (done (record { code = ap code_of e ∙ code-ok f; room = t }))
      posted f e false t = subst P (sym (settled-over f e t)) full

-- ---- a step that is not refused

-- it passes its trials, and what it comes to is not refused either
pub record Passed (ts : List Trial) (s : Network) (a : Stepped) : Type 0 where
  pub trials : first_of ts ≡ 0
  pub code : code_of a.answer ≡ 0
  pub is : tried ts s a ≡ a

pub tried-accepted : (ts : List Trial) (s : Network) (a : Stepped) → code_of (tried ts s a).answer ≡ 0 → Passed ts s a
tried-accepted ts s a z = by (ℕ_discrete (first_of ts) 0)
  where
    by : Dec (first_of ts ≡ 0) → Passed ts s a
    by (yes e) =
        record { trials = e; code = subst (λ (x : Stepped). code_of x.answer ≡ 0) (tried-passed ts s a e) z; is = tried-passed ts s a e }
    by (no n) = absurd (n (sym (tried-refused ts s a n).1 ∙ z))

pub settled-accepted : (s s₁ : Network) (i : ℕ) (q : Next) → code_of (settled s s₁ i q).answer ≡ 0 → Accepts s₁ i q
settled-accepted s s₁ i q =
    settled_case s s₁ i q (λ (a : Stepped). code_of a.answer ≡ 0 → Accepts s₁ i q) (λ r _. not-refused r) (not-refused ChannelFull) (λ h z. h)

-- a step that a panel takes: its trials passed, the panel accepts, and it is done
pub record Done (ts : List Trial) (s₁ : Network) (i : ℕ) (q : Next) (a : Stepped) : Type 0 where
  pub trials : first_of ts ≡ 0
  pub accepts : Accepts s₁ i q
  pub is : a ≡ done_by s₁ i q

module _ (ts : List Trial) (s s₁ : Network) (i : ℕ) (q : Next) where
  pub step_is : first_of ts ≡ 0 → Accepts s₁ i q → tried ts s (settled s s₁ i q) ≡ done_by s₁ i q
  step_is z a = tried-passed ts s _ z ∙ settled-done s s₁ i q a.code a.room

  pub step-done : code_of (tried ts s (settled s s₁ i q)).answer ≡ 0 → Done ts s₁ i q (tried ts s (settled s s₁ i q))
  step-done ok =
      let p : Passed ts s (settled s s₁ i q) = tried-accepted ts s _ ok in
      let a : Accepts s₁ i q = settled-accepted s s₁ i q p.code in
      record { trials = p.trials; accepts = a; is = step_is p.trials a }
