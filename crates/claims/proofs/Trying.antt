-- How an answer is shown to be the first trial that applies: one trial at a time, and those of a list behind another; for bytes, and for
-- a step of a network.
-- Assumes nothing.
use Prim.Native.Nat.{ℕ, ◌≤◌}
use mathlib.Core.{Bool.{true, false, not}, List.{List, [], ◌∷◌, ◌++◌}, Logic.{◌⊎◌, inl, inr}, Path.{◌≡◌, refl, sym, ap, ◌∙◌}}
use native.Mathlib.{Decide.ℕ_discrete, Omega.arith}
use lib.ListN.{length}
use borrow.Author.Tests.{lt-ltb, le-ltb, lt-leb, le-leb, not-true, not-false}
use Rattle.std.specs.Prelude.{Result, Ok, Err}
use Rattle.basics.proofs.Choices.{ite-true, ite-false, ite-case, both_true, both-false-left, both-false-right}
use Rattle.basics.{proofs.Refusals.{first-given, first-not, first_past, first_stops, first-none, number-some, code-met}, specs.Choice.ite}
use Rattle.basics.specs.Refusal.{Trial, refuse, first_of, met, and_then, number_of, code}
use Rattle.basics.specs.declared.refused.Refusal.{Refusal, TheVariants.{NotInForm, ChannelFull}}
use Rattle.codec.{proofs.Items.{Whole, Cut, Unknown, Seen, seen}, proofs.Items.Seen.{none, unknown, cut, whole}, specs.Items.Format}
use Rattle.form.{proofs.InForm.{InForm, form_of}, specs.Form.at_writer, specs.declared.Tables.Tables}
use Rattle.refusals.proofs.Refusing.{first-0, peer-0}
use Rattle.refusals.specs.Refusals.{Event, is_peer, first_trials, peer_trials, write_trials, read_trials, write_from_trials, read_from_trials, proceed_from_trials, trials, refusal}
use Rattle.refusals.specs.Refusals.Event.{write, read, write_from, read_from, proceed_from}
use Rattle.panel.specs.{Calls.after, declared.Next.Next}
use Rattle.promise.{proofs.AfterEvents.after-code, proofs.Answers.{write-refusal, read-refusal}, specs.View.code_of}
use Rattle.channels.specs.Posting.{posted_all}
use Rattle.house.specs.{NetForm.net_form, Places.{panel_at, tables_at, row_at}, declared.Network.Network}
use Rattle.steps.proofs.Settling.{code-refused, checked-in-form, checked_refused, tried-case, settled-refused, settled-full, settled-done}
use Rattle.steps.specs.{Steps.{tried, settled, checked}, declared.Stepped.Stepped}
use Rattle.claims.specs.Tried.{First, above, step_trials, item_trials}

-- ---- one trial after another

pub first-of : (ts : List Trial) → First ts (first_of ts)
unfolding first_of
first-of [] = First.none
first-of (t ∷ ts) = ite-case (First (t ∷ ts)) t.given _ _ (λ e. First.here e) (λ e. First.later e (first-of ts))

-- an answer is the refusal's number where the trial applies, and what the others give where it does not
pub tries : {a : ℕ} (t : Trial) (ts : List Trial) → (t.given ≡ true → a ≡ number_of t.refusal) → (t.given ≡ false → a ≡ first_of ts) → a ≡ first_of (t ∷ ts)
unfolding first_of
tries {a} t ts f g = ite-case (λ (k : ℕ). a ≡ k) t.given _ _ f g

-- and 0 where nothing is left to try
pub passes : {a : ℕ} → a ≡ 0 → a ≡ first_of []
passes z = z ∙ sym first-none

-- what is made, or found, where no trial applies
pub given-first : {A : Type 0} (ts : List Trial) (x : A) → code (and_then (met ts) (Ok x)) ≡ first_of ts
given-first ts x = by (met ts) (code-met ts)
  where
    by : (m : Result Unit Refusal) → code m ≡ first_of ts → code (and_then m (Ok x)) ≡ first_of ts
    by (Ok u) e = e
    by (Err r) e = e

-- ---- bytes

-- an answer is the number of the first trial of an item where it is 15, 16 or 0 as the item is of no kind, cut short or whole
pub item-first :
    (f : Format) (s : List ℕ) (at : ℕ) {a : ℕ} → (Unknown f s at → a ≡ 15) → ((length s ≤ at) ⊎ Cut f s at → a ≡ 16) → (Whole f s at → a ≡ 0) →
    a ≡ first_of (item_trials f s at)
unfolding item_trials
item-first f s at {a} no_kind short there = by (seen f s at)
  where
    by : Seen f s at → a ≡ first_of (item_trials f s at)
    by (none h r) =
        short (inl h) ∙ sym (first-not _ _ (both-false-left _ (le-ltb _ _ h)) ∙ first-given _ _ (ite-true _ _ (le-leb _ _ h)))
    by (unknown h k r) = no_kind (record { byte-there = h; no_kind = k }) ∙ sym (first-given _ _ (both_true (lt-ltb _ _ h) (ap not k)))
    by (cut h k l r) =
        short (inr (record { byte-there = h; kind_known = k; body-short = l }))
        ∙ sym (first-not _ _ (both-false-right _ (ap not k)) ∙ first-given _ _ (ite-false _ _ (lt-leb _ _ h) ∙ lt-ltb _ _ l))
    by (whole h k l r) =
        there (record { byte-there = h; kind_known = k; body-there = l })
        ∙ sym (first-not _ _ (both-false-right _ (ap not k)) ∙ first-not _ _ (ite-false _ _ (lt-leb _ _ h) ∙ le-ltb _ _ l) ∙ first-none)

-- ---- an event at a panel of a network: what form and the network's own trials settle is not met

-- what has to be settled besides form
abbrev pub Settled : Tables → Event → Type 0
Settled p (write v) = at_writer p ≡ true
Settled p read = Unit {0}
Settled p (write_from j b v) = is_peer p j ≡ true
Settled p (read_from j) = is_peer p j ≡ true
Settled p (proceed_from j) = is_peer p j ≡ true

module _ (p : Tables) (f : InForm p) where
  past-peer : (j : ℕ) → is_peer p j ≡ true → (us : List Trial) → first_of (peer_trials p 107 j ++ us) ≡ first_of us
  unfolding peer_trials first_trials
  past-peer j h us =
      first_past (peer_trials p 107 j) us
      (sym (peer-0 p 107 j (sym (first-0 p 107 (form_of p f) (omega arith))) h))

  above-six : (e : Event) → Settled p e → refusal p 107 e ≡ first_of (above 6 (trials p 107 e))
  unfolding refusal trials write_trials read_trials write_from_trials read_from_trials proceed_from_trials peer_trials first_trials above ite
  above-six (write v) h = write-refusal p f v ∙ first-not _ _ (ap not h)
  above-six read h = read-refusal p f
  above-six (write_from j b v) h = past-peer j h _
  above-six (read_from j) h = past-peer j h _
  above-six (proceed_from j) h = past-peer j h _

-- ---- a step of a network

abbrev number : Stepped → ℕ
number a = code_of a.answer

-- 2, and then the step's own trials
module _ (s : Network) (own rest : List Trial) (a : Stepped) where
  own_first : (first_of own ≡ 0 → number a ≡ first_of rest) → number (tried own s a) ≡ first_of (own ++ rest)
  own_first h =
      tried-case own s a (λ (x : Stepped). number x ≡ first_of (own ++ rest))
      (λ r e. code-refused r ∙ sym (first_stops own rest _ (number-some r) e))
      (λ z. h z ∙ sym (first_past own rest z))

  pub checked-first :
      (net_form s ≡ true → first_of own ≡ 0 → number a ≡ first_of rest) →
      number (checked s (tried own s a)) ≡ first_of (refuse NotInForm (not (net_form s)) ∷ own ++ rest)
  checked-first h =
      tries _ (own ++ rest) (λ e. ap number (checked_refused s _ (not-true _ e)) ∙ code-refused NotInForm)
      (λ e. ap number (checked-in-form s _ (not-false _ e)) ∙ own_first (h (not-false _ e)))

-- then those of the panel that acts, and 14
module _ (s s₁ : Network) (i : ℕ) (q : Next) (ts : List Trial) (panel : code_of q.answer ≡ first_of ts) where
  settled-first :
      number (settled s s₁ i q) ≡ first_of (ts ++ (refuse ChannelFull (not (posted_all (row_at s₁ i) q.sends).fits) ∷ []))
  settled-first = by (ℕ_discrete (first_of ts) 0)
    where
      by : Dec (first_of ts ≡ 0) → number (settled s s₁ i q) ≡ first_of (ts ++ (refuse ChannelFull (not (posted_all (row_at s₁ i) q.sends).fits) ∷ []))
      by (no n) =
          ap number (settled-refused s s₁ i q (λ z. n (sym panel ∙ z))) ∙ panel ∙ sym (first_stops ts _ _ n refl)
      by (yes z) =
          tries _ [] (λ e. ap number (settled-full s s₁ i q (panel ∙ z) (not-true _ e)) ∙ code-refused ChannelFull)
          (λ e. passes (ap number (settled-done s s₁ i q (panel ∙ z) (not-false _ e)) ∙ panel ∙ z))
          ∙ sym (first_past ts _ z)

module _ (s s₁ : Network) (i : ℕ) (e : Event) (own : List Trial) where
  pub step-first :
      (net_form s ≡ true → first_of own ≡ 0 → InForm (tables_at s i) × Settled (tables_at s i) e) →
      number (checked s (tried own s (settled s s₁ i (after (panel_at s i) e)))) ≡ first_of (step_trials s own s₁ i e)
  unfolding step_trials
  step-first h =
      checked-first s own _ _ λ f z.
      settled-first s s₁ i _ _
      (after-code (panel_at s i) e ∙ above-six (tables_at s i) (h f z).0 e (h f z).1)
