-- Each step of a run: what it keeps, how it moves the counts, and which refusals it may be given.
-- Assumes nothing.
use Prim.Native.Nat.{ℕ, ◌-◌, ◌≤◌}
use mathlib.Core.{List.{List, [], ◌∷◌}, Logic.◌≢◌, Path.{◌≡◌, refl, sym, ap, subst, ◌∙◌}}
use native.Mathlib.Omega.{arith}
use Rattle.basics.{proofs.Choices.ite-case, specs.Refusal.{Trial, first_of, number_of}, specs.declared.refused.Refusal.Refusal}
use Rattle.refusals.specs.Refusals.Event.{write, read}
use Rattle.events.specs.Events.{Answer}
use Rattle.panel.specs.{Calls.after, declared.Next.Next}
use Rattle.promise.{proofs.AfterEvents.after-code, proofs.Answers.{write-refusal, read-refusal}, proofs.Happenings.code-ok, specs.View.code_of}
use Rattle.house.specs.{Places.{panel_at, writer_of}, declared.Network.Network}
use Rattle.steps.proofs.{Networks.writer-place, Passing.{MayRead, may_write, may_read, may-deliver}}
use Rattle.steps.proofs.Settling.{code-refused, code-nothing, answer-of, tried-passed, tried-case, settled-err}
use Rattle.steps.specs.Steps.{write_trials, read_trials, deliver_trials, lose_trials, write_in, read_in, deliver_in, lose_in, refused_by, tried, settled}
use Rattle.steps.specs.declared.Stepped.{Stepped}
use Rattle.runs.specs.Claims.{Ordinary}
use Rattle.runs.proofs.{Accepting.{write-ok, read_ok, deliver-ok}, Holding.Holds}

-- ---- refusals

-- what holds of 0 and of each number tried holds of the refusal
abbrev Each : (ℕ → Type 0) → List Trial → Type 0
Each P [] = Unit {0}
Each P (t ∷ ts) = P (number_of t.refusal) × Each P ts

first-of : (P : ℕ → Type 0) (ts : List Trial) → P 0 → Each P ts → P (first_of ts)
unfolding first_of
first-of P [] z e = z
first-of P (t ∷ ts) z e = ite-case P t.given _ _ (λ _. e.0) (λ _. first-of P ts z e.1)

ordinary : (k : ℕ) → k ≤ 10 → k ≢ 2 → Ordinary k
ordinary k h d = record { no_2 = d; no_11 = λ e. omega arith; no_12 = λ e. omega arith; no_13 = λ e. omega arith; no_14 = λ e. omega arith }

abbrev ok : (k : ℕ) → Type 0
ok k = (k ≤ 10) × (k ≢ 2)

pub ordinary-0 : Ordinary 0
ordinary-0 = ordinary 0 (omega arith) (λ e. omega arith)

-- accepted, or refused as it may be with nothing changed
pub data Judged (s : Network) (a : Stepped) : Type 0 where
  accepted : code_of a.answer ≡ 0 → Judged s a
  refused : (r : Refusal) → a ≡ refused_by s r → Ordinary (number_of r) → Judged s a

zero_ok : ok 0
zero_ok = (omega arith, λ e. omega arith)

-- refused with a number that may be given
refused-ok : (s : Network) (r : Refusal) (k : ℕ) → k ≡ number_of r → ok k → Judged s (refused_by s r)
refused-ok s r k e z = refused r refl (subst Ordinary e (ordinary k z.0 z.1))

-- a step whose trials pass only where it is accepted
by-trials :
    (ts : List Trial) (s : Network) (a : Stepped) → Each ok ts → (first_of ts ≡ 0 → code_of (tried ts s a).answer ≡ 0) → Judged s (tried ts s a)
by-trials ts s a numbers passes =
    tried-case ts s a (Judged s) (λ r e. refused-ok s r (first_of ts) e (first-of ok ts zero_ok numbers))
    (λ z. accepted (subst (λ (x : Stepped). code_of x.answer ≡ 0) (tried-passed ts s a z) (passes z)))

-- a start, which the panel may refuse too
by-panel :
    (ts : List Trial) (s : Network) (p : ℕ) (q : Next) → Each ok ts → (first_of ts ≡ 0 → ok (code_of q.answer)) →
    (first_of ts ≡ 0 → code_of q.answer ≡ 0 → code_of (tried ts s (settled s s p q)).answer ≡ 0) → Judged s (tried ts s (settled s s p q))
by-panel ts s p q numbers few passes =
    tried-case ts s (settled s s p q) (Judged s) (λ r e. refused-ok s r (first_of ts) e (first-of ok ts zero_ok numbers)) λ z.
    answer-of (λ (a : Answer). q.answer ≡ a → Judged s (settled s s p q))
    (λ f e. accepted (subst (λ (x : Stepped). code_of x.answer ≡ 0) (tried-passed ts s _ z) (passes z (ap code_of e ∙ code-ok f))))
    (λ r e. subst (Judged s) (sym (settled-err s s p q r e)) (refused-ok s r (code_of q.answer) (ap code_of e ∙ code-refused r) (few z))) q.answer refl

-- the numbers below that are tried
ok-4 : ok 4
ok-4 = (omega arith, λ e. omega arith)

ok-5 : ok 5
ok-5 = (omega arith, λ e. omega arith)

ok-6 : ok 6
ok-6 = (omega arith, λ e. omega arith)

ok-7 : ok 7
ok-7 = (omega arith, λ e. omega arith)

ok-8 : ok 8
ok-8 = (omega arith, λ e. omega arith)

ok-9 : ok 9
ok-9 = (omega arith, λ e. omega arith)

ok-10 : ok 10
ok-10 = (omega arith, λ e. omega arith)

-- ---- the steps of a network that holds

module _ (s : Network) (h : Holds s) where
  pub write-judged : (v : ℕ) → Judged s (write_in s v)
  unfolding write_in write_trials
  write-judged v =
      by-panel (write_trials s) s (writer_of s - 1) (after (panel_at s (writer_of s - 1)) (write v)) (ok-5, tt)
      (λ _. subst ok (sym (after-code (panel_at s (writer_of s - 1)) (write v)
      ∙ write-refusal _ (h.good.form.member (writer_of s - 1) (writer-place s h.good)).in-form v))
      (first-of ok _ zero_ok (ok-6, (ok-7, (ok-8, tt)))))
      (λ z c. write-ok s h v ((may_write s).0 z) (sym (after-code (panel_at s (writer_of s - 1)) (write v)) ∙ c))

  pub deliver-judged : (k i j : ℕ) → Judged s (deliver_in s k i j)
  unfolding deliver_in deliver_trials
  deliver-judged k i j =
      by-trials (deliver_trials s k i j) s _ (ok-4, (ok-5, (ok-9, tt))) (λ z. deliver-ok s h k i j ((may-deliver s k i j).0 z))

  pub lose-judged : (i : ℕ) → Judged s (lose_in s i)
  unfolding lose_in lose_trials
  lose-judged i =
      by-trials (lose_trials s i) s _ (ok-4, (ok-5, (ok-10, tt)))
      (λ z. ap (λ (a : Stepped). code_of a.answer) (tried-passed (lose_trials s i) s _ z) ∙ code-nothing)

  -- a read of a panel that is none is refused 4, so the panel's own refusals come from a panel in form
  pub read-judged : (i : ℕ) → Judged s (read_in s i)
  unfolding read_in read_trials
  read-judged i =
      by-panel (read_trials s i) s (i - 1) (after (panel_at s (i - 1)) read) (ok-4, (ok-5, tt))
      (λ z.
      let m : MayRead s i = (may_read s i).0 z in
      subst ok (sym (after-code (panel_at s (i - 1)) read
      ∙ read-refusal _ (h.good.form.member (i - 1) (omega (arith, m.low, m.high))).in-form))
      (first-of ok _ zero_ok (ok-7, (ok-8, tt))))
      (λ z c. read_ok s h i ((may_read s i).0 z) (sym (after-code (panel_at s (i - 1)) read) ∙ c))
