-- A record of a schedule is first read (15, 16), then placed (17), and then tried as the call that it is: the answer on its line.
-- Assumes nothing.
use Prim.Native.Nat.{ℕ, ◌-◌}
use mathlib.Core.{Bool.{Bool, true, false, not}, List.{List, [], ◌∷◌, ◌++◌}, Path.{◌≡◌, refl, sym, ap, subst, ◌∙◌}}
use lib.Dec.{eqb}
use borrow.Author.Tests.{eqb-true, eqb-false, not-true, not-false}
use Rattle.std.specs.Prelude.{Result, Ok, Err}
use Rattle.basics.{proofs.Choices.{ite-true, ite-false}, proofs.Refusals.{first-not, number-some}, specs.Choice.ite}
use Rattle.basics.specs.{Refusal.{Trial, refuse, first_of, number_of, code}, declared.refused.Refusal.Refusal}
use Rattle.basics.specs.declared.refused.Refusal.TheVariants.{OutOfRange, UnknownKind, CutShort, SetUpMisplaced}
use Rattle.schedule.specs.declared.{Record.Record, Taken.Taken, Unread.Unread}
use Rattle.text.specs.declared.Line.{Line}
use Rattle.form.specs.Form.{fits}
use Rattle.promise.specs.View.{code_of}
use Rattle.house.specs.declared.Network.{Network}
use Rattle.steps.{proofs.AtStart.{set-up-taken, set-up-refused}, specs.SetUp.set_up, specs.declared.Stepped.Stepped}
use Rattle.listing.specs.Entries.{entry, unread, told, stepped, entries, later, first_set_up, first, all}
use Rattle.claims.specs.Tried.{Call, read_number, answer_of, trials_of, First}
use Rattle.claims.proofs.{InOrder.answers, Trying.{first-of, tries, passes}}

-- the answer on the first of some lines
unfoldable pub head_answer : List Line → ℕ
head_answer [] = 0
head_answer (l ∷ ls) = l.answer

-- the call that a record after the set-up is, a drain excepted
unfoldable pub call_of : Network → Record → Call
call_of s r =
    ite (eqb r.kind 1) (Call.write s r.value)
    (ite (eqb r.kind 2) (Call.read s r.a)
    (ite (eqb r.kind 7) (Call.lose s r.a) (Call.deliver s (r.kind - 3) r.a r.b)))

-- the record that was read; one that was not has its kind, and is zero else
unfoldable pub record_in : Result Taken Unread → Record
record_in (Ok t) = t.«record»
record_in (Err u) = record { kind = u.kind; a = 0; b = 0; c = 0; value = 0 }

unfoldable pub first_record_trials : Result Taken Unread → List Trial
first_record_trials q =
    let r : Record = record_in q in
    refuse UnknownKind (eqb (read_number q) 15)
    ∷ refuse CutShort (eqb (read_number q) 16)
    ∷ refuse SetUpMisplaced (not (eqb r.kind 0))
    ∷ refuse OutOfRange (not (fits r.a r.b r.c))
    ∷ []

unfoldable pub later_record_trials : Network → Result Taken Unread → List Trial
later_record_trials s q =
    let r : Record = record_in q in
    refuse UnknownKind (eqb (read_number q) 15)
    ∷ refuse CutShort (eqb (read_number q) 16)
    ∷ refuse SetUpMisplaced (eqb r.kind 0)
    ∷ trials_of (call_of s r)

-- what reading answers (schedule/proofs/Laws refused-only)
abbrev pub ReadOr : Result Taken Unread → Type 0
ReadOr q = (read_number q ≡ 15 → ⊥) → (read_number q ≡ 16 → ⊥) → read_number q ≡ 0

-- 15 and 16, and then the others
abbrev read_trials : Result Taken Unread → List Trial → List Trial
read_trials q ts = refuse UnknownKind (eqb (read_number q) 15) ∷ refuse CutShort (eqb (read_number q) 16) ∷ ts

unread-first : (u : Unread) (ts : List Trial) → ReadOr (Err u) → number_of u.refusal ≡ first_of (read_trials (Err u) ts)
unfolding read_number
unread-first u ts h =
    tries _ _ (λ e. eqb-true _ _ e) λ e15.
    tries _ ts (λ e. eqb-true _ _ e) (λ e16. absurd (number-some u.refusal (h (eqb-false _ _ e15) (eqb-false _ _ e16))))

taken-first : (t : Taken) (ts : List Trial) → first_of (read_trials (Ok t) ts) ≡ first_of ts
unfolding read_number
taken-first t ts = first-not _ _ refl ∙ first-not _ _ refl

module _ (r : Record) (qs : List (Result Taken Unread)) where
  other-head : eqb r.kind 0 ≡ false → head_answer (first r qs) ≡ 17
  unfolding first head_answer entry
  other-head e = ap head_answer (ite-false _ _ e)

  of_set-up : (m : Result Network Refusal) → head_answer (first_set_up m r qs) ≡ code m
  unfolding first_set_up head_answer entry
  of_set-up (Ok s) = refl
  of_set-up (Err x) = refl

  set-up-head : {m : Result Network Refusal} → eqb r.kind 0 ≡ true → set_up r.a r.b r.c r.value ≡ m → head_answer (first r qs) ≡ code m
  unfolding first
  set-up-head {m} e f =
      ap head_answer (ite-true _ _ e) ∙ ap (λ (x : Result Network Refusal). head_answer (first_set_up x r qs)) f ∙ of_set-up m

first-answer : (q : Result Taken Unread) (qs : List (Result Taken Unread)) → ReadOr q → head_answer (all (q ∷ qs)) ≡ first_of (first_record_trials q)
unfolding first_record_trials record_in all head_answer unread
first-answer (Err u) qs h = unread-first u _ h
first-answer (Ok t) qs h =
    tries _ _ (λ e. other-head _ qs (not-true _ e))
    (λ e. tries _ [] (λ f. set-up-head _ qs (not-false _ e) (set-up-refused _ _ _ _ (not-true _ f)))
    (λ f. passes (set-up-head _ qs (not-false _ e) (set-up-taken _ _ _ _ (not-false _ f)))))
    ∙ sym (taken-first t _)

pub first-record-in-order :
    (q : Result Taken Unread) (qs : List (Result Taken Unread)) → ReadOr q → First (first_record_trials q) (head_answer (all (q ∷ qs)))
first-record-in-order q qs h = subst (First (first_record_trials q)) (sym (first-answer q qs h)) (first-of (first_record_trials q))

-- ---- after the set-up

pick :
    (b : Bool) (x y : Stepped) (c d : Call) → code_of x.answer ≡ answer_of c → code_of y.answer ≡ answer_of d →
    code_of (ite b x y).answer ≡ answer_of (ite b c d)
unfolding ite
pick true x y c d e f = e
pick false x y c d e f = f

step-answer : (s : Network) (r : Record) → code_of (stepped s r).answer ≡ answer_of (call_of s r)
unfolding stepped call_of answer_of
step-answer s r =
    pick (eqb r.kind 1) _ _ (Call.write s r.value) _ refl
    (pick (eqb r.kind 2) _ _ (Call.read s r.a) _ refl
    (pick (eqb r.kind 7) _ _ (Call.lose s r.a) (Call.deliver s (r.kind - 3) r.a r.b) refl refl))

module _ (s : Network) (r : Record) (rest : List Line) where
  set-up-later : eqb r.kind 0 ≡ true → head_answer (entries s r ++ rest) ≡ 17
  unfolding entries head_answer entry
  set-up-later e = ap (λ (xs : List Line). head_answer (xs ++ rest)) (ite-true _ _ e)

  step-later : eqb r.kind 0 ≡ false → eqb r.kind 8 ≡ false → head_answer (entries s r ++ rest) ≡ code_of (stepped s r).answer
  unfolding entries head_answer entry told
  step-later e f = ap (λ (xs : List Line). head_answer (xs ++ rest)) (ite-false _ _ e ∙ ite-false _ _ f)

module _ (s : Network) where
  later-answer :
      (q : Result Taken Unread) (qs : List (Result Taken Unread)) → ReadOr q → eqb (record_in q).kind 8 ≡ false →
      head_answer (later s (q ∷ qs)) ≡ first_of (later_record_trials s q)
  unfolding later_record_trials record_in later head_answer unread
  later-answer (Err u) qs h f = unread-first u _ h
  later-answer (Ok t) qs h f =
      tries _ _ (λ e. set-up-later s t.«record» _ e)
      (λ e. step-later s t.«record» _ e f ∙ step-answer s t.«record» ∙ answers (call_of s t.«record»))
      ∙ sym (taken-first t _)

  pub later-record-in-order :
      (q : Result Taken Unread) (qs : List (Result Taken Unread)) → ReadOr q → eqb (record_in q).kind 8 ≡ false →
      First (later_record_trials s q) (head_answer (later s (q ∷ qs)))
  later-record-in-order q qs h f = subst (First (later_record_trials s q)) (sym (later-answer q qs h f)) (first-of (later_record_trials s q))
