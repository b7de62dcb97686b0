-- The records of a schedule from a place on: none at its end, else the one that stands there and, if it is accepted, those behind it.
-- No more of them than bytes.
-- Assumes nothing.
use mathlib.Core.{Bool.{Bool, true, false}, List.{List, [], ◌∷◌}, Path.{◌≡◌, refl, sym, ap, ◌∙◌}}
use Prim.Native.Nat.{ℕ, zero, suc, ◌+◌, ◌≤◌, ◌<◌}
use native.Mathlib.Omega.{arith}
use lib.{Dec.ltb, ListN.length}
use borrow.Author.Tests.{ltb-true, ltb-false, lt-ltb, le-ltb}
use Rattle.std.specs.Prelude.{Result, Ok, Err}
use Rattle.basics.{proofs.Choices.{ite-true, ite-false, ite-case}}
use Rattle.codec.specs.Items.{size_of}
use Rattle.schedule.{proofs.Laws.{accepted-used, accepted-within}, specs.Records.reading, specs.declared.Taken.Taken, specs.declared.Unread.Unread}
use Rattle.listing.specs.Reads.{if_taken, reads_from}

-- what is read
abbrev pub Reading : Type 0
Reading = Result Taken Unread

-- what holds of a record and of each refusal holds of what is read
pub read_case {κ} : (P : Reading → Type κ) → ((t : Taken) → P (Ok t)) → ((u : Unread) → P (Err u)) → (q : Reading) → P q
read_case P ok err (Ok t) = ok t
read_case P ok err (Err u) = err u

pub taken-some : {A : Type 0} {q : Reading} {t : Taken} (f : Taken → List A) → q ≡ Ok t → if_taken q f ≡ f t
unfolding if_taken
taken-some f e = rw e

pub taken-none : {A : Type 0} {q : Reading} {u : Unread} (f : Taken → List A) → q ≡ Err u → if_taken q f ≡ []
unfolding if_taken
taken-none f e = rw e

-- ---- one record

module _ (bytes : List ℕ) (at : ℕ) (t : Taken) (ok : reading bytes at ≡ Ok t) where
  -- an accepted record has a byte
  used-some : 1 ≤ t.used
  unfolding size_of
  used-some = omega (arith, accepted-used bytes at t ok)

  -- and all of it stands in the schedule
  pub used-within : at + t.used ≤ length bytes
  used-within = accepted-within bytes at t ok

-- ---- from a place on

abbrev pub reads_at : List ℕ → ℕ → List Reading
reads_at bytes at = reads_from (length bytes) bytes at

module _ (bytes : List ℕ) where
  -- the record at place at, and behind it what f gives if it is accepted
  abbrev before : ℕ → (Taken → List Reading) → List Reading
  before at f = reading bytes at ∷ if_taken (reading bytes at) f

  before-alike : (at : ℕ) (f g : Taken → List Reading) → ((t : Taken) → reading bytes at ≡ Ok t → f t ≡ g t) → before at f ≡ before at g
  before-alike at f g same =
      read_case (λ (q : Reading). reading bytes at ≡ q → before at f ≡ before at g)
      (λ t e. ap (λ (l : List Reading). reading bytes at ∷ l) (taken-some f e ∙ same t e ∙ sym (taken-some g e)))
      (λ u e. ap (λ (l : List Reading). reading bytes at ∷ l) (taken-none f e ∙ sym (taken-none g e)))
      (reading bytes at) refl

  from_end : (f at : ℕ) → length bytes ≤ at → reads_from f bytes at ≡ []
  unfolding reads_from
  from_end zero at h = refl
  from_end (suc f) at h = ite-false _ _ (le-ltb _ _ h)

  from-record : (f at : ℕ) → at < length bytes → reads_from (suc f) bytes at ≡ before at (λ (t : Taken). reads_from f bytes (at + t.used))
  unfolding reads_from
  from-record f at h = ite-true _ _ (lt-ltb _ _ h)

  -- what is enough to read all gives the same
  enough : (f g at : ℕ) → length bytes ≤ at + f → length bytes ≤ at + g → reads_from f bytes at ≡ reads_from g bytes at
  enough zero g at hf hg = from_end 0 at (omega arith) ∙ sym (from_end g at (omega arith))
  enough (suc f) zero at hf hg = from_end (suc f) at (omega arith) ∙ sym (from_end 0 at (omega arith))
  enough (suc f) (suc g) at hf hg = by (ltb at (length bytes)) refl (λ t. enough f g (at + t.used))
    where
      by :
          (b : Bool) → ltb at (length bytes) ≡ b →
          ((t : Taken) → length bytes ≤ at + t.used + f → length bytes ≤ at + t.used + g → reads_from f bytes (at + t.used) ≡ reads_from g bytes (at + t.used)) →
          reads_from (suc f) bytes at ≡ reads_from (suc g) bytes at
      by true e lower =
          let h : at < length bytes = ltb-true _ _ e in
          from-record f at h
          ∙ before-alike at _ _ (λ t ok. lower t (omega (arith, used-some bytes at t ok)) (omega (arith, used-some bytes at t ok)))
          ∙ sym (from-record g at h)
      by false e lower = let h : length bytes ≤ at = ltb-false _ _ e in from_end (suc f) at h ∙ sym (from_end (suc g) at h)

  pub reads_end : (at : ℕ) → length bytes ≤ at → reads_at bytes at ≡ []
  reads_end at h = from_end (length bytes) at h

  reads-record : (n at : ℕ) → length bytes ≡ n → at < n → reads_at bytes at ≡ before at (λ (t : Taken). reads_at bytes (at + t.used))
  reads-record zero at e h = absurd (omega arith)
  reads-record (suc m) at e h =
      ap (λ (n : ℕ). reads_from n bytes at) e
      ∙ from-record m at (omega arith)
      ∙ before-alike at _ _ (λ t ok. enough m (length bytes) (at + t.used) (omega (arith, used-some bytes at t ok)) (omega arith))

  module _ (at : ℕ) (h : at < length bytes) where
    pub reads-next : (t : Taken) → reading bytes at ≡ Ok t → reads_at bytes at ≡ Ok t ∷ reads_at bytes (at + t.used)
    reads-next t ok =
        reads-record (length bytes) at refl h
        ∙ ap (λ (l : List Reading). reading bytes at ∷ l) (taken-some _ ok)
        ∙ ap (λ (q : Reading). q ∷ reads_at bytes (at + t.used)) ok

    pub reads-last : (u : Unread) → reading bytes at ≡ Err u → reads_at bytes at ≡ Err u ∷ []
    reads-last u bad =
        reads-record (length bytes) at refl h
        ∙ ap (λ (l : List Reading). reading bytes at ∷ l) (taken-none _ bad)
        ∙ ap (λ (q : Reading). q ∷ []) bad

-- ---- how many

pub reads-most : (f : ℕ) (bytes : List ℕ) (at : ℕ) → length (reads_from f bytes at) ≤ f
unfolding reads_from if_taken
reads-most zero bytes at = omega arith
reads-most (suc f) bytes at =
    ite-case (λ (l : List Reading). length l ≤ suc f) (ltb at (length bytes)) _ _
    (λ _.
    read_case (λ (q : Reading). length (q ∷ if_taken q (λ (t : Taken). reads_from f bytes (at + t.used))) ≤ suc f)
    (λ t. omega (arith, reads-most f bytes (at + t.used)))
    (λ u. omega arith)
    (reading bytes at))
    (λ _. omega arith)
