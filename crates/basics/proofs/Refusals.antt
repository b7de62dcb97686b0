-- The laws of refusals tried in order: where the first of them is 0, every test came out false, and the other way round; and what
-- a call answers by them.
-- Assumes nothing.
use mathlib.Core.{Bool.{Bool, true, false}, List.{List, [], ◌∷◌, ◌++◌}, Logic.◌≢◌, Path.{◌≡◌, refl, sym, ap, ◌∙◌}}
use Prim.Native.Nat.{ℕ, ◌<◌}
use native.Mathlib.Omega.{arith}
use lib.Dec.{eqb, lit<}
use Rattle.std.specs.Prelude.{Result, Ok, Err}
use Rattle.basics.specs.{Choice.ite, Refusal.{Trial, first_of, met, unless, and_then, number_of, code}}
use Rattle.basics.specs.declared.refused.Refusal.{Refusal}
use Rattle.basics.specs.declared.refused.Refusal.TheVariants.{OutOfRange, NotInForm, AreaTooShort, NoSuchPanel, PanelDown, NotTheWriter, Unfinished, UsedUp, NothingInFlight}
use Rattle.basics.specs.declared.refused.Refusal.TheVariants.{TooManyDown, StrayWrite, StrayProceed, LineFull, ChannelFull, UnknownKind, CutShort, SetUpMisplaced}
use Rattle.basics.proofs.Choices.{ite-true, ite-false}

-- no test came out true
abbrev pub Passes : List Trial → Type 0
Passes [] = Unit {0}
Passes (t ∷ ts) = (t.given ≡ false) × Passes ts

pub number-low : (r : Refusal) → 0 < number_of r
number-low OutOfRange = lit< tt
number-low NotInForm = lit< tt
number-low AreaTooShort = lit< tt
number-low NoSuchPanel = lit< tt
number-low PanelDown = lit< tt
number-low NotTheWriter = lit< tt
number-low Unfinished = lit< tt
number-low UsedUp = lit< tt
number-low NothingInFlight = lit< tt
number-low TooManyDown = lit< tt
number-low StrayWrite = lit< tt
number-low StrayProceed = lit< tt
number-low LineFull = lit< tt
number-low ChannelFull = lit< tt
number-low UnknownKind = lit< tt
number-low CutShort = lit< tt
number-low SetUpMisplaced = lit< tt

pub number-some : (r : Refusal) → number_of r ≢ 0
number-some r e = let n : 0 < number_of r = number-low r in absurd (omega arith)

pub passed : (ts : List Trial) → first_of ts ≡ 0 → Passes ts
unfolding first_of ite
passed [] e = tt
passed (t ∷ ts) e = go t.given e (passed ts)
  where
    go : (b : Bool) → ite b (number_of t.refusal) (first_of ts) ≡ 0 → (first_of ts ≡ 0 → Passes ts) → (b ≡ false) × Passes ts
    go true z rest = absurd (number-some t.refusal z)
    go false z rest = (refl, rest z)

pub first-given : (t : Trial) (ts : List Trial) → t.given ≡ true → first_of (t ∷ ts) ≡ number_of t.refusal
unfolding first_of
first-given t ts h = ite-true _ _ h

pub first-not : (t : Trial) (ts : List Trial) → t.given ≡ false → first_of (t ∷ ts) ≡ first_of ts
unfolding first_of
first-not t ts h = ite-false _ _ h

-- trials behind others: tried where the others pass, and not where one of them is given
pub first_past : (ts us : List Trial) → first_of ts ≡ 0 → first_of (ts ++ us) ≡ first_of us
unfolding first_of ite
first_past [] us e = refl
first_past (t ∷ ts) us e = go t.given e (first_past ts us)
  where
    go : (b : Bool) → ite b (number_of t.refusal) (first_of ts) ≡ 0 → (first_of ts ≡ 0 → first_of (ts ++ us) ≡ first_of us) → ite b (number_of t.refusal) (first_of (ts ++ us)) ≡ first_of us
    go true z rest = absurd (number-some t.refusal z)
    go false z rest = rest z

pub first_stops : (ts us : List Trial) (k : ℕ) → k ≢ 0 → first_of ts ≡ k → first_of (ts ++ us) ≡ k
unfolding first_of ite
first_stops [] us k n e = absurd (n (sym e))
first_stops (t ∷ ts) us k n e = go t.given e (first_stops ts us k n)
  where
    go : (b : Bool) → ite b (number_of t.refusal) (first_of ts) ≡ k → (first_of ts ≡ k → first_of (ts ++ us) ≡ k) → ite b (number_of t.refusal) (first_of (ts ++ us)) ≡ k
    go true z rest = z
    go false z rest = rest z

pub first-none : first_of [] ≡ 0
unfolding first_of
first-none = refl

-- ---- as a call answers it

-- the number of what is answered
pub code-met : (ts : List Trial) → code (met ts) ≡ first_of ts
unfolding first_of met ite
code-met [] = refl
code-met (t ∷ ts) = go t.given (code-met ts)
  where
    go : (b : Bool) → code (met ts) ≡ first_of ts → code (ite b (Err t.refusal) (met ts)) ≡ ite b (number_of t.refusal) (first_of ts)
    go true e = refl
    go false e = e

pub met-given : (t : Trial) (ts : List Trial) → t.given ≡ true → met (t ∷ ts) ≡ Err t.refusal
unfolding met
met-given t ts h = ite-true _ _ h

pub met-not : (t : Trial) (ts : List Trial) → t.given ≡ false → met (t ∷ ts) ≡ met ts
unfolding met
met-not t ts h = ite-false _ _ h

pub met-none : met [] ≡ Ok tt
unfolding met
met-none = refl

-- trials behind others
pub met-past : (ts us : List Trial) → met ts ≡ Ok tt → met (ts ++ us) ≡ met us
unfolding met ite
met-past [] us e = refl
met-past (t ∷ ts) us e = go t.given e (met-past ts us)
  where
    go : (b : Bool) → ite b (Err t.refusal) (met ts) ≡ Ok tt → (met ts ≡ Ok tt → met (ts ++ us) ≡ met us) → ite b (Err t.refusal) (met (ts ++ us)) ≡ met us
    go true z rest = absurd (number-some t.refusal (ap code z))
    go false z rest = rest z

pub met-stops : (ts us : List Trial) (r : Refusal) → met ts ≡ Err r → met (ts ++ us) ≡ Err r
unfolding met ite
met-stops [] us r e = absurd (number-some r (sym (ap code e)))
met-stops (t ∷ ts) us r e = go t.given e (met-stops ts us r)
  where
    go : (b : Bool) → ite b (Err t.refusal) (met ts) ≡ Err r → (met ts ≡ Err r → met (ts ++ us) ≡ Err r) → ite b (Err t.refusal) (met (ts ++ us)) ≡ Err r
    go true z rest = z
    go false z rest = rest z

-- nothing is met where the number is 0, and else the refusal of that number
pub met-nothing : (ts : List Trial) → first_of ts ≡ 0 → met ts ≡ Ok tt
met-nothing ts z = go (met ts) (code-met ts ∙ z)
  where
    go : (m : Result Unit Refusal) → code m ≡ 0 → m ≡ Ok tt
    go (Ok tt) e = refl
    go (Err r) e = absurd (number-some r e)

pub none-met : (ts : List Trial) → Ok tt ≡ met ts → first_of ts ≡ 0
none-met ts e = sym (code-met ts) ∙ sym (ap code e)

-- what holds where nothing is met, and where a refusal is, holds of what comes of it
pub unless-case {ℓ κ} :
    {A : Type ℓ} (P : A → Type κ) (ts : List Trial) (x : A) (f : Refusal → A) → (first_of ts ≡ 0 → P x) →
    ((r : Refusal) → first_of ts ≡ number_of r → P (f r)) → P (unless (met ts) x f)
unfolding unless
unless-case P ts x f none some = go (met ts) (code-met ts)
  where
    go : (m : Result Unit Refusal) → code m ≡ first_of ts → P (unless m x f)
    go (Ok u) e = none (sym e)
    go (Err r) e = some r (sym e)

pub unless-passed {ℓ} : {A : Type ℓ} (ts : List Trial) (x : A) (f : Refusal → A) → first_of ts ≡ 0 → unless (met ts) x f ≡ x
unless-passed ts x f z = unless-case (λ a. a ≡ x) ts x f (λ _. refl) (λ r e. absurd (number-some r (sym e ∙ z)))

pub unless-ok {ℓ} : {A : Type ℓ} {B : Type 0} {m : Result B Refusal} {b : B} (x : A) (f : Refusal → A) → m ≡ Ok b → unless m x f ≡ x
unfolding unless
unless-ok x f h = rw h

pub unless-err {ℓ} : {A : Type ℓ} {B : Type 0} {m : Result B Refusal} {r : Refusal} (x : A) (f : Refusal → A) → m ≡ Err r → unless m x f ≡ f r
unfolding unless
unless-err x f h = rw h

-- what holds of what comes next, and of what each refusal makes, holds of what comes of an answer
pub answer-case {ℓ κ} :
    {A : Type ℓ} {B : Type 0} (P : A → Type κ) (m : Result B Refusal) (x : A) (f : Refusal → A) → ((b : B) → m ≡ Ok b → P x) →
    ((r : Refusal) → m ≡ Err r → P (f r)) → P (unless m x f)
unfolding unless
answer-case P (Ok b) x f ok err = ok b refl
answer-case P (Err r) x f ok err = err r refl

-- two outcomes of one answer: what holds of both where nothing is refused, and of both that a refusal makes, holds of them
pub unless-two {ℓ κ μ} :
    {A : Type ℓ} {C : Type κ} {B : Type 0} (R : A → C → Type μ) (m : Result B Refusal) (x : A) (u : C) (f : Refusal → A) (g : Refusal → C) →
    ((b : B) → m ≡ Ok b → R x u) → ((r : Refusal) → m ≡ Err r → R (f r) (g r)) → R (unless m x f) (unless m u g)
unfolding unless
unless-two R (Ok b) x u f g ok err = ok b refl
unless-two R (Err r) x u f g ok err = err r refl

-- ---- a number is that of one refusal

with-number : ℕ → Refusal
with-number n =
    ite (eqb n 1) OutOfRange
    (ite (eqb n 2) NotInForm
    (ite (eqb n 3) AreaTooShort
    (ite (eqb n 4) NoSuchPanel
    (ite (eqb n 5) PanelDown
    (ite (eqb n 6) NotTheWriter
    (ite (eqb n 7) Unfinished
    (ite (eqb n 8) UsedUp
    (ite (eqb n 9) NothingInFlight
    (ite (eqb n 10) TooManyDown
    (ite (eqb n 11) StrayWrite
    (ite (eqb n 12) StrayProceed
    (ite (eqb n 13) LineFull
    (ite (eqb n 14) ChannelFull
    (ite (eqb n 15) UnknownKind
    (ite (eqb n 16) CutShort
    SetUpMisplaced)))))))))))))))

with-its-own : (r : Refusal) → with-number (number_of r) ≡ r
unfolding with-number ite
with-its-own OutOfRange = refl
with-its-own NotInForm = refl
with-its-own AreaTooShort = refl
with-its-own NoSuchPanel = refl
with-its-own PanelDown = refl
with-its-own NotTheWriter = refl
with-its-own Unfinished = refl
with-its-own UsedUp = refl
with-its-own NothingInFlight = refl
with-its-own TooManyDown = refl
with-its-own StrayWrite = refl
with-its-own StrayProceed = refl
with-its-own LineFull = refl
with-its-own ChannelFull = refl
with-its-own UnknownKind = refl
with-its-own CutShort = refl
with-its-own SetUpMisplaced = refl

pub number-once : (r q : Refusal) → number_of r ≡ number_of q → r ≡ q
number-once r q e = sym (with-its-own r) ∙ ap with-number e ∙ with-its-own q

-- where the first that applies has a refusal's number, that refusal is met
pub met-some : (ts : List Trial) (r : Refusal) → first_of ts ≡ number_of r → met ts ≡ Err r
met-some ts r e = go (met ts) (code-met ts ∙ e)
  where
    go : (m : Result Unit Refusal) → code m ≡ number_of r → m ≡ Err r
    go (Ok u) z = absurd (number-some r (sym z))
    go (Err q) z = ap Err (number-once q r z)

-- ---- one trial after the other

pub met-cons : (t : Trial) (us : List Trial) → met (t ∷ us) ≡ and_then (met (t ∷ [])) (met us)
unfolding met ite
met-cons t us = go t.given
  where
    go : (b : Bool) → ite b (Err t.refusal) (met us) ≡ and_then (ite b (Err t.refusal) (Ok tt)) (met us)
    go true = refl
    go false = refl

pub met-append : (ts us : List Trial) → met (ts ++ us) ≡ and_then (met ts) (met us)
unfolding met ite
met-append [] us = refl
met-append (t ∷ ts) us = go t.given (met-append ts us)
  where
    go : (b : Bool) → met (ts ++ us) ≡ and_then (met ts) (met us) → ite b (Err t.refusal) (met (ts ++ us)) ≡ and_then (ite b (Err t.refusal) (met ts)) (met us)
    go true e = refl
    go false e = e

-- by which the check itself follows trials that are tried one after the other
pub ruleset in_turn = (met-cons, met-append)
