-- What it is that a contract allows one outcome. `Post` is a function's `ensures` as the checker reads it off the source:
-- of the arguments a, the result x and the parameters at exit e. `left` is what is looked at of e, the lent areas.
-- Assumes nothing.
use Rattle.std.specs.Prelude.{ℕ}
use mathlib.Core.{List.List, Path.◌≡◌}
use contract.Lifetimes.{Lfts}
use denote.Triple.Clauses.{AtExit}
use borrow.Fn.Kinds.{ParamKind, ResultKind, Out, Dens, res_t, ended_of}

-- any two results that the contract allows at the same arguments are equal
abbrev pub OneResult : (n : ℕ) (ps : List (ParamKind n)) (r : ResultKind n) → Out n ps r → Type 0
OneResult n ps r Post =
    (κs : Lfts n) (a : Dens κs ps) (x y : (res_t r κs).Denot) (e f : AtExit (ended_of n ps r) κs) → Post κs a x e → Post κs a y f → x ≡ y

-- and so is what any two of them leave in the lent areas
abbrev pub OneOutcome : (n : ℕ) (ps : List (ParamKind n)) (r : ResultKind n) {A : Type 0} → ((κs : Lfts n) → AtExit (ended_of n ps r) κs → A) → Out n ps r → Type 0
OneOutcome n ps r left Post =
    (κs : Lfts n) (a : Dens κs ps) (x y : (res_t r κs).Denot) (e f : AtExit (ended_of n ps r) κs) →
    Post κs a x e → Post κs a y f → (x ≡ y) × (left κs e ≡ left κs f)
