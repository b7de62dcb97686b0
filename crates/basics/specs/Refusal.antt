-- Refusals: the number of each, and trials in order. The first trial that comes out true says which refusal it is.
-- Assumes nothing.
use Rattle.std.specs.Prelude.{ℕ, Result, Ok, Err}
use mathlib.Core.{Bool.Bool, List.{List, [], ◌∷◌}}
use Rattle.basics.specs.Choice.{ite}
use Rattle.basics.specs.declared.refused.Refusal.{Refusal}
use Rattle.basics.specs.declared.refused.Refusal.TheVariants.{OutOfRange, NotInForm, AreaTooShort, NoSuchPanel, PanelDown, NotTheWriter, Unfinished, UsedUp, NothingInFlight}
use Rattle.basics.specs.declared.refused.Refusal.TheVariants.{TooManyDown, StrayWrite, StrayProceed, LineFull, ChannelFull, UnknownKind, CutShort, SetUpMisplaced}

-- the description's list
abbrev pub number_of : Refusal → ℕ
number_of OutOfRange = 1
number_of NotInForm = 2
number_of AreaTooShort = 3
number_of NoSuchPanel = 4
number_of PanelDown = 5
number_of NotTheWriter = 6
number_of Unfinished = 7
number_of UsedUp = 8
number_of NothingInFlight = 9
number_of TooManyDown = 10
number_of StrayWrite = 11
number_of StrayProceed = 12
number_of LineFull = 13
number_of ChannelFull = 14
number_of UnknownKind = 15
number_of CutShort = 16
number_of SetUpMisplaced = 17

-- the number of what a call answers: the refusal's, and 0 where there is none
abbrev pub code : {A : Type 0} → Result A Refusal → ℕ
code (Ok x) = 0
code (Err r) = number_of r

pub record Trial : Type 0 where
  pub refusal : Refusal
  pub given : Bool

abbrev pub refuse : Refusal → Bool → Trial
refuse r b = record { refusal = r; given = b }

-- the number of the first that applies, 0 where none does
unfoldable pub first_of : List Trial → ℕ
first_of [] = 0
first_of (t ∷ ts) = ite t.given (number_of t.refusal) (first_of ts)

-- the first that applies, as a call answers it
unfoldable pub met : List Trial → Result Unit Refusal
met [] = Ok tt
met (t ∷ ts) = ite t.given (Err t.refusal) (met ts)

-- x where nothing is refused, and else what the refusal makes
unfoldable pub unless {ℓ} : {A : Type ℓ} {B : Type 0} → Result B Refusal → A → (Refusal → A) → A
unless (Ok b) x f = x
unless (Err r) x f = f r

-- what comes next where nothing is met, and else the refusal
abbrev pub and_then : {A : Type 0} → Result Unit Refusal → Result A Refusal → Result A Refusal
and_then (Ok u) m = m
and_then (Err r) m = Err r
