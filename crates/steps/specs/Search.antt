-- The search as a call: 2 is tried first.
-- Assumes nothing.
use Rattle.std.specs.Prelude.{not, [], ◌∷◌, Option, Result, Ok}
use Rattle.basics.specs.Refusal.{refuse, met, and_then}
use Rattle.basics.specs.declared.refused.Refusal.{Refusal, TheVariants.{NotInForm}}
use Rattle.house.specs.{NetForm.net_form, Search.first_in, declared.InFlight.InFlight, declared.Network.Network}

unfoldable pub sought : Network → Result (Option InFlight) Refusal
sought s = and_then (met (refuse NotInForm (not (net_form s)) ∷ [])) (Ok (first_in s))
