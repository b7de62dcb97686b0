-- What a network's call comes to for a caller in another language: bytes with the next network and, behind it, the answer.
-- Assumes nothing.
use Rattle.std.specs.Prelude.{ℕ, List, [], ◌∷◌, ◌++◌, Option, Some, None, Result, Ok, Err}
use Rattle.basics.specs.{Refusal.{number_of, code}, declared.refused.Refusal.Refusal}
use Rattle.house.specs.declared.InFlight.{InFlight}
use Rattle.steps.specs.declared.{Drained.Drained, Stepped.Stepped}
use Rattle.conveyed.specs.Networks.{network_bytes}
use Rattle.compared.specs.Reported.{answer_bytes}

unfoldable pub stepped_bytes : Stepped → List ℕ
stepped_bytes o = network_bytes o.network ++ answer_bytes o.answer

-- the refusal's number or 0; the count is the call's own result
unfoldable pub drained_bytes : Drained → List ℕ
drained_bytes o = network_bytes o.network ++ (code o.answer ∷ [])

-- whether there is a message, its sender, receiver and kind
unfoldable pub found_bytes : Option InFlight → List ℕ
found_bytes None = 0 ∷ 0 ∷ 0 ∷ 0 ∷ []
found_bytes (Some x) = 1 ∷ x.sender ∷ x.receiver ∷ x.kind ∷ []

-- a search leaves no network: the refusal's number or 0, and what is found
unfoldable pub sought_bytes : Result (Option InFlight) Refusal → List ℕ
sought_bytes (Ok found) = 0 ∷ found_bytes found
sought_bytes (Err r) = number_of r ∷ found_bytes None
