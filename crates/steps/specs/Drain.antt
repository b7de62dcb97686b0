-- "A drain delivers the first message in flight to a live panel .. and repeats until there is none. Its answer counts its deliveries.
-- If a delivery within it is refused, the whole drain is refused with that number."
-- Assumes nothing.
use Rattle.std.specs.Prelude.{ℕ, zero, suc, ◌+◌, Result, Ok, Err}
use Rattle.basics.specs.{Choice.{ite, some_or}, Refusal.unless, declared.refused.Refusal.Refusal, declared.refused.Refusal.TheVariants.NotInForm}
use Rattle.house.specs.{NetForm.net_form, Search.first_in, declared.InFlight.InFlight, declared.Network.Network}
use Rattle.steps.specs.{Numbers.load_of, Steps.deliver_in, declared.Drained.Drained, declared.Stepped.Stepped}

abbrev pub drained_to : Network → ℕ → Drained
drained_to s m = record { network = s; answer = Ok m }

abbrev pub refused_as : Network → Refusal → Drained
refused_as s r = record { network = s; answer = Err r }

-- the deliveries that a drain counts: none where it is refused
abbrev pub counted : Result ℕ Refusal → ℕ
counted (Ok m) = m
counted (Err r) = 0

-- the delivery of a message in flight
unfoldable pub next_in : Network → InFlight → Stepped
next_in s x = deliver_in s x.kind x.sender x.receiver

-- a drain of s₀ that has come to s by m deliveries, with at most f more: f is a number that does not run out (proofs/Draining)
unfoldable pub drain_by : ℕ → Network → Network → ℕ → Drained
drain_by zero s₀ s m = drained_to s m
drain_by (suc f) s₀ s m =
    some_or (first_in s)
    (λ (x : InFlight). unless (next_in s x).answer (drain_by f s₀ (next_in s x).network (m + 1)) (refused_as s₀))
    (drained_to s m)

unfoldable pub drain_in : Network → Drained
drain_in s = drain_by (suc (load_of s)) s s 0

unfoldable pub drained : Network → Drained
drained s = ite (net_form s) (drain_in s) (refused_as s NotInForm)
