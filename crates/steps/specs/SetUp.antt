-- Set-up of a network: n fresh panels, nothing in flight, nobody down.
-- Assumes nothing.
use Rattle.std.specs.Prelude.{ℕ, ◌+◌, false, not, [], ◌∷◌, replicate, Result, Ok}
use Rattle.std.specs.Result.{result_unwrap_or}
use Rattle.basics.specs.{Below.list_below, Refusal.{refuse, met, and_then}}
use Rattle.basics.specs.declared.refused.Refusal.{Refusal, TheVariants.{OutOfRange}}
use Rattle.form.specs.Form.{fits}
use Rattle.panel.specs.Calls.{made, nothing}
use Rattle.channels.specs.Channels.{empty_row}
use Rattle.house.specs.declared.Network.{Network}

-- a panel that set-up does not make is all zero
unfoldable pub fresh_network : ℕ → ℕ → ℕ → ℕ → Network
fresh_network n t writer initial =
    record {
      panels = list_below 7 (λ (i : ℕ). result_unwrap_or (made n t writer (i + 1) initial) nothing);
      rows = replicate 7 empty_row;
      down = replicate 7 false;
    }

-- what stands where set-up makes none
abbrev pub no_network : Network
no_network = fresh_network 0 0 0 0

-- 1: "set-up with n, t or writer out of range"
unfoldable pub set_up : ℕ → ℕ → ℕ → ℕ → Result Network Refusal
set_up n t writer initial = and_then (met (refuse OutOfRange (not (fits n t writer)) ∷ [])) (Ok (fresh_network n t writer initial))
