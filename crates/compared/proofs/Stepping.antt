-- What a call of a network leaves, out of what its parts do; one law for every step.
-- Assumes nothing.
use mathlib.Core.{Bool.{Bool, true}, List.{List, ◌++◌}, Path.{◌≡◌, refl, ap, ◌∙◌}}
use Prim.Native.Nat.{ℕ}
use lib.Seq.{sets}
use Rattle.std.specs.Prelude.{false, replicate, Result, Ok, Err}
use Rattle.std.specs.Result.{result_unwrap_or}
use Rattle.basics.specs.{Below.list_below, Choice.{ite, both}, Refusal.met, declared.refused.Refusal.Refusal}
use Rattle.form.specs.Form.{fits, is_panel}
use Rattle.panel.specs.Calls.{made, nothing, set_up_trials}
use Rattle.channels.specs.Channels.{empty_row}
use Rattle.house.specs.declared.Network.{Network}
use Rattle.steps.specs.{Drain.{counted, drained}, SetUp.{fresh_network, no_network, set_up}, declared.Drained.Drained}
use Rattle.carried.{proofs.Rows.laid_then, specs.Laid.Laid}
use Rattle.conveyed.{proofs.Lengths.length-network, specs.Networks.network_bytes}
use Rattle.compared.specs.Stepping.{drained_bytes}

-- a network's bytes, and others right behind them
pub network-then : (s : Network) (l m o ys : List ℕ) → m ≡ sets l 0 (network_bytes s) → Laid m 11557 ys o → o ≡ sets l 0 (network_bytes s ++ ys)
network-then s l m o ys first next =
    let h : Laid l 0 (network_bytes s) m = record { is = first } in
    let w : Laid l 0 (network_bytes s ++ ys) o = laid_then 11557 h (length-network s) refl next in
    w.is

counted-is : (a : Result ℕ Refusal) → result_unwrap_or a 0 ≡ counted a
counted-is (Ok m) = refl
counted-is (Err r) = refl

pub draining :
    (s q : Network) (o : Drained) (n : ℕ) (l m : List ℕ) → s ≡ q → o ≡ drained s → n ≡ result_unwrap_or o.answer 0 → m ≡ sets l 0 (drained_bytes o) →
    (n ≡ counted (drained q).answer) × (m ≡ sets l 0 (drained_bytes (drained q)))
draining s q o n l m same made count put =
    let e : o ≡ drained q = made ∙ ap drained same in
    (count ∙ counted-is o.answer ∙ ap (λ (r : Drained). counted r.answer) e, put ∙ ap (λ (r : Drained). sets l 0 (drained_bytes r)) e)

-- set-up makes no panel where it refuses, and the network of none is all zero
abbrev zeros : Network
zeros = record { panels = replicate 7 nothing; rows = replicate 7 empty_row; down = replicate 7 false }

none-zeros : no_network ≡ zeros
unfolding fresh_network made set_up_trials met ite both fits is_panel list_below
none-zeros = refl

pub fresh-or-none : (n t writer initial : ℕ) → result_unwrap_or (set_up n t writer initial) no_network ≡ fresh_network n t writer initial
unfolding set_up fresh_network made set_up_trials met ite list_below
fresh-or-none n t writer initial = ap (result_unwrap_or (set_up n t writer initial)) none-zeros ∙ go (fits n t writer) refl
  where
    go : (b : Bool) → fits n t writer ≡ b → result_unwrap_or (set_up n t writer initial) zeros ≡ fresh_network n t writer initial
    go true e = rw e
    go false e = rw e

pub ruleset setting_up = (fresh-or-none)
