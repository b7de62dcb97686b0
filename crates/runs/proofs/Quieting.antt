-- "Whenever no message is in flight to a powered panel, no powered panel has an unfinished operation."
-- Assumes nothing.
use Prim.Native.Nat.{ℕ, ◌<◌}
use mathlib.Core.{Bool.{true, false}, Logic.◌≢◌, Path.{◌≡◌, ap, ◌∙◌}}
use native.Mathlib.{Decide.dec_lt, Omega.arith}
use Rattle.std.specs.Prelude.{None}
use Rattle.basics.proofs.Choices.{clash}
use Rattle.tables.specs.Marks.{enough}
use Rattle.form.specs.declared.Operation.TheVariants.{Idle}
use Rattle.protocol.{proofs.Quiet.{all_known, all-answered}, specs.World.W}
use Rattle.promise.proofs.AtPlace.{at-idle}
use Rattle.channels.{proofs.Flying.has-iff, specs.Channels.{has, in_flight}, specs.declared.Channel.Channel}
use Rattle.house.{proofs.NetForms.live-enough, proofs.Searching.none_found, specs.Places.{panel_at, tables_at, channel_of, n_of}}
use Rattle.house.specs.{Search.{live, first_in}, declared.Network.Network}
use Rattle.steps.{proofs.Networks.{Good, at_place, place-seven, formed-place}, specs.Numbers.world_of}
use Rattle.runs.specs.Claims.{Still}
use Rattle.runs.proofs.Holding.{Holds}

none-flies : (c : Channel) (k : ℕ) → has c k ≡ false → in_flight c k ≡ 0
none-flies c k e = by (dec_lt 0 (in_flight c k))
  where
    by : Dec (0 < in_flight c k) → in_flight c k ≡ 0
    by (yes h) = clash e ((has-iff c k).1 h)
    by (no h) = omega arith

-- the search finds nothing
pub still-searched : (s : Network) → Good s → first_in s ≡ None → Still s
still-searched s g e =
    record { still = λ i j k bi bj u four. none_found s e i j k (place-seven s g i bi) (place-seven s g j bj) four u }

module _ (s : Network) (h : Holds s) (q : Still s) where
  level-line : (i j : ℕ) → i < n_of s → j < n_of s → W (world_of s) j i ≡ W (world_of s) j j → ((world_of s).panel j).waiting i ≡ 0
  level-line i j bi bj e = (formed-place s h.good j bj).waiting_behind i e

  none-flying : (i j k : ℕ) → i < n_of s → j < n_of s → i ≢ j → live s j ≡ true → k < 4 → (world_of s).flying i j k ≡ 0
  none-flying i j k bi bj d u four = none-flies (channel_of s i j) k (q.still i j k bi bj u four)

  pub quiet-idle : (i : ℕ) → i < n_of s → live s i ≡ true → (tables_at s i).operation ≡ Idle
  quiet-idle i bi u =
      at-idle (n_of s) i (panel_at s i) (at_place s h.good i bi) (live s)
      (ap (λ (t : ℕ). enough (n_of s) t (live s)) (h.good.form.member i bi).same-t ∙ live-enough s h.good.form)
      (λ l bl ul. all_known h.inv (live s) none-flying level-line i l bi bl u ul)
      (λ l bl ul. all-answered h.inv (live s) none-flying level-line i l bi bl u ul)
      (h.waits.waits i bi)
