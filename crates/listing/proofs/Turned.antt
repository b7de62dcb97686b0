-- The turns are the bench's: the step of a turn made in the network, the turn gives the bench's next line.
-- Assumes nothing.
use mathlib.Core.{List.List, Logic.◌≢◌, Path.{◌≡◌, refl, sym, ap, subst, ◌∙◌}}
use Prim.Native.Nat.{ℕ, ◌+◌}
use native.Mathlib.Decide.{ℕ_discrete}
use lib.{Dec.{ltb, eqb}, ListN.length}
use borrow.Author.Tests.{eq-eqb, ne_eqb}
use Rattle.std.specs.Prelude.{Option, Result, Ok, Err, Some, None}
use Rattle.basics.{proofs.Choices.ite-two, specs.Choice.{ite, some_or}, specs.declared.refused.Refusal.Refusal}
use Rattle.schedule.specs.{Records.reading, declared.Record.Record}
use Rattle.text.specs.declared.Line.{Line}
use Rattle.house.{proofs.Searching.by-flying, specs.Search.{flying, first_in}, specs.declared.InFlight.InFlight}
use Rattle.house.specs.declared.Network.{Network}
use Rattle.steps.{proofs.Networks.{Good, good-test}, proofs.Settling.checked-in-form, proofs.WholeDrain.sought-is}
use Rattle.steps.specs.declared.Stepped.{Stepped}
use Rattle.parts.{proofs.Back.{moved_back, still_back}}
use Rattle.parts.specs.{Steps.{by_parts, step_in}, declared.Step.Step}
use Rattle.listing.specs.Entries.{misplaced, unread, told, drain_entry, next_step, stepped}
use Rattle.listing.specs.Machine.{Bench, found_in, drain_step, drain_line, taken_line, record_line, line_ahead, next_line}
use Rattle.listing.specs.Turning.{bench_at, quiet, steps, step_of, drain_turn, taken_turn, record_turn, next_turn, after_turn}
use Rattle.listing.specs.declared.{Ahead.Ahead, Stand.Stand, Turn.Turn}
use Rattle.listing.specs.declared.Ahead.TheVariants as ahead
use Rattle.listing.proofs.Giving.{Going}
use Rattle.listing.proofs.Reading.{Reading}

module _ (s : Network) where
  -- turn t gives the bench c
  abbrev Turned : Turn → Bench → Type 0
  Turned t c = bench_at (step_in s t.step).network (after_turn t (step_in s t.step).answer) ≡ c

  quiet-turned : (l : Option Line) (a : Ahead) → Turned (quiet l a) (record { network = s; line = l; ahead = a })
  unfolding step_in after_turn some_or
  quiet-turned l a = refl

  steps-turned : (m : Step) (r : Record) (a : Ahead) {o : Stepped} → step_in s m ≡ o → Turned (steps m r a) (record { network = o.network; line = Some (told r o.answer); ahead = a })
  unfolding after_turn some_or
  steps-turned m r a e = ap (λ (o : Stepped). record { network = o.network; line = Some (told r o.answer); ahead = a }) e

  -- ---- in a network that the laws speak of

  module _ (g : Good s) where
    step_is : (r : Record) → step_in s (step_of r) ≡ stepped s r
    unfolding step_of stepped step_in ite
    step_is r = write-case (ℕ_discrete r.kind 1)
      where
        loss-case : r.kind ≢ 1 → r.kind ≢ 2 → Dec (r.kind ≡ 7) → step_in s (step_of r) ≡ stepped s r
        loss-case a b (yes c) = simp (ne_eqb _ _ a, ne_eqb _ _ b, eq-eqb _ _ c) (sym (checked-in-form s _ (good-test s g)))
        loss-case a b (no c) = simp (ne_eqb _ _ a, ne_eqb _ _ b, ne_eqb _ _ c) (sym (checked-in-form s _ (good-test s g)))

        read-case : r.kind ≢ 1 → Dec (r.kind ≡ 2) → step_in s (step_of r) ≡ stepped s r
        read-case a (yes b) = simp (ne_eqb _ _ a, eq-eqb _ _ b) (sym (checked-in-form s _ (good-test s g)))
        read-case a (no b) = loss-case a b (ℕ_discrete r.kind 7)

        write-case : Dec (r.kind ≡ 1) → step_in s (step_of r) ≡ stepped s r
        write-case (yes a) = simp (eq-eqb _ _ a) (sym (checked-in-form s _ (good-test s g)))
        write-case (no a) = read-case a (ℕ_discrete r.kind 2)

    drain-turned : (at count : ℕ) → Turned (drain_turn (first_in s) at count) (drain_line s at count)
    unfolding drain_line drain_step drain_turn next_step step_in some_or
    drain-turned at count =
        by (first_in s)
        ∙ sym (ap (λ (x : Result (Option InFlight) Refusal). drain_step s (found_in x) at count) (sought-is s g))
      where
        by : (o : Option InFlight) → Turned (drain_turn o at count) (drain_step s o at count)
        by None = quiet-turned (Some (drain_entry count)) (ahead.Record at)
        by (Some x) = steps-turned _ _ (ahead.Drain at (count + 1)) (sym (checked-in-form s _ (good-test s g)))

    taken-turned : (r : Record) (at : ℕ) → Turned (taken_turn (first_in s) r at) (taken_line s r at)
    unfolding taken_turn taken_line
    taken-turned r at =
        ite-two Turned (eqb r.kind 0) _ _ _ _ (λ _. quiet-turned (Some (misplaced r)) (ahead.Record at))
        (λ _. ite-two Turned (eqb r.kind 8) _ _ _ _ (λ _. drain-turned at 0)
        (λ _. steps-turned _ _ (ahead.Record at) (step_is r)))

    record-turned : (q : Reading) (at : ℕ) → Turned (record_turn (first_in s) q at) (record_line s q at)
    unfolding record_turn record_line
    record-turned (Ok t) at = taken-turned t.«record» (at + t.used)
    record-turned (Err u) at = quiet-turned (Some (unread u)) ahead.Ended

-- ---- the next turn

module _ (bytes : List ℕ) (s : Network) where
  next-turned : (a : Ahead) → (Going a → Good s) → Turned s (next_turn bytes (first_in s) a) (line_ahead bytes s a)
  unfolding next_turn line_ahead
  next-turned ahead.Ended good = quiet-turned s None ahead.Ended
  next-turned (ahead.Drain at count) good = drain-turned s (good tt) at count
  next-turned (ahead.Record at) good =
      ite-two (Turned s) (ltb at (length bytes)) _ _ _ _
      (λ _. record-turned s (good tt) (reading bytes at) at)
      (λ _. quiet-turned s None ahead.Ended)

  -- the step of the turn by the parts of the network is its step in the network; there is none once the bench has ended
  next-acted : (a : Ahead) → (Going a → Good s) → by_parts s (next_turn bytes (first_in s) a).step ≡ step_in s (next_turn bytes (first_in s) a).step
  unfolding next_turn step_in
  next-acted ahead.Ended good = still_back s 0
  next-acted (ahead.Drain at count) good = moved_back s (good-test s (good tt)) _
  next-acted (ahead.Record at) good = moved_back s (good-test s (good tt)) _

  -- a turn as the code holds it
  pub turn-next :
      (b : Stand) → (Going b.ahead → Good s) → {t : Turn} → t ≡ next_turn bytes (first_in (flying s.rows s.down)) b.ahead →
      {o : Stepped} → o ≡ by_parts s t.step → {b' : Stand} → b' ≡ after_turn t o.answer → bench_at o.network b' ≡ next_line bytes (bench_at s b)
  turn-next b good {t} e {o} act after =
      ap (bench_at o.network) after
      ∙ ap (λ (x : Stepped). bench_at x.network (after_turn t x.answer)) (act ∙ acted)
      ∙ ap (λ (x : Turn). bench_at (step_in s x.step).network (after_turn x (step_in s x.step).answer)) is
      ∙ next-turned b.ahead good
    where
      is : t ≡ next_turn bytes (first_in s) b.ahead
      is = e ∙ ap (λ (f : Option InFlight). next_turn bytes f b.ahead) (by-flying s)

      acted : by_parts s t.step ≡ step_in s t.step
      acted = subst (λ (x : Turn). by_parts s x.step ≡ step_in s x.step) (sym is) (next-acted b.ahead good)
