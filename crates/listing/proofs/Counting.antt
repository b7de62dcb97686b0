-- How many lines a listing has after the first: at most one for each record and 16,800 for deliveries, which is what 200 writes and 100
-- reads a panel come to among seven panels.
-- Assumes nothing.
use mathlib.Core.{List.{List, [], ◌∷◌, ◌++◌}, Path.{◌≡◌, refl, sym, ap, subst}}
use Rattle.std.specs.Prelude.{Option, Result, Ok, Err, Some, None}
use Prim.Native.Nat.{ℕ, zero, suc, ◌+◌, ◌-◌, ◌*◌, ◌≤◌}
use native.Mathlib.{Nat.mul-le-mul, Omega.arith}
use lib.{Dec.eqb, ListN.{length, length-append}}
use Rattle.basics.{proofs.Choices.ite-case, specs.Choice.some_or, specs.declared.refused.Refusal.Refusal}
use Rattle.schedule.specs.declared.Record.{Record}
use Rattle.text.specs.declared.Line.{Line}
use Rattle.protocol.{proofs.Deliveries.made-most, proofs.Sums.sum-at-most, specs.Counts.begun, specs.World.R}
use Rattle.house.specs.{Places.{n_of, writer_of}, Search.first_in, declared.InFlight.InFlight, declared.Network.Network}
use Rattle.steps.{proofs.Networks.{writer-place, formed-place}, specs.Drain.{drained, counted}, specs.Numbers.world_of, specs.SetUp.set_up}
use Rattle.runs.proofs.{Draining.{drain-ok, drain-went}, Holding.Holds}
use Rattle.listing.specs.Entries.{told, delivery_of, drain_entry, next_step, deliveries_by, drain_entries_as, drain_entries, entries, next, later, first_set_up, first, all}
use Rattle.listing.specs.Reads.{reads_of}
use Rattle.listing.proofs.Placing.{Placed, setting_up, drains, steps, placed, made_in, Keeps, stepped-keeps, set-up-holds}
use Rattle.listing.proofs.Reading.{Reading, reads-most}

-- ---- deliveries

in-numbers : (x n w b : ℕ) → n ≤ 7 → w ≤ 200 → b ≤ 7 * 100 → x ≤ w * (n * (n - 1)) + 2 * (b * (n - 1)) → x ≤ 16800
in-numbers x n w b hn hw hb h =
    let less : n - 1 ≤ 6 = omega (arith, hn) in
    omega (arith, h, mul-le-mul hw (mul-le-mul hn less), mul-le-mul hb less)

-- "at most 200 writes a run and 100 reads a panel"
pub made-few : (s : Network) → Holds s → made_in s ≤ 16800
unfolding begun
made-few s h =
    in-numbers (made_in s) (n_of s) _ (begun (n_of s) (world_of s)) h.good.form.n-high
    (formed-place s h.good (writer_of s - 1) (writer-place s h.good)).w_top
    (omega (arith, sum-at-most (n_of s) 100 (λ (i : ℕ). R (world_of s) i i) (λ i b. (formed-place s h.good i b).r_top), h.good.form.n-high))
    (made-most h.inv)

deliveries-few : (f : ℕ) (s : Network) → length (deliveries_by f s) ≤ f
unfolding deliveries_by some_or
deliveries-few zero s = omega arith
deliveries-few (suc f) s =
    by (first_in s) (λ x. deliveries-few f (next_step s x).network)
  where
    by :
        (o : Option InFlight) → ((x : InFlight) → length (deliveries_by f (next_step s x).network) ≤ f) →
        length (some_or o (λ (x : InFlight). told (delivery_of x) (next_step s x).answer ∷ deliveries_by f (next_step s x).network) []) ≤ suc f
    by None few = omega arith
    by (Some x) few = omega (arith, few x)

-- ---- the lines of a record: one, and one for each delivery

record Adds (s s' : Network) (ls : List Line) : Type 0 where
  holds : Holds s'
  few : length ls + made_in s ≤ suc (made_in s')

one-adds : {s s' : Network} {l : Line} → Keeps s s' → Adds s s' (l ∷ [])
one-adds k = record { holds = k.holds; few = omega (arith, k.grows) }

module _ (s : Network) (h : Holds s) where
  drain-adds : Adds s (drained s).network (drain_entries s)
  unfolding drain_entries_as
  drain-adds =
      let m : ℕ = counted (drained s).answer in
      let ls : List Line = deliveries_by m s ++ (drain_entry m ∷ []) in
      let e : length ls ≡ length (deliveries_by m s) + 1 = length-append (deliveries_by m s) (drain_entry m ∷ []) in
      subst (Adds s (drained s).network) (ap (λ (a : Result ℕ Refusal). drain_entries_as a s) (sym (drain-ok s h)))
      (record { holds = (drain-went s h).holds; few = omega (arith, e, deliveries-few m s, (drain-went s h).came) })

  entries-add : (r : Record) → Adds s (next s r) (entries s r)
  entries-add r = by (placed s r)
    where
      through : {ls : List Line} {s' : Network} → entries s r ≡ ls → next s r ≡ s' → Adds s s' ls → Adds s (next s r) (entries s r)
      through {ls} {s'} e f a = subst (λ (x : Network). Adds s x (entries s r)) (sym f) (subst (Adds s s') (sym e) a)

      by : Placed s r → Adds s (next s r) (entries s r)
      by (setting_up z e f) = through e f (one-adds (record { holds = h; grows = omega arith }))
      by (drains z k e f) = through e f drain-adds
      by (steps z k e f) = through e f (one-adds (stepped-keeps s h r))

-- ---- all records

lines-later : (s : Network) → Holds s → (qs : List Reading) → length (later s qs) + made_in s ≤ length qs + 16800
unfolding later
lines-later s h [] = omega (arith, made-few s h)
lines-later s h (Err u ∷ qs) = omega (arith, made-few s h)
lines-later s h (Ok t ∷ qs) =
    let a : Adds s (next s t.«record») (entries s t.«record») = entries-add s h t.«record» in
    omega (
      arith,
      length-append (entries s t.«record») (later (next s t.«record») qs),
      a.few,
      lines-later (next s t.«record») a.holds qs,
    )

lines-first : (r : Record) (qs : List Reading) → length (first r qs) ≤ suc (length qs) + 16800
unfolding first first_set_up
lines-first r qs = ite-case Few (eqb r.kind 0) _ _ (λ _. by _ refl) (λ _. omega arith)
  where
    Few : List Line → Type 0
    Few l = length l ≤ suc (length qs) + 16800

    by : (m : Result Network Refusal) → set_up r.a r.b r.c r.value ≡ m → Few (first_set_up m r qs)
    by (Ok s) e = omega (arith, lines-later s (set-up-holds r.a r.b r.c r.value s e) qs)
    by (Err x) e = omega arith

lines-all : (qs : List Reading) → length (all qs) ≤ length qs + 16800
unfolding all
lines-all [] = omega arith
lines-all (Ok t ∷ qs) = lines-first t.«record» qs
lines-all (Err u ∷ qs) = omega arith

pub lines-most : (bytes : List ℕ) → length (all (reads_of bytes)) ≤ length bytes + 16800
unfolding reads_of
lines-most bytes = omega (arith, lines-all (reads_of bytes), reads-most (length bytes) bytes 0)
