-- The claims, on one page, in the order of the three demands. Each is a theorem proved elsewhere; nothing is added here.
--
-- Why they are about the code: the contract of each public call says that its result is the value of one definition at its arguments
-- (panel: made, called, after; network: set_up, written, begun, delivered, lost, sought, drained; bytes: reading, writing; the listing:
-- listing), and allows one outcome (proofs/Outcomes of each crate). So any sequence of calls is a run of the definitions.
-- Assumes nothing.
use Prim.Native.Nat.{ℕ, ◌-◌, ◌≤◌, ◌<◌}
use mathlib.Core.{Bool.{true, false}, List.{List, ◌++◌}, Logic.◌≢◌, Path.◌≡◌}
use lib.ListN.{length}
use Rattle.std.specs.Prelude.{Ok}
use Rattle.basics.specs.{Kinds.byte_of, Refusal.code, declared.kinds.Kind.Kind, declared.refused.Refusal.TheVariants.NotInForm}
use Rattle.codec.specs.Numbers.{Bytes}
use Rattle.wire.specs.declared.Taken.{Taken}
use Rattle.wire.specs.Messages.{bytes_of_message, reading}
use Rattle.wire.proofs.Laws as wire
use Rattle.form.specs.{Form.fits, declared.Operation.TheVariants.Idle, declared.Tables.Tables}
use Rattle.refusals.specs.Refusals.{Event, refusal}
use Rattle.events.specs.Events.{rule, looked_at, happens}
use Rattle.events.proofs.Kept as events
use Rattle.promise.{proofs.Happenings.accepted, specs.View.code_of}
use Rattle.channels.specs.Channels.{has}
use Rattle.house.{proofs.Searching.Pair, specs.NetForm.net_form, specs.Places.{tables_at, channel_of}, specs.Search.live}
use Rattle.house.specs.declared.Network.{Network}
use Rattle.steps.proofs.{Delivering.{DeliverMoves, deliver-moves}, Keeping.Kept, Networks.Good, Powers.{Lost, lose-lost}, Refusing.OneOf}
use Rattle.steps.{proofs.WholeDrain.drained-out-of-form, specs.Drain.{refused_as, drained}, specs.SetUp.fresh_network}
use Rattle.steps.specs.Steps.{deliver_in, lose_in, delivered}
use Rattle.listing.specs.Listing.{listing_of}
use Rattle.listing.proofs.Cases as sample
use Rattle.runs.specs.{Claims.{Still, AllOrdinary, most_deliveries}, Runs.{Step, does, after, entries, writes, reads, deliveries}}
use Rattle.runs.specs.Runs.Step.{lose}
use Rattle.runs.proofs.FromFresh as run
use Rattle.claims.specs.{Acts.{Acts, ByDeliveries, numbers}, Tried.{Call, answer_of, trials_of, First, Rising, Unchanged}}
use Rattle.claims.proofs.InOrder as order
use Rattle.claims.proofs.Rising as numbered
use Rattle.claims.proofs.Unchanged as refused
use Rattle.claims.proofs.Acting as step

-- ---- Demand 1. Every public call takes anything, and acts or refuses by a number of the list. What each call tries is one table:
-- ---- `trials_of` of specs/Tried.

-- The answer is the number of the first trial that applies; 0 where none does, and then the call acts.
pub first-that-applies : (c : Call) → First (trials_of c) (answer_of c)
first-that-applies = order.first-that-applies

-- They are tried from low to high.
pub rising : (c : Call) → Rising 0 (trials_of c)
rising = numbered.rising

-- A refusal changes no table, channel or lent area.
pub refused-unchanged : (c : Call) → answer_of c ≢ 0 → Unchanged c
refused-unchanged = refused.unchanged

-- A drain tries 2, and then its deliveries: refused with the number of the first that is refused, as a whole, and nothing has changed.
pub drain-out-of-form : (s : Network) → net_form s ≡ false → drained s ≡ refused_as s NotInForm
drain-out-of-form = drained-out-of-form

pub drain-by-deliveries : (s : Network) → Good s → ByDeliveries s
drain-by-deliveries = step.by-deliveries

pub drain-unchanged : (s : Network) → code (drained s).answer ≢ 0 → (drained s).network ≡ s
drain-unchanged = refused.drain-unchanged

-- What a network in form can refuse, step by step: `numbers` of specs/Acts.
pub numbers-met : (s : Network) → Good s → (e : Step) → OneOf (does s e).refusal (numbers e)
numbers-met = step.step-numbers

-- ---- Demand 2. Each accepted step does exactly what Figure 1 says (rule), and then the operation is looked at; form is kept.

pub does-what-the-figure-says : (p : Tables) (room : ℕ) (e : Event) → refusal p room e ≡ 0 → happens p room e ≡ looked_at (rule p e)
does-what-the-figure-says = accepted

pub panel-stays-in-form : (p : Tables) → events.Good p → (room : ℕ) (e : Event) → events.Good (happens p room e).tables
panel-stays-in-form = events.kept

-- In a network: a start or a delivery is that event at one panel, and what it sends goes into channels; a drain is the deliveries that it
-- counts. `Acts` of specs/Acts says it of each step.
pub network-acts : (s : Network) → Good s → (e : Step) → (does s e).refusal ≡ 0 → Acts s e
network-acts = step.step-acts

-- A delivery in numbers: its message is gone, its receiver did what a panel promises, what that sent is in flight, all else stays.
pub delivery-moves : (s : Network) → Good s → (k i j : ℕ) → code_of (deliver_in s k i j).answer ≡ 0 → DeliverMoves s k i j
delivery-moves = deliver-moves

-- Power loss takes one more panel down, and no other step changes who is down.
pub power-lost : (s : Network) → Good s → (i : ℕ) → code_of (lose_in s i).answer ≡ 0 → Lost s i
power-lost = lose-lost

pub power-kept : (s : Network) → Good s → (e : Step) → ((i : ℕ) → e ≢ lose i) → (does s e).network.down ≡ s.down
power-kept = step.step-power

pub network-stays-in-form : (s : Network) → Good s → (e : Step) → Kept s (does s e).network
network-stays-in-form = step.step_keeps

-- Each message has one byte string, and reading it gives that message back.
pub reading-gives-it-back :
    (k : Kind) (v : ℕ) (rest : List ℕ) → wire.Message (byte_of k) v →
    reading (bytes_of_message (byte_of k) v ++ rest) ≡ Ok (record { kind = k; value = v; used = length (bytes_of_message (byte_of k) v) })
reading-gives-it-back = wire.read-written

pub one-byte-string : (s : List ℕ) (m : Taken) → Bytes s → reading s ≡ Ok m → wire.ReadAs s (byte_of m.kind) m.value m.used
one-byte-string = wire.written_read

-- ---- Demand 3. Start fresh and run any list of steps: n, t and writer that fit, any values, any steps.

module _ (n t writer v : ℕ) (ok : fits n t writer ≡ true) (es : List Step) where
  abbrev start : Network
  start = fresh_network n t writer v

  abbrev end : Network
  end = after start es

  -- Each message in flight to a powered panel is accepted when delivered.
  pub accepted-when-delivered :
      (k i j : ℕ) → Pair n i j → live end (j - 1) ≡ true → has (channel_of end (i - 1) (j - 1)) k ≡ true → code_of (delivered end k i j).answer ≡ 0
  accepted-when-delivered = run.accepted-when-delivered n t writer v ok es

  -- Refusals 2 and 11 to 14 never occur.
  pub never-refused-so : AllOrdinary (entries start es)
  never-refused-so = run.never-refused-so n t writer v ok es

  -- With a writes and r reads accepted in all, at most a·n·(n−1) + 2·r·(n−1) deliveries are ever accepted.
  pub deliveries-bounded : deliveries (entries start es) ≤ most_deliveries n (writes (entries start es)) (reads (entries start es))
  deliveries-bounded = run.deliveries-bound n t writer v ok es

  -- Whenever no message is in flight to a powered panel, no powered panel has an unfinished operation.
  pub quiet-is-idle : Still end → (i : ℕ) → i < n → live end i ≡ true → (tables_at end i).operation ≡ Idle
  quiet-is-idle = run.quiet-is-idle n t writer v ok es

  -- So a drain, which is never refused, ends every powered panel's operation.
  pub drain-never-refused : code (drained end).answer ≡ 0
  drain-never-refused = run.drain-never-refused n t writer v ok es

  pub drain-ends-operations : (i : ℕ) → i < n → live (drained end).network i ≡ true → (tables_at (drained end).network i).operation ≡ Idle
  drain-ends-operations = run.drain-ends n t writer v ok es

-- ---- The description's sample: its schedule has its listing, computed from the definitions.

pub sample-listed : listing_of sample.schedule ≡ sample.shown
sample-listed = sample.sample-listed
