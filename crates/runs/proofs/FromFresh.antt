-- Demand 3: what is true after any list of steps from a fresh network, n, t and writer that fit, and any initial value.
-- Assumes nothing.
use Prim.Native.Nat.{ℕ, ◌+◌, ◌-◌, ◌*◌, ◌≤◌, ◌<◌}
use mathlib.Core.{Bool.{true, false}, List.List, Path.{◌≡◌, refl, sym, ap, subst, subst₂, ◌∙◌}}
use native.Mathlib.Omega.{arith}
use borrow.Author.Tests.{not-true}
use Rattle.basics.specs.Refusal.{code}
use Rattle.form.specs.{Form.fits, declared.Operation.TheVariants.Idle}
use Rattle.protocol.{proofs.AtFirst.{Fresh, fresh-inv, fresh-begun, fresh-made}, proofs.Deliveries.made-most, specs.Invariant.{none, Inv}}
use Rattle.protocol.specs.World.{W}
use Rattle.protocol.specs.Counts as counts
use Rattle.promise.specs.View.{code_of}
use Rattle.channels.specs.Channels.{has}
use Rattle.house.{proofs.Searching.Pair, specs.Places.{tables_at, channel_of, down_at, n_of, writer_of}, specs.Search.live}
use Rattle.house.specs.declared.Network.{Network}
use Rattle.steps.proofs.{AtStart.{start-good, start-n, start-waits, start-fresh}, Networks.{good-test, writer-place}}
use Rattle.steps.{proofs.Settling.checked-in-form, specs.Drain.drained, specs.Numbers.world_of, specs.SetUp.fresh_network}
use Rattle.steps.specs.{Steps.delivered, declared.Stepped.Stepped}
use Rattle.runs.specs.{Claims.{Still, AllOrdinary, most_deliveries}, Runs.{Step, after, entries, writes, reads, deliveries}}
use Rattle.runs.proofs.{Accepting.deliver-ok, Draining.{drain-taken, drain-went, drain-still}, Holding.Holds, Quieting.quiet-idle}
use Rattle.runs.proofs.Running.{Runs, run_holds}

is_down : (s : Network) (j : ℕ) → live s j ≡ true → down_at s j ≡ false
unfolding live
is_down s j u = not-true _ u

module _ (n t writer v : ℕ) (ok : fits n t writer ≡ true) where
  abbrev start : Network
  start = fresh_network n t writer v

  fresh : Fresh n (world_of start)
  fresh = start-fresh n t writer v ok

  pub start-holds : Holds start
  start-holds =
      record {
        good = start-good n t writer v ok;
        inv = subst₂ (λ (m w : ℕ). Inv m w none (world_of start)) (sym (start-n n t writer v ok)) refl (fresh-inv fresh (writer_of start - 1));
        waits = start-waits n t writer v ok;
      }

  module _ (es : List Step) where
    abbrev end : Network
    end = after start es

    run : Runs start es
    run = run_holds start start-holds es

    pub end-holds : Holds end
    end-holds = run.went.holds

    pub end-n : n_of end ≡ n
    end-n = run.went.same.n ∙ start-n n t writer v ok

    -- 1: "Each message in flight to a powered panel is accepted when delivered"
    pub accepted-when-delivered :
        (k i j : ℕ) → Pair n i j → live end (j - 1) ≡ true → has (channel_of end (i - 1) (j - 1)) k ≡ true → code_of (delivered end k i j).answer ≡ 0
    accepted-when-delivered k i j pair u there =
        ap (λ (a : Stepped). code_of a.answer) (checked-in-form end _ (good-test end end-holds.good))
        ∙ deliver-ok end end-holds k i j
        (record { pair = subst (λ (m : ℕ). Pair m i j) (sym end-n) pair; live = is_down end (j - 1) u; there = there })

    -- "From a fresh network 2 and 11 to 14 never occur"
    pub never-refused-so : AllOrdinary (entries start es)
    never-refused-so = run.ordinary

    -- the counts by the tables are the counts by the answers
    abbrev a : ℕ
    a = writes (entries start es)

    abbrev r : ℕ
    r = reads (entries start es)

    abbrev number : ℕ
    number = W (world_of end) (writer_of end - 1) (writer_of end - 1)

    all-written : number ≡ a
    all-written =
        let b : writer_of start - 1 < n = subst (λ (m : ℕ). writer_of start - 1 < m) (start-n n t writer v ok) (writer-place start start-holds.good) in
        omega (arith, run.went.written, fresh.w (writer_of start - 1) (writer_of start - 1) b b)

    all_asked : counts.begun (n_of end) (world_of end) ≡ r
    all_asked = omega (arith, run.went.asked, ap (λ (m : ℕ). counts.begun m (world_of start)) (start-n n t writer v ok) ∙ fresh-begun fresh)

    all_made : counts.made (n_of end) (world_of end) ≡ deliveries (entries start es)
    all_made = omega (arith, run.went.came, ap (λ (m : ℕ). counts.made m (world_of start)) (start-n n t writer v ok) ∙ fresh-made fresh)

    -- 2: "at most a·n·(n−1) + 2·r·(n−1) deliveries are ever accepted"
    pub deliveries-bound : deliveries (entries start es) ≤ most_deliveries n (writes (entries start es)) (reads (entries start es))
    unfolding most_deliveries
    deliveries-bound =
        subst (λ (x : ℕ). x ≤ a * (n * (n - 1)) + 2 * (r * (n - 1))) all_made
        (subst (λ (x : ℕ). counts.made (n_of end) (world_of end) ≤ x * (n * (n - 1)) + 2 * (r * (n - 1))) all-written
        (subst (λ (x : ℕ). counts.made (n_of end) (world_of end) ≤ number * (n * (n - 1)) + 2 * (x * (n - 1))) all_asked
        (subst (λ (m : ℕ). counts.made (n_of end) (world_of end) ≤ number * (m * (m - 1)) + 2 * (counts.begun (n_of end) (world_of end) * (m - 1))) end-n
        (made-most end-holds.inv))))

    -- 3: "Whenever no message is in flight to a powered panel, no powered panel has an unfinished operation"
    pub quiet-is-idle : Still end → (i : ℕ) → i < n → live end i ≡ true → (tables_at end i).operation ≡ Idle
    quiet-is-idle q i b u = quiet-idle end end-holds q i (subst (λ (m : ℕ). i < m) (sym end-n) b) u

    -- so a drain ends every powered panel's operation
    pub drain-ends : (i : ℕ) → i < n → live (drained end).network i ≡ true → (tables_at (drained end).network i).operation ≡ Idle
    drain-ends i b u =
        let w = drain-went end end-holds in
        quiet-idle (drained end).network w.holds (drain-still end end-holds) i (subst (λ (m : ℕ). i < m) (sym (w.same.n ∙ end-n)) b) u

    pub drain-never-refused : code (drained end).answer ≡ 0
    drain-never-refused = drain-taken end end-holds

    pub drain-leaves-still : Still (drained end).network
    drain-leaves-still = drain-still end end-holds
