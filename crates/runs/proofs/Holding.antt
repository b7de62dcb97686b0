-- What holds of a network in every run from fresh, and that every accepted step keeps it and moves the counts of writes, reads and
-- deliveries as it should.
-- Assumes nothing.
use Prim.Native.Nat.{ℕ, ◌+◌, ◌-◌, ◌<◌}
use mathlib.Core.{Logic.◌≢◌, Path.{◌≡◌, refl, sym, ap, subst, subst₂, ◌∙◌}}
use native.Mathlib.Omega.{arith}
use Rattle.protocol.specs.{Counts.{made, begun}, Invariant.{none, Inv}, World.{World, Out, W, Delivers}}
use Rattle.protocol.proofs.Steps as protocol
use Rattle.promise.specs.View.{code_of}
use Rattle.house.specs.{Places.{n_of, writer_of}, declared.Network.Network}
use Rattle.steps.proofs.{Delivering.{DeliverMoves, deliver-moves}, Keeping.{Kept, write_kept, read_kept, deliver-kept, lose-kept}}
use Rattle.steps.proofs.{Moves.{WriteMoves, write_moves, ReadMoves, read-moves, lose-moves}, Networks.{Good, writer-place}}
use Rattle.steps.proofs.Passing.{sender-place, receiver-place, places-apart}
use Rattle.steps.specs.{Moves.{Came, write_comes, write_waits, read_comes, proceed_comes, AllWait, SameSetUp}, Numbers.world_of}
use Rattle.steps.specs.Steps.{write_in, read_in, deliver_in, lose_in}

pub record Holds (s : Network) : Type 0 where
  pub good : Good s
  pub inv : Inv (n_of s) (writer_of s - 1) none (world_of s)
  pub waits : AllWait s

-- from s to s' so many writes and reads were begun and so many messages delivered, by the tables
pub record Went (writes reads deliveries : ℕ) (s s' : Network) : Type 0 where
  pub holds : Holds s'
  pub same : SameSetUp s s'
  pub written : W (world_of s') (writer_of s' - 1) (writer_of s' - 1) ≡ W (world_of s) (writer_of s - 1) (writer_of s - 1) + writes
  pub asked : begun (n_of s') (world_of s') ≡ begun (n_of s) (world_of s) + reads
  pub came : made (n_of s') (world_of s') ≡ made (n_of s) (world_of s) + deliveries

-- what the protocol says of the numbers, and what the steps say of the rest
went : {a r d : ℕ} (s s' : Network) → Holds s → Kept s s' → protocol.Stepped (n_of s) (writer_of s - 1) a r d (world_of s) (world_of s') → Went a r d s s'
went {a} {r} {d} s s' h kept z =
    record {
      holds = record {
        good = kept.good;
        inv = subst₂ (λ (n w : ℕ). Inv n (w - 1) none (world_of s')) (sym kept.same.n) (sym kept.same.writer) z.keeps;
        waits = kept.waits h.waits;
      };
      same = kept.same;
      written = ap (λ (w : ℕ). W (world_of s') (w - 1) (w - 1)) kept.same.writer ∙ z.written;
      asked = ap (λ (n : ℕ). begun n (world_of s')) kept.same.n ∙ z.asked;
      came = ap (λ (n : ℕ). made n (world_of s')) kept.same.n ∙ z.came;
    }

-- nothing moved
pub went-none : (s : Network) → Holds s → Went 0 0 0 s s
went-none s h =
    record {
      holds = h;
      same = record { n = refl; t = refl; writer = refl; initial = refl };
      written = omega arith;
      asked = omega arith;
      came = omega arith;
    }

pub came-steps :
    {n p q k writer : ℕ} {s s' : World} {out : Out} → Came n p q k (s.panel p) out (s'.panel p) → Inv n writer none s → Delivers q p k out s s' →
    p < n → q < n → q ≢ p → protocol.Stepped n writer 0 0 1 s s'
came-steps (write_comes bit c) v m bp bq d = protocol.write-came-steps v m bp bq d c bit
came-steps (write_waits two bit c) v m bp bq d = protocol.write-waits-steps v m bp bq d c bit
came-steps (read_comes kind c) v m bp bq d = protocol.read-came-steps v m bp bq d c kind
came-steps (proceed_comes kind c) v m bp bq d = protocol.proceed-came-steps v m bp bq d c kind

module _ (s : Network) (h : Holds s) where
  pub write-went : (v : ℕ) → code_of (write_in s v).answer ≡ 0 → Went 1 0 0 s (write_in s v).network
  write-went v ok =
      let m : WriteMoves s v = write_moves s h.good v ok in
      went s (write_in s v).network h (write_kept s h.good v)
      (protocol.write-steps h.inv m.starts (writer-place s h.good) refl m.writes)

  pub read-went : (i : ℕ) → code_of (read_in s i).answer ≡ 0 → Went 0 1 0 s (read_in s i).network
  read-went i ok =
      let m : ReadMoves s i = read-moves s h.good i ok in
      went s (read_in s i).network h (read_kept s h.good i)
      (protocol.read-steps h.inv m.starts (omega (arith, m.may.low, m.may.high)) m.reads)

  pub deliver-went : (k i j : ℕ) → code_of (deliver_in s k i j).answer ≡ 0 → Went 0 0 1 s (deliver_in s k i j).network
  deliver-went k i j ok =
      let m : DeliverMoves s k i j = deliver-moves s h.good k i j ok in
      went s (deliver_in s k i j).network h (deliver-kept s h.good k i j)
      (came-steps m.came h.inv m.delivers (receiver-place m.may.pair) (sender-place m.may.pair) (places-apart m.may.pair))

  -- power loss, accepted or not
  pub lose-went : (i : ℕ) → Went 0 0 0 s (lose_in s i).network
  lose-went i =
      went s (lose_in s i).network h (lose-kept s h.good i)
      (subst (λ (x : World). protocol.Stepped (n_of s) (writer_of s - 1) 0 0 0 (world_of s) x) (sym (lose-moves s i))
      (record { keeps = h.inv; written = omega arith; asked = omega arith; came = omega arith }))
