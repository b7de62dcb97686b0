-- Each step that a panel's promise allows, in one law: the invariant is kept, and the counts of writes, reads and deliveries move.
-- Assumes nothing.
use Prim.Native.Nat.{ℕ, suc, ◌+◌, ◌%◌, ◌<◌}
use mathlib.Core.{Logic.◌≢◌, Path.{◌≡◌, sym, ap, subst}}
use native.Mathlib.{Decide.ℕ_discrete, Omega.arith}
use Rattle.protocol.specs.{Counts.{made, begun}, Invariant.{none, Inv}}
use Rattle.protocol.specs.Promise.{Writes, Reads, WriteComes, WriteWaits, ReadComes, ProceedComes}
use Rattle.protocol.specs.World.{View, World, Out, W, Starts, Delivers}
use Rattle.protocol.proofs.{Around.{Acted, started, delivered}, Deliveries.{wrote-made, wrote-begun, asked-made, asked-begun}}
use Rattle.protocol.proofs.Deliveries.{write-came-made, write-came-begun, write-waits-made, write-waits-begun}
use Rattle.protocol.proofs.Deliveries.{read-came-made, read-came-begun, proceed-came-made, proceed-came-begun}
use Rattle.protocol.proofs.KeepingReads.{asked-keeps, read-came-keeps, proceed-came-keeps}
use Rattle.protocol.proofs.{KeepingWrites.{wrote-keeps, write-came-keeps, write-came-most, write-waits-keeps}, Room.reads-most}

-- from s to s' so many writes and reads were begun, and so many messages delivered
pub record Stepped (n writer writes reads deliveries : ℕ) (s s' : World) : Type 0 where
  pub keeps : Inv n writer none s'
  pub written : W s' writer writer ≡ W s writer writer + writes
  pub asked : begun n s' ≡ begun n s + reads
  pub came : made n s' ≡ made n s + deliveries

-- p's write numbers are as they were, and so are the others': the writer's is
number_same : {p : ℕ} {s s' : World} → Acted p s s' → ((l : ℕ) → W s' p l ≡ W s p l) → (writer : ℕ) → W s' writer writer ≡ W s writer writer + 0
number_same {p} {s} {s'} act same writer = at (ℕ_discrete writer p)
  where
    at : Dec (writer ≡ p) → W s' writer writer ≡ W s writer writer + 0
    at (yes e) = subst (λ (x : ℕ). W s' x writer ≡ W s x writer + 0) (sym e) (omega (arith, same writer))
    at (no d) = omega (arith, ap (λ (a : View). a.w writer) (act.others writer d))

module _ {n p writer : ℕ} {s s' : World} {out : Out} (v : Inv n writer none s) (h : Starts p out s s') (b : p < n) where
  pub write-steps : writer ≡ p → Writes n p (s.panel p) out (s'.panel p) → Stepped n writer 1 0 0 s s'
  write-steps e a =
      subst (λ (x : ℕ). Stepped n x 1 0 0 s s') (sym e)
      (record {
        keeps = wrote-keeps (subst (λ (x : ℕ). Inv n x none s) e v) h b a;
        written = omega (arith, a.w_own);
        asked = omega (arith, wrote-begun h b a);
        came = omega (arith, wrote-made h b a);
      })

  pub read-steps : Reads n p (s.panel p) out (s'.panel p) → Stepped n writer 0 1 0 s s'
  read-steps a =
      record {
        keeps = asked-keeps v h b a;
        written = number_same (started h) a.w writer;
        asked = omega (arith, asked-begun h b a);
        came = omega (arith, asked-made h b a);
      }

module _ {n p q k writer : ℕ} {s s' : World} {out : Out} (v : Inv n writer none s) (h : Delivers q p k out s s')
    (bp : p < n) (bq : q < n) (d : q ≢ p) where
  pub write-came-steps : WriteComes n p q (s.panel p) out (s'.panel p) → k ≡ suc (W s p q) % 2 → Stepped n writer 0 0 1 s s'
  write-came-steps a bit =
      record {
        keeps = write-came-keeps v h bp bq d a bit;
        written = omega (arith, write-came-most v h bp bq d a bit);
        asked = omega (arith, write-came-begun h bp bq d a);
        came = omega (arith, write-came-made h bp bq d a (omega (arith, bit)));
      }

  pub write-waits-steps : WriteWaits q (s.panel p) out (s'.panel p) → k ≡ W s p q % 2 → Stepped n writer 0 0 1 s s'
  write-waits-steps a bit =
      record {
        keeps = write-waits-keeps v h bp bq d a bit;
        written = number_same (delivered h) a.w writer;
        asked = omega (arith, write-waits-begun h bp bq d a);
        came = omega (arith, write-waits-made h bp bq d a (omega (arith, bit)));
      }

  pub read-came-steps : ReadComes n p q (s.panel p) out (s'.panel p) → k ≡ 2 → Stepped n writer 0 0 1 s s'
  read-came-steps a kind =
      record {
        keeps = read-came-keeps v h bp bq d a kind;
        written = number_same (delivered h) a.w writer;
        asked = omega (arith, read-came-begun h bp bq d a);
        came = omega (arith, read-came-made h bp bq d a kind (reads-most v q p bq bp d));
      }

  pub proceed-came-steps : ProceedComes q (s.panel p) out (s'.panel p) → k ≡ 3 → Stepped n writer 0 0 1 s s'
  proceed-came-steps a kind =
      record {
        keeps = proceed-came-keeps v h bp bq d a kind;
        written = number_same (delivered h) a.w writer;
        asked = omega (arith, proceed-came-begun h bp bq d a);
        came = omega (arith, proceed-came-made h bp bq d a kind);
      }
