-- The promise of a panel by its place among the n: what it does, when it refuses, and that it stays there. Panel j is at place j - 1.
-- Assumes nothing.
use mathlib.Core.{Bool.{Bool, true}, Logic.{◌≢◌, ◌⊎◌}, Path.{◌≡◌, sym, ap, subst₂, ◌∙◌}}
use Prim.Native.Nat.{ℕ, suc, ◌+◌, ◌-◌, ◌%◌, ◌≤◌, ◌<◌}
use native.Mathlib.Omega.{arith}
use Rattle.basics.specs.Below.{one_if}
use Rattle.messages.specs.Sends.{messages_of}
use Rattle.tables.specs.Marks.{enough}
use Rattle.form.{proofs.InForm.panel-iff, specs.Form.{fits, at_writer, fresh}, specs.Setting.own_place}
use Rattle.form.specs.declared.{Operation.TheVariants.Idle, Tables.Tables}
use Rattle.refusals.specs.Refusals.{Event, is_peer, refusal, Event.{write, read, write_from, read_from, proceed_from}}
use Rattle.events.proofs.Kept.{Good}
use Rattle.panel.specs.{Calls.after, declared.Panel.Panel}
use Rattle.protocol.specs.Promise.{ToPeers, Writes, Reads, WriteComes, WriteWaits, ReadComes, ProceedComes}
use Rattle.promise.specs.{Facts.{Formed, AllTo}, View.{view_of, out_of, Waits}}
use Rattle.promise.proofs.{AfterLook.level-idle, Numbers.{formed, fresh-good, fresh-n, fresh-number}}
use Rattle.promise.proofs.Answers
use Rattle.promise.proofs.AfterEvents

-- a panel in form stands at place i of n
pub record At (n i : ℕ) (p : Tables) : Type 0 where
  pub good : Good p
  pub n-is : p.n ≡ n
  pub number_is : p.number ≡ i + 1

pub fresh_at : (n t writer i v : ℕ) → fits n t writer ≡ true → i < n → At n i (fresh n t writer (i + 1) v)
fresh_at n t writer i v f h =
    record {
      good = fresh-good n t writer (i + 1) v f ((panel-iff n (i + 1)).1 (omega arith, omega arith));
      n-is = fresh-n n t writer (i + 1) v;
      number_is = fresh-number n t writer (i + 1) v;
    }

module _ (n i : ℕ) (p : Panel) (a : At n i p.tables) where
  abbrev its : Tables
  its = p.tables

  own_is : own_place its ≡ i
  own_is = omega (arith, a.number_is)

  -- what is said of its own n and place is said of n and i
  moved : (P : ℕ → ℕ → Type 0) → P its.n (own_place its) → P n i
  moved P h = subst₂ P a.n-is own_is h

  pub at-formed : Formed n i (view_of its)
  at-formed = moved (λ (m l : ℕ). Formed m l (view_of its)) (formed its a.good)

  -- where enough panels are level with it, it waits for nothing
  pub at-idle :
      (up : ℕ → Bool) → enough n its.t up ≡ true → ((l : ℕ) → l < n → up l ≡ true → (view_of its).w l ≡ (view_of its).w i) →
      ((l : ℕ) → l < n → up l ≡ true → (view_of its).r l ≡ (view_of its).r i) → Waits its → its.operation ≡ Idle
  at-idle up quorum w-level r-level =
      level-idle its a.good.form up (ap (λ (m : ℕ). enough m its.t up) a.n-is ∙ quorum)
      (λ l h u. w-level l (omega (arith, a.n-is)) u ∙ ap (λ (x : ℕ). (view_of its).w x) (sym own_is))
      (λ l h u. r-level l (omega (arith, a.n-is)) u ∙ ap (λ (x : ℕ). (view_of its).r x) (sym own_is))

  -- ---- whatever the event, refused or not

  module _ (e : Event) where
    pub at_after : At n i (after p e).panel.tables
    at_after =
        record {
          good = AfterEvents.after-good p e a.good;
          n-is = (AfterEvents.after-setting p e).n ∙ a.n-is;
          number_is = (AfterEvents.after-setting p e).number ∙ a.number_is;
        }

    pub at-peers : ToPeers n i (out_of (after p e).sends)
    at-peers = moved (λ (m l : ℕ). ToPeers m l (out_of (after p e).sends)) (AfterEvents.after-peers p e a.good)

    pub at-to-peers : AllTo n (i + 1) (messages_of (after p e).sends)
    at-to-peers = subst₂ (λ (m l : ℕ). AllTo m l (messages_of (after p e).sends)) a.n-is a.number_is (AfterEvents.after-to-peers p e a.good)

  -- ---- accepted

  pub at-write : (v : ℕ) → refusal its 107 (write v) ≡ 0 → Writes n i (view_of its) (out_of (after p (write v)).sends) (view_of (after p (write v)).panel.tables)
  at-write v z =
      moved (λ (m l : ℕ). Writes m l (view_of its) (out_of (after p (write v)).sends) (view_of (after p (write v)).panel.tables))
      (AfterEvents.after_write p a.good v z)

  pub at_read : refusal its 107 read ≡ 0 → Reads n i (view_of its) (out_of (after p read).sends) (view_of (after p read).panel.tables)
  at_read z =
      moved (λ (m l : ℕ). Reads m l (view_of its) (out_of (after p read).sends) (view_of (after p read).panel.tables)) (AfterEvents.after_read p a.good z)

  module _ (j : ℕ) where
    -- WRITE of the right bit
    pub at-write-from :
        (b : Bool) (v : ℕ) → refusal its 107 (write_from j b v) ≡ 0 → one_if b ≡ suc ((view_of its).w (j - 1)) % 2 →
        WriteComes n i (j - 1) (view_of its) (out_of (after p (write_from j b v)).sends) (view_of (after p (write_from j b v)).panel.tables)
    at-write-from b v z e =
        moved (λ (m l : ℕ). WriteComes m l (j - 1) (view_of its) (out_of (after p (write_from j b v)).sends) (view_of (after p (write_from j b v)).panel.tables))
        (AfterEvents.after-write-from p a.good j b v z (Answers.right-bit its (j - 1) b e))

    -- and of the other
    pub at-write-held :
        (b : Bool) (v : ℕ) → refusal its 107 (write_from j b v) ≡ 0 → one_if b ≡ (view_of its).w (j - 1) % 2 →
        WriteWaits (j - 1) (view_of its) (out_of (after p (write_from j b v)).sends) (view_of (after p (write_from j b v)).panel.tables)
    at-write-held b v z e = AfterEvents.after-write-held p a.good j b v z (Answers.other-bit its (j - 1) b e)

    pub at-read-from :
        refusal its 107 (read_from j) ≡ 0 →
        ReadComes n i (j - 1) (view_of its) (out_of (after p (read_from j)).sends) (view_of (after p (read_from j)).panel.tables)
    at-read-from z =
        moved (λ (m l : ℕ). ReadComes m l (j - 1) (view_of its) (out_of (after p (read_from j)).sends) (view_of (after p (read_from j)).panel.tables))
        (AfterEvents.after-read-from p a.good j z)

    pub at-proceed-from :
        refusal its 107 (proceed_from j) ≡ 0 →
        ProceedComes (j - 1) (view_of its) (out_of (after p (proceed_from j)).sends) (view_of (after p (proceed_from j)).panel.tables)
    at-proceed-from z = AfterEvents.after-proceed-from p a.good j z

  -- ---- when it is accepted

  leads : at_writer its ≡ true → its.writer ≡ i + 1
  leads w = sym (Answers.writer-is its w) ∙ a.number_is

  module _ (j : ℕ) (low : 1 ≤ j) (high : j ≤ n) (other : j - 1 ≢ i) where
    peer : is_peer its j ≡ true
    peer = Answers.peer-test its j low (omega (arith, a.n-is)) (λ (e : j ≡ its.number). other (omega (arith, a.number_is)))

    pub at-write-from-met : (b : Bool) (v : ℕ) → (refusal its 107 (write_from j b v) ≡ 0) ⊎ (refusal its 107 (write_from j b v) ≡ 11)
    at-write-from-met b v = Answers.write-from-met its a.good.form j peer b v

    pub at-read-from-met : (refusal its 107 (read_from j) ≡ 0) ⊎ (refusal its 107 (read_from j) ≡ 13)
    at-read-from-met = Answers.read-from-met its a.good.form j peer

    pub at-proceed-from-met : (refusal its 107 (proceed_from j) ≡ 0) ⊎ (refusal its 107 (proceed_from j) ≡ 12)
    at-proceed-from-met = Answers.proceed-from-met its a.good.form j peer

    pub at-write-from-accepted :
        (b : Bool) (v : ℕ) → one_if b ≡ suc ((view_of its).w (j - 1)) % 2 → suc ((view_of its).w (j - 1)) ≤ 200 →
        (its.writer ≡ i + 1 → suc ((view_of its).w (j - 1)) ≤ (view_of its).w i) → refusal its 107 (write_from j b v) ≡ 0
    at-write-from-accepted b v e h w =
        Answers.write-from-accepted its a.good.form j peer b v (Answers.right-bit its (j - 1) b e) h
        (λ l. let c : suc ((view_of its).w (j - 1)) ≤ (view_of its).w i = w (leads l) in omega (arith, ap (λ (x : ℕ). (view_of its).w x) own_is))

    pub at-write-held-accepted :
        (b : Bool) (v : ℕ) → one_if b ≡ (view_of its).w (j - 1) % 2 → suc (suc ((view_of its).w (j - 1))) ≤ 200 →
        (its.writer ≡ i + 1 → suc (suc ((view_of its).w (j - 1))) ≤ (view_of its).w i) → (view_of its).held (j - 1) ≡ 0 → refusal its 107 (write_from j b v) ≡ 0
    at-write-held-accepted b v e h w free =
        Answers.write-held-accepted its a.good.form j peer b v (Answers.other-bit its (j - 1) b e) h
        (λ l. let c : suc (suc ((view_of its).w (j - 1))) ≤ (view_of its).w i = w (leads l) in omega (arith, ap (λ (x : ℕ). (view_of its).w x) own_is)) free

    pub at-read-from-accepted : (view_of its).waiting (j - 1) < 100 → refusal its 107 (read_from j) ≡ 0
    at-read-from-accepted h = Answers.read-from-accepted its a.good.form j peer h

    pub at-proceed-from-accepted : (view_of its).r (j - 1) < (view_of its).r i → refusal its 107 (proceed_from j) ≡ 0
    at-proceed-from-accepted h =
        Answers.proceed-from-accepted its a.good.form j peer
        (λ (e : (view_of its).r (j - 1) ≡ (view_of its).r (own_place its)). omega (arith, ap (λ (x : ℕ). (view_of its).r x) own_is))
