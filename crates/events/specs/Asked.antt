-- What the panel's private functions ask of their callers. Every public call shows these for itself.
-- Assumes nothing.
use Rattle.std.specs.Prelude.{ℕ, ◌+◌, ◌≤◌, ◌<◌}
use mathlib.Core.{Bool.true, Path.◌≡◌}
use Rattle.tables.specs.Places.{w_at, hold_at}
use Rattle.form.specs.{Asked.Sized, Setting.{own_place, own_w}, declared.Operation.Operation}
use Rattle.form.specs.declared.{Operation.TheVariants.{Idle, Writing, FirstWait, SecondWait}, Tables.Tables}

-- the sn of the second wait
unfoldable pub sn_of : Operation → ℕ
sn_of Idle = 0
sn_of Writing = 0
sn_of FirstWait = 0
sn_of (SecondWait sn) = sn.0

-- the next WRITE of the peer at place k can be taken
pub record Takes (p : Tables) (k : ℕ) : Type 0 where
  pub sized : Sized p
  pub place : k < 7
  pub own_top : own_w p ≤ 200
  pub next : w_at p.w k < 200
  pub below : w_at p.w k ≤ own_w p

-- a held WRITE of the peer at place k can be taken, if there is one
pub record TakesHeld (p : Tables) (k : ℕ) : Type 0 where
  pub sized : Sized p
  pub place : k < 7
  pub own_top : own_w p ≤ 200
  pub next : (hold_at p.held k).full ≡ true → w_at p.w k < 200
  pub below : w_at p.w k ≤ own_w p

-- the operation can be looked at
pub record Looks (p : Tables) : Type 0 where
  pub sized : Sized p
  pub own_top : own_w p ≤ 200
  pub sn_top : sn_of p.operation ≤ 200

-- a WRITE of the peer at place k can be taken, and the held one behind it
pub record TakesAll (p : Tables) (k : ℕ) : Type 0 where
  pub takes : Takes p k
  pub other : k ≡ own_place p → ⊥
  pub held : (hold_at p.held k).full ≡ true → w_at p.w k + 2 ≤ 200
