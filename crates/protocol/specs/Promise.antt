-- The promise of a panel: what each event does to its numbers and how many messages of which kind it sends to whom. `a` is the
-- panel before and `b` after; p is its own place, q the peer's; n is the number of panels.
-- Assumes nothing.
use Rattle.std.specs.Prelude.{ℕ, suc, ◌+◌, ◌-◌, ◌%◌, ◌≤◌, ◌<◌, max}
use mathlib.Core.{Logic.{◌≢◌, ◌⊎◌}, Path.◌≡◌}
use Rattle.protocol.specs.World.{View, Out, due}

-- ---- what is sent

-- every message goes to another of the n panels
pub record ToPeers (n p : ℕ) (out : Out) : Type 0 where
  pub past : (l k : ℕ) → n ≤ l → out l k ≡ 0
  pub own : (k : ℕ) → out p k ≡ 0

pub record NoWrites (out : Out) : Type 0 where
  pub zeros : (l : ℕ) → out l 0 ≡ 0
  pub ones : (l : ℕ) → out l 1 ≡ 0

-- WRITEs go out as the write numbers say: to each peer the one that is due by now, by its bit
pub record SendsDue (n p : ℕ) (w w' : ℕ → ℕ) (out : Out) : Type 0 where
  pub next : (l : ℕ) → l < n → l ≢ p → out l (suc (due p w l) % 2) ≡ due p w' l - due p w l
  pub else : (l : ℕ) → l < n → l ≢ p → out l (due p w l % 2) ≡ 0

-- ---- the events

-- write: lines 1 and 2
pub record Writes (n p : ℕ) (a : View) (out : Out) (b : View) : Type 0 where
  pub w_own : b.w p ≡ suc (a.w p)
  pub w_rest : (l : ℕ) → l ≢ p → b.w l ≡ a.w l
  pub r : (l : ℕ) → b.r l ≡ a.r l
  pub held : (l : ℕ) → b.held l ≡ a.held l
  pub waiting : (l : ℕ) → b.waiting l ≡ a.waiting l
  pub peers : ToPeers n p out
  pub writes : SendsDue n p a.w b.w out
  pub reads : (l : ℕ) → out l 2 ≡ 0
  pub proceeds : (l : ℕ) → out l 3 ≡ 0

-- read: lines 5 and 6
pub record Reads (n p : ℕ) (a : View) (out : Out) (b : View) : Type 0 where
  pub w : (l : ℕ) → b.w l ≡ a.w l
  pub r_own : b.r p ≡ suc (a.r p)
  pub r_rest : (l : ℕ) → l ≢ p → b.r l ≡ a.r l
  pub held : (l : ℕ) → b.held l ≡ a.held l
  pub waiting : (l : ℕ) → b.waiting l ≡ a.waiting l
  pub peers : ToPeers n p out
  pub writes : NoWrites out
  pub reads : (l : ℕ) → l < n → l ≢ p → out l 2 ≡ 1
  pub proceeds : (l : ℕ) → out l 3 ≡ 0

-- one WRITE of q is taken: lines 12 to 18
pub record Takes (n p q : ℕ) (w w' : ℕ → ℕ) (out : Out) : Type 0 where
  pub from : w' q ≡ suc (w q)
  pub own : w' p ≡ max (w p) (suc (w q))
  pub rest : (l : ℕ) → l ≢ p → l ≢ q → w' l ≡ w l
  pub peers : ToPeers n p out
  pub writes : SendsDue n p w w' out

-- WRITE of the right bit from q: one is taken, then the held one if there is one, then READs of q leave the line
pub record WriteComes (n p q : ℕ) (a : View) (out : Out) (b : View) : Type 0 where
  pub between : ℕ → ℕ
  pub out₁ : Out
  pub out₂ : Out
  pub first : Takes n p q a.w between out₁
  pub then : a.held q ≡ 1 → Takes n p q between b.w out₂
  pub held_or_not : (a.held q ≡ 0) ⊎ (a.held q ≡ 1)
  pub none_w : a.held q ≡ 0 → (l : ℕ) → b.w l ≡ between l
  pub none_out : a.held q ≡ 0 → (l k : ℕ) → out₂ l k ≡ 0
  pub zeros : (l : ℕ) → out l 0 ≡ out₁ l 0 + out₂ l 0
  pub ones : (l : ℕ) → out l 1 ≡ out₁ l 1 + out₂ l 1
  pub peers : ToPeers n p out
  pub r : (l : ℕ) → b.r l ≡ a.r l
  pub held_gone : b.held q ≡ 0
  pub held_rest : (l : ℕ) → l ≢ q → b.held l ≡ a.held l
  pub released : b.waiting q + out q 3 ≡ a.waiting q
  pub waiting_rest : (l : ℕ) → l ≢ q → b.waiting l ≡ a.waiting l
  pub reads : (l : ℕ) → out l 2 ≡ 0
  pub proceeds_rest : (l : ℕ) → l ≢ q → out l 3 ≡ 0

-- WRITE of the other bit from q: it is held (line 11)
pub record WriteWaits (q : ℕ) (a : View) (out : Out) (b : View) : Type 0 where
  pub w : (l : ℕ) → b.w l ≡ a.w l
  pub r : (l : ℕ) → b.r l ≡ a.r l
  pub free : a.held q ≡ 0
  pub held_now : b.held q ≡ 1
  pub held_rest : (l : ℕ) → l ≢ q → b.held l ≡ a.held l
  pub waiting : (l : ℕ) → b.waiting l ≡ a.waiting l
  pub nothing : (l k : ℕ) → out l k ≡ 0

-- READ from q: it is answered at once, or it waits (lines 19 to 21)
pub record ReadComes (n p q : ℕ) (a : View) (out : Out) (b : View) : Type 0 where
  pub w : (l : ℕ) → b.w l ≡ a.w l
  pub r : (l : ℕ) → b.r l ≡ a.r l
  pub held : (l : ℕ) → b.held l ≡ a.held l
  pub answered : b.waiting q + out q 3 ≡ suc (a.waiting q)
  pub waiting_rest : (l : ℕ) → l ≢ q → b.waiting l ≡ a.waiting l
  pub peers : ToPeers n p out
  pub writes : NoWrites out
  pub reads : (l : ℕ) → out l 2 ≡ 0
  pub proceeds_rest : (l : ℕ) → l ≢ q → out l 3 ≡ 0

-- PROCEED from q: line 22
pub record ProceedComes (q : ℕ) (a : View) (out : Out) (b : View) : Type 0 where
  pub w : (l : ℕ) → b.w l ≡ a.w l
  pub r_from : b.r q ≡ suc (a.r q)
  pub r_rest : (l : ℕ) → l ≢ q → b.r l ≡ a.r l
  pub held : (l : ℕ) → b.held l ≡ a.held l
  pub waiting : (l : ℕ) → b.waiting l ≡ a.waiting l
  pub nothing : (l k : ℕ) → out l k ≡ 0
