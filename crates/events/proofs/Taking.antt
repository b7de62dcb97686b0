-- What taking WRITEs of one peer does to a panel's tables: stages, one for each WRITE taken.
-- Assumes nothing.
use mathlib.Core.{Bool.{true, false}, List.List, Logic.{◌≢◌, ◌⊎◌, inl, inr}, Path.{◌≡◌, refl, sym, ap, ◌∙◌}}
use Prim.Native.Nat.{ℕ, ◌+◌, ◌≤◌, ◌<◌}
use native.Mathlib.Omega.{arith}
use lib.{Dec.{ltb, eqb}, ListN.{length, get_or, set}, Seq.get_or-set_other}
use borrow.Author.Tests.{eqb-true, eqb-false}
use Rattle.basics.proofs.Choices.{ite-case}
use Rattle.tables.specs.{Places.{w_at, hold_at, no_hold}, declared.Hold.Hold, declared.WriteNo.WriteNo}
use Rattle.form.{proofs.Shape.length-kept, proofs.Stores.{w-set, w-set-ne, hold-set, hold-set-ne}, specs.Setting.{own_place, own_w}}
use Rattle.form.specs.declared.Tables.{Tables}
use Rattle.events.specs.{Rules.{learned, spread, reached, take, take_held}, declared.Took.Took}
use Rattle.events.proofs.KeptPeers.{PeerPlace}

-- the panel with other write numbers, another history and other holds
abbrev pub with : Tables → List WriteNo → List ℕ → List Hold → Tables
with p ws h hs =
    record { n = p.n; t = p.t; writer = p.writer; number = p.number; w = ws; r = p.r; history = h; held = hs; lines = p.lines; operation = p.operation }

-- WRITEs of the peer at place k have been taken up to number x, from panel p on
pub record Stage (p : Tables) (k x : ℕ) : Type 0 where
  pub w : List WriteNo
  pub history : List ℕ
  pub held : List Hold
  pub w_long : length w ≡ 7
  pub history_long : length history ≡ 201
  pub held_long : length held ≡ 7
  pub peer : w_at w k ≡ x
  pub others : (j : ℕ) → j ≢ k → j ≢ own_place p → w_at w j ≡ w_at p.w j
  pub own-grows : own_w p ≤ w_at w (own_place p)
  pub own-covers : x ≤ w_at w (own_place p)
  pub own-from : (w_at w (own_place p) ≡ own_w p) ⊎ (w_at w (own_place p) ≡ x)
  pub unwritten : (j : ℕ) → j < 201 → w_at w (own_place p) < j → get_or history j 0 ≡ 0
  pub holds : (j : ℕ) → j ≢ k → hold_at held j ≡ hold_at p.held j

abbrev pub at_stage : {p : Tables} {k x : ℕ} → Stage p k x → Tables
at_stage {p} a = with p a.w a.history a.held

-- a panel from which a WRITE is taken: its stage before, and its stage after
pub record Taken (p : Tables) (k x : ℕ) (a : Stage p k x) (q : Took) : Type 0 where
  pub next : Stage p k (x + 1)
  pub there : q.tables ≡ at_stage next
  pub same-holds : next.held ≡ a.held

module _ (p : Tables) (k x : ℕ) (at : PeerPlace p k) (own : own_place p < 7) (a : Stage p k x) (v : ℕ) where
  -- lines 13 to 15: v is learned as number x + 1
  learns : x ≡ w_at a.w (own_place p) → Taken p k x a (record { tables = reached (learned (at_stage a) v) k (w_at a.w (own_place p) + 1); cast = spread (at_stage a) v })
  unfolding reached learned
  learns e =
      record {
        next = record {
          w = w'';
          history = set a.history (w_at a.w (own_place p) + 1) v;
          held = a.held;
          w_long = length-kept w' k y+ (length-kept a.w (own_place p) y+ a.w_long);
          history_long = length-kept a.history _ v a.history_long;
          held_long = a.held_long;
          peer = w-set w' k y+ (omega (arith, at.seven, length-kept a.w (own_place p) y+ a.w_long)) ∙ ap (λ (n : ℕ). n + 1) (sym e);
          others = λ j m n. w-set-ne w' k j y+ m ∙ w-set-ne a.w (own_place p) j y+ n ∙ a.others j m n;
          own-grows = omega (arith, own-now, a.own-grows);
          own-covers = omega (arith, own-now, e);
          own-from = inr (own-now ∙ ap (λ (n : ℕ). n + 1) (sym e));
          unwritten = λ j b c. get_or-set_other a.history _ j v 0 (omega (arith, own-now, c)) ∙ a.unwritten j b (omega (arith, own-now, c));
          holds = a.holds;
        };
        there = refl;
        same-holds = refl;
      }
    where
      y+ : WriteNo
      y+ = record { 0 = w_at a.w (own_place p) + 1 }

      w' : List WriteNo
      w' = set a.w (own_place p) y+

      w'' : List WriteNo
      w'' = set w' k y+

      own-now : w_at w'' (own_place p) ≡ w_at a.w (own_place p) + 1
      own-now = w-set-ne w' k (own_place p) y+ (λ h. at.other (sym h)) ∙ w-set a.w (own_place p) y+ (omega (arith, a.w_long))

  -- lines 16 to 18: nothing is learned
  follows : x < w_at a.w (own_place p) → (q : Took) → q.tables ≡ reached (at_stage a) k (w_at a.w k + 1) → Taken p k x a q
  unfolding reached
  follows h q s =
      record {
        next = record {
          w = w';
          history = a.history;
          held = a.held;
          w_long = length-kept a.w k x+ a.w_long;
          history_long = a.history_long;
          held_long = a.held_long;
          peer = w-set a.w k x+ (omega (arith, at.seven, a.w_long)) ∙ ap (λ (n : ℕ). n + 1) a.peer;
          others = λ j m n. w-set-ne a.w k j x+ m ∙ a.others j m n;
          own-grows = omega (arith, own_same, a.own-grows);
          own-covers = omega (arith, own_same);
          own-from = from a.own-from;
          unwritten = λ j b c. a.unwritten j b (omega (arith, own_same, c));
          holds = a.holds;
        };
        there = s;
        same-holds = refl;
      }
    where
      x+ : WriteNo
      x+ = record { 0 = w_at a.w k + 1 }

      w' : List WriteNo
      w' = set a.w k x+

      own_same : w_at w' (own_place p) ≡ w_at a.w (own_place p)
      own_same = w-set-ne a.w k (own_place p) x+ (λ e. at.other (sym e))

      from : (w_at a.w (own_place p) ≡ own_w p) ⊎ (w_at a.w (own_place p) ≡ x) → (w_at w' (own_place p) ≡ own_w p) ⊎ (w_at w' (own_place p) ≡ x + 1)
      from (inl o) = inl (own_same ∙ o)
      from (inr o) = absurd (omega arith)

  -- lines 12 to 18
  pub taken : Taken p k x a (take (at_stage a) k v)
  unfolding take
  taken =
      ite-case (λ (q : Took). Taken p k x a q) (eqb (w_at a.w k) (w_at a.w (own_place p))) _ _
      (λ e. learns (sym a.peer ∙ eqb-true _ _ e))
      (λ e. let below : x < w_at a.w (own_place p) = let n : w_at a.w k ≢ w_at a.w (own_place p) = eqb-false _ _ e in omega (arith, a.peer, a.own-covers, n) in
      ite-case (λ (q : Took). Taken p k x a q) (ltb (w_at a.w k + 1) (w_at a.w (own_place p))) _ _
      (λ _. follows below _ refl)
      (λ _. follows below _ refl))

-- ---- the held WRITE, behind the one that came

pub record HeldTaken (p : Tables) (k x : ℕ) (a : Stage p k x) (q : Took) : Type 0 where
  pub upto : ℕ
  pub next : Stage p k upto
  pub there : q.tables ≡ at_stage next
  pub at_least : x ≤ upto
  pub at_most : (upto ≡ x) ⊎ ((upto ≡ x + 1) × ((hold_at a.held k).full ≡ true))
  pub empty : ((hold_at next.held k).full ≡ false) × ((hold_at next.held k).value ≡ 0)

module _ (p : Tables) (k x : ℕ) (at : PeerPlace p k) (own : own_place p < 7) (a : Stage p k x) (zero : (hold_at a.held k).full ≡ false → (hold_at a.held k).value ≡ 0) where
  emptied : Stage p k x
  emptied =
      record {
        w = a.w;
        history = a.history;
        held = set a.held k no_hold;
        w_long = a.w_long;
        history_long = a.history_long;
        held_long = length-kept a.held k no_hold a.held_long;
        peer = a.peer;
        others = a.others;
        own-grows = a.own-grows;
        own-covers = a.own-covers;
        own-from = a.own-from;
        unwritten = a.unwritten;
        holds = λ j e. hold-set-ne a.held k j no_hold e ∙ a.holds j e;
      }

  pub held-taken : HeldTaken p k x a (take_held (at_stage a) k)
  unfolding take_held emptied
  held-taken =
      ite-case (λ (q : Took). HeldTaken p k x a q) (hold_at a.held k).full _ _
      (λ e. let t : Taken p k x emptied (take (at_stage emptied) k (hold_at a.held k).value) = taken p k x at own emptied (hold_at a.held k).value in
      let none : hold_at t.next.held k ≡ no_hold = ap (λ (hs : List Hold). hold_at hs k) t.same-holds ∙ hold-set a.held k no_hold (omega (arith, at.seven, a.held_long)) in
      record {
        upto = x + 1;
        next = t.next;
        there = t.there;
        at_least = omega arith;
        at_most = inr (refl, e);
        empty = (ap (λ (h : Hold). h.full) none, ap (λ (h : Hold). h.value) none);
      })
      (λ e. record { upto = x; next = a; there = refl; at_least = omega arith; at_most = inl refl; empty = (e, zero e) })
