-- An event never sends more than the area holds: at most 107 messages.
-- Assumes nothing.
use mathlib.Core.{Bool.{Bool, true, false}, List.List, Logic.◌≢◌, Path.{◌≡◌, refl, sym, ap, ap₂, subst, ◌∙◌}}
use Prim.Native.Nat.{ℕ, zero, suc, ◌+◌, ◌-◌, ◌%◌, ◌≤◌, ◌<◌}
use native.Mathlib.{Decide.ℕ_discrete, Omega.arith}
use lib.{Dec.eqb, ListN.{length, get_or, set}}
use borrow.Author.Tests.{eqb-true, ltb-true}
use Rattle.basics.proofs.{Below.count-alike, Choices.ite-case, Ones.{one, nought, nought-apart}}
use Rattle.basics.specs.Below.{one_if, count_below}
use Rattle.messages.proofs.Messages.{length-messages, messages-most, cast-most, length-cast, cast-of-none}
use Rattle.messages.specs.{Sends.{Message, cast_of, messages_of, no_cast}, declared.Cast.Cast, declared.Sends.Sends}
use Rattle.tables.{proofs.Form.level-empty, proofs.Lines.leaving-most, proofs.Marks.only_at, specs.Lines.leaving, specs.Marks.only_place}
use Rattle.tables.specs.{Places.{w_at, hold_at, line_at, no_hold}, declared.Line.Line}
use Rattle.form.{proofs.InForm.InForm, proofs.Stores.{w-set, w-set-ne}, specs.Setting.{own_place, own_w, set_held}}
use Rattle.form.specs.declared.Tables.{Tables}
use Rattle.events.specs.Events.{rule}
use Rattle.events.specs.Rules.{value_of, reached, take, take_held, take_rule, write_rule, read_rule, read_from_rule, proceed_rule, hold_rule}
use Rattle.events.specs.declared.{Ruled.Ruled, Took.Took}
use Rattle.refusals.{proofs.Passing.may-write-from, specs.Refusals.{Event, trials, refusal}}
use Rattle.refusals.specs.Refusals.Event.{write, read, write_from, read_from, proceed_from}
use Rattle.events.proofs.{Kept.{Good, peer-place}, KeptPeers.PeerPlace, Running.{take-keeps, held_keeps}}

-- ---- a cast to one place

none_below : (n k : ℕ) → n ≤ k → count_below n (λ (j : ℕ). eqb j k) ≡ 0
unfolding count_below
none_below zero k h = refl
none_below (suc n) k h = ap₂ ◌+◌ (none_below n k (omega arith)) (nought-apart {m = n} {k = k} (omega arith))

one_place : (n k : ℕ) → count_below n (λ (j : ℕ). eqb j k) ≤ 1
unfolding count_below
one_place zero k = omega arith
one_place (suc n) k = by (eqb n k) refl (one_place n k)
  where
    by : (b : Bool) → eqb n k ≡ b → count_below n (λ (j : ℕ). eqb j k) ≤ 1 → count_below n (λ (j : ℕ). eqb j k) + one_if b ≤ 1
    by true e l = let z : count_below n (λ (j : ℕ). eqb j k) ≡ 0 = none_below n k (let s : n ≡ k = eqb-true _ _ e in omega arith) in omega (arith, one)
    by false e l = omega (arith, nought)

only_one : (k kind value : ℕ) → length (cast_of (record { to = only_place k; kind = kind; value = value })) ≤ 1
only_one k kind value =
    let c : Cast = record { to = only_place k; kind = kind; value = value } in
    omega (arith, length-cast c, count-alike 7 (λ (j : ℕ). get_or (only_place k) j false) (λ (j : ℕ). eqb j k) (only_at k), one_place 7 k)

none-sent : length (cast_of no_cast) ≡ 0
none-sent = ap (λ (ms : List Message). length ms) cast-of-none

-- ---- a WRITE that is taken

module _ (p : Tables) (k v : ℕ) (f : InForm p) (at : k < 7) where
  lines_stay : line_at (take_held (take p k v).tables k).tables.lines k ≡ line_at p.lines k
  lines_stay =
      held_keeps (λ (q : Tables). line_at q.lines k) (take p k v).tables k (λ ws h hs. refl)
      ∙ take-keeps (λ (q : Tables). line_at q.lines k) p k v (λ ws h. refl)

  few : (q : Tables) (u : ℕ) → w_at q.w k ≢ own_w q → length (cast_of (take q k u).cast) ≤ 1
  unfolding take
  few q u n =
      ite-case (λ (o : Took). length (cast_of o.cast) ≤ 1) _ _ _
      (λ e. absurd (n (eqb-true _ _ e)))
      (λ _. ite-case (λ (o : Took). length (cast_of o.cast) ≤ 1) _ _ _
      (λ _. only_one k _ _)
      (λ _. omega (arith, none-sent)))

  held-few : (q : Tables) → w_at q.w k ≢ own_w q → length (cast_of (take_held q k).cast) ≤ 1
  unfolding take_held
  held-few q n =
      ite-case (λ (o : Took). length (cast_of o.cast) ≤ 1) _ _ _
      (λ _. few (set_held q (set q.held k no_hold)) (hold_at q.held k).value n)
      (λ _. omega (arith, none-sent))

  module _ (long : length p.w ≡ 7) (other : k ≢ own_place p) where
    -- not learned: both WRITEs together go to at most seven
    both-few : w_at p.w k ≢ own_w p → length (cast_of (take p k v).cast) + length (cast_of (take_held (take p k v).tables k).cast) ≤ 7
    unfolding take reached
    both-few n =
        ite-case (λ (o : Took). length (cast_of o.cast) + length (cast_of (take_held o.tables k).cast) ≤ 7) _ _ _
        (λ e. absurd (n (eqb-true _ _ e)))
        (λ _. ite-case (λ (o : Took). length (cast_of o.cast) + length (cast_of (take_held o.tables k).cast) ≤ 7) _ _ _
        (λ l. let lag : w_at p.w k + 1 < own_w p = ltb-true _ _ l in
        omega (arith, only_one k ((w_at p.w k + 2) % 2) (value_of p (w_at p.w k + 2)), held-few (reached p k (w_at p.w k + 1)) (behind lag)))
        (λ _. omega (arith, none-sent, cast-most (take_held (reached p k (w_at p.w k + 1)) k).cast)))
      where
        behind : w_at p.w k + 1 < own_w p → w_at (reached p k (w_at p.w k + 1)).w k ≢ own_w (reached p k (w_at p.w k + 1))
        behind lag s =
            let there : w_at (set p.w k (record { 0 = w_at p.w k + 1 })) k ≡ w_at p.w k + 1 = w-set p.w k _ (omega (arith, long, at)) in
            let own : w_at (set p.w k (record { 0 = w_at p.w k + 1 })) (own_place p) ≡ own_w p = w-set-ne p.w k (own_place p) _ (λ e. other (sym e)) in
            let same : w_at (set p.w k (record { 0 = w_at p.w k + 1 })) k ≡ w_at (set p.w k (record { 0 = w_at p.w k + 1 })) (own_place p) = s in
            omega arith

    proceeds-most : (take_rule p k v).sends.proceeds ≤ (line_at p.lines k).len
    unfolding take_rule
    proceeds-most =
        subst (λ (l : Line). leaving (line_at (take_held (take p k v).tables k).tables.lines k) (w_at (take_held (take p k v).tables k).tables.w k) ≤ l.len) lines_stay
        (leaving-most (line_at (take_held (take p k v).tables k).tables.lines k) (w_at (take_held (take p k v).tables k).tables.w k))

    pub take-fits : length (messages_of (take_rule p k v).sends) ≤ 107
    unfolding take_rule
    take-fits = by (ℕ_discrete (w_at p.w k) (own_w p))
      where
        by : Dec (w_at p.w k ≡ own_w p) → length (messages_of (take_rule p k v).sends) ≤ 107
        by (yes e) = omega (arith, messages-most (take_rule p k v).sends, proceeds-most, level-empty (f.place k at).line e)
        by (no n) = let short : (line_at p.lines k).len ≤ 100 = (f.place k at).line.short in omega (arith, length-messages (take_rule p k v).sends, proceeds-most, both-few n)

-- ---- every event

small : (s : Sends) → s.proceeds ≤ 1 → length (messages_of s) ≤ 107
small s h = omega (arith, messages-most s)

hold-small : (p : Tables) (k v : ℕ) → (hold_rule p k v).sends.proceeds ≤ 1
unfolding hold_rule
hold-small p k v = omega arith

read-from-small : (p : Tables) (k : ℕ) → (read_from_rule p k).sends.proceeds ≤ 1
unfolding read_from_rule
read-from-small p k = ite-case (λ (q : Ruled). q.sends.proceeds ≤ 1) _ _ _ (λ _. omega arith) (λ _. omega arith)

proceed-small : (p : Tables) (k : ℕ) → (proceed_rule p k).sends.proceeds ≤ 1
unfolding proceed_rule
proceed-small p k = omega arith

write-small : (p : Tables) (v : ℕ) → (write_rule p v).sends.proceeds ≤ 1
unfolding write_rule
write-small p v = omega arith

read_small : (p : Tables) → (read_rule p).sends.proceeds ≤ 1
unfolding read_rule
read_small p = omega arith

pub sends-fit : (p : Tables) (room : ℕ) (e : Event) → Good p → refusal p room e ≡ 0 → length (messages_of (rule p e).sends) ≤ 107
unfolding rule refusal trials
sends-fit p room (write v) g h = small (write_rule p v).sends (write-small p v)
sends-fit p room read g h = small (read_rule p).sends (read_small p)
sends-fit p room (write_from j b v) g h =
    let m = may-write-from p room j b h in
    let at : PeerPlace p (j - 1) = peer-place p room j g.form m.0 in
    ite-case (λ (q : Ruled). length (messages_of q.sends) ≤ 107) _ _ _
    (λ _. take-fits p (j - 1) v g.form at.seven g.shape.w_long at.other)
    (λ _. small (hold_rule p (j - 1) v).sends (hold-small p (j - 1) v))
sends-fit p room (read_from j) g h = small (read_from_rule p (j - 1)).sends (read-from-small p (j - 1))
sends-fit p room (proceed_from j) g h = small (proceed_rule p (j - 1)).sends (proceed-small p (j - 1))
