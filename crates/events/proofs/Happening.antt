-- The two ways out of an event, for its code: refused, or its rule and then the look at the operation.
-- Assumes nothing.
use mathlib.Core.{Bool.{true, false}, Logic.◌≢◌, Path.{◌≡◌, sym, ap, subst, ◌∙◌}}
use Prim.Native.Nat.{ℕ, ◌+◌, ◌-◌, ◌%◌, ◌≤◌, ◌<◌}
use native.Mathlib.Omega.{arith}
use lib.{Dec.ltb, ListN.{get_or, set}}
use borrow.Author.Tests.{eq-eqb, ne_eqb, le-leb, lt-leb, lt-ltb, le-ltb}
use Rattle.std.specs.Prelude.{Ok, Err}
use Rattle.basics.{proofs.Choices.{ite-true, ite-false}, proofs.Refusals.{unless-ok, unless-err}, specs.Choice.ite, specs.Refusal.met}
use Rattle.basics.specs.declared.refused.Refusal.{Refusal}
use Rattle.messages.specs.Sends.{no_cast}
use Rattle.tables.specs.{Lines.joined, Marks.only_place, Places.{w_at, r_at, hold_at, line_at, no_write, no_hold}, declared.Line.Line}
use Rattle.form.{proofs.InForm.{InForm, PlaceOf, form-view}, specs.Asked.Sized, specs.Setting.{own_place, own_w, own_r, set_held, set_lines}}
use Rattle.form.specs.declared.Tables.{Tables}
use Rattle.events.specs.{Asked.Takes, Events.{rule, refused_by, looked_at, happens}}
use Rattle.events.specs.{Rules.{learned, spread, reached, take, take_held, value_of, read_from_rule, sends_proceeds}, declared.Ruled.Ruled}
use Rattle.refusals.{proofs.Passing.MayCome, specs.Refusals.{Event, trials}}

module _ (p : Tables) (room : ℕ) (e : Event) where
  pub happens-refused : (r : Refusal) → Err r ≡ met (trials p room e) → refused_by p r ≡ happens p room e
  unfolding happens
  happens-refused r h = sym (unless-err _ _ (sym h))

  pub happens-taken : Ok tt ≡ met (trials p room e) → (q : Ruled) → q ≡ rule p e → looked_at q ≡ happens p room e
  unfolding happens
  happens-taken h q r = ap looked_at r ∙ sym (unless-ok _ _ (sym h))

-- ---- what an event from a peer may rely on; m is the peer's number as the code holds it

pub record Comes (p : Tables) (m : ℕ) : Type 0 where
  pub form : InForm p
  pub low : 1 ≤ m
  pub place : m - 1 < 7
  pub other : m - 1 ≢ own_place p
  pub r_small : r_at p.r (m - 1) < 255
  pub w_below : w_at p.w (m - 1) ≤ own_w p
  pub held_next : (hold_at p.held (m - 1)).full ≡ true → w_at p.w (m - 1) + 2 ≤ 200

comes-j : (p : Tables) (room j : ℕ) → MayCome p room j → Comes p j
comes-j p room j c =
    let f : InForm p = form-view p c.form in
    let low : 1 ≤ j = c.low in
    let high : j ≤ p.n = c.high in
    let most : p.n ≤ 7 = f.sizes.n-high in
    let one : 1 ≤ p.number = f.number-low in
    let o : PlaceOf p (j - 1) = f.place (j - 1) (omega arith) in
    let r : r_at p.r (j - 1) ≤ own_r p = o.r_below in
    let top : own_r p ≤ 100 = f.r_top in
    record {
      form = f;
      low = low;
      place = omega arith;
      other = λ (e : j - 1 ≡ own_place p). c.other (omega arith);
      r_small = omega arith;
      w_below = o.w_below;
      held_next = o.hold.next-exists;
    }

pub comes : (p : Tables) (room j m : ℕ) → m ≡ j → MayCome p room j → Comes p m
comes p room j m e c = subst (Comes p) (sym e) (comes-j p room j c)

-- ---- READ from a peer: answered, or waiting; i is the panel's number as the code holds it

module _ (p : Tables) (k i : ℕ) (own : i ≡ p.number) where
  pub read-answered : w_at p.w (i - 1) ≤ w_at p.w k → record { tables = p; sends = sends_proceeds k 1 } ≡ read_from_rule p k
  unfolding read_from_rule
  read-answered h = sym (ite-true _ _ (le-leb _ _ (subst (λ (x : ℕ). w_at p.w (x - 1) ≤ w_at p.w k) own h)))

  pub read-waits :
      (l : Line) → l ≡ ite (ltb (line_at p.lines k).len 100) (joined (line_at p.lines k) (get_or p.w (i - 1) no_write)) (line_at p.lines k) →
      w_at p.w k < w_at p.w (i - 1) → (w_at p.w k < own_w p → (line_at p.lines k).len < 100) →
      record { tables = set_lines p (set p.lines k l); sends = sends_proceeds k 0 } ≡ read_from_rule p k
  unfolding read_from_rule
  read-waits l e h room =
      let behind : w_at p.w k < own_w p = subst (λ (x : ℕ). w_at p.w k < w_at p.w (x - 1)) own h in
      ap (λ (x : Line). record { tables = set_lines p (set p.lines k x); sends = sends_proceeds k 0 })
      (e ∙ ite-true _ _ (lt-ltb _ _ (room behind)) ∙ ap (λ (x : ℕ). joined (line_at p.lines k) (get_or p.w (x - 1) no_write)) own)
      ∙ sym (ite-false _ _ (lt-leb _ _ behind))

-- ---- one WRITE taken: learned, or the next value for a peer that lags, or neither

module _ (p : Tables) (k v i : ℕ) (own : i ≡ p.number) where
  pub take-learns :
      w_at p.w k ≡ w_at p.w (i - 1) → record { tables = reached (learned p v) k (w_at p.w (i - 1) + 1); cast = spread p v } ≡ take p k v
  unfolding take
  take-learns e =
      ap (λ (x : ℕ). record { tables = reached (learned p v) k (w_at p.w (x - 1) + 1); cast = spread p v }) own
      ∙ sym (ite-true _ _ (eq-eqb _ _ (e ∙ ap (λ (x : ℕ). w_at p.w (x - 1)) own)))

  pub take-lags :
      w_at p.w k ≢ w_at p.w (i - 1) → w_at p.w k + 1 < w_at p.w (i - 1) →
      record { tables = reached p k (w_at p.w k + 1); cast = record { to = only_place k; kind = (w_at p.w k + 2) % 2; value = value_of p (w_at p.w k + 2) } } ≡ take p k v
  unfolding take
  take-lags n h =
      sym
      (ite-false _ _ (ne_eqb _ _ (λ (e : w_at p.w k ≡ own_w p). n (e ∙ ap (λ (x : ℕ). w_at p.w (x - 1)) (sym own))))
      ∙ ite-true _ _ (lt-ltb _ _ (subst (λ (x : ℕ). w_at p.w k + 1 < w_at p.w (x - 1)) own h)))

  pub take_meets :
      w_at p.w k ≢ w_at p.w (i - 1) → w_at p.w (i - 1) ≤ w_at p.w k + 1 →
      record { tables = reached p k (w_at p.w k + 1); cast = no_cast } ≡ take p k v
  unfolding take
  take_meets n h =
      sym
      (ite-false _ _ (ne_eqb _ _ (λ (e : w_at p.w k ≡ own_w p). n (e ∙ ap (λ (x : ℕ). w_at p.w (x - 1)) (sym own))))
      ∙ ite-false _ _ (le-ltb _ _ (subst (λ (x : ℕ). w_at p.w (x - 1) ≤ w_at p.w k + 1) own h)))

  -- what taking asks of what it calls
  pub takes-learn : Takes p k → w_at p.w k ≡ w_at p.w (i - 1) → Sized p × (own_w p < 200)
  takes-learn t e =
      let next : w_at p.w k < 200 = t.next in
      let same : w_at p.w k ≡ own_w p = e ∙ ap (λ (x : ℕ). w_at p.w (x - 1)) own in
      (t.sized, omega arith)

  pub takes-lag : Takes p k → w_at p.w k + 1 < w_at p.w (i - 1) → w_at p.w k + 2 ≤ 200
  takes-lag t h =
      let top : own_w p ≤ 200 = t.own_top in
      let less : w_at p.w k + 1 < own_w p = subst (λ (x : ℕ). w_at p.w k + 1 < w_at p.w (x - 1)) own h in
      omega arith

pub held-taken : (p : Tables) (k : ℕ) → (hold_at p.held k).full ≡ true → take (set_held p (set p.held k no_hold)) k (hold_at p.held k).value ≡ take_held p k
unfolding take_held
held-taken p k h = sym (ite-true _ _ h)

pub none-held : (p : Tables) (k : ℕ) → (hold_at p.held k).full ≡ false → record { tables = p; cast = no_cast } ≡ take_held p k
unfolding take_held
none-held p k h = sym (ite-false _ _ h)
