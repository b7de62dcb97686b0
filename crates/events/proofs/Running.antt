-- What the calls between the panel's own functions ask: that a rule leaves tables that can be looked at, and that one WRITE taken
-- leaves tables from which the held one can be taken.
-- Assumes nothing.
use mathlib.Core.{Bool.{Bool, true}, List.List, Logic.{◌≢◌, ◌⊎◌, inl, inr}, Path.{◌≡◌, refl, sym, ap, subst, ◌∙◌}}
use Prim.Native.Nat.{ℕ, ◌+◌, ◌-◌, ◌≤◌, ◌<◌}
use native.Mathlib.{Decide.{ℕ_discrete, dec_lt}, Nat.le_trans, Omega.arith}
use lib.{ListN.{length, set}, Seq.set_out}
use borrow.Author.Tests.{eqb-true, eqb-false, leb-true}
use Rattle.basics.proofs.Choices.{ite-case, both_right}
use Rattle.tables.specs.{Places.{w_at, hold_at, no_hold}, declared.Hold.Hold, declared.WriteNo.WriteNo}
use Rattle.form.{proofs.InForm.{InForm, sized}, proofs.Shape.length-kept, proofs.Stores.{w-set, w-set-ne}, specs.Asked.Sized}
use Rattle.form.specs.{Form.{at_writer, operation_ok}, Setting.{own_place, own_w, own_r, set_w, set_history, set_held}}
use Rattle.form.specs.declared.{Operation.Operation, Operation.TheVariants.{Idle, Writing, FirstWait, SecondWait}, Tables.Tables}
use Rattle.events.specs.Asked.{sn_of, Takes, TakesHeld, Looks}
use Rattle.events.specs.Rules.{learned, reached, take, take_held, released, take_rule, write_rule, read_rule, read_from_rule, proceed_rule, hold_rule}
use Rattle.events.specs.declared.{Ruled.Ruled, Took.Took}

-- a store of a number at most n leaves every number at most n
pub w-set-most : (ws : List WriteNo) (k j n : ℕ) (x : WriteNo) → w_at ws j ≤ n → x.0 ≤ n → w_at (set ws k x) j ≤ n
w-set-most ws k j n x a b = at (ℕ_discrete j k)
  where
    there : Dec (k < length ws) → w_at (set ws k x) k ≤ n ⊎ (set ws k x ≡ ws)
    there (yes h) = inl (subst (λ (m : ℕ). m ≤ n) (sym (w-set ws k x h)) b)
    there (no h) = inr (set_out ws k x (omega arith))

    pick : j ≡ k → w_at (set ws k x) k ≤ n ⊎ (set ws k x ≡ ws) → w_at (set ws k x) j ≤ n
    pick e (inl h) = subst (λ (i : ℕ). w_at (set ws k x) i ≤ n) (sym e) h
    pick e (inr h) = subst (λ (l : List WriteNo). w_at l j ≤ n) (sym h) a

    at : Dec (j ≡ k) → w_at (set ws k x) j ≤ n
    at (yes e) = pick e (there (dec_lt k (length ws)))
    at (no e) = subst (λ (m : ℕ). m ≤ n) (sym (w-set-ne ws k j x e)) a

-- ---- a panel in form can be looked at

sn-form : (o : Operation) (lead : Bool) (x y : ℕ) → operation_ok o lead x y ≡ true → x ≤ 200 → sn_of o ≤ 200
unfolding operation_ok sn_of
sn-form Idle lead x y h a = omega arith
sn-form Writing lead x y h a = omega arith
sn-form FirstWait lead x y h a = omega arith
sn-form (SecondWait sn) lead x y h a = le_trans (leb-true sn.0 x (both_right _ _ h)) a

module _ (p : Tables) (f : InForm p) where
  pub looks-form : Looks p
  looks-form = record { sized = sized p f; own_top = f.w_top; sn_top = sn-form p.operation (at_writer p) (own_w p) (own_r p) f.operation-form f.w_top }

  pub looks-write : (v : ℕ) → own_w p < 200 → Looks (write_rule p v).tables
  unfolding write_rule learned sn_of
  looks-write v h =
      record {
        sized = record { low = (sized p f).low; high = (sized p f).high };
        own_top = w-set-most p.w (own_place p) (own_place p) 200 (record { 0 = own_w p + 1 }) f.w_top (omega arith);
        sn_top = omega arith;
      }

  pub looks-read : Looks (read_rule p).tables
  unfolding read_rule sn_of
  looks-read = record { sized = record { low = (sized p f).low; high = (sized p f).high }; own_top = f.w_top; sn_top = omega arith }

  pub looks-proceed : (k : ℕ) → Looks (proceed_rule p k).tables
  unfolding proceed_rule
  looks-proceed k = record { sized = record { low = (sized p f).low; high = (sized p f).high }; own_top = f.w_top; sn_top = looks-form.sn_top }

  pub looks-hold : (k v : ℕ) → Looks (hold_rule p k v).tables
  unfolding hold_rule
  looks-hold k v = record { sized = record { low = (sized p f).low; high = (sized p f).high }; own_top = f.w_top; sn_top = looks-form.sn_top }

  pub looks-read-from : (k : ℕ) → Looks (read_from_rule p k).tables
  unfolding read_from_rule
  looks-read-from k =
      ite-case (λ (q : Ruled). Looks q.tables) _ _ _ (λ _. looks-form)
      (λ _. record { sized = record { low = (sized p f).low; high = (sized p f).high }; own_top = f.w_top; sn_top = looks-form.sn_top })

-- ---- taking

-- taking changes the write numbers and the history alone
pub take-keeps : {A : Type 0} (g : Tables → A) (p : Tables) (k v : ℕ) → ((ws : List WriteNo) (h : List ℕ) → g (set_history (set_w p ws) h) ≡ g p) → g (take p k v).tables ≡ g p
unfolding take learned reached
take-keeps g p k v h =
    ite-case (λ (q : Took). g q.tables ≡ g p) _ _ _ (λ _. h _ _)
    (λ _. ite-case (λ (q : Took). g q.tables ≡ g p) _ _ _ (λ _. h _ p.history) (λ _. h _ p.history))

module _ (p : Tables) (k v : ℕ) (t : Takes p k) where
  x+ : WriteNo
  x+ = record { 0 = w_at p.w k + 1 }

  y+ : WriteNo
  y+ = record { 0 = own_w p + 1 }

  -- the write numbers after one WRITE is taken: learned and reached, or reached alone
  take-w : (P : List WriteNo → Type 0) → (w_at p.w k ≡ own_w p → P (set (set p.w (own_place p) y+) k y+)) → (w_at p.w k ≢ own_w p → P (set p.w k x+)) → P (take p k v).tables.w
  unfolding take learned reached x+ y+
  take-w P a b =
      ite-case (λ (q : Took). P q.tables.w) _ _ _ (λ e. a (eqb-true _ _ e))
      (λ e. ite-case (λ (q : Took). P q.tables.w) _ _ _ (λ _. b (eqb-false _ _ e)) (λ _. b (eqb-false _ _ e)))

  take-top : (j : ℕ) → w_at p.w j ≤ 200 → w_at (take p k v).tables.w j ≤ 200
  unfolding x+ y+
  take-top j h =
      let next : w_at p.w k < 200 = t.next in
      take-w (λ (ws : List WriteNo). w_at ws j ≤ 200)
      (λ e. w-set-most (set p.w (own_place p) y+) k j 200 y+ (w-set-most p.w (own_place p) j 200 y+ h (omega arith)) (omega arith))
      (λ _. w-set-most p.w k j 200 x+ h (omega arith))

  take-own-top : own_w (take p k v).tables ≤ 200
  take-own-top = subst (λ (i : ℕ). w_at (take p k v).tables.w (i - 1) ≤ 200) (sym (take-keeps (λ (q : Tables). q.number) p k v (λ ws h. refl))) (take-top (own_place p) t.own_top)

  take-sized : Sized (take p k v).tables
  take-sized =
      let same : (take p k v).tables.number ≡ p.number = take-keeps (λ (q : Tables). q.number) p k v (λ ws h. refl) in
      record { low = omega (arith, t.sized.low); high = omega (arith, t.sized.high) }

  module _ (long : length p.w ≡ 7) (other : k ≢ own_place p) where
    take-peer : w_at (take p k v).tables.w k ≡ w_at p.w k + 1
    unfolding x+ y+
    take-peer =
        take-w (λ (ws : List WriteNo). w_at ws k ≡ w_at p.w k + 1)
        (λ e. w-set (set p.w (own_place p) y+) k y+ (omega (arith, length-kept p.w (own_place p) y+ long, t.place)) ∙ ap (λ (n : ℕ). n + 1) (sym e))
        (λ _. w-set p.w k x+ (omega (arith, long, t.place)))

    take_below : w_at (take p k v).tables.w k ≤ w_at (take p k v).tables.w (own_place p)
    unfolding x+ y+
    take_below =
        let below : w_at p.w k ≤ own_w p = t.below in
        take-w (λ (ws : List WriteNo). w_at ws k ≤ w_at ws (own_place p))
        (λ e. let at-peer = w-set (set p.w (own_place p) y+) k y+ (omega (arith, length-kept p.w (own_place p) y+ long, t.place)) in
        let at_own = w-set-ne (set p.w (own_place p) y+) k (own_place p) y+ (λ s. other (sym s)) ∙ w-set p.w (own_place p) y+ (omega (arith, long, t.sized.low, t.sized.high)) in
        omega (arith, at-peer, at_own))
        (λ n. let at-peer = w-set p.w k x+ (omega (arith, long, t.place)) in
        let at_own = w-set-ne p.w k (own_place p) x+ (λ s. other (sym s)) in
        omega (arith, at-peer, at_own, n))

    pub take-then-held : ((hold_at p.held k).full ≡ true → w_at p.w k + 2 ≤ 200) → TakesHeld (take p k v).tables k
    take-then-held room =
        record {
          sized = take-sized;
          place = t.place;
          own_top = take-own-top;
          next = λ e. let two : w_at p.w k + 2 ≤ 200 = room (sym (take-keeps (λ (q : Tables). (hold_at q.held k).full) p k v (λ ws h. refl)) ∙ e) in omega (arith, take-peer);
          below = subst (λ (i : ℕ). w_at (take p k v).tables.w k ≤ w_at (take p k v).tables.w (i - 1)) (sym (take-keeps (λ (q : Tables). q.number) p k v (λ ws h. refl))) take_below;
        }

-- ---- the held WRITE, and the whole rule

pub held-takes : (p : Tables) (k : ℕ) → TakesHeld p k → (hold_at p.held k).full ≡ true → Takes (set_held p (set p.held k no_hold)) k
held-takes p k h e = record { sized = record { low = h.sized.low; high = h.sized.high }; place = h.place; own_top = h.own_top; next = h.next e; below = h.below }

pub held_keeps : {A : Type 0} (g : Tables → A) (p : Tables) (k : ℕ) → ((ws : List WriteNo) (h : List ℕ) (hs : List Hold) → g (set_held (set_history (set_w p ws) h) hs) ≡ g p) → g (take_held p k).tables ≡ g p
unfolding take_held
held_keeps g p k h =
    ite-case (λ (q : Took). g q.tables ≡ g p) _ _ _
    (λ _. take-keeps g (set_held p (set p.held k no_hold)) k _ (λ ws l. h ws l (set p.held k no_hold) ∙ sym (h p.w p.history (set p.held k no_hold))) ∙ h p.w p.history (set p.held k no_hold))
    (λ _. refl)

held_top : (p : Tables) (k : ℕ) → TakesHeld p k → own_w (take_held p k).tables ≤ 200
unfolding take_held
held_top p k h =
    ite-case (λ (q : Took). own_w q.tables ≤ 200) _ _ _
    (λ e. take-own-top (set_held p (set p.held k no_hold)) k _ (held-takes p k h e))
    (λ _. h.own_top)

pub looks-take :
    (p : Tables) (k v : ℕ) → InForm p → Takes p k → length p.w ≡ 7 → k ≢ own_place p → ((hold_at p.held k).full ≡ true → w_at p.w k + 2 ≤ 200) → Looks (take_rule p k v).tables
unfolding take_rule released
looks-take p k v f t long other room =
    let q : Tables = (take p k v).tables in
    let h : TakesHeld q k = take-then-held p k v t long other room in
    let number : (take_held q k).tables.number ≡ p.number = held_keeps (λ (x : Tables). x.number) q k (λ ws l hs. refl) ∙ take-keeps (λ (x : Tables). x.number) p k v (λ ws l. refl) in
    let operation : (take_held q k).tables.operation ≡ p.operation = held_keeps (λ (x : Tables). x.operation) q k (λ ws l hs. refl) ∙ take-keeps (λ (x : Tables). x.operation) p k v (λ ws l. refl) in
    record {
      sized = record { low = omega (arith, number, (sized p f).low); high = omega (arith, number, (sized p f).high) };
      own_top = held_top q k h;
      sn_top = subst (λ (o : Operation). sn_of o ≤ 200) (sym operation) (looks-form p f).sn_top;
    }
