-- The load of one panel and of what it sends falls below what it was with the message that came: for every event that a delivery runs.
-- Assumes nothing.
use Prim.Native.Nat.{ℕ, suc, ◌+◌, ◌-◌, ◌*◌, ◌%◌, ◌≤◌, ◌<◌}
use mathlib.Core.{Logic.{◌≢◌, ◌⊎◌, inl, inr}, Path.{◌≡◌, refl, sym, ap, subst, ◌∙◌}}
use native.Mathlib.{Decide.{ℕ_discrete, dec_lt}, Omega.arith}
use borrow.Author.Tests.{ne_eqb}
use Rattle.basics.{proofs.Choices.ite-false, specs.Choice.ite}
use Rattle.protocol.specs.Counts.{sum_below, panel_load, out_load, weight}
use Rattle.protocol.specs.{Promise.{Takes, WriteComes, WriteWaits, ReadComes, ProceedComes}, World.{View, Out, due}}
use Rattle.protocol.proofs.{Coming.{takes-own, released-all}, Sums.{sum_same, sum-most, sum-add, sum_more, sum-slack}}

-- ---- one WRITE taken: what it sends weighs at most what the write numbers lose

abbrev ToCome : (ℕ → ℕ) → ℕ → ℕ
ToCome w l = 13 * (200 - w l)

abbrev Sent : Out → ℕ → ℕ
Sent out l = 2 * (out l 0 + out l 1)

two-bits : (f : ℕ → ℕ) (x : ℕ) → f 0 + f 1 ≡ f (suc x % 2) + f (x % 2)
two-bits f x = at (ℕ_discrete (x % 2) 0)
  where
    at : Dec (x % 2 ≡ 0) → f 0 + f 1 ≡ f (suc x % 2) + f (x % 2)
    at (yes e) = let o : suc x % 2 ≡ 1 = omega arith in omega (arith, ap f e, ap f o)
    at (no d) =
        let e : x % 2 ≡ 1 = omega arith in
        let o : suc x % 2 ≡ 0 = omega arith in
        omega (arith, ap f e, ap f o)

module _ {n p q : ℕ} {w w' : ℕ → ℕ} {out : Out} (t : Takes n p q w w' out) (bp : p < n) (bq : q < n) (seven : n ≤ 7) (d : q ≢ p)
    (room : w' p ≤ 200) (own : (l : ℕ) → l < n → w l ≤ w p) where
  sent-due : (l : ℕ) → l ≢ p → out l 0 + out l 1 ≤ due p w' l - due p w l
  sent-due l m = at (dec_lt l n)
    where
      at : Dec (l < n) → out l 0 + out l 1 ≤ due p w' l - due p w l
      at (yes b) = omega (arith, two-bits (out l) (due p w l), t.writes.next l b m, t.writes.else l b m)
      at (no b) = let c : n ≤ l = omega arith in omega (arith, t.peers.past l 0 c, t.peers.past l 1 c)

  place-load : (l : ℕ) → l < 7 → l ≢ p → ToCome w' l + Sent out l ≤ ToCome w l + 2 * (w' p - w p)
  place-load l b m = at (ℕ_discrete l q)
    where
      at : Dec (l ≡ q) → ToCome w' l + Sent out l ≤ ToCome w l + 2 * (w' p - w p)
      at (yes e) =
          subst (λ (x : ℕ). ToCome w' x + Sent out x ≤ ToCome w x + 2 * (w' p - w p)) (sym e)
          (let one : out q 0 + out q 1 ≤ 1 = omega (arith, sent-due q d, t.from, t.own, own q bq) in
          let low : w' q ≤ 200 = omega (arith, t.from, t.own, room) in
          omega (arith, one, low, t.from))
      at (no e) =
          let few : out l 0 + out l 1 ≤ w' p - w p = omega (arith, sent-due l m, t.rest l m e) in
          omega (arith, few, t.rest l m e)

  pub takes-load : sum_below 7 (λ l. ToCome w' l + Sent out l) ≤ sum_below 7 (ToCome w)
  takes-load =
      sum-slack 7 p (2 * (w' p - w p)) (ToCome w) (λ l. ToCome w' l + Sent out l) (omega arith) place-load
      (omega (arith, t.peers.own 0, t.peers.own 1, t.own, own q bq, room))

-- ---- the events

-- the load of one place of a panel, and of what flies to one receiver
abbrev pub Kept : View → ℕ → ℕ
Kept a l = a.held l + a.waiting l

abbrev pub Placed : View → ℕ → ℕ
Placed a l = ToCome a.w l + Kept a l

abbrev pub Weighed : (ℕ → ℕ) → ℕ
Weighed f = 2 * (f 0 + (f 1 + f 2)) + f 3

weight-two : (k : ℕ) → k < 3 → weight k ≡ 2
unfolding weight
weight-two k b = ite-false _ _ (ne_eqb k 3 (λ e. omega (arith, e, b)))

weight-one : weight 3 ≡ 1
unfolding weight ite
weight-one = refl

together : (a : View) (out : Out) → panel_load a + out_load out ≡ sum_below 7 (λ l. Placed a l + Weighed (out l))
unfolding panel_load out_load
together a out = sym (sum-add 7 _ _)

nothing-weighs : {out : Out} → ((l k : ℕ) → out l k ≡ 0) → (l : ℕ) → Weighed (out l) ≡ 0
nothing-weighs h l = omega (arith, h l 0, h l 1, h l 2, h l 3)

-- one place has one more, in the panel or in what it sends
one_more :
    (q : ℕ) (a b : View) (out : Out) → q < 7 → Placed b q + Weighed (out q) ≡ suc (Placed a q)
    → ((l : ℕ) → l ≢ q → Placed b l + Weighed (out l) ≡ Placed a l) → panel_load b + out_load out ≡ suc (panel_load a)
unfolding panel_load
one_more q a b out seven more rest = together b out ∙ sum_more 7 q (Placed a) (λ l. Placed b l + Weighed (out l)) seven more (λ l _. rest l)

pub write-waits-falls :
    {q : ℕ} {a b : View} {out : Out} → q < 7 → WriteWaits q a out b → (k : ℕ) → k < 2 → panel_load b + out_load out < panel_load a + weight k
write-waits-falls {q} {a} {b} {out} seven c k kind =
    omega (
      arith,
      weight-two k (omega (arith, kind)),
      one_more q a b out seven
          (omega (arith, c.w q, c.free, c.held_now, c.waiting q, nothing-weighs c.nothing q))
          (λ l d. omega (arith, c.w l, c.held_rest l d, c.waiting l, nothing-weighs c.nothing l)),
    )

pub read-comes-falls :
    {n p q : ℕ} {a b : View} {out : Out} → q < 7 → ReadComes n p q a out b → (k : ℕ) → k ≡ 2 → panel_load b + out_load out < panel_load a + weight k
read-comes-falls {q = q} {a} {b} {out} seven c k kind =
    omega (
      arith,
      weight-two k (omega (arith, kind)),
      one_more q a b out seven
          (omega (arith, c.w q, c.held q, c.answered, c.writes.zeros q, c.writes.ones q, c.reads q))
          (λ l d. omega (arith, c.w l, c.held l, c.waiting_rest l d, c.writes.zeros l, c.writes.ones l, c.reads l, c.proceeds_rest l d)),
    )

pub proceed-comes-falls :
    {q : ℕ} {a b : View} {out : Out} → ProceedComes q a out b → (k : ℕ) → k ≡ 3 → panel_load b + out_load out < panel_load a + weight k
unfolding panel_load
proceed-comes-falls {a = a} {b} {out} c k kind =
    omega (
      arith,
      ap weight kind,
      weight-one,
      together b out,
      sum_same 7 (λ l. Placed b l + Weighed (out l)) (Placed a) (λ l _. omega (arith, c.w l, c.held l, c.waiting l, nothing-weighs c.nothing l)),
    )

module _ {n p q : ℕ} {a b : View} {out : Out} (c : WriteComes n p q a out b) (bp : p < n) (bq : q < n) (seven : n ≤ 7) (d : q ≢ p)
    (room : b.w p ≤ 200) (own : (l : ℕ) → l < n → a.w l ≤ a.w p) where
  held-fewer : (l : ℕ) → b.held l ≤ a.held l
  held-fewer l = at (ℕ_discrete l q)
    where
      at : Dec (l ≡ q) → b.held l ≤ a.held l
      at (yes e) = subst (λ (x : ℕ). b.held x ≤ a.held x) (sym e) (omega (arith, c.held_gone))
      at (no m) = omega (arith, c.held_rest l m)

  between-low : (a.held q ≡ 0) ⊎ (a.held q ≡ 1) → c.between p ≤ b.w p
  between-low (inl z) = omega (arith, c.none_w z p)
  between-low (inr o) = omega (arith, (c.then o).own)

  first-room : c.between p ≤ 200
  first-room = omega (arith, between-low c.held_or_not, room)

  then-load : (a.held q ≡ 0) ⊎ (a.held q ≡ 1) → sum_below 7 (λ l. ToCome b.w l + Sent c.out₂ l) ≤ sum_below 7 (ToCome c.between)
  then-load (inl z) = sum-most 7 _ _ (λ l _. omega (arith, c.none_w z l, c.none_out z l 0, c.none_out z l 1))
  then-load (inr o) = takes-load (c.then o) bp bq seven d room (takes-own c.first own)

  pub write-comes-falls : (k : ℕ) → k < 2 → panel_load b + out_load out < panel_load a + weight k
  unfolding panel_load
  write-comes-falls k kind =
      omega (
        arith,
        weight-two k (omega (arith, kind)),
        together b out,
        sum-most 7 (λ l. Placed b l + Weighed (out l)) (λ l. (ToCome b.w l + Sent c.out₂ l) + (Sent c.out₁ l + Kept a l))
            (λ l _. omega (arith, released-all c l, held-fewer l, c.zeros l, c.ones l, c.reads l)),
        sum-add 7 (λ l. ToCome b.w l + Sent c.out₂ l) (λ l. Sent c.out₁ l + Kept a l),
        sum-add 7 (Sent c.out₁) (Kept a),
        sum-add 7 (ToCome c.between) (Sent c.out₁),
        sum-add 7 (ToCome a.w) (Kept a),
        then-load c.held_or_not,
        takes-load c.first bp bq seven d first-room own,
      )
