-- What a panel sends keeps its WRITEs in order, and so does one WRITE that it takes: it leaves the hand, and a held one comes into it.
-- Assumes nothing.
use Prim.Native.Nat.{ℕ, suc, ◌+◌, ◌%◌, ◌≤◌, ◌<◌}
use mathlib.Core.{Logic.◌≢◌, Path.{◌≡◌, refl, sym, ap, subst}}
use native.Mathlib.{Decide.ℕ_discrete, Omega.arith}
use Rattle.protocol.specs.{Invariant.Pair, Promise.{SendsDue, Takes}, World.{View, Out, due}}
use Rattle.protocol.proofs.{Around.{PairTo, PairFrom, WritesAround, from-same}, Coming.takes-own}
use Rattle.protocol.proofs.Pairs.{pair_same, from-hand, sending, two-on}

module _ {n p writer most : ℕ} {them : ℕ → View} {arriving : ℕ → ℕ → ℕ} {w held hand : ℕ → ℕ} {leaving : Out}
    (v : WritesAround n p writer most them arriving w held hand leaving) where
  -- never more than two WRITEs are under way to p
  pub ahead : (l : ℕ) → l < n → l ≢ p → due l (them l).w p ≤ w l + 2
  ahead l b d = omega (arith, (v.to l b d).low)

  -- p sends what is due by its new numbers w', at most one to each, and is not more than two ahead of anybody
  pub sends :
      (w' : ℕ → ℕ) (leaving' out : Out) → SendsDue n p w w' out → ((l k : ℕ) → k < 2 → leaving' l k ≡ leaving l k + out l k)
      → (l : ℕ) → l < n → l ≢ p → due p w l ≤ due p w' l → due p w' l ≤ suc (due p w l) → due p w' l ≤ (them l).w p + 2 → PairTo p them w' leaving' l
  sends w' leaving' out t c l b d low high near =
      sending (leaving l) (leaving' l) ((them l).w p) (due p w' l) ((them l).held p) 0 (due p w l) (v.to l b d) low high near
      (omega (arith, c l (suc (due p w l) % 2) (omega arith), t.next l b d))
      (omega (arith, c l (due p w l % 2) (omega arith), t.else l b d))

-- ---- one WRITE of q is taken

module _ {n p q writer most : ℕ} {them : ℕ → View} {arriving : ℕ → ℕ → ℕ} {w w' held held' hand hand' : ℕ → ℕ} {leaving leaving' out : Out}
    (v : WritesAround n p writer most them arriving w held hand leaving) (t : Takes n p q w w' out) (bq : q < n) (d : q ≢ p)
    (sent : (l k : ℕ) → k < 2 → leaving' l k ≡ leaving l k + out l k)
    (held_gone : held' q ≡ 0) (held_rest : (l : ℕ) → l ≢ q → held' l ≡ held l)
    (in-hand : hand q ≡ 1) (hand-next : hand' q ≡ held q) (hand-rest : (l : ℕ) → l ≢ q → hand' l ≡ hand l) where
  -- the sender is ahead, and so is the writer
  next-most : suc (w q) ≤ most
  next-most = omega (arith, (v.from q bq d).one, in-hand, v.others q bq d)

  new-from : (l : ℕ) → l < n → l ≢ p → PairFrom p them arriving w' held' hand' l
  new-from l b m = at (ℕ_discrete l q)
    where
      at : Dec (l ≡ q) → PairFrom p them arriving w' held' hand' l
      at (yes e) =
          subst (PairFrom p them arriving w' held' hand') (sym e)
          (subst (λ (x : ℕ). Pair (due q (them q).w p) x (arriving q (suc x % 2)) (arriving q (x % 2)) (held' q) (hand' q)) (sym t.from)
          (pair_same refl refl (ap (arriving q) (two-on (w q))) refl held_gone hand-next
          (from-hand (ahead v q bq d) (pair_same refl refl refl refl refl (sym in-hand) (v.from q bq d)))))
      at (no e) = from-same v l b m (arriving l) (λ _ _. refl) (t.rest l m e) (held_rest l e) (hand-rest l e)

  -- at most one more is due to each
  moves : (l : ℕ) → l < n → l ≢ p → (due p w l ≤ due p w' l) × (due p w' l ≤ suc (due p w l))
  moves l b m = at (ℕ_discrete l q)
    where
      at : Dec (l ≡ q) → (due p w l ≤ due p w' l) × (due p w' l ≤ suc (due p w l))
      at (yes e) = subst (λ (x : ℕ). (due p w x ≤ due p w' x) × (due p w' x ≤ suc (due p w x))) (sym e) (omega (arith, v.own q bq, t.from, t.own))
      at (no e) = omega (arith, v.own q bq, t.own, t.rest l m e, v.own l b)

  pub takes-keeps : WritesAround n p writer most them arriving w' held' hand' leaving'
  takes-keeps =
      record {
        own = takes-own t v.own;
        top = omega (arith, t.own, v.top, next-most);
        leads = λ e. omega (arith, t.own, v.leads e, next-most);
        others = v.others;
        to = λ l b m. sends v w' leaving' out t.writes sent l b m (moves l b m).0 (moves l b m).1 (omega (arith, (new-from l b m).low));
        from = new-from;
      }
