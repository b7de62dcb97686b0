-- What a WRITE that is taken does to a panel's numbers, and what a WRITE that comes does: the one taken at once and the held one.
-- Assumes nothing.
use Prim.Native.Nat.{ℕ, suc, ◌+◌, ◌≤◌, ◌<◌}
use mathlib.Core.{Logic.{◌≢◌, ◌⊎◌, inl, inr}, Path.{◌≡◌, sym, subst, ◌∙◌}}
use native.Mathlib.{Decide.ℕ_discrete, Omega.arith}
use Rattle.protocol.specs.{Promise.{Takes, WriteComes}, World.{View, Out}}

-- the panel's own number stays the highest
pub takes-own : {n p q : ℕ} {w w' : ℕ → ℕ} {out : Out} → Takes n p q w w' out → ((l : ℕ) → l < n → w l ≤ w p) → (l : ℕ) → l < n → w' l ≤ w' p
takes-own {p = p} {q} {w' = w'} t own l b = at (ℕ_discrete l p) (ℕ_discrete l q)
  where
    at : Dec (l ≡ p) → Dec (l ≡ q) → w' l ≤ w' p
    at (yes e) f = subst (λ (x : ℕ). w' x ≤ w' p) (sym e) (omega arith)
    at (no e) (yes f) = subst (λ (x : ℕ). w' x ≤ w' p) (sym f) (omega (arith, t.from, t.own))
    at (no e) (no f) = omega (arith, t.own, t.rest l e f, own l b)

module _ {n p q : ℕ} {a b : View} {out : Out} (c : WriteComes n p q a out b) where
  -- one more of q is taken or held
  pub comes-one-more : b.w q + b.held q ≡ suc (a.w q + a.held q)
  comes-one-more = by c.held_or_not
    where
      by : (a.held q ≡ 0) ⊎ (a.held q ≡ 1) → b.w q + b.held q ≡ suc (a.w q + a.held q)
      by (inl z) = omega (arith, z, c.none_w z q, c.first.from, c.held_gone)
      by (inr o) = omega (arith, o, (c.then o).from, c.first.from, c.held_gone)

  pub comes-rest : (l : ℕ) → l ≢ p → l ≢ q → b.w l ≡ a.w l
  comes-rest l d e = by c.held_or_not
    where
      by : (a.held q ≡ 0) ⊎ (a.held q ≡ 1) → b.w l ≡ a.w l
      by (inl z) = c.none_w z l ∙ c.first.rest l d e
      by (inr o) = (c.then o).rest l d e ∙ c.first.rest l d e

  -- what leaves the line of READs is answered
  pub released-all : (l : ℕ) → b.waiting l + out l 3 ≡ a.waiting l
  released-all l = at (ℕ_discrete l q)
    where
      at : Dec (l ≡ q) → b.waiting l + out l 3 ≡ a.waiting l
      at (yes e) = subst (λ (x : ℕ). b.waiting x + out x 3 ≡ a.waiting x) (sym e) c.released
      at (no d) = omega (arith, c.waiting_rest l d, c.proceeds_rest l d)
