-- How the place of a reader moves, whatever is read: a refusal leaves it (`refused-stays`), an item moves it behind its last byte
-- (`accepted-moves`), no step passes the end (`never-past`), and neither does what is read (`read-within`).
-- Assumes nothing.
use mathlib.Core.{List.List, Path.{◌≡◌, refl, sym, ap, ◌∙◌}}
use Prim.Native.Nat.{ℕ, ◌+◌, ◌≤◌}
use native.Mathlib.{Nat.add-zero, Omega.arith}
use lib.ListN.{length}
use Rattle.std.specs.Prelude.{Result, Ok, Err, IfOk}
use Rattle.reader.specs.{Reading.{used_of, stepped, moved_to, next}, declared.Reader.Reader, declared.Step.Step}

module _ {T E : Type 0} (reading : List ℕ → ℕ → Result T E) (used : T → ℕ) where
  pub refused-stays : (s : List ℕ) (at : ℕ) (e : E) → reading s at ≡ Err e → (stepped reading used s at).at ≡ at
  refused-stays s at e h = ap (λ (r : Result T E). at + used_of used r) h ∙ add-zero at

  pub accepted-moves : (s : List ℕ) (at : ℕ) (i : T) → reading s at ≡ Ok i → (stepped reading used s at).at ≡ at + used i
  accepted-moves s at i h = ap (λ (r : Result T E). at + used_of used r) h

  pub never-past :
      ((s : List ℕ) (at : ℕ) (i : T) → reading s at ≡ Ok i → at + used i ≤ length s) → (s : List ℕ) (at : ℕ) → at ≤ length s →
      (stepped reading used s at).at ≤ length s
  never-past within s at h = by (reading s at) refl
    where
      by : (r : Result T E) → reading s at ≡ r → (stepped reading used s at).at ≤ length s
      by (Ok i) e = omega (arith, accepted-moves s at i e, within s at i e)
      by (Err x) e = omega (arith, refused-stays s at x e)

  -- as a clause of what a call gives
  pub read-within :
      ((s : List ℕ) (at : ℕ) (i : T) → reading s at ≡ Ok i → at + used i ≤ length s) → (s : List ℕ) (at : ℕ) (r : Result T E) → r ≡ reading s at →
      IfOk r (λ (i : T). at + used i ≤ length s)
  read-within within s at (Ok i) e = within s at i (sym e)
  read-within within s at (Err x) e = tt

  -- what the reader's call gives, from the step
  pub next-by-step :
      (h : Reader) {s : Step T E} → s ≡ stepped reading used h.bytes.now h.at → record { read = s.read; reader = moved_to h s.at } ≡ next reading used h
  next-by-step h e = ap (λ (s : Step T E). record { read = s.read; reader = moved_to h s.at }) e
