-- What a call of a panel reports, out of what its parts do; one law for every call.
-- Assumes nothing.
use mathlib.Core.{List.{List, ◌++◌}, Path.{◌≡◌, refl, ap, ap₂, ◌∙◌}}
use Prim.Native.Nat.{ℕ}
use lib.Seq.{sets}
use Rattle.messages.specs.Area.{Area}
use Rattle.form.specs.declared.Tables.{Tables}
use Rattle.panel.specs.{Calls.{Called, called}, declared.Outcome.Outcome, declared.Panel.Panel}
use Rattle.refusals.specs.Refusals.{Event}
use Rattle.carried.{proofs.Lengths.length-panel, proofs.Rows.laid_then, specs.Laid.Laid, specs.Panels.panel_bytes}
use Rattle.compared.specs.Reported.{outcome_bytes, Reported, reported}

pub reporting :
    (p q : Panel) (e : Event) (a b : Area) (o : Outcome) (n : ℕ) (l m : List ℕ) →
    p ≡ q → ◌≡◌ {A = Called} (record { outcome = o; area = b }) (called p e a) → (n ≡ o.count) × (m ≡ sets l 0 (outcome_bytes o)) →
    ◌≡◌ {A = Reported} (record { count = n; area = b; out = m }) (reported l (called q e a))
unfolding reported
reporting p q e a b o n l m same made put =
    ap₂ (λ (k : ℕ) (out : List ℕ). record { count = k; area = b; out = out }) put.0 put.1
    ∙ ap (reported l) (made ∙ ap (λ (r : Panel). called r e a) same)

-- a panel's bytes, and others right behind them
pub panel-then : (p : Tables) (l m o ys : List ℕ) → m ≡ sets l 0 (panel_bytes p) → Laid m 1566 ys o → o ≡ sets l 0 (panel_bytes p ++ ys)
panel-then p l m o ys first next =
    let h : Laid l 0 (panel_bytes p) m = record { is = first } in
    let w : Laid l 0 (panel_bytes p ++ ys) o = laid_then 1566 h (length-panel p) refl next in
    w.is
