-- Each contract of this crate allows one outcome. The clause of each event, which takes a slice of structs, is read off (`-says`), and
-- all five allow one outcome and one slice (`leaves-only`).
-- Assumes nothing.
use mathlib.Core.{Bool.Bool, List.List, Path.{◌≡◌, refl, sym, ap, ◌∙◌}}
use Prim.Native.Nat.{ℕ}
use seplogic.Ra.Ura.{Ura}
use base.Logic.{SProp}
use prog.{Memory.Memory, Routine.Routine}
use types.Logic.{Logic}
use contract.{Lifetimes.Lfts, Monad.{Fun, fact}}
use denote.MutBor.{MutBor}
use Rattle.refusals.specs.Refusals.{Event}
use Rattle.panel.specs.{Calls.{Called, called}, declared.Outcome.Outcome, declared.Panel.Panel}
use Rattle.edges.specs.{Columns.columns, declared.Message.Message}
use Rattle.edges.proofs.Areas.{columns-injective}
use Rattle.edges.specs.contracts.write as write
use Rattle.edges.specs.contracts.read as read
use Rattle.edges.specs.contracts.write_from as write-from
use Rattle.edges.specs.contracts.read_from as read-from
use Rattle.edges.specs.contracts.proceed_from as proceed-from

-- an event at p gives o, and leaves zs where ys stood
abbrev pub Leaves : Panel → Event → List Message → Outcome → List Message → Type 0
Leaves p e ys o zs = record { outcome = o; area = columns zs } ≡ called p e (columns ys)

pub leaves-only : (p : Panel) (e : Event) (ys : List Message) {o r : Outcome} (zs ws : List Message) → Leaves p e ys o zs → Leaves p e ys r ws
    → (o ≡ r) × (zs ≡ ws)
leaves-only p e ys zs ws f g = (ap (λ (c : Called). c.outcome) (f ∙ sym g), columns-injective zs ws (ap (λ (c : Called). c.area) (f ∙ sym g)))

module _ {M : Type 1} {𝓤 : Ura M} (𝓛 : Logic 𝓤) (mem : Memory → SProp 𝓤) (run : Routine → Fun 𝓤) (κs : Lfts 1) (p : Panel) (o : Outcome)
    (a b : MutBor (List Message)) where
  pub write-says : (v : ℕ) → (write.clauses 𝓛 mem run κs (p, (v, (a, tt)))).ensures tt o (p, (v, (b, tt))) ≡ fact 𝓤 (Leaves p (Event.write v) a.now o b.now)
  write-says v = refl

  pub read-says : (read.clauses 𝓛 mem run κs (p, (a, tt))).ensures tt o (p, (b, tt)) ≡ fact 𝓤 (Leaves p Event.read a.now o b.now)
  read-says = refl

  pub write-from-says :
      (j : ℕ) (bit : Bool) (v : ℕ) →
      (write-from.clauses 𝓛 mem run κs (p, (j, (bit, (v, (a, tt)))))).ensures tt o (p, (j, (bit, (v, (b, tt))))) ≡ fact 𝓤 (Leaves p (Event.write_from j bit v) a.now o b.now)
  write-from-says j bit v = refl

  pub read-from-says : (j : ℕ) → (read-from.clauses 𝓛 mem run κs (p, (j, (a, tt)))).ensures tt o (p, (j, (b, tt))) ≡ fact 𝓤 (Leaves p (Event.read_from j) a.now o b.now)
  read-from-says j = refl

  pub proceed-from-says : (j : ℕ)
      → (proceed-from.clauses 𝓛 mem run κs (p, (j, (a, tt)))).ensures tt o (p, (j, (b, tt))) ≡ fact 𝓤 (Leaves p (Event.proceed_from j) a.now o b.now)
  proceed-from-says j = refl
