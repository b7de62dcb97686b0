-- What an accepted message does at the panel that it comes to, by its kind.
-- Assumes nothing.
use mathlib.Core.{Bool.{Bool, true, false}, Path.{◌≡◌, sym, ◌∙◌}}
use Prim.Native.Nat.{ℕ, suc, ◌-◌, ◌%◌, ◌<◌}
use native.Mathlib.{Decide.ℕ_discrete, Omega.arith}
use Rattle.basics.specs.Below.{one_if}
use Rattle.refusals.specs.Refusals.{Event, refusal, Event.write_from}
use Rattle.panel.specs.{Calls.after, declared.Panel.Panel}
use Rattle.promise.{proofs.AtPlace.{At, at-write-from, at-write-held, at-read-from, at-proceed-from}, specs.View.{view_of, out_of}}
use Rattle.channels.proofs.ByKind.{kind-case}
use Rattle.steps.specs.{Moves.{Came, write_comes, write_waits, read_comes, proceed_comes}, Steps.comes}

-- the panel P stands at place p of n, and the message comes from panel i
module _ (n p : ℕ) (P : Panel) (at : At n p P.tables) (k i : ℕ) where
  -- by an event e of kind k
  abbrev CameBy : Event → Type 0
  CameBy e =
      refusal P.tables 107 e ≡ 0 → Came n p (i - 1) k (view_of P.tables) (out_of (after P e).sends) (view_of (after P e).panel.tables)

  by-write : (b : Bool) (v : ℕ) → one_if b ≡ k → k < 2 → CameBy (write_from i b v)
  by-write b v e h z = by (ℕ_discrete k ((view_of P.tables).w (i - 1) % 2))
    where
      by :
          Dec (k ≡ (view_of P.tables).w (i - 1) % 2) →
          Came n p (i - 1) k (view_of P.tables) (out_of (after P (write_from i b v)).sends) (view_of (after P (write_from i b v)).panel.tables)
      by (yes f) = write_waits h f (at-write-held n p P at i b v z (e ∙ f))
      by (no d) =
          let f : k ≡ suc ((view_of P.tables).w (i - 1)) % 2 = omega arith in
          write_comes f (at-write-from n p P at i b v z (e ∙ f))

  pub message-came : (v : ℕ) → k < 4 → CameBy (comes k i v)
  unfolding comes one_if
  message-came v h =
      kind-case CameBy k
      (λ e. by-write false v (sym e) (omega arith))
      (λ e. by-write true v (sym e) (omega arith))
      (λ e z. read_comes e (at-read-from n p P at i z))
      (λ e z. proceed_comes e (at-proceed-from n p P at i z))
      (λ (e : 3 < k). absurd (omega arith))
