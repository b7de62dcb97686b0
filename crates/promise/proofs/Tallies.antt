-- How many messages of a kind go to a place: of lists behind each other, of a cast, of PROCEEDs, and of all that an event sends.
-- Assumes nothing.
use mathlib.Core.{Bool.{Bool, true, false}, List.{List, [], ◌∷◌, ◌++◌}, Logic.◌≢◌, Path.{◌≡◌, refl, sym, ap, ap₂, ◌∙◌}}
use Prim.Native.Nat.{ℕ, zero, suc, ◌+◌, ◌≤◌, ◌<◌}
use native.Mathlib.{Decide.ℕ_discrete, Nat.{zero-add, add-zero, not-suc-le-zero}, Omega.arith}
use lib.{Dec.eqb, ListN.get_or}
use borrow.Author.Tests.{eq-eqb, ne_eqb}
use Rattle.basics.{proofs.Choices.{both_true, both-false-left, both-false-right}, proofs.Ones.{one, nought}, specs.Below.one_if}
use Rattle.basics.specs.Choice.{ite, both}
use Rattle.messages.proofs.Messages.{cast_to, cast_at, cast-of-none, proceed_to}
use Rattle.messages.specs.{Sends.{Message, cast_below, cast_of, proceeds_to, messages_of, no_cast}, Tally.tally, declared.Cast.Cast}
use Rattle.messages.specs.declared.Sends.{Sends}
use Rattle.promise.specs.View.{cast_out, out_of}

-- ---- lists

pub tally-none : (j k : ℕ) → tally [] j k ≡ 0
unfolding tally
tally-none j k = refl

pub tally-append : (xs ys : List Message) (j k : ℕ) → tally (xs ++ ys) j k ≡ tally xs j k + tally ys j k
unfolding tally
tally-append [] ys j k = sym (zero-add _)
tally-append (m ∷ xs) ys j k = omega (arith, tally-append xs ys j k)

-- one message
tally-one : (m : Message) (j k : ℕ) → tally (m ∷ []) j k ≡ one_if (both (eqb m.to j) (eqb m.kind k))
unfolding tally
tally-one m j k = add-zero _

one-there : (m : Message) (j k : ℕ) → m.to ≡ j → m.kind ≡ k → tally (m ∷ []) j k ≡ 1
one-there m j k e f = tally-one m j k ∙ ap one_if (both_true (eq-eqb _ _ e) (eq-eqb _ _ f)) ∙ one

one-elsewhere : (m : Message) (j k : ℕ) → m.to ≢ j → tally (m ∷ []) j k ≡ 0
one-elsewhere m j k e = tally-one m j k ∙ ap one_if (both-false-left _ (ne_eqb _ _ e)) ∙ nought

one-otherwise : (m : Message) (j k : ℕ) → m.kind ≢ k → tally (m ∷ []) j k ≡ 0
one-otherwise m j k e = tally-one m j k ∙ ap one_if (both-false-right _ (ne_eqb _ _ e)) ∙ nought

-- ---- a cast

module _ (c : Cast) where
  -- the message to place n, where it is marked
  at_place : (b : Bool) (n k : ℕ) → tally (ite b (cast_to c n ∷ []) []) (n + 1) k ≡ one_if (both b (eqb c.kind k))
  unfolding ite tally both
  at_place true n k = rw (eq-eqb (n + 1) (n + 1) refl) (add-zero _)
  at_place false n k = sym nought

  at_other : (b : Bool) (n l k : ℕ) → l ≢ n → tally (ite b (cast_to c n ∷ []) []) (l + 1) k ≡ 0
  unfolding ite
  at_other true n l k h = one-elsewhere (cast_to c n) (l + 1) k (λ (e : n + 1 ≡ l + 1). h (omega arith))
  at_other false n l k h = tally-none _ _

  at-kind : (b : Bool) (n j k : ℕ) → c.kind ≢ k → tally (ite b (cast_to c n ∷ []) []) j k ≡ 0
  unfolding ite
  at-kind true n j k h = one-otherwise (cast_to c n) j k h
  at-kind false n j k h = tally-none _ _

  below-past : (n l k : ℕ) → n ≤ l → tally (cast_below n c) (l + 1) k ≡ 0
  unfolding cast_below
  below-past zero l k h = tally-none _ _
  below-past (suc n) l k h =
      tally-append (cast_below n c) (cast_at c n) (l + 1) k ∙ ap₂ ◌+◌ (below-past n l k (omega arith)) (at_other (get_or c.to n false) n l k (omega arith))

  below_at : (n l k : ℕ) → l < n → tally (cast_below n c) (l + 1) k ≡ one_if (both (get_or c.to l false) (eqb c.kind k))
  unfolding cast_below
  below_at zero l k h = absurd (not-suc-le-zero h)
  below_at (suc n) l k h = tally-append (cast_below n c) (cast_at c n) (l + 1) k ∙ by (ℕ_discrete l n) (below_at n l k)
    where
      by : Dec (l ≡ n) → (l < n → tally (cast_below n c) (l + 1) k ≡ one_if (both (get_or c.to l false) (eqb c.kind k))) →
          tally (cast_below n c) (l + 1) k + tally (cast_at c n) (l + 1) k ≡ one_if (both (get_or c.to l false) (eqb c.kind k))
      by (yes e) lower =
          ap₂ ◌+◌ (below-past n l k (omega arith)) (ap (λ (i : ℕ). tally (cast_at c n) (i + 1) k) e ∙ at_place (get_or c.to n false) n k)
          ∙ zero-add _ ∙ ap (λ (i : ℕ). one_if (both (get_or c.to i false) (eqb c.kind k))) (sym e)
      by (no d) lower = ap₂ ◌+◌ (lower (omega arith)) (at_other (get_or c.to n false) n l k d) ∙ add-zero _

  below-kind : (n j k : ℕ) → c.kind ≢ k → tally (cast_below n c) j k ≡ 0
  unfolding cast_below
  below-kind zero j k h = tally-none _ _
  below-kind (suc n) j k h = tally-append (cast_below n c) (cast_at c n) j k ∙ ap₂ ◌+◌ (below-kind n j k h) (at-kind (get_or c.to n false) n j k h)

  -- one to each marked place, of the cast's kind
  pub cast-at : (l k : ℕ) → l < 7 → cast_out c l k ≡ one_if (both (get_or c.to l false) (eqb c.kind k))
  unfolding cast_out cast_of
  cast-at l k h = below_at 7 l k h

  pub cast-kind : (l k : ℕ) → c.kind ≢ k → cast_out c l k ≡ 0
  unfolding cast_out cast_of
  cast-kind l k h = below-kind 7 (l + 1) k h

pub no-cast-out : (l k : ℕ) → cast_out no_cast l k ≡ 0
unfolding cast_out
no-cast-out l k = ap (λ (ms : List Message). tally ms (l + 1) k) cast-of-none ∙ tally-none _ _

-- ---- PROCEEDs

pub proceeds-none-out : (j i k : ℕ) → tally (proceeds_to 0 j) i k ≡ 0
unfolding proceeds_to
proceeds-none-out j i k = tally-none _ _

pub proceeds-there : (m j : ℕ) → tally (proceeds_to m j) j 3 ≡ m
unfolding proceeds_to
proceeds-there zero j = tally-none _ _
proceeds-there (suc m) j = tally-append (proceeds_to m j) _ j 3 ∙ omega (arith, proceeds-there m j, one-there (proceed_to j) j 3 refl refl)

pub proceeds-elsewhere : (m j i k : ℕ) → j ≢ i → tally (proceeds_to m j) i k ≡ 0
unfolding proceeds_to
proceeds-elsewhere zero j i k h = tally-none _ _
proceeds-elsewhere (suc m) j i k h = tally-append (proceeds_to m j) _ i k ∙ ap₂ ◌+◌ (proceeds-elsewhere m j i k h) (one-elsewhere (proceed_to j) i k h)

pub proceeds-kind : (m j i k : ℕ) → k ≢ 3 → tally (proceeds_to m j) i k ≡ 0
unfolding proceeds_to
proceeds-kind zero j i k h = tally-none _ _
proceeds-kind (suc m) j i k h =
    tally-append (proceeds_to m j) _ i k
    ∙ ap₂ ◌+◌ (proceeds-kind m j i k h) (one-otherwise (proceed_to j) i k (λ (e : 3 ≡ k). h (sym e)))

-- ---- all that an event sends

pub out-parts : (s : Sends) (l k : ℕ) → out_of s l k ≡ cast_out s.own l k + (cast_out s.held l k + tally (proceeds_to s.proceeds s.peer) (l + 1) k)
unfolding out_of cast_out messages_of
out-parts s l k =
    tally-append (cast_of s.own) (cast_of s.held ++ proceeds_to s.proceeds s.peer) (l + 1) k
    ∙ ap (λ (x : ℕ). tally (cast_of s.own) (l + 1) k + x) (tally-append (cast_of s.held) (proceeds_to s.proceeds s.peer) (l + 1) k)
