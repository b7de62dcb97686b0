-- Messages go to other panels of the n: of a cast, of PROCEEDs, and of all that an event sends; so nothing is counted elsewhere.
-- Assumes nothing.
use mathlib.Core.{Bool.{Bool, true, false}, List.{List, [], ◌∷◌, ◌++◌}, Logic.◌≢◌, Path.{◌≡◌, refl, sym, ap, ap₂, ◌∙◌}}
use Prim.Native.Nat.{ℕ, zero, suc, ◌+◌, ◌-◌, ◌≤◌, ◌<◌}
use native.Mathlib.Omega.{arith}
use lib.{Dec.eqb, ListN.get_or}
use borrow.Author.Tests.{ne_eqb, ltb-true, eqb-true}
use Rattle.basics.proofs.{Choices.{clash, both_left, both_right, both-false-left}, Lists.get_or-same, Ones.nought}
use Rattle.basics.specs.{Below.one_if, Choice.{ite, both}}
use Rattle.messages.{proofs.Messages.{cast_to, proceed_to}, specs.Sends.{Message, cast_below, cast_of, proceeds_to, messages_of, no_cast}}
use Rattle.messages.specs.{Tally.tally, declared.Cast.Cast, declared.Sends.Sends}
use Rattle.tables.{proofs.Marks.{get_or-marks, only_at}, specs.Marks.{among, marks, only_place}}
use Rattle.protocol.specs.Promise.{ToPeers}
use Rattle.promise.specs.{Facts.{ToPeer, AllTo, none, more}, View.{cast_out, out_of}}

pub all_append : {n number : ℕ} {xs ys : List Message} → AllTo n number xs → AllTo n number ys → AllTo n number (xs ++ ys)
all_append none b = b
all_append (more h a) b = more h (all_append a b)

-- ---- nothing is counted elsewhere

module _ (n number j k : ℕ) (else : (m : Message) → ToPeer n number m → both (eqb m.to j) (eqb m.kind k) ≡ false) where
  none-counted : {ms : List Message} → AllTo n number ms → tally ms j k ≡ 0
  unfolding tally
  none-counted none = refl
  none-counted (more {m = m} h a) = ap₂ ◌+◌ (ap one_if (else m h) ∙ nought) (none-counted a)

module _ (n number : ℕ) {ms : List Message} (a : AllTo n number ms) where
  pub none-past : (j k : ℕ) → n < j → tally ms j k ≡ 0
  none-past j k h = none-counted n number j k (λ m t. both-false-left _ (ne_eqb _ _ (λ (e : m.to ≡ j). omega (arith, t.high)))) a

  pub none-own : (k : ℕ) → tally ms number k ≡ 0
  none-own k = none-counted n number number k (λ m t. both-false-left _ (ne_eqb _ _ t.other)) a

-- ---- casts

-- the marks of a cast are other panels' places
pub record CastTo (n number : ℕ) (c : Cast) : Type 0 where
  pub within : (l : ℕ) → l < 7 → get_or c.to l false ≡ true → l < n
  pub other : (l : ℕ) → l < 7 → get_or c.to l false ≡ true → l + 1 ≢ number
  pub kind : c.kind ≤ 3

pub unmarked : (l : ℕ) → get_or no_cast.to l false ≡ false
unfolding no_cast
unmarked l = get_or-same 7 false l

pub no-cast-to : (n number : ℕ) → CastTo n number no_cast
unfolding no_cast
no-cast-to n number = record { within = λ l h e. clash (unmarked l) e; other = λ l h e. clash (unmarked l) e; kind = omega arith }

pub marks-to :
    (n number : ℕ) (f : ℕ → Bool) (kind value : ℕ) → kind ≤ 3 → ((l : ℕ) → f l ≡ true → l + 1 ≢ number) →
    CastTo n number (record { to = marks n f; kind = kind; value = value })
unfolding among
marks-to n number f kind value h o =
    record {
      within = λ l s e. ltb-true _ _ (both_left _ _ (sym (get_or-marks n f l s) ∙ e));
      other = λ l s e. o l (both_right _ _ (sym (get_or-marks n f l s) ∙ e));
      kind = h;
    }

pub only-to : (n number k kind value : ℕ) → kind ≤ 3 → k < n → k + 1 ≢ number → CastTo n number (record { to = only_place k; kind = kind; value = value })
only-to n number k kind value h m o =
    record {
      within = λ l s e. let i : l ≡ k = same l s e in omega arith;
      other = λ l s e f. let i : l ≡ k = same l s e in o (omega arith);
      kind = h;
    }
  where
    same : (l : ℕ) → l < 7 → get_or (only_place k) l false ≡ true → l ≡ k
    same l s e = eqb-true _ _ (sym (only_at k l s) ∙ e)

module _ (n number : ℕ) (c : Cast) (t : CastTo n number c) where
  all-below : (j : ℕ) → j ≤ 7 → AllTo n number (cast_below j c)
  unfolding cast_below ite
  all-below zero h = none
  all-below (suc j) h = all_append (all-below j (omega arith)) (last (get_or c.to j false) refl)
    where
      last : (b : Bool) → get_or c.to j false ≡ b → AllTo n number (ite b (cast_to c j ∷ []) [])
      last true e =
          let i : j < n = t.within j (omega arith) e in
          let p : ToPeer n number (cast_to c j) = record { low = omega arith; high = omega arith; other = t.other j (omega arith) e; kind = t.kind } in
          more p none
      last false e = none

  pub all-cast : AllTo n number (cast_of c)
  unfolding cast_of
  all-cast = all-below 7 (omega arith)

-- ---- all that an event sends

pub record SendsTo (n number : ℕ) (s : Sends) : Type 0 where
  pub own : CastTo n number s.own
  pub held : CastTo n number s.held
  pub peer : 0 < s.proceeds → ToPeer n number (proceed_to s.peer)

pub proceed-peer : (n number k : ℕ) → k < n → k + 1 ≢ number → ToPeer n number (proceed_to (k + 1))
proceed-peer n number k h other = record { low = omega arith; high = omega arith; other = other; kind = omega arith }

all-proceeds : (n number m j : ℕ) → (0 < m → ToPeer n number (proceed_to j)) → AllTo n number (proceeds_to m j)
unfolding proceeds_to
all-proceeds n number zero j h = none
all-proceeds n number (suc m) j h = all_append (all-proceeds n number m j (λ _. h (omega arith))) (more (h (omega arith)) none)

pub all-messages : (n number : ℕ) (s : Sends) → SendsTo n number s → AllTo n number (messages_of s)
unfolding messages_of
all-messages n number s t =
    all_append (all-cast n number s.own t.own)
    (all_append (all-cast n number s.held t.held) (all-proceeds n number s.proceeds s.peer t.peer))

-- ---- in the words of the promise

module _ (n number : ℕ) (low : 1 ≤ number) where
  listed-peers : {ms : List Message} → AllTo n number ms → ToPeers n (number - 1) (λ (l k : ℕ). tally ms (l + 1) k)
  listed-peers {ms} a =
      record {
        past = λ l k h. none-past n number a (l + 1) k (omega arith);
        own = λ k. let e : number - 1 + 1 ≡ number = omega arith in ap (λ (j : ℕ). tally ms j k) e ∙ none-own n number a k;
      }

  pub cast-peers : (c : Cast) → CastTo n number c → ToPeers n (number - 1) (cast_out c)
  unfolding cast_out
  cast-peers c t = listed-peers (all-cast n number c t)

  pub out-peers : (s : Sends) → AllTo n number (messages_of s) → ToPeers n (number - 1) (out_of s)
  unfolding out_of
  out-peers s a = listed-peers a

  pub sends-peers : (s : Sends) → SendsTo n number s → ToPeers n (number - 1) (out_of s)
  sends-peers s t = out-peers s (all-messages n number s t)
