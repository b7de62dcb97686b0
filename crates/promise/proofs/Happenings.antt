-- The promise of a panel for each event: what an accepted event does to its numbers and what it sends, that its wait is not met
-- afterwards, and that a refused one changes and sends nothing.
-- Assumes nothing.
use mathlib.Core.{Bool.{Bool, true, false}, List.{List, []}, Logic.◌≢◌, Path.{◌≡◌, refl, sym, ap, subst, subst₂, ◌∙◌}}
use Prim.Native.Nat.{ℕ, ◌-◌, ◌≤◌}
use native.Mathlib.Omega.{arith}
use lib.{Dec.eqb, ListN.length}
use borrow.Author.Tests.{eqb-true, eqb-false}
use Rattle.basics.{proofs.Choices.ite-case, proofs.Refusals.{unless-case, unless-passed}, specs.Refusal.first_of}
use Rattle.messages.{proofs.Messages.messages-of-none, specs.Sends.{Message, messages_of, no_sends}}
use Rattle.form.specs.{Setting.own_place, declared.Tables.Tables}
use Rattle.refusals.specs.Refusals.{Event, right_bit, trials, refusal, Event.{write, read, write_from, read_from, proceed_from}}
use Rattle.events.proofs.{Coming.{rule-takes, rule-holds}, Fitting.sends-fit}
use Rattle.events.{proofs.Kept.{Good, peer-place}, proofs.KeptPeers.PeerPlace, specs.Events.{rule, looked_at, refused_by, happens}}
use Rattle.std.specs.Prelude.{Option, Ok, Some, None}
use Rattle.events.specs.declared.Finished.{Finished, TheVariants.{Wrote, Gave}}
use Rattle.events.specs.{Rules.{take_rule, hold_rule}, declared.Done.Done, declared.Ruled.Ruled}
use Rattle.protocol.specs.{Promise.{Writes, Reads, WriteComes, WriteWaits, ReadComes, ProceedComes}, World.{View, Out}}
use Rattle.promise.specs.{Facts.{AllTo, none}, View.{view_of, out_of, code_of, Waits}}
use Rattle.promise.proofs.AfterLook.{look-view, look-waits}
use Rattle.promise.proofs.Answers.{write-from-told, read-from-told, proceed-from-told, stray-free}
use Rattle.promise.proofs.Coming.{hold-waits, hold-sends-to, read_comes, read-from-sends-to, proceed_comes, proceed-sends-to}
use Rattle.promise.proofs.{Receivers.{SendsTo, all-messages}, Starting.{write-starts, write-sends-to, read-starts, read-sends-to}}
use Rattle.promise.proofs.TakesAll.{take-comes, take-sends-to}

-- ---- refused, or not

-- what finishes is no refusal
pub code-ok : (f : Option Finished) → code_of (Ok f) ≡ 0
unfolding code_of
code-ok None = refl
code-ok (Some (Wrote x)) = refl
code-ok (Some (Gave x v)) = refl

module _ (p : Tables) (room : ℕ) (e : Event) where
  -- the answer's number is that of the refusal
  pub code_is : code_of (happens p room e).answer ≡ refusal p room e
  unfolding happens looked_at refused_by code_of refusal
  code_is = unless-case (λ (d : Done). code_of d.answer ≡ first_of (trials p room e)) (trials p room e) _ _ (λ z. code-ok _ ∙ sym z) (λ r f. sym f)

  module _ (no : refusal p room e ≢ 0) where
    pub refused-tables : (happens p room e).tables ≡ p
    unfolding happens refused_by refusal
    refused-tables = unless-case (λ (d : Done). d.tables ≡ p) (trials p room e) _ _ (λ z. absurd (no z)) (λ _ _. refl)

    pub refused-sends : (happens p room e).sends ≡ no_sends
    unfolding happens refused_by refusal
    refused-sends = unless-case (λ (d : Done). d.sends ≡ no_sends) (trials p room e) _ _ (λ z. absurd (no z)) (λ _ _. refl)

    pub refused-messages : messages_of (happens p room e).sends ≡ []
    refused-messages = ap messages_of refused-sends ∙ messages-of-none

  module _ (z : refusal p room e ≡ 0) where
    pub accepted : happens p room e ≡ looked_at (rule p e)
    unfolding happens refusal
    accepted = unless-passed (trials p room e) _ _ z

    accepted-view : view_of (happens p room e).tables ≡ view_of (rule p e).tables
    unfolding looked_at
    accepted-view = ap (λ (d : Done). view_of d.tables) accepted ∙ look-view (rule p e).tables

    accepted-sends : (happens p room e).sends ≡ (rule p e).sends
    unfolding looked_at
    accepted-sends = ap (λ (d : Done). d.sends) accepted

    -- an open operation's wait is not met
    pub accepted-waits : Waits (happens p room e).tables
    unfolding looked_at
    accepted-waits = subst (λ (d : Done). Waits d.tables) (sym accepted) (look-waits (rule p e).tables)

    -- what the rule promises, the event promises
    promised :
        (P : Out → View → Type 0) (q : Ruled) → rule p e ≡ q → P (out_of q.sends) (view_of q.tables) →
        P (out_of (happens p room e).sends) (view_of (happens p room e).tables)
    promised P q r h =
        subst₂ P (sym (ap out_of (accepted-sends ∙ ap (λ (x : Ruled). x.sends) r)))
        (sym (accepted-view ∙ ap (λ (x : Ruled). view_of x.tables) r)) h

-- waiting is kept by every event
pub waits_kept : (p : Tables) (room : ℕ) (e : Event) → Waits p → Waits (happens p room e).tables
waits_kept p room e w = by (eqb (refusal p room e) 0) refl
  where
    by : (b : Bool) → eqb (refusal p room e) 0 ≡ b → Waits (happens p room e).tables
    by true z = accepted-waits p room e (eqb-true _ _ z)
    by false n = subst (λ (q : Tables). Waits q) (sym (refused-tables p room e (eqb-false _ _ n))) w

-- ---- the events

module _ (p : Tables) (g : Good p) (room : ℕ) where
  write-place : (j : ℕ) (b : Bool) (v : ℕ) → refusal p room (write_from j b v) ≡ 0 → PeerPlace p (j - 1)
  write-place j b v z = peer-place p room j g.form (write-from-told p room j b v z).0

  read-place : (j : ℕ) → refusal p room (read_from j) ≡ 0 → PeerPlace p (j - 1)
  read-place j z = peer-place p room j g.form (read-from-told p room j z).0

  proceed-place : (j : ℕ) → refusal p room (proceed_from j) ≡ 0 → PeerPlace p (j - 1)
  proceed-place j z = peer-place p room j g.form (proceed-from-told p room j z).0

  pub write-promise :
      (v : ℕ) → refusal p room (write v) ≡ 0 →
      Writes p.n (own_place p) (view_of p) (out_of (happens p room (write v)).sends) (view_of (happens p room (write v)).tables)
  unfolding rule
  write-promise v z = promised p room (write v) z (λ (out : Out) (b : View). Writes p.n (own_place p) (view_of p) out b) _ refl (write-starts p g v)

  pub read-promise :
      refusal p room read ≡ 0 →
      Reads p.n (own_place p) (view_of p) (out_of (happens p room read).sends) (view_of (happens p room read).tables)
  unfolding rule
  read-promise z = promised p room read z (λ (out : Out) (b : View). Reads p.n (own_place p) (view_of p) out b) _ refl (read-starts p g)

  pub write-from-promise :
      (j : ℕ) (b : Bool) (v : ℕ) → refusal p room (write_from j b v) ≡ 0 → right_bit p (j - 1) b ≡ true →
      WriteComes p.n (own_place p) (j - 1) (view_of p) (out_of (happens p room (write_from j b v)).sends) (view_of (happens p room (write_from j b v)).tables)
  write-from-promise j b v z r =
      promised p room (write_from j b v) z (λ (out : Out) (a : View). WriteComes p.n (own_place p) (j - 1) (view_of p) out a)
      (take_rule p (j - 1) v) (sym (rule-takes p j j b v refl r)) (take-comes p g (j - 1) v (write-place j b v z))

  pub write-held-promise :
      (j : ℕ) (b : Bool) (v : ℕ) → refusal p room (write_from j b v) ≡ 0 → right_bit p (j - 1) b ≡ false →
      WriteWaits (j - 1) (view_of p) (out_of (happens p room (write_from j b v)).sends) (view_of (happens p room (write_from j b v)).tables)
  write-held-promise j b v z r =
      promised p room (write_from j b v) z (λ (out : Out) (a : View). WriteWaits (j - 1) (view_of p) out a)
      (hold_rule p (j - 1) v) (sym (rule-holds p j j b v refl r))
      (hold-waits p g (j - 1) (write-place j b v z) v (stray-free p (j - 1) b (write-from-told p room j b v z).1 r))

  pub read-from-promise :
      (j : ℕ) → refusal p room (read_from j) ≡ 0 →
      ReadComes p.n (own_place p) (j - 1) (view_of p) (out_of (happens p room (read_from j)).sends) (view_of (happens p room (read_from j)).tables)
  unfolding rule
  read-from-promise j z =
      promised p room (read_from j) z (λ (out : Out) (a : View). ReadComes p.n (own_place p) (j - 1) (view_of p) out a) _ refl
      (read_comes p g (j - 1) (read-place j z))

  pub proceed-from-promise :
      (j : ℕ) → refusal p room (proceed_from j) ≡ 0 →
      ProceedComes (j - 1) (view_of p) (out_of (happens p room (proceed_from j)).sends) (view_of (happens p room (proceed_from j)).tables)
  unfolding rule
  proceed-from-promise j z =
      promised p room (proceed_from j) z (λ (out : Out) (a : View). ProceedComes (j - 1) (view_of p) out a) _ refl
      (proceed_comes p g (j - 1) (proceed-place j z))

  -- ---- its messages

  rule-sends-to : (e : Event) → refusal p room e ≡ 0 → SendsTo p.n p.number (rule p e).sends
  unfolding rule
  rule-sends-to (write v) z = write-sends-to p g v
  rule-sends-to read z = read-sends-to p g
  rule-sends-to (write_from j b v) z =
      let at : PeerPlace p (j - 1) = write-place j b v z in
      ite-case (λ (q : Ruled). SendsTo p.n p.number q.sends) _ _ _
      (λ _. take-sends-to p g (j - 1) v at)
      (λ _. hold-sends-to p g (j - 1) at v)
  rule-sends-to (read_from j) z = read-from-sends-to p g (j - 1) (read-place j z)
  rule-sends-to (proceed_from j) z = proceed-sends-to p g (j - 1) (proceed-place j z)

  -- whether the event is refused or not: each goes to another panel, and they fit into the area
  pub all-to-peers : (e : Event) → AllTo p.n p.number (messages_of (happens p room e).sends)
  unfolding happens looked_at refused_by refusal
  all-to-peers e =
      unless-case (λ (d : Done). AllTo p.n p.number (messages_of d.sends)) (trials p room e) _ _
      (λ z. all-messages p.n p.number (rule p e).sends (rule-sends-to e z))
      (λ _ _. subst (λ (ms : List Message). AllTo p.n p.number ms) (sym messages-of-none) none)

  pub messages-fit : (e : Event) → length (messages_of (happens p room e).sends) ≤ 107
  unfolding happens looked_at refused_by refusal
  messages-fit e =
      unless-case (λ (d : Done). length (messages_of d.sends) ≤ 107) (trials p room e) _ _
      (λ z. sends-fit p room e g z)
      (λ _ _. omega (arith, ap (λ (ms : List Message). length ms) messages-of-none))
