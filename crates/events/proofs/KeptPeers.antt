-- A READ, a PROCEED, and a WRITE that is only held keep the panel in form.
-- Assumes nothing.
use mathlib.Core.{Bool.{Bool, true, false}, List.List, Logic.◌≢◌, Path.{◌≡◌, refl, sym, subst, ◌∙◌}}
use Prim.Native.Nat.{ℕ, ◌+◌, ◌≤◌, ◌<◌}
use native.Mathlib.{Decide.ℕ_discrete, Nat.le_trans, Omega.arith}
use lib.{Dec.leb, ListN.{length, set}}
use borrow.Author.Tests.{le-leb, leb-true, leb-false}
use Rattle.basics.proofs.Choices.{ite-case, both_true, both_left, both_right}
use Rattle.tables.{proofs.Form.{LineForm, HoldForm}, proofs.Lines.{joined-form, length-joined}, specs.Lines.joined}
use Rattle.tables.specs.{Places.{w_at, r_at, hold_at, line_at}, declared.Hold.Hold, declared.Line.Line, declared.ReadNo.ReadNo}
use Rattle.form.proofs.{InForm.{InForm, PlaceForm, PlaceOf}, Places.{place-raised, place-peer}, Shape.{Shaped, length-kept, lines-kept}}
use Rattle.form.{proofs.Stores.{r-set, r-set-ne, hold-set, hold-set-ne, line_set, line-set-ne}, specs.Form.{at_writer, operation_ok}}
use Rattle.form.specs.{Setting.{own_place, own_w, own_r, set_lines, set_held}, declared.Operation.Operation}
use Rattle.form.specs.declared.{Operation.TheVariants.{Idle, Writing, FirstWait, SecondWait}, Tables.Tables}
use Rattle.events.specs.{Rules.{read_from_rule, proceed_rule, hold_rule}, declared.Ruled.Ruled}
use Rattle.refusals.{proofs.Passing.line-room, specs.Refusals.line_full}

-- an operation in form stays so while the panel's own numbers grow
pub operation-raised : (o : Operation) (lead : Bool) (x y x' y' : ℕ) → operation_ok o lead x y ≡ true → x ≤ x' → y ≤ y' → operation_ok o lead x' y' ≡ true
unfolding operation_ok
operation-raised Idle lead x y x' y' h a b = refl
operation-raised Writing lead x y x' y' h a b = both_true (both_left _ _ h) (le-leb _ _ (le_trans (leb-true 1 x (both_right _ _ h)) a))
operation-raised FirstWait lead x y x' y' h a b = le-leb _ _ (le_trans (leb-true 1 y h) b)
operation-raised (SecondWait sn) lead x y x' y' h a b =
    both_true (le-leb _ _ (le_trans (leb-true 1 y (both_left _ _ h)) b)) (le-leb _ _ (le_trans (leb-true sn.0 x (both_right _ _ h)) a))

-- the place of a peer
pub record PeerPlace (p : Tables) (k : ℕ) : Type 0 where
  pub seven : k < 7
  pub within : k < p.n
  pub other : k ≢ own_place p
  pub number-other : k + 1 ≡ p.number → ⊥

module _ (p : Tables) (s : Shaped p) (f : InForm p) (k : ℕ) (at : PeerPlace p k) where
  -- ---- PROCEED

  module _ (fewer : r_at p.r k ≢ own_r p) where
    r' : List ReadNo
    r' = set p.r k (record { 0 = r_at p.r k + 1 })

    one_more : r_at r' k ≡ r_at p.r k + 1
    unfolding r'
    one_more = r-set p.r k _ (omega (arith, at.seven, s.r_long))

    own-stays : r_at r' (own_place p) ≡ own_r p
    unfolding r'
    own-stays = r-set-ne p.r k (own_place p) _ (λ e. at.other (sym e))

    place-proceed : (j : ℕ) → j < 7 → Dec (j ≡ k) → PlaceForm p.n p.number j (w_at p.w j) (own_w p) (r_at r' j) (r_at r' (own_place p)) (hold_at p.held j) (line_at p.lines j) (at_writer p)
    unfolding r'
    place-proceed j l (yes e) =
        subst (λ (i : ℕ). PlaceForm p.n p.number i (w_at p.w i) (own_w p) (r_at r' i) (r_at r' (own_place p)) (hold_at p.held i) (line_at p.lines i) (at_writer p))
        (sym e)
        (let g : PlaceOf p k = f.place k at.seven in
        place-peer p.n p.number k g _ _ _ _ _ _ at.number-other at.within g.w_below
        (let b : r_at p.r k ≤ own_r p = g.r_below in omega (arith, one_more, own-stays, fewer))
        g.hold g.line)
    place-proceed j l (no e) =
        subst (λ (x : ℕ). PlaceForm p.n p.number j (w_at p.w j) (own_w p) x (r_at r' (own_place p)) (hold_at p.held j) (line_at p.lines j) (at_writer p))
        (sym (r-set-ne p.r k j _ e))
        (place-raised p.n p.number j (f.place j l) (own_w p) (r_at r' (own_place p)) (omega arith) (omega (arith, own-stays)))

    pub kept-proceed : InForm (proceed_rule p k).tables × Shaped (proceed_rule p k).tables
    unfolding proceed_rule r' at_writer
    kept-proceed = (
      record {
        sizes = f.sizes;
        number-low = f.number-low;
        number-high = f.number-high;
        w_top = f.w_top;
        r_top = omega (arith, own-stays, f.r_top);
        place = λ j l. place-proceed j l (ℕ_discrete j k);
        unwritten = f.unwritten;
        operation-form = operation-raised p.operation _ (own_w p) (own_r p) (own_w p) (r_at r' (own_place p)) f.operation-form (omega arith) (omega (arith, own-stays));
      },
      record {
        w_long = s.w_long;
        r_long = length-kept p.r _ _ s.r_long;
        history_long = s.history_long;
        held_long = s.held_long;
        lines_long = s.lines_long;
      },
    )

  -- ---- a line or a hold of the peer changes

  -- with another line at the peer's place, in form there
  pub kept_line : (l : Line) → LineForm l (w_at p.w k) (own_w p) → length l.sn ≡ 100 → InForm (set_lines p (set p.lines k l)) × Shaped (set_lines p (set p.lines k l))
  unfolding at_writer
  kept_line l g long = (
    record {
      sizes = f.sizes;
      number-low = f.number-low;
      number-high = f.number-high;
      w_top = f.w_top;
      r_top = f.r_top;
      place = λ j m. place j m (ℕ_discrete j k);
      unwritten = f.unwritten;
      operation-form = f.operation-form;
    },
    record {
      w_long = s.w_long;
      r_long = s.r_long;
      history_long = s.history_long;
      held_long = s.held_long;
      lines_long = lines-kept p.lines k l s.lines_long long;
    },
  )
    where
      place : (j : ℕ) → j < 7 → Dec (j ≡ k) → PlaceForm p.n p.number j (w_at p.w j) (own_w p) (r_at p.r j) (own_r p) (hold_at p.held j) (line_at (set p.lines k l) j) (at_writer p)
      place j m (yes e) =
          subst (λ (i : ℕ). PlaceForm p.n p.number i (w_at p.w i) (own_w p) (r_at p.r i) (own_r p) (hold_at p.held i) (line_at (set p.lines k l) i) (at_writer p))
          (sym e)
          (subst (λ (x : Line). PlaceForm p.n p.number k (w_at p.w k) (own_w p) (r_at p.r k) (own_r p) (hold_at p.held k) x (at_writer p))
          (sym (line_set p.lines k l (omega (arith, at.seven, s.lines_long.seven))))
          (let h : PlaceOf p k = f.place k at.seven in
          place-peer p.n p.number k h _ _ _ _ _ _ at.number-other at.within h.w_below h.r_below h.hold g))
      place j m (no e) =
          subst (λ (x : Line). PlaceForm p.n p.number j (w_at p.w j) (own_w p) (r_at p.r j) (own_r p) (hold_at p.held j) x (at_writer p))
          (sym (line-set-ne p.lines k j l e)) (f.place j m)

  pub kept-hold : (h : Hold) → HoldForm h (w_at p.w k) (own_w p) (at_writer p) → InForm (set_held p (set p.held k h)) × Shaped (set_held p (set p.held k h))
  unfolding at_writer
  kept-hold h g = (
    record {
      sizes = f.sizes;
      number-low = f.number-low;
      number-high = f.number-high;
      w_top = f.w_top;
      r_top = f.r_top;
      place = λ j m. place j m (ℕ_discrete j k);
      unwritten = f.unwritten;
      operation-form = f.operation-form;
    },
    record {
      w_long = s.w_long;
      r_long = s.r_long;
      history_long = s.history_long;
      held_long = length-kept p.held _ _ s.held_long;
      lines_long = s.lines_long;
    },
  )
    where
      place : (j : ℕ) → j < 7 → Dec (j ≡ k) → PlaceForm p.n p.number j (w_at p.w j) (own_w p) (r_at p.r j) (own_r p) (hold_at (set p.held k h) j) (line_at p.lines j) (at_writer p)
      place j m (yes e) =
          subst (λ (i : ℕ). PlaceForm p.n p.number i (w_at p.w i) (own_w p) (r_at p.r i) (own_r p) (hold_at (set p.held k h) i) (line_at p.lines i) (at_writer p))
          (sym e)
          (subst (λ (x : Hold). PlaceForm p.n p.number k (w_at p.w k) (own_w p) (r_at p.r k) (own_r p) x (line_at p.lines k) (at_writer p))
          (sym (hold-set p.held k h (omega (arith, at.seven, s.held_long))))
          (let o : PlaceOf p k = f.place k at.seven in
          place-peer p.n p.number k o _ _ _ _ _ _ at.number-other at.within o.w_below o.r_below g o.line))
      place j m (no e) =
          subst (λ (x : Hold). PlaceForm p.n p.number j (w_at p.w j) (own_w p) (r_at p.r j) (own_r p) x (line_at p.lines j) (at_writer p))
          (sym (hold-set-ne p.held k j h e)) (f.place j m)

  -- ---- READ

  pub kept-read-from : line_full p k ≡ false → InForm (read_from_rule p k).tables × Shaped (read_from_rule p k).tables
  unfolding read_from_rule
  kept-read-from full =
      ite-case (λ (q : Ruled). InForm q.tables × Shaped q.tables) (leb (own_w p) (w_at p.w k)) _ _
      (λ _. (f, s))
      (λ e. let behind : w_at p.w k < own_w p = leb-false _ _ e in
      kept_line (joined (line_at p.lines k) (record { 0 = own_w p }))
      (joined-form (line_at p.lines k) (w_at p.w k) (own_w p) (own_w p) (f.place k at.seven).line (line-room p k full behind) behind refl (s.lines_long.hundred k at.seven))
      (length-joined (line_at p.lines k) _ ∙ s.lines_long.hundred k at.seven))

  -- ---- a WRITE that is only held

  pub kept-held : (v : ℕ) → HoldForm (record { full = true; value = v }) (w_at p.w k) (own_w p) (at_writer p) → InForm (hold_rule p k v).tables × Shaped (hold_rule p k v).tables
  unfolding hold_rule
  kept-held v g = kept-hold (record { full = true; value = v }) g
