-- A WRITE that is taken, with the held one behind it and the READs that leave, keeps the panel in form.
-- Assumes nothing.
use mathlib.Core.{Bool.{Bool, true, false}, List.List, Logic.{◌≢◌, ◌⊎◌, inl, inr}, Path.{◌≡◌, refl, sym, ap, subst, ◌∙◌}}
use Prim.Native.Nat.{ℕ, ◌+◌, ◌≤◌, ◌<◌}
use native.Mathlib.{Decide.ℕ_discrete, Omega.arith}
use lib.ListN.{set}
use Rattle.tables.{proofs.Lines.{raised-form, without-form, length_without}, specs.Lines.{leaving, without}}
use Rattle.tables.specs.{Places.{w_at, r_at, hold_at, line_at}, declared.Hold.Hold, declared.Line.Line}
use Rattle.form.proofs.{InForm.{InForm, PlaceForm, PlaceOf}, Places.{place-raised, place-own, place-peer, empty-hold}}
use Rattle.form.{proofs.Shape.{Shaped, lines-kept}, proofs.Stores.{line_set, line-set-ne}, specs.Form.at_writer}
use Rattle.form.specs.{Setting.{own_place, own_w, own_r}, declared.Tables.Tables}
use Rattle.events.specs.Rules.{take, take_held, released, take_rule}
use Rattle.events.proofs.{KeptPeers.{PeerPlace, operation-raised}, KeptStarts.own-place}
use Rattle.events.proofs.Taking.{Stage, at_stage, Taken, taken, HeldTaken, held-taken}

module _ (p : Tables) (s : Shaped p) (f : InForm p) (k : ℕ) (at : PeerPlace p k) where
  -- before anything is taken
  abbrev pub start : Stage p k (w_at p.w k)
  start =
      record {
        w = p.w;
        history = p.history;
        held = p.held;
        w_long = s.w_long;
        history_long = s.history_long;
        held_long = s.held_long;
        peer = refl;
        others = λ j m n. refl;
        own-grows = omega arith;
        own-covers = (f.place k at.seven).w_below;
        own-from = inl refl;
        unwritten = f.unwritten;
        holds = λ j e. refl;
      }

  -- a stage at which nothing is held any more, and the READs that may leave have left
  module _ (x : ℕ) (b : Stage p k x) (top : x ≤ 200) (empty : ((hold_at b.held k).full ≡ false) × ((hold_at b.held k).value ≡ 0)) where
    l : Line
    l = line_at p.lines k

    l' : Line
    l' = without l (leaving l (w_at b.w k))

    y : ℕ
    y = w_at b.w (own_place p)

    own_top : y ≤ 200
    unfolding y
    own_top = by b.own-from
      where
        by : (w_at b.w (own_place p) ≡ own_w p) ⊎ (w_at b.w (own_place p) ≡ x) → w_at b.w (own_place p) ≤ 200
        by (inl e) = omega (arith, f.w_top)
        by (inr e) = omega arith

    placed : ℕ → ℕ → Hold → Line → Type 0
    placed j w h m = PlaceForm p.n p.number j w y (r_at p.r j) (own_r p) h m (at_writer p)

    at-peer : placed k (w_at b.w k) (hold_at b.held k) l'
    unfolding placed y l' l
    at-peer =
        let g : PlaceOf p k = f.place k at.seven in
        place-peer p.n p.number k g _ _ _ _ _ _ at.number-other at.within
        (let c : x ≤ w_at b.w (own_place p) = b.own-covers in omega (arith, b.peer)) g.r_below
        (empty-hold _ _ _ _ empty.0 empty.1)
        (without-form l (w_at p.w k) (w_at b.w k) (w_at b.w (own_place p)) (raised-form l (w_at p.w k) (own_w p) (w_at b.w (own_place p)) g.line b.own-grows) (s.lines_long.hundred k at.seven))

    elsewhere : (j : ℕ) → j < 7 → j ≢ k → Dec (j ≡ own_place p) → placed j (w_at b.w j) (hold_at b.held j) (line_at p.lines j)
    unfolding placed y
    elsewhere j m n (yes e) =
        subst (λ (h : Hold). PlaceForm p.n p.number j (w_at b.w j) (w_at b.w (own_place p)) (r_at p.r j) (own_r p) h (line_at p.lines j) (at_writer p))
        (sym (b.holds j n))
        (place-own p.n p.number j (f.place j m) _ _ _ _ (omega (arith, (own-place p f).0)) (omega (arith, (own-place p f).1))
        (subst (λ (i : ℕ). w_at b.w i ≤ w_at b.w (own_place p)) (sym e) (omega arith)) (f.place j m).r_below)
    elsewhere j m n (no e) =
        subst (λ (h : Hold). PlaceForm p.n p.number j (w_at b.w j) (w_at b.w (own_place p)) (r_at p.r j) (own_r p) h (line_at p.lines j) (at_writer p))
        (sym (b.holds j n))
        (subst (λ (w : ℕ). PlaceForm p.n p.number j w (w_at b.w (own_place p)) (r_at p.r j) (own_r p) (hold_at p.held j) (line_at p.lines j) (at_writer p))
        (sym (b.others j n e))
        (place-raised p.n p.number j (f.place j m) _ _ b.own-grows (omega arith)))

    everywhere : (j : ℕ) → j < 7 → Dec (j ≡ k) → placed j (w_at b.w j) (hold_at b.held j) (line_at (set p.lines k l') j)
    unfolding placed y
    everywhere j m (yes e) =
        subst (λ (i : ℕ). PlaceForm p.n p.number i (w_at b.w i) (w_at b.w (own_place p)) (r_at p.r i) (own_r p) (hold_at b.held i) (line_at (set p.lines k l') i) (at_writer p))
        (sym e)
        (subst (λ (m : Line). PlaceForm p.n p.number k (w_at b.w k) (w_at b.w (own_place p)) (r_at p.r k) (own_r p) (hold_at b.held k) m (at_writer p))
        (sym (line_set p.lines k l' (omega (arith, at.seven, s.lines_long.seven)))) at-peer)
    everywhere j m (no e) =
        subst (λ (m : Line). PlaceForm p.n p.number j (w_at b.w j) (w_at b.w (own_place p)) (r_at p.r j) (own_r p) (hold_at b.held j) m (at_writer p))
        (sym (line-set-ne p.lines k j l' e)) (elsewhere j m e (ℕ_discrete j (own_place p)))

    kept-stage : InForm (released (at_stage b) k) × Shaped (released (at_stage b) k)
    unfolding released placed y l l' at_writer
    kept-stage = (
      record {
        sizes = f.sizes;
        number-low = f.number-low;
        number-high = f.number-high;
        w_top = own_top;
        r_top = f.r_top;
        place = λ j m. everywhere j m (ℕ_discrete j k);
        unwritten = b.unwritten;
        operation-form = operation-raised p.operation _ (own_w p) (own_r p) (w_at b.w (own_place p)) (own_r p) f.operation-form b.own-grows (omega arith);
      },
      record {
        w_long = b.w_long;
        r_long = s.r_long;
        history_long = b.history_long;
        held_long = b.held_long;
        lines_long = lines-kept p.lines k l' s.lines_long (length_without l (leaving l (w_at b.w k)));
      },
    )

  -- the whole rule
  pub kept-take : (v : ℕ) → w_at p.w k + 1 ≤ 200 → InForm (take_rule p k v).tables × Shaped (take_rule p k v).tables
  unfolding take_rule
  kept-take v next =
      let t : Taken p k (w_at p.w k) start (take p k v) = taken p k (w_at p.w k) at (own-place p f).2 start v in
      let held : hold_at t.next.held k ≡ hold_at p.held k = ap (λ (hs : List Hold). hold_at hs k) t.same-holds in
      let h : HeldTaken p k (w_at p.w k + 1) t.next (take_held (at_stage t.next) k)
      = held-taken p k (w_at p.w k + 1) at (own-place p f).2 t.next (λ e. ap (λ (x : Hold). x.value) held ∙ (f.place k at.seven).hold.empty-zero (sym (ap (λ (x : Hold). x.full) held) ∙ e)) in
      subst (λ (q : Tables). InForm (released q k) × Shaped (released q k))
      (sym (ap (λ (q : Tables). (take_held q k).tables) t.there ∙ h.there))
      (kept-stage h.upto h.next (top h.upto (hold_at t.next.held k).full (ap (λ (x : Hold). x.full) held) h.at_most) h.empty)
    where
      top : (x : ℕ) (b : Bool) → b ≡ (hold_at p.held k).full → (x ≡ w_at p.w k + 1) ⊎ ((x ≡ w_at p.w k + 1 + 1) × (b ≡ true)) → x ≤ 200
      top x b e (inl i) = omega arith
      top x b e (inr i) = let two : w_at p.w k + 2 ≤ 200 = (f.place k at.seven).hold.next-exists (sym e ∙ i.1) in omega (arith, i.0)
