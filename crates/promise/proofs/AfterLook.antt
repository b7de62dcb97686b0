-- What the look at the operation leaves: nothing but the operation changes, and an operation that stays open has
-- its wait still to be met.
-- Assumes nothing.
use mathlib.Core.{Bool.{Bool, true}, Path.{◌≡◌, refl, sym, subst}}
use Prim.Native.Nat.{ℕ, ◌≤◌, ◌<◌}
use native.Mathlib.Omega.{arith}
use borrow.Author.Tests.{eq-eqb, le-leb, leb-true}
use Rattle.basics.proofs.Choices.{clash, ite-case, both_right}
use Rattle.tables.{proofs.Quorum.enough-more, specs.Marks.{has_w, reaches_w, has_r, enough}, specs.Places.w_at, specs.declared.WriteNo.WriteNo}
use Rattle.form.{proofs.InForm.InForm, specs.Form.{at_writer, operation_ok}, specs.Setting.{own_place, own_w, own_r, set_operation}}
use Rattle.form.specs.declared.{Operation.Operation, Operation.TheVariants.{Idle, Writing, FirstWait, SecondWait}, Tables.Tables}
use Rattle.events.specs.{Look.{look_writing, look_second, look_first, look_as, look}, declared.Looked.Looked}
use Rattle.promise.specs.View.{view_of, WaitsAs, Waits}

module _ (p : Tables) where
  -- ---- what holds of the panel with any operation holds of it after the look

  module _ (P : Tables → Type 0) (h : (o : Operation) → P (set_operation p o)) where
    second-keeps : (sn : WriteNo) → P (look_second p sn).tables
    unfolding look_second
    second-keeps sn = ite-case (λ (l : Looked). P l.tables) _ _ _ (λ _. h Idle) (λ _. h (SecondWait sn))

    as-keeps : (o : Operation) → P (look_as o p).tables
    unfolding look_as look_writing look_first
    as-keeps Idle = h p.operation
    as-keeps Writing = ite-case (λ (l : Looked). P l.tables) _ _ _ (λ _. h Idle) (λ _. h p.operation)
    as-keeps FirstWait = ite-case (λ (l : Looked). P l.tables) _ _ _ (λ _. second-keeps _) (λ _. h p.operation)
    as-keeps (SecondWait sn) = second-keeps sn

    pub look-keeps : P (look p).tables
    unfolding look
    look-keeps = as-keeps p.operation

  pub look-view : view_of (look p).tables ≡ view_of p
  unfolding view_of
  look-view = look-keeps (λ (q : Tables). view_of q ≡ view_of p) (λ o. refl)

  -- ---- an operation that stays open waits

  second-waits : (sn : WriteNo) → Waits (look_second p sn).tables
  unfolding look_second
  second-waits sn = ite-case (λ (l : Looked). Waits l.tables) _ _ _ (λ _. tt) (λ h. h)

  as-waits : (o : Operation) → p.operation ≡ o → Waits (look_as o p).tables
  unfolding look_as look_writing look_first
  as-waits Idle e = subst (λ (o : Operation). WaitsAs o p) (sym e) tt
  as-waits Writing e = ite-case (λ (l : Looked). Waits l.tables) _ _ _ (λ _. tt) (λ h. subst (λ (o : Operation). WaitsAs o p) (sym e) h)
  as-waits FirstWait e = ite-case (λ (l : Looked). Waits l.tables) _ _ _ (λ _. second-waits _) (λ h. subst (λ (o : Operation). WaitsAs o p) (sym e) h)
  as-waits (SecondWait sn) e = second-waits sn

  pub look-waits : Waits (look p).tables
  unfolding look
  look-waits = as-waits p.operation refl

-- ---- where enough panels are level with this one, it waits for nothing

module _ (p : Tables) (f : InForm p) (up : ℕ → Bool) (quorum : enough p.n p.t up ≡ true)
    (w-level : (l : ℕ) → l < p.n → up l ≡ true → (view_of p).w l ≡ (view_of p).w (own_place p))
    (r-level : (l : ℕ) → l < p.n → up l ≡ true → (view_of p).r l ≡ (view_of p).r (own_place p)) where
  open-not : (o : Operation) → operation_ok o (at_writer p) (own_w p) (own_r p) ≡ true → WaitsAs o p → o ≡ Idle
  unfolding view_of operation_ok has_w has_r reaches_w
  open-not Idle ok w = refl
  open-not Writing ok w = clash w (enough-more p.n p.t up (has_w p.w (own_w p)) (λ l h u. eq-eqb _ _ (w-level l h u)) quorum)
  open-not FirstWait ok w = clash w (enough-more p.n p.t up (has_r p.r (own_r p)) (λ l h u. eq-eqb _ _ (r-level l h u)) quorum)
  open-not (SecondWait sn) ok w =
      let known : sn.0 ≤ own_w p = leb-true _ _ (both_right _ _ ok) in
      clash w (enough-more p.n p.t up (reaches_w p.w sn.0)
      (λ l h u. le-leb sn.0 (w_at p.w l) (let level : w_at p.w l ≡ own_w p = w-level l h u in omega arith)) quorum)

  pub level-idle : Waits p → p.operation ≡ Idle
  level-idle w = open-not p.operation f.operation-form w
