-- What the code's marks tell of "at least n−t panels".
-- Assumes nothing.
use mathlib.Core.{Bool.{Bool, true, false}, List.List, Path.{◌≡◌, sym, ap, subst, ◌∙◌}}
use Prim.Native.Nat.{ℕ, ◌-◌, ◌≤◌}
use lib.{Dec.leb, ListN.get_or}
use Rattle.basics.{proofs.Choices.{ite-true, ite-false}, specs.Below.count_below}
use Rattle.tables.{proofs.Marks.enough-marked, specs.Marks.{has_w, has_r, marks, enough}, specs.Places.{w_at, r_at, no_write}}
use Rattle.tables.specs.declared.WriteNo.{WriteNo}
use Rattle.form.specs.{Setting.{own_w, own_r, set_operation}, declared.Operation.Operation, declared.Operation.TheVariants.{Idle, SecondWait}}
use Rattle.form.specs.declared.Tables.{Tables}
use Rattle.events.specs.{Asked.sn_of, Look.{look_writing, look_second, look_first, look_as, look}}
use Rattle.events.specs.declared.Finished.TheVariants.{Wrote}
use Rattle.std.specs.Prelude.{Some, None}

pub enough-told : (n t : ℕ) (f : ℕ → Bool) (marked : List Bool) (r : Bool) → marked ≡ marks n f → r ≡ leb (n - t) (count_below 7 (λ (j : ℕ). get_or marked j false)) → r ≡ enough n t f
enough-told n t f marked r m e = e ∙ ap (λ (l : List Bool). leb (n - t) (count_below 7 (λ (j : ℕ). get_or l j false))) m ∙ enough-marked n t f

-- ---- each way out of a look; i is the panel's number as the code holds it

module _ (p : Tables) (i : ℕ) (own : i ≡ p.number) (marked : List Bool) (r : Bool) (counted : r ≡ leb (p.n - p.t) (count_below 7 (λ (j : ℕ). get_or marked j false))) where
  writing-met : marked ≡ marks p.n (has_w p.w (w_at p.w (i - 1))) → r ≡ enough p.n p.t (has_w p.w (own_w p))
  writing-met m = enough-told p.n p.t (has_w p.w (own_w p)) marked r (m ∙ ap (λ (j : ℕ). marks p.n (has_w p.w (w_at p.w (j - 1)))) own) counted

  first-met : marked ≡ marks p.n (has_r p.r (r_at p.r (i - 1))) → r ≡ enough p.n p.t (has_r p.r (own_r p))
  first-met m = enough-told p.n p.t (has_r p.r (own_r p)) marked r (m ∙ ap (λ (j : ℕ). marks p.n (has_r p.r (r_at p.r (j - 1)))) own) counted

  pub writing-ends : marked ≡ marks p.n (has_w p.w (w_at p.w (i - 1))) → r ≡ true → record { tables = set_operation p Idle; finished = Some (Wrote (get_or p.w (i - 1) no_write)) } ≡ look_writing p
  unfolding look_writing
  writing-ends m t =
      ap (λ (j : ℕ). record { tables = set_operation p Idle; finished = Some (Wrote (get_or p.w (j - 1) no_write)) }) own
      ∙ sym (ite-true _ _ (sym (writing-met m) ∙ t))

  pub writing-goes-on : marked ≡ marks p.n (has_w p.w (w_at p.w (i - 1))) → r ≡ false → record { tables = p; finished = None } ≡ look_writing p
  unfolding look_writing
  writing-goes-on m t = sym (ite-false _ _ (sym (writing-met m) ∙ t))

  pub first_ends : marked ≡ marks p.n (has_r p.r (r_at p.r (i - 1))) → r ≡ true → look_second p (get_or p.w (i - 1) no_write) ≡ look_first p
  unfolding look_first
  first_ends m t = ap (λ (j : ℕ). look_second p (get_or p.w (j - 1) no_write)) own ∙ sym (ite-true _ _ (sym (first-met m) ∙ t))

  pub first-goes-on : marked ≡ marks p.n (has_r p.r (r_at p.r (i - 1))) → r ≡ false → record { tables = p; finished = None } ≡ look_first p
  unfolding look_first
  first-goes-on m t = sym (ite-false _ _ (sym (first-met m) ∙ t))

pub look-as : (p : Tables) (o : Operation) → p.operation ≡ o → look p ≡ look_as o p
unfolding look
look-as p o e = ap (λ (x : Operation). look_as x p) e

pub sn-low : (p : Tables) (sn : WriteNo) → p.operation ≡ SecondWait sn → sn_of p.operation ≤ 200 → sn.0 ≤ 200
unfolding sn_of
sn-low p sn e h = subst (λ (o : Operation). sn_of o ≤ 200) e h

pub own-low : (p : Tables) (i : ℕ) → i ≡ p.number → own_w p ≤ 200 → w_at p.w (i - 1) ≤ 200
own-low p i own h = subst (λ (j : ℕ). w_at p.w (j - 1) ≤ 200) (sym own) h
