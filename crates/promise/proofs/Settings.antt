-- Every event keeps n, t, writer, number and the initial value, refused or not.
-- Assumes nothing.
use mathlib.Core.{List.List, Path.{◌≡◌, refl, ◌∙◌}}
use Prim.Native.Nat.{ℕ, ◌+◌, ◌-◌}
use native.Mathlib.Omega.{arith}
use lib.{ListN.{get_or, set}, Seq.get_or-set_other}
use Rattle.basics.proofs.{Choices.ite-case, Refusals.unless-case}
use Rattle.tables.specs.{Places.{hold_at, no_hold}, declared.Hold.Hold, declared.Line.Line, declared.ReadNo.ReadNo, declared.WriteNo.WriteNo}
use Rattle.form.specs.{Setting.{own_w, set_held}, declared.Operation.Operation, declared.Tables.Tables}
use Rattle.refusals.specs.Refusals.{trials, Event, Event.{write, read, write_from, read_from, proceed_from}}
use Rattle.events.specs.Events.{rule, looked_at, refused_by, happens}
use Rattle.events.specs.Rules.{value_of, learned, reached, take, take_held, released, take_rule, write_rule, read_rule, hold_rule, read_from_rule, proceed_rule}
use Rattle.events.specs.declared.{Done.Done, Ruled.Ruled, Took.Took}
use Rattle.promise.specs.Facts.{SameSetting}
use Rattle.promise.proofs.AfterLook.{look-keeps}

pub same-setting : (p : Tables) → SameSetting p p
same-setting p = record { n = refl; t = refl; writer = refl; number = refl; initial = refl }

pub setting-then : {p q r : Tables} → SameSetting p q → SameSetting q r → SameSetting p r
setting-then a b =
    record { n = b.n ∙ a.n; t = b.t ∙ a.t; writer = b.writer ∙ a.writer; number = b.number ∙ a.number; initial = b.initial ∙ a.initial }

-- the panel with other tables
abbrev changed : Tables → List WriteNo → List ReadNo → List ℕ → List Hold → List Line → Operation → Tables
changed p ws rs h hs ls o =
    record { n = p.n; t = p.t; writer = p.writer; number = p.number; w = ws; r = rs; history = h; held = hs; lines = ls; operation = o }

changed-setting :
    (p : Tables) (ws : List WriteNo) (rs : List ReadNo) (h : List ℕ) (hs : List Hold) (ls : List Line) (o : Operation) → get_or h 0 0 ≡ get_or p.history 0 0 →
    SameSetting p (changed p ws rs h hs ls o)
unfolding value_of
changed-setting p ws rs h hs ls o e = record { n = refl; t = refl; writer = refl; number = refl; initial = e }

-- value 0 is not one that is learned
learned-setting : (p : Tables) (v : ℕ) → SameSetting p (learned p v)
unfolding learned
learned-setting p v = changed-setting p _ _ _ _ _ _ (get_or-set_other p.history (own_w p + 1) 0 v 0 (omega arith))

reached-setting : (p : Tables) (k x : ℕ) → SameSetting p (reached p k x)
unfolding reached
reached-setting p k x = changed-setting p _ _ _ _ _ _ refl

take-setting : (p : Tables) (k v : ℕ) → SameSetting p (take p k v).tables
unfolding take
take-setting p k v =
    ite-case (λ (o : Took). SameSetting p o.tables) _ _ _
    (λ _. setting-then (learned-setting p v) (reached-setting (learned p v) k _))
    (λ _. ite-case (λ (o : Took). SameSetting p o.tables) _ _ _ (λ _. reached-setting p k _) (λ _. reached-setting p k _))

held-setting : (p : Tables) (k : ℕ) → SameSetting p (take_held p k).tables
unfolding take_held
held-setting p k =
    ite-case (λ (o : Took). SameSetting p o.tables) _ _ _
    (λ _. setting-then (changed-setting p _ _ _ _ _ _ refl) (take-setting (set_held p (set p.held k no_hold)) k (hold_at p.held k).value))
    (λ _. same-setting p)

take-rule-setting : (p : Tables) (k v : ℕ) → SameSetting p (take_rule p k v).tables
unfolding take_rule released
take-rule-setting p k v =
    setting-then (take-setting p k v)
    (setting-then (held-setting (take p k v).tables k) (changed-setting (take_held (take p k v).tables k).tables _ _ _ _ _ _ refl))

rule-setting : (p : Tables) (e : Event) → SameSetting p (rule p e).tables
unfolding rule write_rule read_rule hold_rule read_from_rule proceed_rule
rule-setting p (write v) = setting-then (learned-setting p v) (changed-setting (learned p v) _ _ _ _ _ _ refl)
rule-setting p read = changed-setting p _ _ _ _ _ _ refl
rule-setting p (write_from j b v) =
    ite-case (λ (q : Ruled). SameSetting p q.tables) _ _ _ (λ _. take-rule-setting p (j - 1) v) (λ _. changed-setting p _ _ _ _ _ _ refl)
rule-setting p (read_from j) =
    ite-case (λ (q : Ruled). SameSetting p q.tables) _ _ _ (λ _. same-setting p) (λ _. changed-setting p _ _ _ _ _ _ refl)
rule-setting p (proceed_from j) = changed-setting p _ _ _ _ _ _ refl

pub setting_kept : (p : Tables) (room : ℕ) (e : Event) → SameSetting p (happens p room e).tables
unfolding happens looked_at refused_by
setting_kept p room e =
    unless-case (λ (d : Done). SameSetting p d.tables) (trials p room e) _ _
    (λ _. setting-then (rule-setting p e)
    (look-keeps (rule p e).tables (λ (q : Tables). SameSetting (rule p e).tables q) (λ o. changed-setting (rule p e).tables _ _ _ _ _ o refl)))
    (λ _ _. same-setting p)
