-- "Every accepted step keeps this": a network in form stays so by every step, accepted or refused; n, t, writer and initial value stay,
-- and no panel's wait is met afterwards where none was before.
-- Assumes nothing.
use mathlib.Core.{Bool.true, Path.{◌≡◌, refl, sym, subst, ◌∙◌}}
use Prim.Native.Nat.{ℕ, ◌+◌, ◌-◌, ◌<◌}
use native.Mathlib.{Decide.ℕ_discrete, Omega.arith}
use lib.ListN.{length}
use Rattle.refusals.specs.Refusals.{Event}
use Rattle.panel.specs.{Calls.after, declared.Next.Next, declared.Panel.Panel}
use Rattle.promise.{proofs.AfterEvents.{after-setting, after-waits-kept}, proofs.AtPlace.{At, at_after, at-peers}, specs.View.Waits}
use Rattle.channels.{proofs.RowForm.taken-ok, proofs.Rows.{length_taken, length-posted}, specs.Channels.row_ok}
use Rattle.channels.specs.Posting.{posted_all, taken}
use Rattle.house.proofs.Kept.{form-with-panel, n-with-panel, t-with-panel, writer-with-panel, initial-with-panel, form-with-row, form-with-down}
use Rattle.house.proofs.{NetForms.Member, Stores.{panel-with-panel, panel-with-panel-ne, whole-with-panel, whole-with-row, whole-with-down}}
use Rattle.house.specs.{Places.{panel_at, tables_at, row_at, n_of, t_of, writer_of, initial_of, with_panel, with_row}, Whole.Whole}
use Rattle.house.specs.declared.Network.{Network}
use Rattle.steps.specs.Moves.{AllWait, SameSetUp}
use Rattle.steps.specs.Steps.{settled, write_trials, read_trials, deliver_trials, lose_trials, write_in, read_in, deliver_in, lose_in, written, begun, delivered, lost, checked}
use Rattle.steps.specs.declared.Stepped.{Stepped}
use Rattle.steps.proofs.Networks.{Good, good-test, at_place, place-seven, writer-place}
use Rattle.steps.proofs.{Passing.{receiver-place, may_read, may-deliver, may-lose}, SentOut.sent-ok}
use Rattle.steps.proofs.Settling.{afterwards, settled_case, tried-case, checked-in-form}

-- what every step keeps
pub record Kept (s s' : Network) : Type 0 where
  pub good : Good s'
  pub same : SameSetUp s s'
  pub waits : AllWait s → AllWait s'

pub kept-none : (s : Network) → Good s → Kept s s
kept-none s g = record { good = g; same = record { n = refl; t = refl; writer = refl; initial = refl }; waits = λ w. w }

pub kept_then : (s s₁ s₂ : Network) → Kept s s₁ → Kept s₁ s₂ → Kept s s₂
kept_then s s₁ s₂ a b =
    record {
      good = b.good;
      same = record {
        n = b.same.n ∙ a.same.n;
        t = b.same.t ∙ a.same.t;
        writer = b.same.writer ∙ a.same.writer;
        initial = b.same.initial ∙ a.same.initial;
      };
      waits = λ w. b.waits (a.waits w);
    }

-- ---- the panel at place i acts

module _ (s : Network) (g : Good s) (i : ℕ) (within : i < n_of s) (e : Event) where
  abbrev next : Next
  next = after (panel_at s i) e

  at_next : At (n_of s) i next.panel.tables
  at_next = at_after (n_of s) i (panel_at s i) (at_place s g i within) e

  member : Member next.panel.tables (n_of s) (t_of s) (writer_of s) (initial_of s) (i + 1)
  member =
      record {
        in-form = at_next.good.form;
        same-n = at_next.n-is;
        same-t = (after-setting (panel_at s i) e).t ∙ (g.form.member i within).same-t;
        same_writer = (after-setting (panel_at s i) e).writer ∙ (g.form.member i within).same_writer;
        same-initial = (after-setting (panel_at s i) e).initial ∙ (g.form.member i within).same-initial;
        own-number = at_next.number_is;
      }

  abbrev moved : Network
  moved = with_panel s i next.panel

  whole-moved : Whole moved
  whole-moved = whole-with-panel s g.whole i next.panel at_next.good.shape

  acted-same : SameSetUp s (afterwards s i next)
  acted-same =
      record {
        n = n-with-panel s g.whole g.form i within next.panel member;
        t = t-with-panel s g.whole g.form i within next.panel member;
        writer = writer-with-panel s g.whole g.form i within next.panel member;
        initial = initial-with-panel s g.whole g.form i within next.panel member;
      }

  acted-good : Good (afterwards s i next)
  acted-good =
      record {
        form = form-with-row moved whole-moved (form-with-panel s g.whole g.form i within next.panel member) i _
            (subst (λ (n : ℕ). row_ok (posted_all (row_at s i) next.sends).row n i ≡ true) (sym acted-same.n)
            (sent-ok (row_at s i) next.sends long (n_of s) i within (at-peers (n_of s) i (panel_at s i) (at_place s g i within) e) (g.form.rows i seven)));
        whole = whole-with-row moved whole-moved i _ (length-posted (row_at s i) next.sends ∙ long);
      }
    where
      seven : i < 7
      seven = place-seven s g i within

      long : length (row_at s i).to ≡ 7
      long = g.whole.row_long i seven

  acted-waits : AllWait s → AllWait (afterwards s i next)
  acted-waits w = record { waits = λ j h. at j (subst (λ (n : ℕ). j < n) acted-same.n h) (ℕ_discrete j i) }
    where
      at : (j : ℕ) → j < n_of s → Dec (j ≡ i) → Waits (tables_at moved j)
      at j h (yes q) =
          subst (λ (k : ℕ). Waits (tables_at moved k)) (sym q)
          (subst (λ (p : Panel). Waits p.tables) (sym (panel-with-panel s g.whole i (place-seven s g i within) next.panel))
          (after-waits-kept (panel_at s i) e (w.waits i within)))
      at j h (no d) = subst (λ (p : Panel). Waits p.tables) (sym (panel-with-panel-ne s i j next.panel d)) (w.waits j h)

  pub acted-kept : Kept s (afterwards s i next)
  acted-kept = record { good = acted-good; same = acted-same; waits = acted-waits }

-- ---- the steps

settled-kept :
    (s s₁ : Network) → Good s → Kept s s₁ → (i : ℕ) → i < n_of s₁ → (e : Event) → Kept s (settled s s₁ i (after (panel_at s₁ i) e)).network
settled-kept s s₁ g k i within e =
    settled_case s s₁ i _ (λ (a : Stepped). Kept s a.network) (λ _ _. kept-none s g) (kept-none s g)
    (λ _. kept_then s s₁ _ k (acted-kept s₁ k.good i within e))

-- a message is out of its channel
pub taken-kept : (s : Network) → Good s → (i j k : ℕ) → i < 7 → Kept s (with_row s i (taken (row_at s i) j k))
taken-kept s g i j k seven =
    record {
      good = record {
        form = form-with-row s g.whole g.form i _ (taken-ok (row_at s i) (n_of s) i j k long (g.form.rows i seven));
        whole = whole-with-row s g.whole i _ (length_taken (row_at s i) j k ∙ long);
      };
      same = record { n = refl; t = refl; writer = refl; initial = refl };
      waits = λ w. record { waits = w.waits };
    }
  where
    long : length (row_at s i).to ≡ 7
    long = g.whole.row_long i seven

module _ (s : Network) (g : Good s) where
  abbrev KeptBy : Stepped → Type 0
  KeptBy a = Kept s a.network

  pub write_kept : (v : ℕ) → Kept s (write_in s v).network
  unfolding write_in
  write_kept v =
      tried-case (write_trials s) s _ KeptBy (λ _ _. kept-none s g) (λ _. settled-kept s s g (kept-none s g) (writer_of s - 1) (writer-place s g) _)

  pub read_kept : (i : ℕ) → Kept s (read_in s i).network
  unfolding read_in
  read_kept i =
      tried-case (read_trials s i) s _ KeptBy (λ _ _. kept-none s g)
      (λ z. let m = (may_read s i).0 z in settled-kept s s g (kept-none s g) (i - 1) (omega (arith, m.low, m.high)) _)

  pub deliver-kept : (k i j : ℕ) → Kept s (deliver_in s k i j).network
  unfolding deliver_in
  deliver-kept k i j =
      tried-case (deliver_trials s k i j) s _ KeptBy (λ _ _. kept-none s g)
      (λ z.
      let m = ((may-deliver s k i j).0 z).pair in
      settled-kept s _ g (taken-kept s g (i - 1) (j - 1) k (omega (arith, m.sender-high, g.form.n-high))) (j - 1)
      (receiver-place m) _)

  pub lose-kept : (i : ℕ) → Kept s (lose_in s i).network
  unfolding lose_in
  lose-kept i =
      tried-case (lose_trials s i) s _ KeptBy (λ _ _. kept-none s g)
      (λ z.
      let m = (may-lose s i).0 z in
      record {
        good = record {
          form = form-with-down s g.whole g.form (i - 1) (omega (arith, m.low, m.high)) m.one_more;
          whole = whole-with-down s g.whole (i - 1);
        };
        same = record { n = refl; t = refl; writer = refl; initial = refl };
        waits = λ w. record { waits = w.waits };
      })

  checked-kept : (a : Stepped) → KeptBy a → KeptBy (checked s a)
  checked-kept a k = subst KeptBy (sym (checked-in-form s a (good-test s g))) k

  pub written-kept : (v : ℕ) → Kept s (written s v).network
  written-kept v = checked-kept _ (write_kept v)

  pub begun_kept : (i : ℕ) → Kept s (begun s i).network
  begun_kept i = checked-kept _ (read_kept i)

  pub delivered-kept : (k i j : ℕ) → Kept s (delivered s k i j).network
  delivered-kept k i j = checked-kept _ (deliver-kept k i j)

  pub lost-kept : (i : ℕ) → Kept s (lost s i).network
  lost-kept i = checked-kept _ (lose-kept i)
