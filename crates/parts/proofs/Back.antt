-- A step on the parts of a network in form, put back, is the network's step.
-- Assumes nothing.
use mathlib.Core.{Bool.{Bool, true, false}, List.List, Logic.◌≢◌, Path.{◌≡◌, refl, sym, ap, ap₂, subst, ◌∙◌}}
use Prim.Native.Nat.{ℕ, ◌-◌, ◌≤◌}
use native.Mathlib.Omega.{arith}
use lib.{ListN.{get_or, set}, Seq.{set-get_or, get_or-set_other}}
use borrow.Author.Tests.{le-leb}
use Rattle.basics.{proofs.Choices.{ite-true, ite-two}, proofs.Refusals.{none-met, unless-two}, specs.Choice.ite, specs.Refusal.{Trial, first_of, met, unless}}
use Rattle.basics.specs.declared.refused.Refusal.{Refusal, TheVariants.{NoSuchPanel, ChannelFull}}
use Rattle.refusals.specs.Refusals.Event.{read}
use Rattle.std.specs.Prelude.{Ok, None}
use Rattle.panel.specs.{Calls.after, declared.Next.Next, declared.Panel.Panel}
use Rattle.channels.specs.{Channels.{no_row, value_in}, Posting.{posted_all, taken}, declared.Row.Row}
use Rattle.house.{proofs.NetForms.{form-view, writer-high}, specs.NetForm.net_form}
use Rattle.house.specs.{Places.{nobody, panel_at, row_at, channel_of, n_of, writer_of, with_row}, declared.Network.Network}
use Rattle.steps.{proofs.Passing.{pair-iff, places-apart, may_read}, specs.Steps.{is_pair, comes, write_in, read_in, deliver_in, lose_in}}
use Rattle.steps.specs.declared.Stepped.{Stepped}
use Rattle.steps.specs.Steps as steps
use Rattle.parts.specs.Acting.{place_within, actor_of, sender_of, with_from, with_taken, refused_by, tried, write_trials, read_trials, deliver_trials, lose_trials, settled, written, begun, delivered, lost, moved}
use Rattle.parts.specs.{Steps.{parts_at, put_back, back, by_parts, step_in}, declared.Moved.Moved, declared.Step.Step, declared.Step.TheVariants.{Write, Read, Deliver, Lose, Rest}}

-- it comes to what a step of the network comes to
abbrev Backed : Network → ℕ → ℕ → Moved → Stepped → Type 0
Backed s i j a b = back s i j a ≡ b

-- ---- what is as it was

pub unmoved : (s : Network) (i j : ℕ) → put_back s i j (parts_at s i j) ≡ s
unmoved s i j =
    ap₂ (λ (ps : List Panel) (rs : List Row). record { panels = ps; rows = rs; down = s.down })
    (set-get_or s.panels j nobody)
    (ap (λ (rs : List Row). set rs j (row_at s j)) (set-get_or s.rows i no_row) ∙ set-get_or s.rows j no_row)

refused-back : (s : Network) (i j : ℕ) (r : Refusal) → back s i j (refused_by (parts_at s i j) r) ≡ steps.refused_by s r
refused-back s i j r = ap (λ (x : Network). steps.refused_by x r) (unmoved s i j)

-- ---- trials

-- the same trials: where they are passed, what they lead to is the same
tried-back :
    (ts : List Trial) (s : Network) (i j : ℕ) (a : Moved) (b : Stepped) → (first_of ts ≡ 0 → back s i j a ≡ b) →
    back s i j (tried ts (parts_at s i j) a) ≡ steps.tried ts s b
unfolding tried steps.tried
tried-back ts s i j a b same = unless-two (Backed s i j) (met ts) _ _ _ _ (λ _ e. same (none-met ts (sym e))) (λ r _. refused-back s i j r)

-- ---- the panel's event: r are the channels that leave place i afterwards

module _ (s : Network) (i j : ℕ) (r : Row) (q : Next) (own : row_at (with_row s i r) j ≡ row_at s j) where
  -- the panel accepts, and o are its channels
  abbrev done : Row → Stepped
  done o =
      record {
        network = record { panels = set s.panels j q.panel; rows = set (set s.rows i r) j (posted_all o q.sends).row; down = s.down };
        answer = q.answer;
      }

  -- if all that it sends finds room
  abbrev done-or-full : Row → Stepped
  done-or-full o = ite (posted_all o q.sends).fits (done o) (steps.refused_by s ChannelFull)

  pub settled_back : Backed s i j (settled (parts_at s i j) (with_from (parts_at s i j) r) q) (steps.settled s (with_row s i r) j q)
  unfolding settled steps.settled
  settled_back =
      unless-two (Backed s i j) q.answer _ _ _ _
      (λ _ _. ite-two (Backed s i j) (posted_all (row_at s j) q.sends).fits _ _ _ _ (λ _. refl) (λ _. refused-back s i j ChannelFull) ∙ ap done-or-full (sym own))
      (λ r _. refused-back s i j r)

-- a start takes nothing out of a channel
started-back : (s : Network) (i j : ℕ) (q : Next) → back s i j (settled (parts_at s i j) (parts_at s i j) q) ≡ steps.settled s s j q
started-back s i j q =
    settled_back s i j (row_at s i) q (ap (λ (rs : List Row). get_or rs j no_row) same)
    ∙ ap (λ (rs : List Row). steps.settled s (record { panels = s.panels; rows = rs; down = s.down }) j q) same
  where
    same : set s.rows i (row_at s i) ≡ s.rows
    same = set-get_or s.rows i no_row

-- ---- the steps

place_is : {i : ℕ} → i ≤ 7 → place_within i ≡ i - 1
unfolding place_within
place_is h = ite-true _ _ (le-leb _ _ h)

module _ (s : Network) (f : net_form s ≡ true) where
  low : {i : ℕ} → i ≤ n_of s → i ≤ 7
  low {i} h = omega (arith, h, (form-view s f).n-high)

  write-back : (v o : ℕ) {p : ℕ} → p ≡ place_within (writer_of s) → back s o p (written (parts_at s o p) v) ≡ write_in s v
  unfolding written write_in write_trials steps.write_trials
  write-back v o e =
      subst (λ (j : ℕ). back s o j (written (parts_at s o j) v) ≡ write_in s v)
      (sym (e ∙ place_is (low (writer-high s (form-view s f)))))
      (tried-back (steps.write_trials s) s o (writer_of s - 1) _ _ (λ _. started-back s o (writer_of s - 1) _))

  read_back : (i o : ℕ) {p : ℕ} → p ≡ place_within i → back s o p (begun (parts_at s o p) i) ≡ read_in s i
  unfolding begun read_in read_trials steps.read_trials
  read_back i o {p} e =
      tried-back (steps.read_trials s i) s o p _ _
      (λ z.
      subst (λ (j : ℕ). back s o j (settled (parts_at s o j) (parts_at s o j) (after (panel_at s j) read)) ≡ steps.settled s s (i - 1) (after (panel_at s (i - 1)) read))
      (sym (e ∙ place_is (low ((may_read s i).0 z).high)))
      (started-back s o (i - 1) _))

  lose-back : (i o p : ℕ) → back s o p (lost (parts_at s o p) i) ≡ lose_in s i
  unfolding lost lose_in lose_trials steps.lose_trials
  lose-back i o p =
      tried-back (steps.lose_trials s i) s o p _ _
      (λ _. ap (λ (x : Network). record { network = record { panels = x.panels; rows = x.rows; down = set s.down (i - 1) true }; answer = Ok None }) (unmoved s o p))

  -- the message taken out, the panel's own channels are as they were
  delivered-back :
      (k i j : ℕ) → i - 1 ≢ j - 1 →
      back s (i - 1) (j - 1)
      (settled (parts_at s (i - 1) (j - 1)) (with_taken (parts_at s (i - 1) (j - 1)) k j)
      (after (panel_at s (j - 1)) (comes k i (value_in (channel_of s (i - 1) (j - 1)) k))))
      ≡ steps.settled s (with_row s (i - 1) (taken (row_at s (i - 1)) (j - 1) k)) (j - 1)
      (after (panel_at s (j - 1)) (comes k i (value_in (channel_of s (i - 1) (j - 1)) k)))
  delivered-back k i j apart = settled_back s (i - 1) (j - 1) _ _ (get_or-set_other s.rows (i - 1) (j - 1) _ no_row (λ e. apart (sym e)))

  module _ (k i j : ℕ) where
    abbrev At : ℕ → ℕ → Type 0
    At o p = back s o p (delivered (parts_at s o p) k i j) ≡ deliver_in s k i j

    nobody-there : (o p : ℕ) → is_pair (n_of s) i j ≡ false → At o p
    unfolding delivered deliver_in deliver_trials steps.deliver_trials tried steps.tried met unless ite
    nobody-there o p h = simp h (refused-back s o p NoSuchPanel)

    there : is_pair (n_of s) i j ≡ true → At (i - 1) (j - 1)
    unfolding delivered deliver_in deliver_trials steps.deliver_trials
    there h = tried-back (steps.deliver_trials s k i j) s (i - 1) (j - 1) _ _ (λ _. delivered-back k i j (places-apart ((pair-iff (n_of s) i j).0 h)))

    deliver-back : {o p : ℕ} → o ≡ place_within i → p ≡ place_within j → At o p
    deliver-back {o} {p} d e = by (is_pair (n_of s) i j) refl
      where
        by : (b : Bool) → is_pair (n_of s) i j ≡ b → At o p
        by true h =
            let pair = (pair-iff (n_of s) i j).0 h in
            subst (λ (x : ℕ). At x p) (sym (d ∙ place_is (low pair.sender-high)))
            (subst (λ (x : ℕ). At (i - 1) x) (sym (e ∙ place_is (low pair.receiver-high))) (there h))
        by false h = nobody-there o p h

  -- ---- a step by what it is

  pub moved_back : (m : Step) → by_parts s m ≡ step_in s m
  unfolding moved step_in sender_of actor_of
  moved_back (Write v) = write-back v _ refl
  moved_back (Read i) = read_back i _ refl
  moved_back (Deliver k i j) = deliver-back k i j refl refl
  moved_back (Lose i) = lose-back i _ _
  moved_back (Rest i) = ap (λ (x : Network). record { network = x; answer = Ok None }) (unmoved s _ _)

-- as the code makes it
pub step_back : (s : Network) → net_form s ≡ true → (m : Step) → by_parts s m ≡ step_in s m
step_back s f m = moved_back s f m

-- no step leaves any network as it is
pub still_back : (s : Network) (i : ℕ) → by_parts s (Rest i) ≡ record { network = s; answer = Ok None }
unfolding moved
still_back s i = ap (λ (x : Network). record { network = x; answer = Ok None }) (unmoved s _ _)
