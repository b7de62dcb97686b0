-- How one place stays in form when numbers grow, and when nothing is held or waiting there.
-- Assumes nothing.
use mathlib.Core.{Bool.{Bool, false}, Path.◌≡◌}
use Prim.Native.Nat.{ℕ, ◌+◌, ◌≤◌, ◌<◌}
use native.Mathlib.Omega.{arith}
use Rattle.basics.proofs.Choices.{clash}
use Rattle.tables.{proofs.Form.{LineForm, HoldForm}, proofs.Lines.raised-form, specs.Places.w_at, specs.declared.Hold.Hold}
use Rattle.tables.specs.declared.Line.{Line}
use Rattle.form.proofs.InForm.{PlaceForm}

pub hold-raised : (h : Hold) (low high high' : ℕ) (lead : Bool) → HoldForm h low high lead → high ≤ high' → HoldForm h low high' lead
hold-raised h low high high' lead f g =
    record {
      next-exists = f.next-exists;
      next-written = λ e w. let a : low + 2 ≤ high = f.next-written e w in omega arith;
      empty-zero = f.empty-zero;
    }

pub empty-hold : (h : Hold) (low high : ℕ) (lead : Bool) → h.full ≡ false → h.value ≡ 0 → HoldForm h low high lead
empty-hold h low high lead e z =
    record { next-exists = λ t. clash e t; next-written = λ t w. clash e t; empty-zero = λ _. z }

pub empty-line :
    (l : Line) (low high : ℕ) → l.len ≡ 0 → ((k : ℕ) → l.len ≤ k → k < 100 → w_at l.sn k ≡ 0) → LineForm l low high
empty-line l low high z zeros =
    record {
      short = omega arith;
      above = λ k h. absurd (omega arith);
      within = λ k h. absurd (omega arith);
      rising = λ k m h i. absurd (omega arith);
      zero-past = zeros;
    }

module _ (n number j : ℕ) {wj wi rj ri : ℕ} {h : Hold} {l : Line} {lead : Bool} (f : PlaceForm n number j wj wi rj ri h l lead) where
  -- the panel's own numbers grow
  pub place-raised : (wi' ri' : ℕ) → wi ≤ wi' → ri ≤ ri' → PlaceForm n number j wj wi' rj ri' h l lead
  place-raised wi' ri' a b =
      record {
        w_below = let c : wj ≤ wi = f.w_below in omega arith;
        r_below = let c : rj ≤ ri = f.r_below in omega arith;
        hold = hold-raised h wj wi wi' lead f.hold a;
        line = raised-form l wj wi wi' f.line a;
        own-quiet = f.own-quiet;
        past-quiet = f.past-quiet;
        past-zero = f.past-zero;
      }

  -- the panel's own place, where nothing is held or waiting: any numbers that fit
  pub place-own : (wj' wi' rj' ri' : ℕ) → j + 1 ≡ number → j < n → wj' ≤ wi' → rj' ≤ ri' → PlaceForm n number j wj' wi' rj' ri' h l lead
  place-own wj' wi' rj' ri' e m a b =
      record {
        w_below = a;
        r_below = b;
        hold = empty-hold h wj' wi' lead (f.own-quiet e).0 (f.hold.empty-zero (f.own-quiet e).0);
        line = empty-line l wj' wi' (f.own-quiet e).1 f.line.zero-past;
        own-quiet = f.own-quiet;
        past-quiet = f.past-quiet;
        past-zero = λ p. absurd (omega arith);
      }

  -- a peer's place, with other numbers, another hold and another line that fit
  pub place-peer :
      (wj' wi' rj' ri' : ℕ) (h' : Hold) (l' : Line) → (j + 1 ≡ number → ⊥) → j < n → wj' ≤ wi' → rj' ≤ ri' → HoldForm h' wj' wi' lead → LineForm l' wj' wi' →
      PlaceForm n number j wj' wi' rj' ri' h' l' lead
  place-peer wj' wi' rj' ri' h' l' o m a b x y =
      record {
        w_below = a;
        r_below = b;
        hold = x;
        line = y;
        own-quiet = λ e. absurd (o e);
        past-quiet = λ p. absurd (omega arith);
        past-zero = λ p. absurd (omega arith);
      }
