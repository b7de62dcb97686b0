-- Which WRITEs go out: a cast sends to each peer the WRITE that is due by the write numbers, with its bit.
-- Assumes nothing.
use mathlib.Core.{Bool.{Bool, true, false}, Logic.◌≢◌, Path.{◌≡◌, refl, sym, ap, ◌∙◌}}
use Prim.Native.Nat.{ℕ, suc, ◌+◌, ◌-◌, ◌%◌, ◌≤◌, ◌<◌, min}
use native.Mathlib.Omega.{arith}
use lib.{Dec.eqb, ListN.{length, get_or}}
use borrow.Author.Tests.{eq-eqb, ne_eqb, eqb-true, eqb-false}
use Rattle.basics.specs.{Below.one_if, Choice.both}
use Rattle.messages.specs.declared.Cast.{Cast}
use Rattle.tables.{proofs.Marks.{among_below, get_or-marks}, specs.Marks.has_w, specs.Places.w_at}
use Rattle.form.{proofs.Stores.{w-set, w-set-ne}, specs.Setting.{own_place, own_w}, specs.declared.Tables.Tables}
use Rattle.events.{proofs.Kept.Good, specs.Rules.{learned, spread}}
use Rattle.protocol.specs.{Promise.SendsDue, World.{Out, due}}
use Rattle.promise.specs.View.{cast_out}
use Rattle.promise.proofs.{Receivers.{CastTo, marks-to}, Tallies.cast-at}

-- what the laws here ask of a panel: less than form, so that it holds between the two WRITEs of one event too
pub record Able (p : Tables) : Type 0 where
  pub n-high : p.n ≤ 7
  pub number-low : 1 ≤ p.number
  pub number-high : p.number ≤ p.n
  pub w_long : length p.w ≡ 7
  pub below : (l : ℕ) → l < p.n → w_at p.w l ≤ own_w p

pub able : (p : Tables) → Good p → Able p
able p g =
    record {
      n-high = g.form.sizes.n-high;
      number-low = g.form.number-low;
      number-high = g.form.number-high;
      w_long = g.shape.w_long;
      below = λ l h. let most : p.n ≤ 7 = g.form.sizes.n-high in (g.form.place l (omega arith)).w_below;
    }

-- ---- one place, where WRITEs 1 to m were sent before and 1 to m' are now

pub record Step (m m' : ℕ) (marked : Bool) (kind : ℕ) : Type 0 where
  pub next : marked ≡ true → m' ≡ suc m
  pub bit : marked ≡ true → kind ≡ suc m % 2
  pub same : marked ≡ false → m' ≡ m

step-next : (m m' : ℕ) (b : Bool) (kind : ℕ) → Step m m' b kind → one_if (both b (eqb kind (suc m % 2))) ≡ m' - m
unfolding both one_if
step-next m m' true kind s = rw (eq-eqb kind (suc m % 2) (s.bit refl)) (omega (arith, s.next refl))
step-next m m' false kind s = omega (arith, s.same refl)

step-else : (m m' : ℕ) (b : Bool) (kind : ℕ) → Step m m' b kind → one_if (both b (eqb kind (m % 2))) ≡ 0
unfolding both one_if
step-else m m' true kind s = rw (ne_eqb kind (m % 2) (λ (e : kind ≡ m % 2). omega (arith, s.bit refl))) refl
step-else m m' false kind s = refl

pub cast-due :
    (n i : ℕ) (w w' : ℕ → ℕ) (c : Cast) → n ≤ 7 →
    ((l : ℕ) → l < n → l ≢ i → Step (due i w l) (due i w' l) (get_or c.to l false) c.kind) →
    SendsDue n i w w' (cast_out c)
cast-due n i w w' c most step =
    record {
      next = λ l h o. cast-at c l _ (omega arith) ∙ step-next (due i w l) (due i w' l) (get_or c.to l false) c.kind (step l h o);
      else = λ l h o. cast-at c l _ (omega arith) ∙ step-else (due i w l) (due i w' l) (get_or c.to l false) c.kind (step l h o);
    }

pub due-alike : (n i : ℕ) (w w' : ℕ → ℕ) (out out' : Out) → ((l k : ℕ) → k < 2 → out' l k ≡ out l k) → SendsDue n i w w' out → SendsDue n i w w' out'
due-alike n i w w' out out' same s =
    record {
      next = λ l h o. same l (suc (due i w l) % 2) (omega arith) ∙ s.next l h o;
      else = λ l h o. same l (due i w l % 2) (omega arith) ∙ s.else l h o;
    }

-- ---- a value that has just been learned is spread

grown : (x x' y : ℕ) → x ≡ y → x ≤ x' → min (suc y) (suc x') ≡ suc (min y (suc x))
grown x x' y e h = omega arith

grown-bit : (x y : ℕ) → x ≡ y → (y + 1) % 2 ≡ suc (min y (suc x)) % 2
grown-bit x y e = omega arith

grown-not : (x y : ℕ) → x ≢ y → x ≤ y → min (suc y) (suc x) ≡ min y (suc x)
grown-not x y e h = omega arith

module _ (p : Tables) (a : Able p) (v : ℕ) where
  own-known : w_at (learned p v).w (own_place p) ≡ own_w p + 1
  unfolding learned
  own-known = w-set p.w (own_place p) (record { 0 = own_w p + 1 }) (omega (arith, a.w_long, a.n-high, a.number-low, a.number-high))

  pub spread-to : CastTo p.n p.number (spread p v)
  unfolding spread has_w
  spread-to = marks-to p.n p.number (has_w (learned p v).w (own_w p)) ((own_w p + 1) % 2) v (omega arith) other
    where
      other : (l : ℕ) → eqb (w_at (learned p v).w l) (own_w p) ≡ true → l + 1 ≢ p.number
      other l e s =
          let same : l ≡ own_place p = omega arith in
          let there : w_at (learned p v).w l ≡ own_w p = eqb-true _ _ e in
          let own : w_at (learned p v).w l ≡ w_at (learned p v).w (own_place p) = ap (λ (j : ℕ). w_at (learned p v).w j) same in
          omega (arith, own-known)

  spread_at : (l : ℕ) → l < p.n → l ≢ own_place p → get_or (spread p v).to l false ≡ eqb (w_at p.w l) (own_w p)
  unfolding spread learned has_w
  spread_at l h o =
      get_or-marks p.n (has_w (learned p v).w (own_w p)) l (omega (arith, a.n-high))
      ∙ among_below p.n (has_w (learned p v).w (own_w p)) l h
      ∙ ap (λ (x : ℕ). eqb x (own_w p)) (w-set-ne p.w (own_place p) l _ o)

  pub spread-kind : (spread p v).kind ≡ (own_w p + 1) % 2
  unfolding spread
  spread-kind = refl

  -- w' are the write numbers behind it: the own one is one more, and another grows only where it is told
  pub spread-due :
      (w' : ℕ → ℕ) → w' (own_place p) ≡ suc (own_w p) → ((l : ℕ) → l ≢ own_place p → w_at p.w l ≤ w' l) →
      ((l : ℕ) → l ≢ own_place p → w_at p.w l ≢ own_w p → w' l ≡ w_at p.w l) →
      SendsDue p.n (own_place p) (λ (l : ℕ). w_at p.w l) w' (cast_out (spread p v))
  spread-due w' own up same =
      cast-due p.n (own_place p) (λ (l : ℕ). w_at p.w l) w' (spread p v) a.n-high
      (λ l h o. record {
        next = λ e. ap (λ (y : ℕ). min y (suc (w' l))) own ∙ grown (w_at p.w l) (w' l) (own_w p) (told l h o e) (up l o);
        bit = λ e. spread-kind ∙ grown-bit (w_at p.w l) (own_w p) (told l h o e);
        same = λ e. ap (λ (y : ℕ). min y (suc (w' l))) own
            ∙ ap (λ (x : ℕ). min (suc (own_w p)) (suc x)) (same l o (not-told l h o e))
            ∙ grown-not (w_at p.w l) (own_w p) (not-told l h o e) (a.below l h);
      })
    where
      told : (l : ℕ) → l < p.n → l ≢ own_place p → get_or (spread p v).to l false ≡ true → w_at p.w l ≡ own_w p
      told l h o e = eqb-true _ _ (sym (spread_at l h o) ∙ e)

      not-told : (l : ℕ) → l < p.n → l ≢ own_place p → get_or (spread p v).to l false ≡ false → w_at p.w l ≢ own_w p
      not-told l h o e = eqb-false _ _ (sym (spread_at l h o) ∙ e)
