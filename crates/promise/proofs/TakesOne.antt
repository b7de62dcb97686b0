-- One WRITE that is taken (lines 12 to 18) does what the promise says: learned and spread, or the next value for a peer that lags,
-- or neither.
-- Assumes nothing.
use mathlib.Core.{Bool.{true, false}, List.List, Logic.◌≢◌, Path.{◌≡◌, sym, ap, subst, ◌∙◌}}
use Prim.Native.Nat.{ℕ, suc, ◌+◌, ◌%◌, ◌≤◌, ◌<◌}
use native.Mathlib.{Decide.ℕ_discrete, Omega.arith}
use lib.ListN.{length, get_or, set}
use borrow.Author.Tests.{eqb-true, eqb-false, ltb-true, ltb-false}
use Rattle.basics.proofs.Choices.{clash, ite-case}
use Rattle.messages.specs.{Sends.no_cast, declared.Cast.Cast}
use Rattle.tables.{proofs.Marks.only_at, specs.Marks.only_place, specs.Places.w_at, specs.declared.WriteNo.WriteNo}
use Rattle.form.{proofs.Shape.length-kept, proofs.Stores.{w-set, w-set-ne}, specs.Setting.{own_place, own_w}, specs.declared.Tables.Tables}
use Rattle.events.specs.{Rules.{value_of, learned, spread, reached, take}, declared.Took.Took}
use Rattle.protocol.specs.{Promise.Takes, World.due}
use Rattle.promise.specs.View.{cast_out}
use Rattle.promise.proofs.Dues.{Able, Step, cast-due, spread-to, spread-kind, spread-due}
use Rattle.promise.proofs.Receivers.{CastTo, unmarked, no-cast-to, only-to, cast-peers}

-- what a WRITE taken from the peer at place k leaves: the promise, and that WRITEs alone are sent, to other panels
pub record TakesOne (p : Tables) (k : ℕ) (o : Took) : Type 0 where
  pub takes : Takes p.n (own_place p) k (λ (l : ℕ). w_at p.w l) (λ (l : ℕ). w_at o.tables.w l) (cast_out o.cast)
  pub w_long : length o.tables.w ≡ 7
  pub cast : CastTo p.n p.number o.cast
  pub bit : o.cast.kind < 2

module _ (p : Tables) (a : Able p) (k v : ℕ) (within : k < p.n) (other : k ≢ own_place p) where
  k-seven : k < length p.w
  k-seven = omega (arith, a.w_long, a.n-high)

  own-seven : own_place p < length p.w
  own-seven = omega (arith, a.w_long, a.n-high, a.number-low, a.number-high)

  -- ---- learned

  y+ : WriteNo
  y+ = record { 0 = own_w p + 1 }

  learns : w_at p.w k ≡ own_w p → TakesOne p k (record { tables = reached (learned p v) k (own_w p + 1); cast = spread p v })
  unfolding reached learned y+
  learns e =
      record {
        takes = record {
          from = omega (arith, peer-now);
          own = omega (arith, own-now);
          rest = λ l o q. rest l o q;
          peers = cast-peers p.n p.number a.number-low (spread p v) (spread-to p a v);
          writes = spread-due p a v (λ (l : ℕ). w_at w'' l) (omega (arith, own-now)) (λ l o. up l o (ℕ_discrete l k)) (λ l o n. same l o n);
        };
        w_long = length-kept w' k y+ (length-kept p.w (own_place p) y+ a.w_long);
        cast = spread-to p a v;
        bit = let kind : (spread p v).kind ≡ (own_w p + 1) % 2 = spread-kind p a v in omega arith;
      }
    where
      w' : List WriteNo
      w' = set p.w (own_place p) y+

      w'' : List WriteNo
      w'' = set w' k y+

      peer-now : w_at w'' k ≡ own_w p + 1
      peer-now = w-set w' k y+ (omega (arith, k-seven, length-kept p.w (own_place p) y+ a.w_long, a.w_long))

      own-now : w_at w'' (own_place p) ≡ own_w p + 1
      own-now = w-set-ne w' k (own_place p) y+ (λ h. other (sym h)) ∙ w-set p.w (own_place p) y+ own-seven

      rest : (l : ℕ) → l ≢ own_place p → l ≢ k → w_at w'' l ≡ w_at p.w l
      rest l o q = w-set-ne w' k l y+ q ∙ w-set-ne p.w (own_place p) l y+ o

      up : (l : ℕ) → l ≢ own_place p → Dec (l ≡ k) → w_at p.w l ≤ w_at w'' l
      up l o (yes s) = subst (λ (i : ℕ). w_at p.w i ≤ w_at w'' i) (sym s) (omega (arith, peer-now, e))
      up l o (no q) = omega (arith, rest l o q)

      same : (l : ℕ) → l ≢ own_place p → w_at p.w l ≢ own_w p → w_at w'' l ≡ w_at p.w l
      same l o n = rest l o (λ (s : l ≡ k). n (ap (λ (i : ℕ). w_at p.w i) s ∙ e))

  -- ---- not learned: only w[k] changes

  module _ (behind : w_at p.w k < own_w p) where
    x+ : WriteNo
    x+ = record { 0 = w_at p.w k + 1 }

    w₁ : List WriteNo
    w₁ = set p.w k x+

    one_more : w_at w₁ k ≡ w_at p.w k + 1
    unfolding w₁ x+
    one_more = w-set p.w k x+ k-seven

    rest-same : (l : ℕ) → l ≢ k → w_at w₁ l ≡ w_at p.w l
    unfolding w₁
    rest-same l q = w-set-ne p.w k l x+ q

    own_same : w_at w₁ (own_place p) ≡ own_w p
    own_same = rest-same (own_place p) (λ h. other (sym h))

    abbrev before : ℕ → ℕ
    before l = due (own_place p) (λ (i : ℕ). w_at p.w i) l

    abbrev after : ℕ → ℕ
    after l = due (own_place p) (λ (i : ℕ). w_at w₁ i) l

    -- what is due elsewhere stays, and what is due at place k is one more where the peer lags
    due-rest : (l : ℕ) → l ≢ k → after l ≡ before l
    due-rest l q = omega (arith, own_same, rest-same l q)

    follows :
        (c : Cast) → CastTo p.n p.number c → c.kind < 2 →
        ((l : ℕ) → l < p.n → l ≢ own_place p → Step (before l) (after l) (get_or c.to l false) c.kind) →
        TakesOne p k (record { tables = reached p k (w_at p.w k + 1); cast = c })
    unfolding reached w₁ x+
    follows c t bit step =
        record {
          takes = record {
            from = omega (arith, one_more);
            own = omega (arith, own_same);
            rest = λ l o q. rest-same l q;
            peers = cast-peers p.n p.number a.number-low c t;
            writes = cast-due p.n (own_place p) (λ (l : ℕ). w_at p.w l) (λ (l : ℕ). w_at w₁ l) c a.n-high step;
          };
          w_long = length-kept p.w k x+ a.w_long;
          cast = t;
          bit = bit;
        }

    abbrev next-value : Cast
    next-value = record { to = only_place k; kind = (w_at p.w k + 2) % 2; value = value_of p (w_at p.w k + 2) }

    lags : w_at p.w k + 1 < own_w p → TakesOne p k (record { tables = reached p k (w_at p.w k + 1); cast = next-value })
    lags lag =
        follows next-value
        (only-to p.n p.number k _ _ (omega arith) within (λ (e : k + 1 ≡ p.number). other (omega arith))) (omega arith)
        (λ l h o. record {
          next = λ e. subst (λ (i : ℕ). after i ≡ suc (before i)) (sym (there l h e)) (omega (arith, own_same, one_more));
          bit = λ e. subst (λ (i : ℕ). (w_at p.w k + 2) % 2 ≡ suc (before i) % 2) (sym (there l h e)) (omega arith);
          same = λ e. due-rest l (not_there l h e);
        })
      where
        there : (l : ℕ) → l < p.n → get_or (only_place k) l false ≡ true → l ≡ k
        there l h e = eqb-true _ _ (sym (only_at k l (omega (arith, a.n-high))) ∙ e)

        not_there : (l : ℕ) → l < p.n → get_or (only_place k) l false ≡ false → l ≢ k
        not_there l h e = eqb-false _ _ (sym (only_at k l (omega (arith, a.n-high))) ∙ e)

    meets : own_w p ≤ w_at p.w k + 1 → TakesOne p k (record { tables = reached p k (w_at p.w k + 1); cast = no_cast })
    unfolding no_cast
    meets near =
        follows no_cast (no-cast-to p.n p.number) (omega arith)
        (λ l h o. record {
          next = λ e. clash (unmarked l) e;
          bit = λ e. clash (unmarked l) e;
          same = λ _. by l (ℕ_discrete l k);
        })
      where
        by : (l : ℕ) → Dec (l ≡ k) → after l ≡ before l
        by l (yes e) = subst (λ (i : ℕ). after i ≡ before i) (sym e) (omega (arith, own_same, one_more))
        by l (no q) = due-rest l q

  pub take-one : TakesOne p k (take p k v)
  unfolding take
  take-one =
      ite-case (λ (o : Took). TakesOne p k o) _ _ _
      (λ e. learns (eqb-true _ _ e))
      (λ e. let behind : w_at p.w k < own_w p = let n : w_at p.w k ≢ own_w p = eqb-false _ _ e in omega (arith, a.below k within) in
      ite-case (λ (o : Took). TakesOne p k o) _ _ _
      (λ l. lags behind (ltb-true _ _ l))
      (λ l. meets behind (ltb-false _ _ l)))
