-- A write and a read that start do what the promise says: lines 1 and 2, lines 5 and 6.
-- Assumes nothing.
use mathlib.Core.{Bool.{true, false, not}, Logic.◌≢◌, Path.{◌≡◌, refl, ap, ◌∙◌}}
use Prim.Native.Nat.{ℕ, ◌+◌, ◌≤◌, ◌<◌}
use native.Mathlib.Omega.{arith}
use lib.ListN.{get_or, set}
use borrow.Author.Tests.{eq-eqb, ne_eqb, eqb-false, not-true}
use Rattle.basics.{proofs.Choices.both_true, proofs.Ones.one, specs.Below.one_if}
use Rattle.messages.specs.declared.Cast.{Cast}
use Rattle.tables.{proofs.Marks.{among_below, get_or-marks}, specs.Marks.{is_other, marks}, specs.Places.w_at, specs.declared.ReadNo.ReadNo}
use Rattle.tables.specs.declared.WriteNo.{WriteNo}
use Rattle.form.{proofs.Stores.{w-set, w-set-ne, r-set, r-set-ne}, specs.Setting.{own_place, own_w, own_r}, specs.declared.Tables.Tables}
use Rattle.events.{proofs.Kept.Good, proofs.KeptStarts.own-place, specs.Rules.{learned, spread, sends_own, write_rule, read_rule}}
use Rattle.protocol.specs.Promise.{Writes, Reads}
use Rattle.promise.specs.View.{view_of, cast_out, out_of}
use Rattle.promise.proofs.Dues.{able, due-alike, spread-to, spread-kind, spread-due}
use Rattle.promise.proofs.Receivers.{CastTo, no-cast-to, marks-to, SendsTo, sends-peers}
use Rattle.promise.proofs.Tallies.{no-cast-out, cast-at, cast-kind, proceeds-none-out, out-parts}

-- ---- an event that sends one cast alone

own_out : (c : Cast) (l k : ℕ) → out_of (sends_own c) l k ≡ cast_out c l k
own_out c l k = omega (arith, out-parts (sends_own c) l k, no-cast-out l k, proceeds-none-out 0 (l + 1) k)

own-to : (n number : ℕ) (c : Cast) → CastTo n number c → SendsTo n number (sends_own c)
own-to n number c t = record { own = t; held = no-cast-to n number; peer = λ (h : 0 < 0). absurd (omega arith) }

module _ (p : Tables) (g : Good p) where
  number-low : 1 ≤ p.number
  number-low = g.form.number-low

  -- ---- write

  module _ (v : ℕ) where
    pub write-sends-to : SendsTo p.n p.number (write_rule p v).sends
    unfolding write_rule
    write-sends-to = own-to p.n p.number (spread p v) (spread-to p (able p g) v)

    -- of another kind than WRITE, nothing
    writes-alone : (l k : ℕ) → 2 ≤ k → out_of (write_rule p v).sends l k ≡ 0
    unfolding write_rule
    writes-alone l k h = own_out (spread p v) l k ∙ cast-kind (spread p v) l k (λ (e : (spread p v).kind ≡ k). omega (arith, spread-kind p (able p g) v))

    pub write-starts : Writes p.n (own_place p) (view_of p) (out_of (write_rule p v).sends) (view_of (write_rule p v).tables)
    unfolding write_rule learned view_of
    write-starts =
        record {
          w_own = omega (arith, grown);
          w_rest = rest;
          r = λ l. refl;
          held = λ l. refl;
          waiting = λ l. refl;
          peers = sends-peers p.n p.number number-low (write_rule p v).sends write-sends-to;
          writes = due-alike p.n (own_place p) _ _ (cast_out (spread p v)) _ (λ l k h. own_out (spread p v) l k)
              (spread-due p (able p g) v (λ (l : ℕ). w_at (set p.w (own_place p) x) l) (omega (arith, grown))
              (λ l o. omega (arith, rest l o)) (λ l o n. rest l o));
          reads = λ l. writes-alone l 2 (omega arith);
          proceeds = λ l. writes-alone l 3 (omega arith);
        }
      where
        x : WriteNo
        x = record { 0 = own_w p + 1 }

        grown : w_at (set p.w (own_place p) x) (own_place p) ≡ own_w p + 1
        grown = w-set p.w (own_place p) x (omega (arith, (own-place p g.form).2, g.shape.w_long))

        rest : (l : ℕ) → l ≢ own_place p → w_at (set p.w (own_place p) x) l ≡ w_at p.w l
        rest l o = w-set-ne p.w (own_place p) l x o

  -- ---- read

  abbrev asks : Cast
  asks = record { to = marks p.n (is_other p.number); kind = 2; value = 0 }

  asks-to : CastTo p.n p.number asks
  unfolding is_other
  asks-to = marks-to p.n p.number (is_other p.number) 2 0 (omega arith) (λ l e. eqb-false _ _ (not-true _ e))

  asks-each : (l : ℕ) → l < p.n → l ≢ own_place p → cast_out asks l 2 ≡ 1
  unfolding is_other
  asks-each l h o =
      let most : p.n ≤ 7 = g.form.sizes.n-high in
      let other : l + 1 ≢ p.number = λ (e : l + 1 ≡ p.number). o (omega arith) in
      let marked : get_or (marks p.n (is_other p.number)) l false ≡ true
      = get_or-marks p.n (is_other p.number) l (omega arith) ∙ among_below p.n (is_other p.number) l h ∙ ap not (ne_eqb _ _ other) in
      cast-at asks l 2 (omega arith) ∙ ap one_if (both_true marked (eq-eqb 2 2 refl)) ∙ one

  pub read-sends-to : SendsTo p.n p.number (read_rule p).sends
  unfolding read_rule
  read-sends-to = own-to p.n p.number asks asks-to

  reads-alone : (l k : ℕ) → 2 ≢ k → out_of (read_rule p).sends l k ≡ 0
  unfolding read_rule
  reads-alone l k h = own_out asks l k ∙ cast-kind asks l k h

  pub read-starts : Reads p.n (own_place p) (view_of p) (out_of (read_rule p).sends) (view_of (read_rule p).tables)
  unfolding read_rule view_of
  read-starts =
      record {
        w = λ l. refl;
        r_own = r-set p.r (own_place p) y (omega (arith, (own-place p g.form).2, g.shape.r_long)) ∙ omega arith;
        r_rest = λ l o. r-set-ne p.r (own_place p) l y o;
        held = λ l. refl;
        waiting = λ l. refl;
        peers = sends-peers p.n p.number number-low (read_rule p).sends read-sends-to;
        writes = record { zeros = λ l. reads-alone l 0 (omega arith); ones = λ l. reads-alone l 1 (omega arith) };
        reads = λ l h o. own_out asks l 2 ∙ asks-each l h o;
        proceeds = λ l. reads-alone l 3 (omega arith);
      }
    where
      y : ReadNo
      y = record { 0 = own_r p + 1 }
