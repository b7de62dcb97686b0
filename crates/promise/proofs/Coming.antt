-- A WRITE that is held, a READ and a PROCEED do what the promise says: lines 11 and 19 to 22.
-- Assumes nothing.
use mathlib.Core.{Bool.{true, false}, List.List, Logic.◌≢◌, Path.{◌≡◌, refl, ap, ◌∙◌}}
use Prim.Native.Nat.{ℕ, suc, ◌+◌}
use native.Mathlib.Omega.{arith}
use lib.ListN.{set}
use Rattle.basics.{proofs.Choices.ite-case, proofs.Ones.{one, nought}, specs.Below.one_if}
use Rattle.messages.specs.{Sends.proceeds_to, Tally.tally}
use Rattle.tables.{proofs.Lines.len-joined, specs.Lines.joined, specs.Places.{r_at, hold_at, line_at}, specs.declared.Hold.Hold}
use Rattle.tables.specs.declared.{Line.Line, ReadNo.ReadNo}
use Rattle.form.{proofs.Stores.{r-set, r-set-ne, hold-set, hold-set-ne, line_set, line-set-ne}, specs.Setting.{own_place, own_w, set_lines}}
use Rattle.form.specs.declared.Tables.{Tables}
use Rattle.events.{proofs.Kept.Good, proofs.KeptPeers.PeerPlace, specs.Rules.{sends_proceeds, hold_rule, read_from_rule, proceed_rule}}
use Rattle.events.specs.declared.Ruled.{Ruled}
use Rattle.protocol.specs.Promise.{WriteWaits, ReadComes, ProceedComes}
use Rattle.promise.specs.View.{view_of, out_of}
use Rattle.promise.proofs.Receivers.{no-cast-to, SendsTo, proceed-peer, sends-peers}
use Rattle.promise.proofs.Tallies.{no-cast-out, proceeds-there, proceeds-elsewhere, proceeds-kind, proceeds-none-out, out-parts}

-- ---- an event that sends PROCEEDs alone

proceeds-out : (k m l x : ℕ) → out_of (sends_proceeds k m) l x ≡ tally (proceeds_to m (k + 1)) (l + 1) x
proceeds-out k m l x = omega (arith, out-parts (sends_proceeds k m) l x, no-cast-out l x)

nothing-out : (k l x : ℕ) → out_of (sends_proceeds k 0) l x ≡ 0
nothing-out k l x = proceeds-out k 0 l x ∙ proceeds-none-out (k + 1) (l + 1) x

module _ (p : Tables) (g : Good p) (k : ℕ) (at : PeerPlace p k) where
  pub proceeds-to : (m : ℕ) → SendsTo p.n p.number (sends_proceeds k m)
  proceeds-to m =
      record {
        own = no-cast-to p.n p.number;
        held = no-cast-to p.n p.number;
        peer = λ _. proceed-peer p.n p.number k at.within at.number-other;
      }

  -- ---- a WRITE that is held

  pub hold-sends-to : (v : ℕ) → SendsTo p.n p.number (hold_rule p k v).sends
  unfolding hold_rule
  hold-sends-to v = proceeds-to 0

  pub hold-waits : (v : ℕ) → (hold_at p.held k).full ≡ false → WriteWaits k (view_of p) (out_of (hold_rule p k v).sends) (view_of (hold_rule p k v).tables)
  unfolding hold_rule view_of
  hold-waits v free =
      record {
        w = λ l. refl;
        r = λ l. refl;
        free = ap one_if free ∙ nought;
        held_now = ap (λ (h : Hold). one_if h.full) (hold-set p.held k now (omega (arith, at.seven, g.shape.held_long))) ∙ one;
        held_rest = λ l n. ap (λ (h : Hold). one_if h.full) (hold-set-ne p.held k l now n);
        waiting = λ l. refl;
        nothing = nothing-out k;
      }
    where
      now : Hold
      now = record { full = true; value = v }

  -- ---- READ

  -- answered at once with m = 1, or waiting with m = 0
  came :
      (ls : List Line) (m : ℕ) → (line_at ls k).len + m ≡ suc (line_at p.lines k).len → ((l : ℕ) → l ≢ k → (line_at ls l).len ≡ (line_at p.lines l).len) →
      ReadComes p.n (own_place p) k (view_of p) (out_of (sends_proceeds k m)) (view_of (set_lines p ls))
  unfolding view_of
  came ls m there rest =
      record {
        w = λ l. refl;
        r = λ l. refl;
        held = λ l. refl;
        answered = ap (λ (x : ℕ). (line_at ls k).len + x) (proceeds-out k m k 3 ∙ proceeds-there m (k + 1)) ∙ there;
        waiting_rest = rest;
        peers = sends-peers p.n p.number g.form.number-low (sends_proceeds k m) (proceeds-to m);
        writes = record { zeros = λ l. other-kind l 0 (omega arith); ones = λ l. other-kind l 1 (omega arith) };
        reads = λ l. other-kind l 2 (omega arith);
        proceeds_rest = λ l n. proceeds-out k m l 3 ∙ proceeds-elsewhere m (k + 1) (l + 1) 3 (λ (e : k + 1 ≡ l + 1). n (omega arith));
      }
    where
      other-kind : (l x : ℕ) → x ≢ 3 → out_of (sends_proceeds k m) l x ≡ 0
      other-kind l x h = proceeds-out k m l x ∙ proceeds-kind m (k + 1) (l + 1) x h

  pub read-from-sends-to : SendsTo p.n p.number (read_from_rule p k).sends
  unfolding read_from_rule
  read-from-sends-to = ite-case (λ (q : Ruled). SendsTo p.n p.number q.sends) _ _ _ (λ _. proceeds-to 1) (λ _. proceeds-to 0)

  pub read_comes : ReadComes p.n (own_place p) k (view_of p) (out_of (read_from_rule p k).sends) (view_of (read_from_rule p k).tables)
  unfolding read_from_rule
  read_comes =
      let l : Line = joined (line_at p.lines k) (record { 0 = own_w p }) in
      let there : (line_at (set p.lines k l) k).len ≡ (line_at p.lines k).len + 1
      = ap (λ (x : Line). x.len) (line_set p.lines k l (omega (arith, at.seven, g.shape.lines_long.seven))) ∙ len-joined (line_at p.lines k) _ in
      ite-case (λ (q : Ruled). ReadComes p.n (own_place p) k (view_of p) (out_of q.sends) (view_of q.tables)) _ _ _
      (λ _. came p.lines 1 (omega arith) (λ i n. refl))
      (λ _. came (set p.lines k l) 0 (omega arith) (λ i n. ap (λ (x : Line). x.len) (line-set-ne p.lines k i l n)))

  -- ---- PROCEED

  pub proceed-sends-to : SendsTo p.n p.number (proceed_rule p k).sends
  unfolding proceed_rule
  proceed-sends-to = proceeds-to 0

  pub proceed_comes : ProceedComes k (view_of p) (out_of (proceed_rule p k).sends) (view_of (proceed_rule p k).tables)
  unfolding proceed_rule view_of
  proceed_comes =
      let y : ReadNo = record { 0 = r_at p.r k + 1 } in
      record {
        w = λ l. refl;
        r_from = r-set p.r k y (omega (arith, at.seven, g.shape.r_long)) ∙ omega arith;
        r_rest = λ l n. r-set-ne p.r k l y n;
        held = λ l. refl;
        waiting = λ l. refl;
        nothing = nothing-out k;
      }
