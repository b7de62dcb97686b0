-- A WRITE of the right bit does what the promise says: it is taken, then the held one if there is one, then READs leave the line.
-- Assumes nothing.
use mathlib.Core.{Bool.{true, false}, List.List, Logic.◌≢◌, Path.{◌≡◌, refl, sym, ap, subst, subst₂, ◌∙◌}}
use Prim.Native.Nat.{ℕ, ◌+◌, ◌-◌, ◌≤◌, ◌<◌}
use native.Mathlib.{Decide.ℕ_discrete, Omega.arith}
use lib.ListN.{length, set}
use Rattle.basics.{proofs.Choices.{clash, ite-case}, proofs.Ones.{nought, one-true, one-false, nought-or-one}, specs.Below.one_if}
use Rattle.messages.specs.{Sends.{no_cast, proceeds_to}, Tally.tally}
use Rattle.tables.{proofs.Lines.{len-without, leaving-most}, specs.Lines.{leaving, without}}
use Rattle.tables.specs.{Places.{w_at, r_at, hold_at, line_at, no_hold}, declared.Hold.Hold, declared.Line.Line, declared.ReadNo.ReadNo}
use Rattle.form.{proofs.Stores.{hold-set, hold-set-ne, line_set, line-set-ne}, specs.Setting.{own_place, set_held}}
use Rattle.form.specs.declared.Tables.{Tables}
use Rattle.events.proofs.{Kept.Good, KeptPeers.PeerPlace, Running.{take-keeps, held_keeps}}
use Rattle.events.specs.{Rules.{take, take_held, released, take_rule}, declared.Took.Took}
use Rattle.protocol.specs.Promise.{Takes, WriteComes}
use Rattle.promise.specs.View.{view_of, cast_out, out_of}
use Rattle.promise.proofs.{Dues.{Able, able}, Receivers.{CastTo, no-cast-to, SendsTo, proceed-peer, sends-peers}}
use Rattle.promise.proofs.TakesOne.{TakesOne, take-one}
use Rattle.promise.proofs.Tallies.{no-cast-out, cast-kind, proceeds-there, proceeds-elsewhere, proceeds-kind, out-parts}

-- what the held WRITE of the peer at place k leaves, where there is one and where there is none
record TakesHeld (q : Tables) (k : ℕ) (o : Took) : Type 0 where
  taken : (hold_at q.held k).full ≡ true → Takes q.n (own_place q) k (λ (l : ℕ). w_at q.w l) (λ (l : ℕ). w_at o.tables.w l) (cast_out o.cast)
  none_w : (hold_at q.held k).full ≡ false → (l : ℕ) → w_at o.tables.w l ≡ w_at q.w l
  none_out : (hold_at q.held k).full ≡ false → (l x : ℕ) → cast_out o.cast l x ≡ 0
  cast : CastTo q.n q.number o.cast
  bit : o.cast.kind < 2
  gone : (hold_at o.tables.held k).full ≡ false
  rest : (l : ℕ) → l ≢ k → hold_at o.tables.held l ≡ hold_at q.held l

module _ (q : Tables) (a : Able q) (k : ℕ) (within : k < q.n) (other : k ≢ own_place q) (long : length q.held ≡ 7) where
  takes-held : TakesHeld q k (take_held q k)
  unfolding take_held
  takes-held =
      ite-case (λ (o : Took). TakesHeld q k o) _ _ _
      (λ full.
      let v : ℕ = (hold_at q.held k).value in
      let e : Tables = set_held q (set q.held k no_hold) in
      let able-e : Able e = record { n-high = a.n-high; number-low = a.number-low; number-high = a.number-high; w_long = a.w_long; below = a.below } in
      let t : TakesOne e k (take e k v) = take-one e able-e k v within other in
      let holds : (take e k v).tables.held ≡ set q.held k no_hold = take-keeps (λ (x : Tables). x.held) e k v (λ ws h. refl) in
      record {
        taken = λ _. t.takes;
        none_w = λ empty. clash empty full;
        none_out = λ empty. clash empty full;
        cast = t.cast;
        bit = t.bit;
        gone = ap (λ (hs : List Hold). (hold_at hs k).full) holds ∙ ap (λ (h : Hold). h.full) (hold-set q.held k no_hold (omega (arith, long, a.n-high)));
        rest = λ l n. ap (λ (hs : List Hold). hold_at hs l) holds ∙ hold-set-ne q.held k l no_hold n;
      })
      (λ empty. record {
        taken = λ full. clash empty full;
        none_w = λ _ l. refl;
        none_out = λ _ l x. no-cast-out l x;
        cast = no-cast-to q.n q.number;
        bit = unfold no_cast in omega arith;
        gone = empty;
        rest = λ l n. refl;
      })

module _ (p : Tables) (g : Good p) (k v : ℕ) (at : PeerPlace p k) where
  abbrev next : Tables
  next = (take p k v).tables

  first : TakesOne p k (take p k v)
  first = take-one p (able p g) k v at.within at.other

  same-n : next.n ≡ p.n
  same-n = take-keeps (λ (x : Tables). x.n) p k v (λ ws h. refl)

  same_number : next.number ≡ p.number
  same_number = take-keeps (λ (x : Tables). x.number) p k v (λ ws h. refl)

  same-holds : next.held ≡ p.held
  same-holds = take-keeps (λ (x : Tables). x.held) p k v (λ ws h. refl)

  -- nobody is known to be further than the panel itself
  still-below : (l : ℕ) → l < p.n → w_at next.w l ≤ w_at next.w (own_place p)
  still-below l h = by (ℕ_discrete l (own_place p)) (ℕ_discrete l k)
    where
      by : Dec (l ≡ own_place p) → Dec (l ≡ k) → w_at next.w l ≤ w_at next.w (own_place p)
      by (yes e) d = subst (λ (i : ℕ). w_at next.w i ≤ w_at next.w (own_place p)) (sym e) (omega arith)
      by (no o) (yes e) = subst (λ (i : ℕ). w_at next.w i ≤ w_at next.w (own_place p)) (sym e) (omega (arith, first.takes.from, first.takes.own))
      by (no o) (no q) = omega (arith, first.takes.rest l o q, first.takes.own, (able p g).below l h)

  able-next : Able next
  able-next =
      record {
        n-high = omega (arith, same-n, (able p g).n-high);
        number-low = omega (arith, same_number, (able p g).number-low);
        number-high = omega (arith, same-n, same_number, (able p g).number-high);
        w_long = first.w_long;
        below = λ l h. subst (λ (i : ℕ). w_at next.w l ≤ w_at next.w (i - 1)) (sym same_number) (still-below l (omega (arith, same-n)));
      }

  second : TakesHeld next k (take_held next k)
  second =
      takes-held next able-next k (omega (arith, same-n, at.within)) (λ (e : k ≡ own_place next). at.other (e ∙ ap (λ (i : ℕ). i - 1) same_number))
      (ap (λ (hs : List Hold). length hs) same-holds ∙ g.shape.held_long)

  -- in the panel's own terms
  second-takes :
      (hold_at p.held k).full ≡ true →
      Takes p.n (own_place p) k (λ (l : ℕ). w_at next.w l) (λ (l : ℕ). w_at (take_held next k).tables.w l) (cast_out (take_held next k).cast)
  second-takes full =
      subst₂ (λ (n i : ℕ). Takes n (i - 1) k (λ (l : ℕ). w_at next.w l) (λ (l : ℕ). w_at (take_held next k).tables.w l) (cast_out (take_held next k).cast))
      same-n same_number (second.taken (ap (λ (hs : List Hold). (hold_at hs k).full) same-holds ∙ full))

  second-cast : CastTo p.n p.number (take_held next k).cast
  second-cast = subst₂ (λ (n i : ℕ). CastTo n i (take_held next k).cast) same-n same_number second.cast

  not_full : (hold_at p.held k).full ≡ false → (hold_at next.held k).full ≡ false
  not_full empty = ap (λ (hs : List Hold). (hold_at hs k).full) same-holds ∙ empty

  -- ---- what neither WRITE changes

  same_lines : (take_held next k).tables.lines ≡ p.lines
  same_lines = held_keeps (λ (x : Tables). x.lines) next k (λ ws h hs. refl) ∙ take-keeps (λ (x : Tables). x.lines) p k v (λ ws h. refl)

  same-r : (take_held next k).tables.r ≡ p.r
  same-r = held_keeps (λ (x : Tables). x.r) next k (λ ws h hs. refl) ∙ take-keeps (λ (x : Tables). x.r) p k v (λ ws h. refl)

  -- ---- what is sent

  left : ℕ
  left = leaving (line_at (take_held next k).tables.lines k) (w_at (take_held next k).tables.w k)

  parts :
      (l x : ℕ) → out_of (take_rule p k v).sends l x
      ≡ cast_out (take p k v).cast l x + (cast_out (take_held next k).cast l x + tally (proceeds_to left (k + 1)) (l + 1) x)
  unfolding take_rule left
  parts l x = out-parts (take_rule p k v).sends l x

  -- of another kind than WRITE, PROCEEDs alone
  proceeds-only : (l x : ℕ) → 2 ≤ x → out_of (take_rule p k v).sends l x ≡ tally (proceeds_to left (k + 1)) (l + 1) x
  proceeds-only l x h =
      let none₁ : cast_out (take p k v).cast l x ≡ 0 = cast-kind (take p k v).cast l x (λ (e : (take p k v).cast.kind ≡ x). omega (arith, first.bit)) in
      let none₂ : cast_out (take_held next k).cast l x ≡ 0
      = cast-kind (take_held next k).cast l x (λ (e : (take_held next k).cast.kind ≡ x). omega (arith, second.bit)) in
      omega (arith, parts l x)

  -- and of a WRITE's kind, casts alone
  writes-only : (l x : ℕ) → x < 2 → out_of (take_rule p k v).sends l x ≡ cast_out (take p k v).cast l x + cast_out (take_held next k).cast l x
  writes-only l x h = omega (arith, parts l x, proceeds-kind left (k + 1) (l + 1) x (omega arith))

  pub take-sends-to : SendsTo p.n p.number (take_rule p k v).sends
  unfolding take_rule
  take-sends-to =
      record {
        own = first.cast;
        held = second-cast;
        peer = λ _. proceed-peer p.n p.number k at.within at.number-other;
      }

  -- ---- the line

  waiting-there : (line_at (take_rule p k v).tables.lines k).len + left ≡ (line_at p.lines k).len
  unfolding take_rule released left
  waiting-there =
      let ls : List Line = (take_held next k).tables.lines in
      let l : Line = line_at ls k in
      let m : ℕ = leaving l (w_at (take_held next k).tables.w k) in
      let seven : length ls ≡ 7 = ap (λ (x : List Line). length x) same_lines ∙ g.shape.lines_long.seven in
      let now : (line_at (set ls k (without l m)) k).len ≡ l.len - m
      = ap (λ (x : Line). x.len) (line_set ls k (without l m) (omega (arith, at.seven))) ∙ len-without l m in
      let most : m ≤ l.len = leaving-most l (w_at (take_held next k).tables.w k) in
      let same : l.len ≡ (line_at p.lines k).len = ap (λ (x : List Line). (line_at x k).len) same_lines in
      omega arith

  waiting-else : (l : ℕ) → l ≢ k → (line_at (take_rule p k v).tables.lines l).len ≡ (line_at p.lines l).len
  unfolding take_rule released
  waiting-else l n =
      ap (λ (x : Line). x.len) (line-set-ne (take_held next k).tables.lines k l _ n) ∙ ap (λ (x : List Line). (line_at x l).len) same_lines

  -- ---- all of it

  pub take-comes : WriteComes p.n (own_place p) k (view_of p) (out_of (take_rule p k v).sends) (view_of (take_rule p k v).tables)
  unfolding take_rule released view_of
  take-comes =
      record {
        between = λ (l : ℕ). w_at next.w l;
        out₁ = cast_out (take p k v).cast;
        out₂ = cast_out (take_held next k).cast;
        first = first.takes;
        then = λ e. second-takes (one-true _ e);
        held_or_not = nought-or-one (hold_at p.held k).full;
        none_w = λ e l. second.none_w (not_full (one-false _ e)) l;
        none_out = λ e l x. second.none_out (not_full (one-false _ e)) l x;
        zeros = λ l. writes-only l 0 (omega arith);
        ones = λ l. writes-only l 1 (omega arith);
        peers = sends-peers p.n p.number (able p g).number-low (take_rule p k v).sends take-sends-to;
        r = λ l. ap (λ (rs : List ReadNo). r_at rs l) same-r;
        held_gone = ap one_if second.gone ∙ nought;
        held_rest = λ l n. ap (λ (h : Hold). one_if h.full) (second.rest l n ∙ ap (λ (hs : List Hold). hold_at hs l) same-holds);
        released = ap (λ (x : ℕ). (line_at (take_rule p k v).tables.lines k).len + x) (proceeds-only k 3 (omega arith) ∙ proceeds-there left (k + 1))
            ∙ waiting-there;
        waiting_rest = waiting-else;
        reads = λ l. proceeds-only l 2 (omega arith) ∙ proceeds-kind left (k + 1) (l + 1) 2 (omega arith);
        proceeds_rest = λ l n. proceeds-only l 3 (omega arith) ∙ proceeds-elsewhere left (k + 1) (l + 1) 3 (λ (e : k + 1 ≡ l + 1). n (omega arith));
      }
