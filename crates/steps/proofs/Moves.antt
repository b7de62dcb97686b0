-- What an accepted start does in numbers: the panel that acts does what its promise says, what it sends is in flight, and all else
-- stays. Power loss moves nothing.
-- Assumes nothing.
use mathlib.Core.{List.List, Path.{◌≡◌, refl, sym, ap, subst, ◌∙◌}}
use Prim.Native.Nat.{ℕ, ◌-◌, ◌<◌}
use native.Mathlib.Omega.{arith}
use Rattle.basics.specs.Refusal.{Trial}
use Rattle.refusals.specs.Refusals.{Event, refusal, Event.{write, read}}
use Rattle.panel.specs.{Calls.after, declared.Next.Next, declared.Panel.Panel}
use Rattle.protocol.specs.{Promise.{Writes, Reads}, World.{View, Starts}}
use Rattle.promise.{proofs.AfterEvents.after-code, proofs.AtPlace.{at-write, at_read}, specs.View.{view_of, out_of, code_of}}
use Rattle.channels.specs.{Channels.{channel_at, in_flight}, Posting.posted_all, declared.Row.Row}
use Rattle.house.proofs.Stores.{panel-with-panel, panel-with-panel-ne, row-with-row, row-with-row-ne}
use Rattle.house.specs.{Places.{panel_at, tables_at, row_at, n_of, writer_of}, declared.Network.Network}
use Rattle.steps.specs.{Moves.{write_out, read_out}, Numbers.world_of}
use Rattle.steps.specs.{Steps.{write_trials, read_trials, lose_trials, write_in, read_in, lose_in}, declared.Stepped.Stepped}
use Rattle.steps.proofs.{Networks.{Good, at_place, place-seven, writer-place}, Passing.{MayWrite, may_write, MayRead, may_read}}
use Rattle.steps.proofs.{SentOut.sent-adds, Settling.{Done, step-done, tried-case}}

-- ---- a step that is done: the panel at place p of s has come to q

module _ (s : Network) (g : Good s) (p : ℕ) (within : p < n_of s) (q : Next) {ts : List Trial} {a : Stepped} (d : Done ts s p q a) where
  seven : p < 7
  seven = place-seven s g p within

  abbrev row : Row
  row = (posted_all (row_at s p) q.sends).row

  abbrev flies : ℕ → ℕ → Row → ℕ
  flies l k r = in_flight (channel_at r l) k

  pub done-starts : Starts p (out_of q.sends) (world_of s) (world_of a.network)
  done-starts =
      subst (λ (x : Stepped). Starts p (out_of q.sends) (world_of s) (world_of x.network)) (sym d.is)
      (record {
        others = λ i n. ap (λ (x : Panel). view_of x.tables) (panel-with-panel-ne s p i q.panel n);
        sent = λ l k.
            ap (flies l k) (row-with-row s g.whole p seven row) ∙ sent-adds (row_at s p) q.sends (g.whole.row_long p seven) d.accepts.room l k;
        flown = λ i l k n. ap (flies l k) (row-with-row-ne s p i row n);
      })

  -- what holds of the panel that it came to holds of the panel in its place
  pub done-panel : (P : View → Type 0) → P (view_of q.panel.tables) → P ((world_of a.network).panel p)
  done-panel P h =
      subst (λ (x : Stepped). P ((world_of x.network).panel p)) (sym d.is)
      (subst (λ (x : Panel). P (view_of x.tables)) (sym (panel-with-panel s g.whole p seven q.panel)) h)

  pub done-answer : a.answer ≡ q.answer
  done-answer = ap (λ (x : Stepped). x.answer) d.is

-- by an event that the panel accepts
pub done-code :
    (s : Network) (p : ℕ) (e : Event) {ts : List Trial} {a : Stepped} → Done ts s p (after (panel_at s p) e) a → refusal (tables_at s p) 107 e ≡ 0
done-code s p e d = sym (after-code (panel_at s p) e) ∙ d.accepts.code

-- ---- a write

pub record WriteMoves (s : Network) (v : ℕ) : Type 0 where
  pub may : MayWrite s
  pub answered : (write_in s v).answer ≡ (after (panel_at s (writer_of s - 1)) (write v)).answer
  pub starts : Starts (writer_of s - 1) (write_out s v) (world_of s) (world_of (write_in s v).network)
  pub writes :
      Writes (n_of s) (writer_of s - 1) ((world_of s).panel (writer_of s - 1)) (write_out s v) ((world_of (write_in s v).network).panel (writer_of s - 1))

pub write_moves : (s : Network) → Good s → (v : ℕ) → code_of (write_in s v).answer ≡ 0 → WriteMoves s v
unfolding write_in
write_moves s g v ok =
    let p : ℕ = writer_of s - 1 in
    let q : Next = after (panel_at s p) (write v) in
    let d : Done (write_trials s) s p q (write_in s v) = step-done (write_trials s) s s p q ok in
    record {
      may = (may_write s).0 d.trials;
      answered = done-answer s g p (writer-place s g) q d;
      starts = done-starts s g p (writer-place s g) q d;
      writes = done-panel s g p (writer-place s g) q d (Writes (n_of s) p ((world_of s).panel p) (write_out s v))
          (at-write (n_of s) p (panel_at s p) (at_place s g p (writer-place s g)) v (done-code s p (write v) d));
    }

-- ---- a read

pub record ReadMoves (s : Network) (i : ℕ) : Type 0 where
  pub may : MayRead s i
  pub answered : (read_in s i).answer ≡ (after (panel_at s (i - 1)) read).answer
  pub starts : Starts (i - 1) (read_out s i) (world_of s) (world_of (read_in s i).network)
  pub reads : Reads (n_of s) (i - 1) ((world_of s).panel (i - 1)) (read_out s i) ((world_of (read_in s i).network).panel (i - 1))

pub read-moves : (s : Network) → Good s → (i : ℕ) → code_of (read_in s i).answer ≡ 0 → ReadMoves s i
unfolding read_in
read-moves s g i ok =
    let p : ℕ = i - 1 in
    let q : Next = after (panel_at s p) read in
    let d : Done (read_trials s i) s p q (read_in s i) = step-done (read_trials s i) s s p q ok in
    let m : MayRead s i = (may_read s i).0 d.trials in
    let within : p < n_of s = omega (arith, m.low, m.high) in
    record {
      may = m;
      answered = done-answer s g p within q d;
      starts = done-starts s g p within q d;
      reads = done-panel s g p within q d (Reads (n_of s) p ((world_of s).panel p) (read_out s i))
          (at_read (n_of s) p (panel_at s p) (at_place s g p within) (done-code s p read d));
    }

-- ---- power loss

pub lose-moves : (s : Network) (i : ℕ) → world_of (lose_in s i).network ≡ world_of s
unfolding lose_in
lose-moves s i = tried-case (lose_trials s i) s _ (λ (a : Stepped). world_of a.network ≡ world_of s) (λ _ _. refl) (λ _. refl)
