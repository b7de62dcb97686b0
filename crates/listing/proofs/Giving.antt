-- The bench, asked line by line, gives the listing's lines: what is left to give after a line is what was left before it, without that line.
-- Assumes nothing.
use mathlib.Core.{Bool.{Bool, true, false}, List.{List, [], ◌∷◌, ◌++◌, append_assoc}, Path.{◌≡◌, refl, sym, ap, ap₂, subst, ◌∙◌}}
use Prim.Native.Nat.{ℕ, ◌+◌, ◌<◌}
use native.Mathlib.{Nat.zero-add, Numerals.add-one, Omega.arith}
use lib.{Dec.{ltb, eqb}, ListN.length}
use borrow.Author.Tests.{ltb-true, ltb-false, eq-eqb, ne_eqb}
use Rattle.std.specs.Prelude.{Option, Result, Ok, Err, Some, None}
use Rattle.basics.{proofs.Choices.{ite-true, ite-false, ite-case, ite-two, some_or-none, some_or-some}, specs.Choice.{some_or}, specs.Refusal.number_of}
use Rattle.basics.specs.declared.refused.Refusal.{Refusal}
use Rattle.schedule.specs.{Records.reading, declared.Record.Record, declared.Taken.Taken, declared.Unread.Unread}
use Rattle.text.specs.declared.Line.{Line}
use Rattle.house.specs.{Search.first_in, declared.InFlight.InFlight, declared.Network.Network}
use Rattle.steps.proofs.{Networks.good-test, Settling.checked-in-form, WholeDrain.{sought-is, drained-none, drained-next}}
use Rattle.steps.specs.{Drain.{drained_to, next_in, drained, counted}, SetUp.set_up, declared.Drained.Drained, declared.Stepped.Stepped}
use Rattle.runs.proofs.{Accepting.next-ok, Draining.drain-ok, Holding.Holds}
use Rattle.listing.specs.Entries.{entry, misplaced, unread, told, delivery_of, next_step, deliveries_by, drain_entry, drain_entries_as, drain_entries, stepped, entries, next, later, first_set_up, first, all}
use Rattle.listing.specs.Machine.{Bench, silent, stops, goes_on, drains, found_in, drain_step, drain_line, taken_line, record_line, line_ahead, next_line, first_made, first_record, opened}
use Rattle.listing.specs.{Reads.reads_of, declared.Ahead.Ahead}
use Rattle.listing.specs.declared.Ahead.TheVariants as ahead
use Rattle.listing.proofs.Placing.{Placed, placed, stepped-keeps, delivered-keeps, set-up-holds}
use Rattle.listing.proofs.Reading.{Reading, read_case, reads_at, reads_end, reads-next, reads-last}
use Rattle.listing.proofs.Placing as placing

-- ---- what is left to give

-- in a drain of s that comes to d, after count deliveries
unfoldable pub drain_left : List ℕ → Network → ℕ → ℕ → Drained → List Line
drain_left bytes s at count d = deliveries_by (counted d.answer) s ++ (drain_entry (count + counted d.answer) ∷ later d.network (reads_at bytes at))

-- behind the line that was given
unfoldable pub behind_at : List ℕ → Network → Ahead → List Line
behind_at bytes s ahead.Ended = []
behind_at bytes s (ahead.Record at) = later s (reads_at bytes at)
behind_at bytes s (ahead.Drain at count) = drain_left bytes s at count (drained s)

abbrev pub behind : List ℕ → Bench → List Line
behind bytes b = behind_at bytes b.network b.ahead

-- with that line
unfoldable pub left : List ℕ → Bench → List Line
left bytes b = some_or b.line (λ (l : Line). l ∷ behind bytes b) []

-- it has not ended
abbrev pub Going : Ahead → Type 0
Going ahead.Ended = ⊥
Going (ahead.Record at) = Unit {0}
Going (ahead.Drain at count) = Unit {0}

-- the bench gives these lines, and what holds in every run from fresh holds of its network
pub record Gives (bytes : List ℕ) (ls : List Line) (b : Bench) : Type 0 where
  pub is : left bytes b ≡ ls
  pub holds : Going b.ahead → Holds b.network

-- by another name
named : {bytes : List ℕ} {b c : Bench} {ls ms : List Line} → c ≡ b → ms ≡ ls → Gives bytes ls b → Gives bytes ms c
named {bytes} {ls = ls} e f g = subst (Gives bytes _) (sym e) (record { is = g.is ∙ sym f; holds = g.holds })

module _ (bytes : List ℕ) (s : Network) where
  silent-gives : Gives bytes [] (silent s)
  unfolding left some_or
  silent-gives = record { is = refl; holds = λ e. absurd e }

  stops-gives : (l : Line) → Gives bytes (l ∷ []) (stops s l)
  unfolding left behind_at some_or
  stops-gives l = record { is = refl; holds = λ e. absurd e }

  on-gives : (l : Line) (at : ℕ) → Holds s → Gives bytes (l ∷ later s (reads_at bytes at)) (goes_on s l at)
  unfolding left behind_at some_or
  on-gives l at h = record { is = refl; holds = λ _. h }

  drains-gives : (l : Line) (at count : ℕ) → Holds s → Gives bytes (l ∷ drain_left bytes s at count (drained s)) (drains s l at count)
  unfolding left behind_at some_or
  drains-gives l at count h = record { is = refl; holds = λ _. h }

-- ---- a drain

module _ (bytes : List ℕ) (s : Network) (h : Holds s) (at count : ℕ) where
  line-is : drain_line s at count ≡ drain_step s (first_in s) at count
  unfolding drain_line
  line-is = ap (λ (x : Result (Option InFlight) Refusal). drain_step s (found_in x) at count) (sought-is s h.good)

  -- a delivery, and then a drain
  module _ (x : InFlight) (there : first_in s ≡ Some x) where
    abbrev given : Line
    given = told (delivery_of x) (next_step s x).answer

    next-is : next_step s x ≡ next_in s x
    unfolding next_step next_in
    next-is = checked-in-form s _ (good-test s h.good)

    next-holds : Holds (next_step s x).network
    unfolding next_step
    next-holds = (delivered-keeps s h _ _ _).holds

    abbrev rest : Drained
    rest = drained (next_step s x).network

    drained-on : drained s ≡ drained_to rest.network (counted rest.answer + 1)
    drained-on =
        subst (λ (a : Stepped). Holds a.network → drained s ≡ drained_to (drained a.network).network (counted (drained a.network).answer + 1)) (sym next-is)
        (λ g. drained-next s h.good x there (next-ok s h x there) _ (drain-ok (next_in s x).network g)) next-holds

    one-delivery : (m : ℕ) → deliveries_by (m + 1) s ≡ given ∷ deliveries_by m (next_step s x).network
    unfolding deliveries_by
    one-delivery m = ap (λ (k : ℕ). deliveries_by k s) (add-one m) ∙ some_or-some _ _ there

    one-more : (m : ℕ) → count + (m + 1) ≡ count + 1 + m
    one-more m = omega arith

    left-on : drain_left bytes s at count (drained s) ≡ given ∷ drain_left bytes (next_step s x).network at (count + 1) rest
    unfolding drain_left
    left-on =
        ap (drain_left bytes s at count) drained-on
        ∙ ap₂ (λ (ls : List Line) (k : ℕ). ls ++ (drain_entry k ∷ later rest.network (reads_at bytes at))) (one-delivery (counted rest.answer)) (one-more (counted rest.answer))

  -- nothing to deliver: the drain's own line
  module _ (none : first_in s ≡ None) where
    left-none : drain_left bytes s at count (drained s) ≡ drain_entry count ∷ later s (reads_at bytes at)
    unfolding drain_left deliveries_by
    left-none =
        ap (drain_left bytes s at count) (drained-none s h.good none)
        ∙ ap (λ (k : ℕ). drain_entry k ∷ later s (reads_at bytes at)) (omega arith)

  pub drain-gives : Gives bytes (drain_left bytes s at count (drained s)) (drain_line s at count)
  unfolding drain_step
  drain-gives = by (first_in s) refl
    where
      by : (o : Option InFlight) → first_in s ≡ o → Gives bytes (drain_left bytes s at count (drained s)) (drain_line s at count)
      by (Some x) e =
          named (line-is ∙ some_or-some _ _ e) (left-on x e) (drains-gives bytes (next_step s x).network (given x e) at (count + 1) (next-holds x e))
      by None e = named (line-is ∙ some_or-none _ _ e) (left-none e) (on-gives bytes s (drain_entry count) at h)

-- ---- the next record

module _ (bytes : List ℕ) (s : Network) (h : Holds s) (at : ℕ) (there : at < length bytes) where
  refused-gives : (u : Unread) → reading bytes at ≡ Err u → Gives bytes (later s (reads_at bytes at)) (record_line s (reading bytes at) at)
  unfolding later record_line
  refused-gives u bad =
      named (ap (λ (q : Reading). record_line s q at) bad) (ap (later s) (reads-last bytes at there u bad)) (stops-gives bytes s (unread u))

  module _ (t : Taken) (ok : reading bytes at ≡ Ok t) where
    abbrev after : ℕ
    after = at + t.used

    abbrev r : Record
    r = t.«record»

    taken-left : later s (reads_at bytes at) ≡ entries s r ++ later (next s r) (reads_at bytes after)
    unfolding later
    taken-left = ap (later s) (reads-next bytes at there t ok)

    left_by : {ls : List Line} {s' : Network} → entries s r ≡ ls → next s r ≡ s' → later s (reads_at bytes at) ≡ ls ++ later s' (reads_at bytes after)
    left_by e f = taken-left ∙ ap₂ (λ (ls : List Line) (x : Network). ls ++ later x (reads_at bytes after)) e f

    drain-left : drain_entries s ++ later (drained s).network (reads_at bytes after) ≡ drain_left bytes s after 0 (drained s)
    unfolding drain_entries_as drain_left
    drain-left =
        ap (λ (a : Result ℕ Refusal). drain_entries_as a s ++ later (drained s).network (reads_at bytes after)) (drain-ok s h)
        ∙ append_assoc (deliveries_by (counted (drained s).answer) s) _ _
        ∙ ap (λ (k : ℕ). deliveries_by (counted (drained s).answer) s ++ (drain_entry k ∷ later (drained s).network (reads_at bytes after))) (sym (zero-add _))

    -- as the line of the record is the bench's
    line-as : {b : Bench} → taken_line s r after ≡ b → record_line s (reading bytes at) at ≡ b
    unfolding record_line
    line-as e = ap (λ (q : Reading). record_line s q at) ok ∙ e

    taken-gives : Placed s r → Gives bytes (later s (reads_at bytes at)) (record_line s (reading bytes at) at)
    unfolding taken_line
    taken-gives (placing.setting_up z e f) = named (line-as (ite-true _ _ (eq-eqb _ _ z))) (left_by e f) (on-gives bytes s (misplaced r) after h)
    taken-gives (placing.drains z k e f) =
        named (line-as (ite-false _ _ (ne_eqb _ _ z) ∙ ite-true _ _ (eq-eqb _ _ k))) (left_by e f ∙ drain-left) (drain-gives bytes s h after 0)
    taken-gives (placing.steps z k e f) =
        named (line-as (ite-false _ _ (ne_eqb _ _ z) ∙ ite-false _ _ (ne_eqb _ _ k))) (left_by e f)
        (on-gives bytes (stepped s r).network (told r (stepped s r).answer) after (stepped-keeps s h r).holds)

  record-gives : Gives bytes (later s (reads_at bytes at)) (record_line s (reading bytes at) at)
  record-gives =
      read_case (λ (q : Reading). reading bytes at ≡ q → Gives bytes (later s (reads_at bytes at)) (record_line s (reading bytes at) at))
      (λ t ok. taken-gives t ok (placed s t.«record»)) refused-gives (reading bytes at) refl

-- ---- line by line

ahead-gives : (bytes : List ℕ) (s : Network) (a : Ahead) → (Going a → Holds s) → Gives bytes (behind_at bytes s a) (line_ahead bytes s a)
unfolding behind_at line_ahead later
ahead-gives bytes s ahead.Ended holds = silent-gives bytes s
ahead-gives bytes s (ahead.Drain at count) holds = drain-gives bytes s (holds tt) at count
ahead-gives bytes s (ahead.Record at) holds =
    ite-case (Gives bytes (later s (reads_at bytes at))) (ltb at (length bytes)) _ _
    (λ l. record-gives bytes s (holds tt) at (ltb-true _ _ l))
    (λ l. named refl (ap (later s) (reads_end bytes at (ltb-false _ _ l))) (silent-gives bytes s))

pub next-gives : (bytes : List ℕ) (b : Bench) → (Going b.ahead → Holds b.network) → Gives bytes (behind bytes b) (next_line bytes b)
next-gives bytes b holds = ahead-gives bytes b.network b.ahead holds

-- ---- the first

module _ (bytes : List ℕ) where
  module _ (t : Taken) (qs : List Reading) (same : qs ≡ reads_at bytes t.used) where
    made-gives : (m : Result Network Refusal) → set_up t.«record».a t.«record».b t.«record».c t.«record».value ≡ m → Gives bytes (first_set_up m t.«record» qs) (first_made t m)
    unfolding first_set_up first_made
    made-gives (Ok s) e =
        let r : Record = t.«record» in
        named refl (ap (λ (l : List Reading). entry r 0 None ∷ later s l) same)
        (on-gives bytes s (entry r 0 None) t.used (set-up-holds r.a r.b r.c r.value s e))
    made-gives (Err x) e = stops-gives bytes _ (entry t.«record» (number_of x) None)

    first_gives : Gives bytes (all (Ok t ∷ qs)) (first_record (Ok t))
    unfolding all first first_record
    first_gives =
        ite-two (Gives bytes) (eqb t.«record».kind 0) _ _ _ _ (λ _. made-gives _ refl) (λ _. stops-gives bytes _ (misplaced t.«record»))

  unread-gives : (u : Unread) → Gives bytes (all (Err u ∷ [])) (first_record (Err u))
  unfolding all first_record
  unread-gives u = stops-gives bytes _ (unread u)

  pub opened-gives : Gives bytes (all (reads_of bytes)) (opened bytes)
  unfolding reads_of opened all
  opened-gives = by (ltb 0 (length bytes)) refl
    where
      by : (x : Bool) → ltb 0 (length bytes) ≡ x → Gives bytes (all (reads_of bytes)) (opened bytes)
      by true e =
          read_case (λ (q : Reading). reading bytes 0 ≡ q → Gives bytes (all (reads_of bytes)) (opened bytes))
          (λ t ok. named (ite-true _ _ e ∙ ap first_record ok) (ap all (reads-next bytes 0 (ltb-true _ _ e) t ok))
          (first_gives t (reads_at bytes (0 + t.used)) (ap (reads_at bytes) (zero-add _))))
          (λ u bad. named (ite-true _ _ e ∙ ap first_record bad) (ap all (reads-last bytes 0 (ltb-true _ _ e) u bad)) (unread-gives u))
          (reading bytes 0) refl
      by false e = named (ite-false _ _ e) (ap all (reads_end bytes 0 (ltb-false _ _ e))) (silent-gives bytes _)
