-- The lines laid into the area one by one: what is laid and what is left is always the whole, and the numbers stay small.
-- Assumes nothing.
use mathlib.Core.{List.{List, [], ◌∷◌, ◌++◌}, Path.{◌≡◌, refl, sym, ap, ap₂, subst, ◌∙◌}}
use Prim.Native.Nat.{ℕ, suc, ◌+◌, ◌*◌, ◌≤◌, ◌<◌}
use native.Mathlib.{Numerals.add-one, Omega.arith}
use lib.{ListN.{length, length-append}, Seq.sets}
use Rattle.std.specs.Prelude.{Option, Result, Ok, Err, Some, None}
use Rattle.basics.{proofs.Choices.{ite-case, some_or-none, some_or-some}, proofs.Lists.sets-append, specs.Choice.some_or, specs.declared.refused.Refusal.Refusal}
use Rattle.schedule.specs.{Records.reading, declared.Taken.Taken}
use Rattle.text.specs.{Text.{first_line, line_text}, declared.Line.Line}
use Rattle.house.specs.declared.{InFlight.InFlight, Network.Network}
use Rattle.steps.specs.Search.{sought}
use Rattle.runs.proofs.Holding.{Holds}
use Rattle.listing.specs.{Entries.all, Listing.{numbered_as, text_from, whole_text, longest}}
use Rattle.listing.specs.{Machine.{Bench, found_in, drain_step, drain_line, taken_line, record_line, line_ahead, next_line, first_made, first_record, opened}, Putting.Put}
use Rattle.listing.specs.{Reads.reads_of, Turning.count_of, declared.Ahead.Ahead}
use Rattle.listing.specs.declared.Ahead.TheVariants as ahead
use Rattle.listing.proofs.{Counting.lines-most, Giving.{Going, behind, left, Gives, next-gives, opened-gives}, Reading.Reading}

-- how many deliveries are listed grows by one at most
module _ (s : Network) (n : ℕ) where
  abbrev Few : Bench → Type 0
  Few c = count_of c.ahead ≤ n + 1

  drain-few : (at m : ℕ) → m ≤ n → Few (drain_line s at m)
  unfolding drain_line drain_step some_or
  drain-few at m h = by (found_in (sought s))
    where
      by : (o : Option InFlight) → Few (drain_step s o at m)
      by None = omega arith
      by (Some x) = omega arith

  read-few : (q : Reading) (at : ℕ) → Few (record_line s q at)
  unfolding record_line taken_line
  read-few (Err u) at = omega arith
  read-few (Ok t) at = ite-case Few _ _ _ (λ _. omega arith) (λ _. ite-case Few _ _ _ (λ _. drain-few _ 0 (omega arith)) (λ _. omega arith))

counted_ahead : (bytes : List ℕ) (s : Network) (a : Ahead) → count_of (line_ahead bytes s a).ahead ≤ count_of a + 1
unfolding line_ahead
counted_ahead bytes s ahead.Ended = omega arith
counted_ahead bytes s (ahead.Drain at count) = drain-few s count at count (omega arith)
counted_ahead bytes s (ahead.Record at) = ite-case (Few s 0) _ _ _ (λ _. read-few s 0 (reading bytes at) at) (λ _. omega arith)

counted-first : (bytes : List ℕ) → count_of (opened bytes).ahead ≡ 0
unfolding opened first_record first_made
counted-first bytes = ite-case NoneYet _ _ _ (λ _. by (reading bytes 0)) (λ _. refl)
  where
    NoneYet : Bench → Type 0
    NoneYet c = count_of c.ahead ≡ 0

    made : (t : Taken) (m : Result Network Refusal) → NoneYet (first_made t m)
    made t (Ok s) = refl
    made t (Err r) = refl

    by : (q : Reading) → NoneYet (first_record q)
    by (Ok t) = ite-case NoneYet _ _ _ (λ _. made t _) (λ _. refl)
    by (Err u) = refl

-- the lines of `bytes` come about, behind the first line in the area l: l' holds those before b's line, which is laid at `at` with number step
pub record Lays (bytes l l' : List ℕ) (at step : ℕ) (b : Bench) : Type 0 where
  pub holds : Going b.ahead → Holds b.network
  pub laid : sets l' at (text_from step (left bytes b)) ≡ sets l 28 (text_from 1 (all (reads_of bytes)))
  pub long : at + length (text_from step (left bytes b)) ≡ 28 + length (text_from 1 (all (reads_of bytes)))
  pub lines : step + length (left bytes b) ≡ suc (length (all (reads_of bytes)))
  pub most : at + 34 ≤ 28 + 34 * step
  pub few : count_of b.ahead < step

module _ (bytes l : List ℕ) where
  at_first : Lays bytes l l 28 1 (opened bytes)
  at_first =
      let g : Gives bytes (all (reads_of bytes)) (opened bytes) = opened-gives bytes in
      record {
        holds = g.holds;
        laid = ap (λ (ls : List Line). sets l 28 (text_from 1 ls)) g.is;
        long = ap (λ (ls : List Line). 28 + length (text_from 1 ls)) g.is;
        lines = omega (arith, ap (λ (ls : List Line). length ls) g.is);
        most = omega arith;
        few = omega (arith, counted-first bytes);
      }

  pub lays-first : {at : ℕ} {b : Bench} → at ≡ 28 → b ≡ opened bytes → Lays bytes l l at 1 b
  lays-first {b = b} e f = subst (λ (n : ℕ). Lays bytes l l n 1 b) (sym e) (subst (Lays bytes l l 28 1) (sym f) at_first)

  module _ {l' : List ℕ} {at step : ℕ} {b : Bench} (d : Lays bytes l l' at step b) where
    -- the numbers stay small
    pub step-few : length bytes ≤ 65536 → step ≤ 82337
    step-few h = omega (arith, d.lines, lines-most bytes)

    pub at-few : length bytes ≤ 65536 → at ≤ longest
    at-few h = omega (arith, d.most, step-few h)

    -- one line more
    module _ (line : Line) (there : b.line ≡ Some line) where
      abbrev line_bytes : List ℕ
      line_bytes = line_text (numbered_as step line)

      gives : Gives bytes (behind bytes b) (next_line bytes b)
      gives = next-gives bytes b d.holds

      now : left bytes b ≡ line ∷ left bytes (next_line bytes b)
      unfolding left
      now = some_or-some _ _ there ∙ ap (λ (ls : List Line). line ∷ ls) (sym gives.is)

      abbrev more : List ℕ
      more = text_from (step + 1) (left bytes (next_line bytes b))

      text : text_from step (left bytes b) ≡ line_bytes ++ more
      unfolding text_from
      text = ap (text_from step) now ∙ ap (λ (n : ℕ). line_bytes ++ text_from n (left bytes (next_line bytes b))) (sym (add-one step))

      on : {m : List ℕ} {k : ℕ} → Put l' at line_bytes m k → k ≤ at + 34 → Lays bytes l m k (step + 1) (next_line bytes b)
      on p most =
          record {
            holds = gives.holds;
            laid = ap₂ (λ (x : List ℕ) (n : ℕ). sets x n more) p.area p.place
                ∙ sym (sets-append line_bytes more l' at) ∙ ap (sets l' at) (sym text) ∙ d.laid;
            long = omega (arith, p.place, length-append line_bytes more, ap (λ (t : List ℕ). length t) text, d.long);
            lines = omega (arith, d.lines, ap (λ (ls : List Line). length ls) now);
            most = omega (arith, most, d.most);
            few = omega (arith, counted_ahead bytes b.network b.ahead, d.few);
          }

      pub lays-next :
          {m : List ℕ} {k : ℕ} {b' : Bench} → Put l' at (line_text (numbered_as step line)) m k × (k ≤ at + 34) → b' ≡ next_line bytes b →
          Lays bytes l m k (step + 1) b'
      lays-next {m} {k} p f = subst (Lays bytes l m k (step + 1)) (sym f) (on p.0 p.1)

      pub fewer-left : {b' : Bench} → b' ≡ next_line bytes b → length (left bytes b') < length (left bytes b)
      fewer-left f = omega (arith, ap (λ (x : Bench). length (left bytes x)) f, ap (λ (ls : List Line). length ls) now)

    -- no line is left: all of it is laid
    module _ (none : b.line ≡ None) where
      nothing_left : text_from step (left bytes b) ≡ []
      unfolding left text_from
      nothing_left = ap (text_from step) (some_or-none _ _ none)

      pub lays_all : {area : List ℕ} → l ≡ sets area 0 first_line → Put area 0 (whole_text bytes) l' at
      unfolding whole_text first_line
      lays_all {area} e =
          let text = text_from 1 (all (reads_of bytes)) in
          record {
            place = omega (arith, ap (λ (t : List ℕ). length t) nothing_left, d.long, length-append first_line text);
            area = sym (ap (sets l' at) nothing_left) ∙ d.laid ∙ ap (λ (x : List ℕ). sets x 28 text) e ∙ sym (sets-append first_line text area 0);
          }
