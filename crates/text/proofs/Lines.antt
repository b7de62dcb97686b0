-- The laws of a line's text: its fields' cases, its parts one behind the other, how long it is at most, and how it is laid.
-- Assumes nothing.
use mathlib.Core.{List.{List, [], ◌∷◌, ◌++◌, append_assoc}, Path.{◌≡◌, sym, ap, ◌∙◌}}
use Prim.Native.Nat.{ℕ, ◌+◌, ◌^◌, ◌≤◌, ◌<◌}
use native.Mathlib.Omega.{arith}
use lib.ListN.{length, replicate, length-append}
use Rattle.std.specs.Prelude.{Option, Some, None, IfSome}
use Rattle.text.specs.Text.{dec, first_panel, second_panel, panel_text, result_text, fields, spaced, line_text, text_of, appended, Appended}
use Rattle.text.specs.declared.{Line.Line, Noted.Noted, Text.Text}
use Rattle.text.proofs.{Appending.{behind, long_as, from_nothing}, Decimal.length_most}

-- ---- how long

pub byte-most : (n : ℕ) → n < 256 → length (dec n) ≤ 3
byte-most n h = length_most 3 n (omega arith) (omega arith)

pub panel-most : (p : Option ℕ) → IfSome p (λ n. n < 256) → length (panel_text p) ≤ 3
unfolding panel_text
panel-most None h = omega arith
panel-most (Some n) h = byte-most n h

pub result-most : (r : Option Noted) (j : ℕ) → 0 < j → IfSome r (λ x. x.number < 10 ^ j) → length (result_text r) ≤ j + 1
unfolding result_text
result-most None j p h = omega arith
result-most (Some r) j p h = omega (arith, length_most j r.number p h)

-- the parts of a line, one behind the other
parts : Line → List ℕ
parts l =
    dec l.step
    ++ ((32 ∷ panel_text (Some l.kind))
    ++ ((32 ∷ panel_text (first_panel l.panels))
    ++ ((32 ∷ panel_text (second_panel l.panels))
    ++ ((32 ∷ panel_text (Some l.answer)) ++ ((32 ∷ result_text l.result) ++ (10 ∷ []))))))

line-parts : (l : Line) → line_text l ≡ parts l
unfolding line_text fields spaced parts panel_text
line-parts l = simp append_assoc

-- the fields of one byte
pub record ByteFields (l : Line) : Type 0 where
  pub kind : l.kind < 256
  pub first : IfSome (first_panel l.panels) (λ n. n < 256)
  pub second : IfSome (second_panel l.panels) (λ n. n < 256)
  pub answer : l.answer < 256

pub line-most : (l : Line) (i j : ℕ) → ByteFields l → 0 < i → l.step < 10 ^ i → 0 < j → IfSome l.result (λ r. r.number < 10 ^ j) → length (line_text l) ≤ i + j + 19
unfolding parts panel_text
line-most l i j f p h q g =
    let
    whole : length (parts l) ≤ i + j + 19
    = simp length-append
    (omega (
      arith,
      length_most i l.step p h,
      byte-most l.kind f.kind,
      panel-most (first_panel l.panels) f.first,
      panel-most (second_panel l.panels) f.second,
      byte-most l.answer f.answer,
      result-most l.result j q g,
    ))
    in
    omega (arith, whole, ap length (line-parts l))

-- ---- how it is laid

nothing : Text
nothing = record { length = 0; bytes = replicate 40 0 }

pub line-laid : (l : Line) {step kind a b answer result r : Text} →
    Appended (record { length = 0; bytes = replicate 40 0 }) (dec l.step) 10 step →
    Appended step (32 ∷ panel_text (Some l.kind)) 4 kind →
    Appended kind (32 ∷ panel_text (first_panel l.panels)) 4 a →
    Appended a (32 ∷ panel_text (second_panel l.panels)) 4 b →
    Appended b (32 ∷ panel_text (Some l.answer)) 4 answer →
    Appended answer (32 ∷ result_text l.result) 12 result →
    Appended result (10 ∷ []) 1 r →
    (r ≡ text_of (line_text l)) × (r.length ≤ 39) × (r.length ≤ length (dec l.step) + 29)
unfolding nothing parts
line-laid l {step} {r = r} p1 p2 p3 p4 p5 p6 p7 =
    let rest = behind p2 (behind p3 (behind p4 (behind p5 (behind p6 p7)))) in
    let laid : Appended nothing (parts l) 39 r = behind p1 rest in
    let first : step.length ≡ 0 + length (dec l.step) = long_as nothing (dec l.step) p1.text in
    let text : r ≡ appended nothing (line_text l) = laid.text ∙ ap (appended nothing) (sym (line-parts l)) in
    (text ∙ from_nothing (line_text l) (omega (arith, laid.most, long_as nothing (line_text l) text)), laid.most, omega (arith, rest.most, first))
