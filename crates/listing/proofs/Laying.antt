-- What is put into an area: bytes one behind the other, the first line, and a line of at most 34 bytes.
-- Assumes nothing.
use mathlib.Core.{List.{List, [], ◌∷◌}, Path.{◌≡◌, sym, ap, subst, ◌∙◌}}
use Prim.Native.Nat.{ℕ, ◌+◌, ◌≤◌, ◌<◌}
use native.Mathlib.{Numerals.add-one, Omega.arith}
use lib.{ListN.{length, get_or, set, take, length-take}, Seq.{sets, length-sets, take-suc, take_all}}
use Rattle.basics.proofs.Lists.{sets-append}
use Rattle.text.{proofs.Appending.{text-shows, text-places}, proofs.Decimal.length_most, specs.Text.{first_line, dec, line_text, text_of}}
use Rattle.text.specs.declared.{Line.Line, Text.Text}
use Rattle.listing.specs.{Listing.numbered_as, Putting.Put}

-- ---- bytes one behind the other

-- one byte more
byte-laid : (bs l : List ℕ) (at i : ℕ) → i < length bs → set (sets l at (take i bs)) (at + i) (get_or bs i 0) ≡ sets l at (take (i + 1) bs)
byte-laid bs l at i h =
    let e : length (take i bs) ≡ i = length-take i bs ∙ omega arith in
    ap (λ (k : ℕ). set (sets l at (take i bs)) (at + k) (get_or bs i 0)) (sym e)
    ∙ sym (sets-append (take i bs) (get_or bs i 0 ∷ []) l at)
    ∙ ap (sets l at) (sym (take-suc bs i 0 h))
    ∙ ap (λ (k : ℕ). sets l at (take k bs)) (sym (add-one i))

pub laid_more :
    (bs l : List ℕ) {l' m : List ℕ} (at i : ℕ) → i < length bs → l' ≡ sets l at (take i bs) → m ≡ set l' (at + i) (get_or bs i 0) →
    m ≡ sets l at (take (i + 1) bs)
laid_more bs l at i h e f = f ∙ ap (λ (x : List ℕ). set x (at + i) (get_or bs i 0)) e ∙ byte-laid bs l at i h

-- all of them
pub all_laid : (bs l : List ℕ) {l' : List ℕ} (at i : ℕ) → i ≤ length bs → length bs ≤ i → l' ≡ sets l at (take i bs) → Put l at bs l' (at + i)
all_laid bs l at i h g e = record { place = omega arith; area = e ∙ ap (sets l at) (take_all i bs g) }

-- an area keeps its length
pub put-long : {l bs l' : List ℕ} {at k : ℕ} → Put l at bs l' k → length l' ≡ length l
put-long {l} {bs} {at = at} p = ap length p.area ∙ length-sets l at bs

-- ---- the first line

module _ {f : List ℕ} (e : f ≡ first_line) where
  pub header-long : 28 ≡ length f
  unfolding first_line
  header-long = sym (ap (λ (x : List ℕ). length x) e)

  module _ {area l : List ℕ} {k : ℕ} (p : Put area 0 f l k) where
    pub header-place : k ≡ 28
    header-place = omega (arith, p.place, header-long)

    pub header-area : l ≡ sets area 0 first_line
    header-area = p.area ∙ ap (sets area 0) e

-- ---- a line

module _ (bs : List ℕ) {t : Text} (e : t ≡ text_of bs) (few : t.length ≤ 39) where
  text-long : t.length ≡ length bs
  unfolding text_of
  text-long = ap (λ (x : Text). x.length) e

  -- the bytes of a text
  text-bytes : take t.length t.bytes ≡ bs
  text-bytes = ap (λ (x : Text). take x.length x.bytes) e ∙ text-shows bs

  pub text-within : t.length ≤ length t.bytes
  text-within = omega (arith, ap (λ (x : Text). length x.bytes) e, text-places bs (omega (arith, text-long, few)), few)

  pub text-count : t.length ≡ length (take t.length t.bytes)
  text-count = text-long ∙ ap length (sym text-bytes)

-- the bytes of a line's text are put: so is the line, of 34 bytes at most
pub line-put :
    (l : Line) (step at : ℕ) {m : Line} {t : Text} {area area' : List ℕ} {k : ℕ} → m ≡ numbered_as step l → t ≡ text_of (line_text m) → t.length ≤ 39 →
    t.length ≤ length (dec step) + 29 → Put area at (take t.length t.bytes) area' k → step < 100000 →
    Put area at (line_text (numbered_as step l)) area' k × (k ≤ at + 34)
line-put l step at {area = area} {area' = area'} {k = k} e f few short p small =
    let is = text-bytes _ f few ∙ ap line_text e in
    (subst (λ (bs : List ℕ). Put area at bs area' k) is p, omega (arith, p.place, text-count _ f few, short, length_most 5 step (omega arith) (omega arith)))
