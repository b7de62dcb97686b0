-- What the call answers and leaves, case by case; and that the area then begins with the whole listing.
-- Assumes nothing.
use mathlib.Core.{Bool.{Bool, true, false}, List.{List, ◌++◌}, Logic.◌↔◌, Path.{◌≡◌, refl, sym, ap, ◌∙◌}}
use Prim.Native.Nat.{ℕ, ◌≤◌, ◌<◌}
use native.Mathlib.{Nat.zero-add, Omega.arith}
use lib.{Dec.ltb, ListN.{length, drop}, Seq.{sets, sets-eq}}
use borrow.Author.Tests.{ltb-true, ltb-false, lt-ltb, le-ltb}
use Rattle.std.specs.Prelude.{Result, Ok, Err}
use Rattle.basics.{proofs.Choices.{ite-true, ite-false}, specs.Refusal.code}
use Rattle.basics.specs.declared.refused.Refusal.{Refusal, TheVariants.{AreaTooShort}}
use Rattle.steps.specs.Drain.{counted}
use Rattle.text.specs.Text.{too_long}
use Rattle.listing.specs.{Listing.{whole_text, listing_of, longest, Outcome, listing}, Putting.Put}

-- ---- which text

pub too_long_lem : (bytes : List ℕ) → 65536 < length bytes → listing_of bytes ≡ too_long
unfolding listing_of
too_long_lem bytes h = ite-true _ _ (lt-ltb _ _ h)

pub not-too-long : (bytes : List ℕ) → length bytes ≤ 65536 → listing_of bytes ≡ whole_text bytes
unfolding listing_of
not-too-long bytes h = ite-false _ _ (le-ltb _ _ h)

pub too-long-9 : {f : List ℕ} → f ≡ too_long → length f ≡ 9
unfolding too_long
too-long-9 e = ap (λ (x : List ℕ). length x) e

-- ---- the call

module _ (bytes area : List ℕ) where
  pub short : length area < longest → record { answer = Err AreaTooShort; area = area } ≡ listing bytes area
  unfolding listing
  short h = sym (ite-true _ _ (lt-ltb _ _ h))

  pub done :
      {bs area' : List ℕ} {k : ℕ} → longest ≤ length area → bs ≡ listing_of bytes → Put area 0 bs area' k →
      record { answer = Ok k; area = area' } ≡ listing bytes area
  unfolding listing
  done {bs} {area'} {k} h e p =
      let long : k ≡ length (listing_of bytes) = p.place ∙ zero-add _ ∙ ap length e in
      let laid : area' ≡ sets area 0 (listing_of bytes) = p.area ∙ ap (sets area 0) e in
      (λ i. record { answer = Ok (long i); area = laid i }) ∙ sym (ite-false _ _ (le-ltb _ _ h))

  -- ---- exactly when

  data Seen : Type 0 where
    too_short : length area < longest → listing bytes area ≡ record { answer = Err AreaTooShort; area = area } → Seen
    taken :
        longest ≤ length area →
        listing bytes area ≡ record { answer = Ok (length (listing_of bytes)); area = sets area 0 (listing_of bytes) } → Seen

  seen : Seen
  unfolding listing
  seen = by (ltb (length area) longest) refl
    where
      by : (b : Bool) → ltb (length area) longest ≡ b → Seen
      by true e = too_short (ltb-true _ _ e) (ite-true _ _ e)
      by false e = taken (ltb-false _ _ e) (ite-false _ _ e)

  refusal : {o : Outcome} → listing bytes area ≡ o → code (listing bytes area).answer ≡ code o.answer
  refusal e = ap (λ (o : Outcome). code o.answer) e

  pub refused-3-iff : (code (listing bytes area).answer ≡ 3) ↔ (length area < longest)
  refused-3-iff = (λ e. by e seen, λ h. refusal (sym (short h)))
    where
      by : code (listing bytes area).answer ≡ 3 → Seen → length area < longest
      by e (too_short h _) = h
      by e (taken h q) = absurd (omega (arith, refusal q))

  pub accepted-iff : (code (listing bytes area).answer ≡ 0) ↔ (longest ≤ length area)
  accepted-iff = (λ e. by e seen, λ h. back h seen)
    where
      by : code (listing bytes area).answer ≡ 0 → Seen → longest ≤ length area
      by e (too_short h q) = absurd (omega (arith, refusal q))
      by e (taken h _) = h

      back : longest ≤ length area → Seen → code (listing bytes area).answer ≡ 0
      back h (too_short g _) = absurd (omega arith)
      back h (taken g q) = refusal q

  -- a refusal leaves the area as it was
  pub refused-untouched : length area < longest → (listing bytes area).area ≡ area
  refused-untouched h = sym (ap (λ (o : Outcome). o.area) (short h))

  -- what the call promises: then the area begins with the whole listing, and is as it was behind it
  pub listing-front :
      {answer : Result ℕ Refusal} {area' : List ℕ} → record { answer = answer; area = area' } ≡ listing bytes area → counted answer ≤ length area →
      code answer ≡ 0 → area' ≡ listing_of bytes ++ drop (counted answer) area
  listing-front {answer} {area'} e within ok = by seen
    where
      by : Seen → area' ≡ listing_of bytes ++ drop (counted answer) area
      by (too_short h q) = absurd (omega (arith, ok, ap (λ (o : Outcome). code o.answer) (e ∙ q)))
      by (taken h q) =
          let long : counted answer ≡ length (listing_of bytes) = ap (λ (o : Outcome). counted o.answer) (e ∙ q) in
          ap (λ (o : Outcome). o.area) (e ∙ q)
          ∙ sets-eq (listing_of bytes) area 0 (omega (arith, long, within))
          ∙ ap (λ (n : ℕ). listing_of bytes ++ drop n area) (zero-add _ ∙ sym long)
