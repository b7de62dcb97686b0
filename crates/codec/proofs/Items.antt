-- The laws of items, for any format. The five that every codec has: reading what was written (`read-written`), writing
-- what was read (`written_read`), no two items share their bytes (`written-injective`), no item's bytes begin
-- another's (`written-prefix-free`), and what is accepted or refused exactly when (`accepted-iff`, `refused-15-iff`,
-- `refused-16-iff`, `refused-only`).
-- Assumes nothing.
use mathlib.Core.{Bool.{Bool, true, false}, List.{List, [], ◌∷◌, ◌++◌}, Logic.{◌⊎◌, inl, inr, ◌↔◌}}
use mathlib.Core.Path.{◌≡◌, refl, sym, ap, ap₂, subst₂, ◌∙◌}
use Prim.Native.Nat.{ℕ, suc, ◌+◌, ◌≤◌, ◌<◌}
use native.Mathlib.{Nat.suc-add, Omega.arith}
use lib.{Dec.{leb, leb-suc-suc}, ListN.{length, get_or, take, drop, length-append}, Seq.drop-cons}
use borrow.Author.Tests.{le-leb, lt-leb, leb-true, leb-false}
use Rattle.basics.proofs.Choices.{ite-true, ite-false}
use Rattle.codec.specs.Items.{Format, Item, total, size_of, body_of, written, numbers_at, item_at, Proper, Taken.{taken, refused}}
use Rattle.codec.specs.Numbers.{Bytes}
use Rattle.codec.proofs.{Bodies.{numbers_at-cons, length-body, body-written, body-read, numbers_at-fit}, Numbers.byte_at}

-- ---- the four cases of a reading, each by what stands at the place

module _ (f : Format) (s : List ℕ) (at : ℕ) where
  pub item-none : length s ≤ at → item_at f s at ≡ refused 16
  unfolding item_at
  item-none h = ite-true _ _ (le-leb _ _ h)

  pub item-unknown : at < length s → f.known (get_or s at 0) ≡ false → item_at f s at ≡ refused 15
  unfolding item_at
  item-unknown h k = ite-false _ _ (lt-leb _ _ h) ∙ ite-false _ _ k

  pub item-cut : at < length s → f.known (get_or s at 0) ≡ true → length s < at + size_of f (get_or s at 0) → item_at f s at ≡ refused 16
  unfolding item_at
  item-cut h k short = ite-false _ _ (lt-leb _ _ h) ∙ ite-true _ _ k ∙ ite-false _ _ (lt-leb _ _ short)

  -- the item that stands there
  abbrev pub standing : Item
  standing = record { kind = get_or s at 0; numbers = numbers_at (f.widths (get_or s at 0)) s (suc at) }

  pub item-whole : at < length s → f.known (get_or s at 0) ≡ true → at + size_of f (get_or s at 0) ≤ length s → item_at f s at ≡ taken standing (size_of f (get_or s at 0))
  unfolding item_at
  item-whole h k fits = ite-false _ _ (lt-leb _ _ h) ∙ ite-true _ _ k ∙ ite-true _ _ (le-leb _ _ fits)

  -- which of the four it is
  pub data Seen : Type 0 where
    none : length s ≤ at → item_at f s at ≡ refused 16 → Seen
    unknown : at < length s → f.known (get_or s at 0) ≡ false → item_at f s at ≡ refused 15 → Seen
    cut : at < length s → f.known (get_or s at 0) ≡ true → length s < at + size_of f (get_or s at 0) → item_at f s at ≡ refused 16 → Seen
    whole : at < length s → f.known (get_or s at 0) ≡ true → at + size_of f (get_or s at 0) ≤ length s → item_at f s at ≡ taken standing (size_of f (get_or s at 0)) → Seen

  seen-body : at < length s → f.known (get_or s at 0) ≡ true → (b : Bool) → leb (at + size_of f (get_or s at 0)) (length s) ≡ b → Seen
  seen-body h k true e = let l : at + size_of f (get_or s at 0) ≤ length s = leb-true _ _ e in whole h k l (item-whole h k l)
  seen-body h k false e = let l : length s < at + size_of f (get_or s at 0) = leb-false _ _ e in cut h k l (item-cut h k l)

  seen-kind : at < length s → (b : Bool) → f.known (get_or s at 0) ≡ b → Seen
  seen-kind h true e = seen-body h e (leb (at + size_of f (get_or s at 0)) (length s)) refl
  seen-kind h false e = unknown h e (item-unknown h e)

  seen_end : (b : Bool) → leb (length s) at ≡ b → Seen
  seen_end true e = none (leb-true _ _ e) (item-none (leb-true _ _ e))
  seen_end false e = seen-kind (leb-false _ _ e) (f.known (get_or s at 0)) refl

  pub seen : Seen
  seen = seen_end (leb (length s) at) refl

-- ---- exactly when

-- a whole item stands at the place
pub record Whole (f : Format) (s : List ℕ) (at : ℕ) : Type 0 where
  pub byte-there : at < length s
  pub kind_known : f.known (get_or s at 0) ≡ true
  pub body-there : at + size_of f (get_or s at 0) ≤ length s

-- a kind stands at the place, and its body is cut short
pub record Cut (f : Format) (s : List ℕ) (at : ℕ) : Type 0 where
  pub byte-there : at < length s
  pub kind_known : f.known (get_or s at 0) ≡ true
  pub body-short : length s < at + size_of f (get_or s at 0)

-- a byte stands there that is no kind
pub record Unknown (f : Format) (s : List ℕ) (at : ℕ) : Type 0 where
  pub byte-there : at < length s
  pub no_kind : f.known (get_or s at 0) ≡ false

not-both : {A : Type 0} {a : ℕ} {i : Item} {n : ℕ} → refused a ≡ taken i n → A
not-both {A} {a} {i} {n} e = let z : ◌≡◌ {A = ℕ} 0 1 = cc in absurd (omega arith)

not-15 : {A : Type 0} → refused 16 ≡ refused 15 → A
not-15 e = let z : ◌≡◌ {A = ℕ} 16 15 = cc in absurd (omega arith)

not_16 : {A : Type 0} → refused 15 ≡ refused 16 → A
not_16 e = let z : ◌≡◌ {A = ℕ} 16 15 = cc in absurd (omega arith)

module _ (f : Format) (s : List ℕ) (at : ℕ) where
  whole_of : (i : Item) (n : ℕ) → item_at f s at ≡ taken i n → Seen f s at → Whole f s at
  whole_of i n e (none h r) = not-both (sym r ∙ e)
  whole_of i n e (unknown h k r) = not-both (sym r ∙ e)
  whole_of i n e (cut h k l r) = not-both (sym r ∙ e)
  whole_of i n e (whole h k l r) = record { byte-there = h; kind_known = k; body-there = l }

  unknown-of : item_at f s at ≡ refused 15 → Seen f s at → Unknown f s at
  unknown-of e (none h r) = not-15 (sym r ∙ e)
  unknown-of e (unknown h k r) = record { byte-there = h; no_kind = k }
  unknown-of e (cut h k l r) = not-15 (sym r ∙ e)
  unknown-of e (whole h k l r) = not-both (sym e ∙ r)

  cut_of : item_at f s at ≡ refused 16 → Seen f s at → (length s ≤ at) ⊎ Cut f s at
  cut_of e (none h r) = inl h
  cut_of e (unknown h k r) = not_16 (sym r ∙ e)
  cut_of e (cut h k l r) = inr (record { byte-there = h; kind_known = k; body-short = l })
  cut_of e (whole h k l r) = not-both (sym e ∙ r)

  one_of : (n : ℕ) → item_at f s at ≡ refused n → Seen f s at → (n ≡ 15) ⊎ (n ≡ 16)
  one_of n e (none h r) = inr (cc)
  one_of n e (unknown h k r) = inl (cc)
  one_of n e (cut h k l r) = inr (cc)
  one_of n e (whole h k l r) = not-both (sym e ∙ r)

  cut-refused : (length s ≤ at) ⊎ Cut f s at → item_at f s at ≡ refused 16
  cut-refused (inl h) = item-none f s at h
  cut-refused (inr c) = item-cut f s at c.byte-there c.kind_known c.body-short

  pub accepted-iff : ((i : Item) × (n : ℕ) × (item_at f s at ≡ taken i n)) ↔ Whole f s at
  accepted-iff = (
    λ a. whole_of a.0 a.1 a.2 (seen f s at),
    λ w. (standing f s at, size_of f (get_or s at 0), item-whole f s at w.byte-there w.kind_known w.body-there),
  )

  pub refused-15-iff : (item_at f s at ≡ refused 15) ↔ Unknown f s at
  refused-15-iff = (λ e. unknown-of e (seen f s at), λ u. item-unknown f s at u.byte-there u.no_kind)

  pub refused-16-iff : (item_at f s at ≡ refused 16) ↔ ((length s ≤ at) ⊎ Cut f s at)
  refused-16-iff = (λ e. cut_of e (seen f s at), cut-refused)

  pub refused-only : (n : ℕ) → item_at f s at ≡ refused n → (n ≡ 15) ⊎ (n ≡ 16)
  refused-only n e = one_of n e (seen f s at)

-- ---- at any place as at the front

item-cons : (f : Format) (b : ℕ) (s : List ℕ) (at : ℕ) → item_at f (b ∷ s) (suc at) ≡ item_at f s at
unfolding item_at
item-cons f b s at =
    simp (leb-suc-suc, suc-add, numbers_at-cons)

-- behind p stands what stands at the front of s
pub item-behind : (f : Format) (p s : List ℕ) → item_at f (p ++ s) (length p) ≡ item_at f s 0
item-behind f [] s = refl
item-behind f (b ∷ p) s = item-cons f b (p ++ s) (length p) ∙ item-behind f p s

-- ---- reading what was written, and writing what was read

pub length-written : (f : Format) (i : Item) → Proper f i → length (written f i) ≡ size_of f i.kind
unfolding written size_of
length-written f i h = ap suc (length-body (f.widths i.kind) i.numbers h.numbers_fit)

front-written : (f : Format) (i : Item) (rest : List ℕ) → Proper f i → item_at f (written f i ++ rest) 0 ≡ taken i (length (written f i))
unfolding written size_of
front-written f i rest h =
    item-whole f (written f i ++ rest) 0 (omega arith) h.kind_known (simp length-append (omega (arith, length-body ks i.numbers h.numbers_fit)))
    ∙ ap₂ taken
    (ap (λ (xs : List ℕ). record { kind = i.kind; numbers = xs }) (numbers_at-cons ks i.kind (body_of ks i.numbers ++ rest) 0 ∙ body-written ks i.numbers rest h.numbers_fit))
    (sym (length-written f i h))
  where
    ks : List ℕ
    ks = f.widths i.kind

pub read-written : (f : Format) (i : Item) (p rest : List ℕ) → Proper f i → item_at f (p ++ (written f i ++ rest)) (length p) ≡ taken i (length (written f i))
read-written f i p rest h = item-behind f p (written f i ++ rest) ∙ front-written f i rest h

-- what an item that was read at a place is: an item of the format, whose bytes are those from the place on
pub record FoundAt (f : Format) (s : List ℕ) (at : ℕ) (i : Item) (n : ℕ) : Type 0 where
  pub proper : Proper f i
  pub size : n ≡ size_of f i.kind
  pub within : at + n ≤ length s
  pub bytes : written f i ≡ take n (drop at s)

standing-found : (f : Format) (s : List ℕ) (at : ℕ) → Bytes s → Whole f s at → FoundAt f s at (standing f s at) (size_of f (get_or s at 0))
unfolding written size_of
standing-found f s at h w =
    record {
      proper = record { kind_known = w.kind_known; kind_byte = byte_at s h at; numbers_fit = numbers_at-fit (f.widths (get_or s at 0)) s (suc at) h };
      size = refl;
      within = w.body-there;
      bytes = ap (λ (l : List ℕ). get_or s at 0 ∷ l) (body-read (f.widths (get_or s at 0)) s (suc at) h (omega (arith, w.body-there))) ∙ sym (ap (take (suc (total (f.widths (get_or s at 0))))) (drop-cons s at 0 w.byte-there));
    }

pub written_read : (f : Format) (s : List ℕ) (at : ℕ) (i : Item) (n : ℕ) → Bytes s → item_at f s at ≡ taken i n → FoundAt f s at i n
written_read f s at i n h e =
    let w : Whole f s at = (accepted-iff f s at).0 (i, n, e) in
    let o : taken (standing f s at) (size_of f (get_or s at 0)) ≡ taken i n = sym (item-whole f s at w.byte-there w.kind_known w.body-there) ∙ e in
    let same_item : standing f s at ≡ i = cc in
    let same_size : size_of f (get_or s at 0) ≡ n = cc in
    subst₂ (λ (j : Item) (m : ℕ). FoundAt f s at j m) same_item same_size (standing-found f s at h w)

-- ---- no two items share their bytes, and none begins another

pub written-prefix-free : (f : Format) (i j : Item) (x y : List ℕ) → Proper f i → Proper f j → written f i ++ x ≡ written f j ++ y → i ≡ j
written-prefix-free f i j x y hi hj e =
    let o : taken i (length (written f i)) ≡ taken j (length (written f j)) = sym (front-written f i x hi) ∙ ap (λ (s : List ℕ). item_at f s 0) e ∙ front-written f j y hj in
    cc

pub written-injective : (f : Format) (i j : Item) → Proper f i → Proper f j → written f i ≡ written f j → i ≡ j
written-injective f i j hi hj e = written-prefix-free f i j [] [] hi hj (ap (λ (s : List ℕ). s ++ []) e)
