-- The laws of a text with bytes behind it: one after the other, a number's last digit first, and from nothing.
-- Assumes nothing.
use mathlib.Core.{List.{List, ◌++◌}, Path.{◌≡◌, sym, ap, ◌∙◌}}
use Prim.Native.Nat.{ℕ, zero, suc, ◌+◌, ◌-◌, ◌≤◌}
use native.Mathlib.{Nat.{zero-add, sub-zero, zero-sub, suc-sub-suc}, Omega.arith}
use lib.{ListN.{length, take, drop, replicate, length-append, length-replicate}, Seq.{sets-eq, take-append_seam}}
use Rattle.basics.proofs.Lists.{sets-append}
use Rattle.text.specs.{Text.{text_of, appended, Appended}, declared.Text.Text}

text-alike : {k m : ℕ} {xs ys : List ℕ} → k ≡ m → xs ≡ ys → ◌≡◌ {A = Text} (record { length = k; bytes = xs }) (record { length = m; bytes = ys })
text-alike p q = λ i. record { length = p i; bytes = q i }

appended-twice : (t : Text) (a b : List ℕ) → appended (appended t a) b ≡ appended t (a ++ b)
unfolding appended
appended-twice t a b = text-alike (omega (arith, length-append a b)) (sym (sets-append a b t.bytes t.length))

pub long_as : (t : Text) (bs : List ℕ) {r : Text} → r ≡ appended t bs → r.length ≡ t.length + length bs
unfolding appended
long_as t bs e = ap (λ (x : Text). x.length) e

pub appends : {t r : Text} {bs : List ℕ} (k : ℕ) → r ≡ appended t bs → length bs ≤ k → Appended t bs k r
appends {t} {r} {bs} k e h = record { text = e; most = omega (arith, long_as t bs e) }

-- what is put behind what was put
pub behind : {t s r : Text} {a b : List ℕ} {i j : ℕ} → Appended t a i s → Appended s b j r → Appended t (a ++ b) (i + j) r
behind {t} {a = a} {b = b} p q =
    record {
      text = q.text ∙ ap (λ (x : Text). appended x b) p.text ∙ appended-twice t a b;
      most = omega (arith, p.most, q.most);
    }

-- by another name, at another bound
pub named : {t r : Text} {bs : List ℕ} {j : ℕ} (k : ℕ) {cs : List ℕ} → cs ≡ bs → length bs ≤ k → Appended t bs j r → Appended t cs k r
named {t} k e h p = appends k (p.text ∙ ap (appended t) (sym e)) (omega (arith, ap length e))

-- ---- from nothing

zeros : ℕ → List ℕ
zeros n = replicate n 0

drop-zeros : (n m : ℕ) → drop n (zeros m) ≡ zeros (m - n)
unfolding zeros
drop-zeros zero m = ap zeros (sym (sub-zero m))
drop-zeros (suc n) zero = ap zeros (sym (zero-sub (suc n)))
drop-zeros (suc n) (suc m) = drop-zeros n m ∙ ap zeros (sym (suc-sub-suc m n))

pub from_nothing : (bs : List ℕ) → length bs ≤ 40 → appended (record { length = 0; bytes = replicate 40 0 }) bs ≡ text_of bs
unfolding appended text_of zeros
from_nothing bs h =
    text-alike
    (zero-add (length bs))
    (sets-eq bs (zeros 40) 0 (omega arith)
    ∙ ap (λ (k : ℕ). bs ++ drop k (zeros 40)) (zero-add (length bs))
    ∙ ap (λ (x : List ℕ). bs ++ x) (drop-zeros (length bs) 40))

-- ---- what a text shows

pub text-shows : (bs : List ℕ) → take (text_of bs).length (text_of bs).bytes ≡ bs
unfolding text_of
text-shows bs = take-append_seam bs (replicate (40 - length bs) 0)

pub text-places : (bs : List ℕ) → length bs ≤ 40 → length (text_of bs).bytes ≡ 40
unfolding text_of zeros
text-places bs h = length-append bs (zeros (40 - length bs)) ∙ ap (λ (k : ℕ). length bs + k) (length-replicate {A = ℕ} (40 - length bs) 0) ∙ omega arith
