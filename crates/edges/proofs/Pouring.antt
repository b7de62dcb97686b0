-- What is poured into a slice of message structs is, column by column, what the panel's own call lays into three slices
-- (`parcel-called`), which is what the events of this crate go by.
-- Assumes nothing.
use mathlib.Core.{Bool.{Bool, true, false}, List.{List, [], ◌∷◌, map}, Logic.inr, Path.{◌≡◌, refl, sym, ap, ◌∙◌}}
use Prim.Native.Nat.{ℕ, zero, suc, ◌+◌, min, ◌≤◌, ◌<◌}
use native.Mathlib.{Nat.zero-add, Numerals.add-one, Omega.arith}
use lib.{Dec.ltb, ListN.{length, get_or, set, replicate, length-set, length-map, length-replicate}}
use lib.Seq.{ext_get_or, get_or-set_same, get_or-set_other}
use borrow.Author.Tests.{ltb-true, ltb-false}
use Rattle.messages.proofs.{Laying.{length-laid, laid-at, laid-past}, Messages.messages-most}
use Rattle.messages.specs.Area.{Area, Laid, receivers_of, kinds_of, values_of, laid, laid_in, laying, room_of}
use Rattle.messages.specs.{Sends.{Message as Sends-as-Message, messages_of}, declared.Sends.Sends}
use Rattle.refusals.specs.Refusals.{Event}
use Rattle.events.specs.{Events.happens, declared.Done.Done}
use Rattle.panel.specs.{Calls.{Called, told, called}, declared.Panel.Panel}
use Rattle.edges.specs.{Columns.{columns, blank, columns_of, message_at, poured}, declared.Columns.Columns}
use Rattle.edges.specs.declared.{Message.Message}

-- ---- one column

-- the numbers below n go to their places, the last first
unfoldable poured_into : List ℕ → ℕ → List ℕ → List ℕ
poured_into xs zero r = r
poured_into xs (suc n) r = poured_into xs n (set r n (get_or xs n 0))

length-into : (xs : List ℕ) (n : ℕ) (r : List ℕ) → length (poured_into xs n r) ≡ length r
unfolding poured_into
length-into xs zero r = refl
length-into xs (suc n) r = length-into xs n (set r n (get_or xs n 0)) ∙ length-set r n (get_or xs n 0)

into-past : (xs : List ℕ) (n : ℕ) (r : List ℕ) (k : ℕ) → n ≤ k → get_or (poured_into xs n r) k 0 ≡ get_or r k 0
unfolding poured_into
into-past xs zero r k h = refl
into-past xs (suc n) r k h = into-past xs n (set r n (get_or xs n 0)) k (omega arith) ∙ get_or-set_other r n k (get_or xs n 0) 0 (omega arith)

into-at : (xs : List ℕ) (n : ℕ) (r : List ℕ) (k : ℕ) → k < n → k < length r → get_or (poured_into xs n r) k 0 ≡ get_or xs k 0
unfolding poured_into
into-at xs zero r k h l = absurd (omega arith)
into-at xs (suc n) r k h l = by (ltb k n) refl (λ m. into-at xs n (set r n (get_or xs n 0)) k m (omega (arith, length-set r n (get_or xs n 0))))
  where
    last : k ≡ n → get_or (set r n (get_or xs n 0)) k 0 ≡ get_or xs k 0
    last e =
        ap (λ (i : ℕ). get_or (set r n (get_or xs n 0)) i 0) e
        ∙ get_or-set_same r n (get_or xs n 0) 0 (omega arith)
        ∙ ap (λ (i : ℕ). get_or xs i 0) (sym e)

    by : (b : Bool) → ltb k n ≡ b → (k < n → get_or (poured_into xs n (set r n (get_or xs n 0))) k 0 ≡ get_or xs k 0)
        → get_or (poured_into xs n (set r n (get_or xs n 0))) k 0 ≡ get_or xs k 0
    by true e lower = lower (ltb-true _ _ e)
    by false e lower =
        let m : n ≤ k = ltb-false _ _ e in
        into-past xs n (set r n (get_or xs n 0)) k m ∙ last (omega arith)

-- what was laid into blank places and is poured from there is laid
module _ (xs r : List ℕ) (n : ℕ) (is : n ≡ min (length xs) (length r)) (few : n ≤ 269) where
  abbrev local : List ℕ
  local = laid 0 xs (replicate 269 0)

  local-long : length (replicate {A = ℕ} 269 0) ≡ 269
  local-long = length-replicate {A = ℕ} 269 0

  place_is : (k : ℕ) → k < length r → (b : Bool) → ltb k (length xs) ≡ b → get_or (poured_into local n r) k 0 ≡ get_or (laid 0 xs r) k 0
  place_is k h true e =
      let l : k < length xs = ltb-true _ _ e in
      let m : k < n = omega arith in
      into-at local n r k m h
      ∙ ap (λ (i : ℕ). get_or local i 0) (sym (zero-add k))
      ∙ laid-at 0 xs (replicate 269 0) k l (omega (arith, local-long))
      ∙ sym (laid-at 0 xs r k l (omega arith))
      ∙ ap (λ (i : ℕ). get_or (laid 0 xs r) i 0) (zero-add k)
  place_is k h false e =
      let l : length xs ≤ k = ltb-false _ _ e in
      let m : n ≤ k = omega arith in
      into-past local n r k m ∙ sym (laid-past 0 xs r k (inr (omega arith)))

  into-laid : poured_into local n r ≡ laid 0 xs r
  into-laid =
      ext_get_or 0 (poured_into local n r) (laid 0 xs r) (length-into local n r ∙ sym (length-laid 0 xs r))
      (λ k h. place_is k (omega (arith, length-into local n r)) (ltb k (length xs)) refl)

-- ---- the three columns

map-set : {A : Type 0} (f : A → ℕ) (ms : List A) (k : ℕ) (m : A) → map f (set ms k m) ≡ set (map f ms) k (f m)
map-set f [] k m = refl
map-set f (x ∷ xs) zero m = refl
map-set f (x ∷ xs) (suc k) m = ap (λ (l : List ℕ). f x ∷ l) (map-set f xs k m)

-- a column of what is poured
column :
    (f : Message → ℕ) (c : Columns) (xs : List ℕ) → ((k : ℕ) → f (message_at c k) ≡ get_or xs k 0) → (n : ℕ) (ms : List Message) →
    map f (poured c n ms) ≡ poured_into xs n (map f ms)
unfolding poured poured_into
column f c xs e zero ms = refl
column f c xs e (suc n) ms =
    column f c xs e n (set ms n (message_at c n)) ∙ ap (poured_into xs n) (map-set f ms n (message_at c n) ∙ ap (set (map f ms) n) (e n))

column-laid :
    (f : Message → ℕ) (c : Columns) (xs : List ℕ) → ((k : ℕ) → f (message_at c k) ≡ get_or (laid 0 xs (replicate 269 0)) k 0)
    → (n : ℕ) (ms : List Message) →
    n ≡ min (length xs) (length ms) → n ≤ 269 →
    map f (poured c n ms) ≡ laid 0 xs (map f ms)
column-laid f c xs e n ms is few =
    column f c (laid 0 xs (replicate 269 0)) e n ms ∙ into-laid xs (map f ms) n (is ∙ ap (min (length xs)) (sym (length-map ms f))) few

pub poured-laid :
    (s : Sends) (ms : List Message) (n : ℕ) → n ≡ min (length (messages_of s)) (length ms) → n ≤ 269 →
    columns (poured (columns_of s) n ms) ≡ laid_in 0 (messages_of s) (columns ms)
unfolding columns columns_of blank laid_in
poured-laid s ms n is few =
    λ i.
    record {
      receivers = column-laid (λ m. m.to) (columns_of s) (receivers_of (messages_of s)) (λ k. refl) n ms (counted (λ m. m.to)) few i;
      kinds = column-laid (λ m. m.kind) (columns_of s) (kinds_of (messages_of s)) (λ k. refl) n ms (counted (λ m. m.kind)) few i;
      values = column-laid (λ m. m.value) (columns_of s) (values_of (messages_of s)) (λ k. refl) n ms (counted (λ m. m.value)) few i;
    }
  where
    counted : (g : Sends-as-Message → ℕ) → n ≡ min (length (map g (messages_of s))) (length ms)
    counted g = is ∙ ap (λ (k : ℕ). min k (length ms)) (sym (length-map (messages_of s) g))

-- ---- what an event comes to

pub room-is : (ms : List Message) → room_of (columns ms) ≡ length ms
unfolding room_of columns
room-is ms = simp length-map (omega arith)

pub told-poured :
    (d : Done) (ms : List Message) (c : Columns) (n : ℕ) → (c ≡ columns_of d.sends) × (c.count ≤ 269) → n ≡ min c.count (length ms) →
    record { outcome = record { panel = record { tables = d.tables }; answer = d.answer; count = c.count }; area = columns (poured c n ms) } ≡ told d (columns ms)
unfolding told columns_of
told-poured d ms c n f e =
    ap (λ (m : ℕ). at c m) e
    ∙ ap (λ (x : Columns). at x (min x.count (length ms))) f.0
    ∙ ap (λ (a : Area). record { outcome = (told d blank).outcome; area = a }) (poured-laid d.sends ms _ refl (omega (arith, f.1, ap (λ (x : Columns). x.count) f.0)))
  where
    at : Columns → ℕ → Called
    at x m = record { outcome = record { panel = record { tables = d.tables }; answer = d.answer; count = x.count }; area = columns (poured x m ms) }

-- the panel's own call, with as much room as the slice has places
pub parcel-called :
    (p : Panel) (e : Event) (ms : List Message) {d : Done} {x : Called} → d ≡ happens p.tables (length ms) e → x ≡ told d (columns ms) →
    x ≡ called p e (columns ms)
unfolding called
parcel-called p e ms h t =
    t ∙ ap (λ (d : Done). told d (columns ms)) h ∙ ap (λ (n : ℕ). told (happens p.tables n e) (columns ms)) (sym (room-is ms))

-- ---- for the code

-- what is laid into local arrays, and how many messages that is at most
pub columns-laid :
    (s : Sends) (l : Laid) → l ≡ laying s blank → s.proceeds < 256 →
    (record { receivers = l.area.receivers; kinds = l.area.kinds; values = l.area.values; count = l.count } ≡ columns_of s) × (l.count ≤ 269)
unfolding laying columns_of
columns-laid s l e h = (
  ap (λ (x : Laid). record { receivers = x.area.receivers; kinds = x.area.kinds; values = x.area.values; count = x.count }) e,
  omega (arith, ap (λ (x : Laid). x.count) e, messages-most s),
)

-- the last of k messages goes to its place, and then the others
pub pour_step : (c : Columns) (k : ℕ) (ms : List Message) → poured c k (set ms k (message_at c k)) ≡ poured c (k + 1) ms
unfolding poured
pour_step c k ms = ap (λ (n : ℕ). poured c n ms) (sym (add-one k))

pub poured-none : (c : Columns) (k : ℕ) (ms : List Message) → k ≤ 0 → poured c k ms ≡ ms
unfolding poured
poured-none c zero ms h = refl
poured-none c (suc k) ms h = absurd (omega arith)

pub ruleset pours = (pour_step, poured-none)

pub ruleset tells = (told-poured)

pub ruleset calls = (parcel-called)
