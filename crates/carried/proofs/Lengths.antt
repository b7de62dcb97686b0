-- How many bytes the parts of a panel take, and the whole: 1,566.
-- Assumes nothing.
use mathlib.Core.{List.{List, [], ◌∷◌}, Path.{◌≡◌, refl, ap}}
use Prim.Native.Nat.{ℕ, suc}
use lib.ListN.{length, length-append}
use Rattle.codec.proofs.Numbers.{length-bytes_of}
use Rattle.tables.specs.{Places.{w_at, r_at, hold_at, line_at}, declared.Hold.Hold, declared.Line.Line, declared.ReadNo.ReadNo}
use Rattle.tables.specs.declared.WriteNo.{WriteNo}
use Rattle.form.specs.declared.{Operation.Operation, Operation.TheVariants.{Idle, Writing, FirstWait, SecondWait}, Tables.Tables}
use Rattle.carried.specs.Panels.{head_bytes, w_bytes, r_bytes, hold_bytes, held_bytes, line_bytes, lines_bytes, operation_bytes, values_bytes, panel_bytes}
use Rattle.carried.proofs.Rows.{length-rows}

pub length-head : (n t writer number initial : ℕ) → length (head_bytes n t writer number initial) ≡ 8
unfolding head_bytes
length-head n t writer number initial = ap (λ (k : ℕ). suc (suc (suc (suc k)))) (length-bytes_of 4 initial)

pub length-w : (ws : List WriteNo) → length (w_bytes ws) ≡ 7
unfolding w_bytes
length-w ws = length-rows 1 (λ (j : ℕ). w_at ws j ∷ []) (λ k. refl) 7

pub length-r : (rs : List ReadNo) → length (r_bytes rs) ≡ 7
unfolding r_bytes
length-r rs = length-rows 1 (λ (j : ℕ). r_at rs j ∷ []) (λ k. refl) 7

pub length-hold : (h : Hold) → length (hold_bytes h) ≡ 5
unfolding hold_bytes
length-hold h = ap suc (length-bytes_of 4 h.value)

pub length-held : (hs : List Hold) → length (held_bytes hs) ≡ 35
unfolding held_bytes
length-held hs = length-rows 5 (λ (j : ℕ). hold_bytes (hold_at hs j)) (λ k. length-hold (hold_at hs k)) 7

pub length-line : (l : Line) → length (line_bytes l) ≡ 101
unfolding line_bytes
length-line l = ap suc (length-rows 1 (λ (k : ℕ). w_at l.sn k ∷ []) (λ k. refl) 100)

pub length-lines : (ls : List Line) → length (lines_bytes ls) ≡ 707
unfolding lines_bytes
length-lines ls = length-rows 101 (λ (j : ℕ). line_bytes (line_at ls j)) (λ k. length-line (line_at ls k)) 7

pub length-operation : (o : Operation) → length (operation_bytes o) ≡ 2
unfolding operation_bytes
length-operation Idle = refl
length-operation Writing = refl
length-operation FirstWait = refl
length-operation (SecondWait sn) = refl

pub length-values : (values : List ℕ) → length (values_bytes values) ≡ 800
unfolding values_bytes
length-values values = length-rows 4 _ (λ k. length-bytes_of 4 _) 200

pub length-panel : (p : Tables) → length (panel_bytes p) ≡ 1566
unfolding panel_bytes
length-panel p = simp (length-append, length-head, length-w, length-r, length-held, length-lines, length-operation, length-values)
