-- The steps of a reader of records: a refusal leaves the place (`refused-stays`), a record moves it behind its last byte
-- (`accepted-moves`), no step passes the end (`never-past`), and records that stand one behind the other are read so (`read-on`).
-- Assumes nothing.
use mathlib.Core.{List.{List, ◌++◌}, Path.{◌≡◌, sym, ap, ◌∙◌}}
use Prim.Native.Nat.{ℕ, ◌+◌, ◌≤◌}
use lib.ListN.{length, get_or, length-append}
use Rattle.std.specs.Prelude.{Result, Ok, Err}
use Rattle.codec.specs.Items.{size_of}
use Rattle.schedule.proofs.Laws.{Scheduled, read-written, accepted-used, accepted-within}
use Rattle.schedule.specs.{Records.{records, bytes_of_record, reading}, declared.{Record.Record, Taken.Taken, Unread.Unread}}
use Rattle.reader.specs.{Reading.{used_of, moved_to}, Records.{used, stepped, next}, declared.Reader.Reader, declared.Step.Step}
use Rattle.reader.proofs.Steps as steps

module _ (s : List ℕ) (at : ℕ) where
  pub refused-stays : (u : Unread) → reading s at ≡ Err u → (stepped s at).at ≡ at
  refused-stays = steps.refused-stays reading used s at

  pub accepted-moves : (t : Taken) → reading s at ≡ Ok t → (stepped s at).at ≡ at + size_of records (get_or s at 0)
  accepted-moves t e = steps.accepted-moves reading used s at t e ∙ ap (λ (n : ℕ). at + n) (accepted-used s at t e)

  pub never-past : at ≤ length s → (stepped s at).at ≤ length s
  never-past = steps.never-past reading used accepted-within s at

-- what the reader's call gives, from the step
pub next-by-step : (h : Reader) {s : Step Taken Unread} → s ≡ stepped h.bytes.now h.at → record { read = s.read; reader = moved_to h s.at } ≡ next h
next-by-step h e = steps.next-by-step reading used h e

pub read-on :
    (r : Record) (p rest : List ℕ) → Scheduled r →
    stepped (p ++ (bytes_of_record r ++ rest)) (length p)
    ≡ record { read = Ok (record { «record» = r; used = length (bytes_of_record r) }); at = length (p ++ bytes_of_record r) }
read-on r p rest h =
    ap (λ (x : Result Taken Unread). record { read = x; at = length p + used_of used x }) (read-written r p rest h)
    ∙ ap (λ (n : ℕ). record { read = Ok (record { «record» = r; used = length (bytes_of_record r) }); at = n }) (sym (length-append p (bytes_of_record r)))
