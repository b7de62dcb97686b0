-- "Records are read one after the other from the lent schedule": until the end of the input, or a record that is refused.
-- Assumes nothing.
use Rattle.std.specs.Prelude.{ℕ, zero, suc, ◌+◌, List, [], ◌∷◌, Result, Ok, Err}
use lib.{Dec.ltb, ListN.length}
use Rattle.basics.specs.Choice.{ite}
use Rattle.schedule.specs.{Records.reading, declared.Taken.Taken, declared.Unread.Unread}

-- what stands behind a record, if it is accepted
unfoldable pub if_taken : {A : Type 0} → Result Taken Unread → (Taken → List A) → List A
if_taken (Ok t) f = f t
if_taken (Err u) f = []

-- from place `at` on, at most f records
unfoldable pub reads_from : ℕ → List ℕ → ℕ → List (Result Taken Unread)
reads_from zero bytes at = []
reads_from (suc f) bytes at =
    ite (ltb at (length bytes)) (reading bytes at ∷ if_taken (reading bytes at) (λ (t : Taken). reads_from f bytes (at + t.used))) []

-- no record is empty, so a schedule has no more of them than bytes
unfoldable pub reads_of : List ℕ → List (Result Taken Unread)
reads_of bytes = reads_from (length bytes) bytes 0
