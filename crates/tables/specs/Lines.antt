-- A line of waiting READs: one joins at the end (line 20 does not hold yet), some leave from the front (line 20 holds now).
-- Assumes nothing.
use Rattle.std.specs.Prelude.{ℕ, zero, suc, ◌+◌, ◌-◌}
use lib.{Dec.leb, ListN.{get_or, set}}
use Rattle.basics.specs.{Below.list_below, Choice.ite}
use Rattle.tables.specs.{Places.{no_write, w_at}, declared.Line.Line, declared.WriteNo.WriteNo}

-- the line with x behind its last entry
unfoldable pub joined : Line → WriteNo → Line
joined l x = record { len = l.len + 1; sn = set l.sn l.len x }

-- how many entries from place k on, of at most m, have an sn ≤ x before the first that has not
unfoldable pub leading : Line → ℕ → ℕ → ℕ → ℕ
leading l x zero k = 0
leading l x (suc m) k = ite (leb (w_at l.sn k) x) (suc (leading l x m (suc k))) 0

-- how many READs leave the line: "READs of j with sn ≤ w[j] leave the line from the front"
unfoldable pub leaving : Line → ℕ → ℕ
leaving l x = leading l x l.len 0

-- the line without its first m entries, zero behind the rest
unfoldable pub without : Line → ℕ → Line
without l m = record { len = l.len - m; sn = list_below 100 (λ (k : ℕ). get_or l.sn (k + m) no_write) }
