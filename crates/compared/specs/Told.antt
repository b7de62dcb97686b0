-- Answers as bare numbers, for a caller in another language: 0 where a call is not refused, else the refusal's number.
-- Assumes nothing.
use Rattle.std.specs.Prelude.{ℕ, Result, Ok, Err}
use Rattle.basics.specs.{Kinds.byte_of, Refusal.code, declared.refused.Refusal.Refusal}
use Rattle.wire.specs.declared.Taken.{Taken}

abbrev pub read_refusal : Result Taken Refusal → ℕ
read_refusal a = code a

abbrev pub read_kind : Result Taken Refusal → ℕ
read_kind (Ok t) = byte_of t.kind
read_kind (Err r) = 0

abbrev pub read_value : Result Taken Refusal → ℕ
read_value (Ok t) = t.value
read_value (Err r) = 0

abbrev pub read_used : Result Taken Refusal → ℕ
read_used (Ok t) = t.used
read_used (Err r) = 0

abbrev pub write_refusal : Result ℕ Refusal → ℕ
write_refusal a = code a

abbrev pub write_used : Result ℕ Refusal → ℕ
write_used (Ok n) = n
write_used (Err r) = 0
