-- Reading one after the other, whatever is read: "the reader keeping its place".
-- Assumes nothing.
use Rattle.std.specs.Prelude.{ℕ, ◌+◌, List, Result, Ok, Err}
use Rattle.std.specs.Borrow.{Bor}
use Rattle.reader.specs.declared.{Reader.Reader, Step.Step}

-- how many bytes what was read used; a refusal uses none
abbrev pub used_of : {T E : Type 0} → (T → ℕ) → Result T E → ℕ
used_of used (Ok i) = used i
used_of used (Err e) = 0

-- what stands at a place, and the place behind it
abbrev pub stepped : {T E : Type 0} → (List ℕ → ℕ → Result T E) → (T → ℕ) → List ℕ → ℕ → Step T E
stepped reading used s at = record { read = reading s at; at = at + used_of used (reading s at) }

-- what is read, and the reader afterwards
pub record Next (T E : Type 0) : Type 0 where
  pub read : Result T E
  pub reader : Reader

-- a reader of the same bytes at another place
abbrev pub moved_to : Reader → ℕ → Reader
moved_to r at = record { bytes = r.bytes; at = at }

abbrev pub started : Bor (List ℕ) → Reader
started s = record { bytes = s; at = 0 }

abbrev pub next : {T E : Type 0} → (List ℕ → ℕ → Result T E) → (T → ℕ) → Reader → Next T E
next reading used r = record { read = reading r.bytes.now r.at; reader = moved_to r (stepped reading used r.bytes.now r.at).at }
