-- The steps of a reader of messages: a refusal leaves the place (`refused-stays`), no step passes the end (`never-past`), and
-- messages that stand one behind the other are read so (`read-on`).
-- Assumes nothing.
use mathlib.Core.{List.{List, ◌++◌}, Path.{◌≡◌, refl, sym, ap, ◌∙◌}}
use Prim.Native.Nat.{ℕ, ◌+◌, ◌≤◌}
use lib.{ListN.{length, length-append}, Seq.drop_at}
use Rattle.std.specs.Prelude.{Result, Ok, Err}
use Rattle.basics.specs.{Kinds.byte_of, declared.{kinds.Kind.Kind, refused.Refusal.Refusal}}
use Rattle.wire.{proofs.Laws.{Message, read-written, accepted-within}, specs.Messages.{bytes_of_message, reading}, specs.declared.Taken.Taken}
use Rattle.reader.specs.{Reading.used_of, Messages.{reading_at, used, stepped}}
use Rattle.reader.proofs.Steps as steps

module _ (s : List ℕ) (at : ℕ) where
  pub refused-stays : (r : Refusal) → reading_at s at ≡ Err r → (stepped s at).at ≡ at
  refused-stays = steps.refused-stays reading_at used s at

  pub never-past : at ≤ length s → (stepped s at).at ≤ length s
  never-past = steps.never-past reading_at used accepted-within s at

pub read-on :
    (k : Kind) (v : ℕ) (p rest : List ℕ) → Message (byte_of k) v →
    stepped (p ++ (bytes_of_message (byte_of k) v ++ rest)) (length p)
    ≡ record { read = Ok (record { kind = k; value = v; used = length (bytes_of_message (byte_of k) v) }); at = length (p ++ bytes_of_message (byte_of k) v) }
read-on k v p rest h =
    ap (λ (x : Result Taken Refusal). record { read = x; at = length p + used_of used x }) (ap reading (drop_at p _ (length p) refl) ∙ read-written k v rest h)
    ∙ ap (λ (n : ℕ). record { read = Ok (record { kind = k; value = v; used = length (bytes_of_message (byte_of k) v) }); at = n })
    (sym (length-append p (bytes_of_message (byte_of k) v)))
