-- Numbers in a fixed count of bytes, high byte first ("numbers are high byte first").
-- Assumes nothing.
use Rattle.std.specs.Prelude.{ℕ, zero, suc, ◌+◌, ◌*◌, ◌/◌, ◌%◌, ◌^◌, ◌<◌, List, [], ◌∷◌, get_or}

-- v in k bytes; of a v that k bytes cannot hold, its low end
unfoldable pub bytes_of : ℕ → ℕ → List ℕ
bytes_of zero v = []
bytes_of (suc k) v = (v / 256 ^ k % 256) ∷ bytes_of k v

-- the number that the k bytes of s from place at on stand for; a byte past the end counts as 0
unfoldable pub number_at : ℕ → List ℕ → ℕ → ℕ
number_at zero s at = 0
number_at (suc k) s at = get_or s at 0 * 256 ^ k + number_at k s (suc at)

-- each is a byte
unfoldable pub Bytes : List ℕ → Type 0
Bytes [] = Unit {0}
Bytes (b ∷ bs) = (b < 256) × Bytes bs
