-- A panel and a network in numbers alone: what demand 3 looks at, and nothing of how it is kept. Panel j stands at place j - 1.
-- Kinds are those of the wire: 0 and 1 WRITE of that bit, 2 READ, 3 PROCEED.
-- Assumes nothing.
use Rattle.std.specs.Prelude.{ℕ, suc, ◌+◌, min}
use mathlib.Core.{Logic.◌≢◌, Path.◌≡◌}

-- what a panel knows of place l: its write number, its read number, whether a WRITE of it is held (1) or not (0), and how many
-- of its READs wait
pub record View : Type 0 where
  pub w : ℕ → ℕ
  pub r : ℕ → ℕ
  pub held : ℕ → ℕ
  pub waiting : ℕ → ℕ

-- the panel at each place, and how many messages are in flight, by sender, receiver and kind
pub record World : Type 0 where
  pub panel : ℕ → View
  pub flying : ℕ → ℕ → ℕ → ℕ

-- how many messages an event sends, by receiver and kind
abbrev pub Out : Type 0
Out = ℕ → ℕ → ℕ

-- W_i[j]
abbrev pub W : World → ℕ → ℕ → ℕ
W s i j = (s.panel i).w j

-- R_i[j]
abbrev pub R : World → ℕ → ℕ → ℕ
R s i j = (s.panel i).r j

-- how many WRITEs the panel at place p has ever sent to place l, by its own write numbers (Lemma 5 of the report)
abbrev pub due : ℕ → (ℕ → ℕ) → ℕ → ℕ
due p w l = min (w p) (suc (w l))

-- ---- one panel acts

-- the panel at place p starts something, and sends `out`
pub record Starts (p : ℕ) (out : Out) (s s' : World) : Type 0 where
  pub others : (i : ℕ) → i ≢ p → s'.panel i ≡ s.panel i
  pub sent : (l k : ℕ) → s'.flying p l k ≡ s.flying p l k + out l k
  pub flown : (i l k : ℕ) → i ≢ p → s'.flying i l k ≡ s.flying i l k

-- a message of kind k from place q comes to place p, which sends `out`
pub record Delivers (q p k : ℕ) (out : Out) (s s' : World) : Type 0 where
  pub others : (i : ℕ) → i ≢ p → s'.panel i ≡ s.panel i
  pub sent : (l m : ℕ) → s'.flying p l m ≡ s.flying p l m + out l m
  pub gone : suc (s'.flying q p k) ≡ s.flying q p k
  pub flown : (i l m : ℕ) → i ≢ p → (i ≡ q → l ≡ p → m ≢ k) → s'.flying i l m ≡ s.flying i l m
