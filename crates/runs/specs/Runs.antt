-- A run: a list of steps, one after the other, each a call of the network. A refused step changes nothing. What a run did is read
-- off the steps and their answers alone.
-- Assumes nothing.
use Rattle.std.specs.Prelude.{ℕ, ◌+◌, List, [], ◌∷◌, eqb}
use Rattle.basics.specs.{Choice.ite, Refusal.code}
use Rattle.promise.specs.View.{code_of}
use Rattle.house.specs.declared.Network.{Network}
use Rattle.steps.specs.{Drain.{counted, drained}, Steps.{written, begun, delivered, lost}, declared.Drained.Drained, declared.Stepped.Stepped}

-- starts, a delivery (kind, sender, receiver), power loss, drain
pub data Step : Type 0 where
  write : ℕ → Step
  read : ℕ → Step
  deliver : ℕ → ℕ → ℕ → Step
  lose : ℕ → Step
  drain : Step

-- what a step comes to: the network after it; the refusal's number, 0 for none; how many deliveries it made
pub record Did : Type 0 where
  pub network : Network
  pub refusal : ℕ
  pub deliveries : ℕ

-- a step that makes d deliveries if it is accepted
unfoldable pub did : Stepped → ℕ → Did
did a d = record { network = a.network; refusal = code_of a.answer; deliveries = ite (eqb (code_of a.answer) 0) d 0 }

-- a drain's answer counts its deliveries
unfoldable pub emptied : Drained → Did
emptied a = record { network = a.network; refusal = code a.answer; deliveries = counted a.answer }

unfoldable pub does : Network → Step → Did
does s (write v) = did (written s v) 0
does s (read i) = did (begun s i) 0
does s (deliver k i j) = did (delivered s k i j) 1
does s (lose i) = did (lost s i) 0
does s drain = emptied (drained s)

-- the network after all steps
unfoldable pub after : Network → List Step → Network
after s [] = s
after s (e ∷ es) = after (does s e).network es

-- ---- what is read off a run

-- each step with its answer
pub record Entry : Type 0 where
  pub step : Step
  pub refusal : ℕ
  pub deliveries : ℕ

unfoldable pub entries : Network → List Step → List Entry
entries s [] = []
entries s (e ∷ es) = record { step = e; refusal = (does s e).refusal; deliveries = (does s e).deliveries } ∷ entries (does s e).network es

unfoldable pub is_write : Step → ℕ
is_write (write v) = 1
is_write (read i) = 0
is_write (deliver k i j) = 0
is_write (lose i) = 0
is_write drain = 0

unfoldable pub is_read : Step → ℕ
is_read (write v) = 0
is_read (read i) = 1
is_read (deliver k i j) = 0
is_read (lose i) = 0
is_read drain = 0

-- writes accepted, reads accepted, deliveries accepted
unfoldable pub writes : List Entry → ℕ
writes [] = 0
writes (x ∷ xs) = ite (eqb x.refusal 0) (is_write x.step) 0 + writes xs

unfoldable pub reads : List Entry → ℕ
reads [] = 0
reads (x ∷ xs) = ite (eqb x.refusal 0) (is_read x.step) 0 + reads xs

unfoldable pub deliveries : List Entry → ℕ
deliveries [] = 0
deliveries (x ∷ xs) = x.deliveries + deliveries xs
