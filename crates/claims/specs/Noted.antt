-- Cases: a set-up, an event at a lone panel, or a run of a fresh network of which something is noted on the way; and their values, the
-- definitions' own. The initial value is 700.
-- Assumes nothing.
use Rattle.std.specs.{Prelude.{ℕ, List, [], ◌∷◌, ◌++◌}, Result.result_unwrap_or}
use Rattle.basics.specs.Refusal.{code}
use Rattle.refusals.specs.Refusals.{Event}
use Rattle.panel.specs.Calls as calls
use Rattle.panel.specs.declared.Panel.{Panel}
use Rattle.house.specs.declared.Network.{Network}
use Rattle.steps.specs.{Drain.drained, SetUp.{no_network, set_up}, Steps.{written, begun, delivered, lost}}
use Rattle.runs.specs.Runs.{Step, does, after, Step.{write, read, deliver, lose, drain}}
use Rattle.claims.specs.Shown.{answered, counted, flying_from, held_at, waiting_at, doing_at, drain_lines}

-- ---- deliveries, from panel i to panel j

abbrev pub WRITE0 : ℕ → ℕ → Step
WRITE0 i j = deliver 0 i j

abbrev pub WRITE1 : ℕ → ℕ → Step
WRITE1 i j = deliver 1 i j

abbrev pub READ : ℕ → ℕ → Step
READ i j = deliver 2 i j

abbrev pub PROCEED : ℕ → ℕ → Step
PROCEED i j = deliver 3 i j

-- ---- what is noted of a run

pub data Note : Type 0 where
  -- steps of which nothing is noted
  made : List Step → Note
  -- a step, and its answer
  said : Step → Note
  -- what is in flight from panel i
  flying : ℕ → Note
  -- what panel i holds of panel j
  held : ℕ → ℕ → Note
  -- what waits at panel i of panel j
  waiting : ℕ → ℕ → Note
  -- the operation of panel i
  doing : ℕ → Note
  -- what a drain would deliver next, m times
  lines : ℕ → Note

-- what a step answers
unfoldable pub told : Network → Step → List ℕ
told s (write v) = answered (written s v).answer
told s (read i) = answered (begun s i).answer
told s (deliver k i j) = answered (delivered s k i j).answer
told s (lose i) = answered (lost s i).answer
told s drain = counted (drained s).answer

unfoldable pub noted : Network → List Note → List (List ℕ)
noted s [] = []
noted s (made es ∷ ns) = noted (after s es) ns
noted s (said e ∷ ns) = told s e ∷ noted (does s e).network ns
noted s (flying i ∷ ns) = flying_from s i ∷ noted s ns
noted s (held i j ∷ ns) = held_at s i j ∷ noted s ns
noted s (waiting i j ∷ ns) = waiting_at s i j ∷ noted s ns
noted s (doing i ∷ ns) = doing_at s i ∷ noted s ns
noted s (lines m ∷ ns) = drain_lines m s ++ noted s ns

-- ---- cases, each with n, t and writer

pub data Case : Type 0 where
  setting_up : ℕ → ℕ → ℕ → Case
  network : ℕ → ℕ → ℕ → List Note → Case
  -- a fresh panel by its number, and an event
  panel : ℕ → ℕ → ℕ → ℕ → Event → Case

-- the network that set-up makes; one of zeros where it makes none
unfoldable pub start : ℕ → ℕ → ℕ → Network
start n t writer = result_unwrap_or (set_up n t writer 700) no_network

-- and the panel likewise
unfoldable pub lone : ℕ → ℕ → ℕ → ℕ → Panel
lone n t writer i = result_unwrap_or (calls.made n t writer i 700) calls.nothing

-- a set-up's refusal, 0 for none; what is noted; the panel's answer
unfoldable pub values_of : Case → List (List ℕ)
values_of (setting_up n t writer) = (code (set_up n t writer 700) ∷ []) ∷ []
values_of (network n t writer ns) = noted (start n t writer) ns
values_of (panel n t writer i e) = answered (calls.after (lone n t writer i) e).answer ∷ []

unfoldable pub values : List Case → List (List ℕ)
values [] = []
values (c ∷ cs) = values_of c ++ values cs
