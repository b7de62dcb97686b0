-- What stands at a place of a network: panel j has place j - 1. Past the end stands zero.
-- Assumes nothing.
use Rattle.std.specs.Prelude.{ℕ}
use mathlib.Core.{Bool.{Bool, true, false}, List.[]}
use Rattle.std.specs.Prelude.{get_or, set}
use Rattle.form.specs.declared.{Operation.TheVariants.Idle, Tables.Tables}
use Rattle.events.specs.Rules.{value_of}
use Rattle.panel.specs.declared.Panel.{Panel}
use Rattle.channels.specs.{Channels.{no_row, channel_at}, declared.Channel.Channel, declared.Row.Row}
use Rattle.house.specs.declared.Network.{Network}

abbrev pub nobody : Panel
nobody =
    record { tables = record { n = 0; t = 0; writer = 0; number = 0; w = []; r = []; history = []; held = []; lines = []; operation = Idle } }

abbrev pub panel_at : Network → ℕ → Panel
panel_at s i = get_or s.panels i nobody

abbrev pub tables_at : Network → ℕ → Tables
tables_at s i = (panel_at s i).tables

-- the channels that leave place i
abbrev pub row_at : Network → ℕ → Row
row_at s i = get_or s.rows i no_row

-- the channel from place i to place j
abbrev pub channel_of : Network → ℕ → ℕ → Channel
channel_of s i j = channel_at (row_at s i) j

abbrev pub down_at : Network → ℕ → Bool
down_at s i = get_or s.down i false

-- the network's n, t, writer and initial value are those of its first panel
abbrev pub n_of : Network → ℕ
n_of s = (tables_at s 0).n

abbrev pub t_of : Network → ℕ
t_of s = (tables_at s 0).t

abbrev pub writer_of : Network → ℕ
writer_of s = (tables_at s 0).writer

abbrev pub initial_of : Network → ℕ
initial_of s = value_of (tables_at s 0) 0

-- ---- a network with one thing changed

abbrev pub with_panel : Network → ℕ → Panel → Network
with_panel s i p = record { panels = set s.panels i p; rows = s.rows; down = s.down }

abbrev pub with_row : Network → ℕ → Row → Network
with_row s i r = record { panels = s.panels; rows = set s.rows i r; down = s.down }

abbrev pub with_down : Network → ℕ → Network
with_down s i = record { panels = s.panels; rows = s.rows; down = set s.down i true }
