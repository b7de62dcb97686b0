-- The world after a panel has acted, if all that it sends finds room.
-- Assumes nothing.
use Rattle.std.specs.Prelude.{ℕ, ◌+◌, ◌-◌, eqb}
use Rattle.basics.specs.Choice.{ite, both}
use Rattle.protocol.specs.World.{View, World, Out}

-- the panel at place p is then b, and has sent `out`
unfoldable pub acting : World → ℕ → View → Out → World
acting s p b out =
    record {
      panel = λ (i : ℕ). ite (eqb i p) b (s.panel i);
      flying = λ (i l k : ℕ). ite (eqb i p) (s.flying i l k + out l k) (s.flying i l k);
    }

-- one message of kind k from place q to place p is gone
unfoldable pub lacking : World → ℕ → ℕ → ℕ → World
lacking s q p k =
    record {
      panel = s.panel;
      flying = λ (i l m : ℕ). ite (both (eqb i q) (both (eqb l p) (eqb m k))) (s.flying i l m - 1) (s.flying i l m);
    }
