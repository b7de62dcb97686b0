-- What each event's own rule does, lines 1 to 22 of Figure 1. A rule here knows nothing of refusals (specs/Events) and does not look
-- at the operation (specs/Look). The peer that an event comes from stands at place k.
-- Assumes nothing.
use Rattle.std.specs.Prelude.{ℕ, ◌+◌, ◌%◌, true}
use lib.{Dec.{leb, ltb, eqb}, ListN.{get_or, set}}
use Rattle.basics.specs.Choice.{ite}
use Rattle.messages.specs.{Sends.no_cast, declared.Cast.Cast, declared.Sends.Sends}
use Rattle.tables.specs.{Lines.{joined, leaving, without}, Marks.{has_w, marks, is_other, only_place}}
use Rattle.tables.specs.Places.{w_at, r_at, hold_at, line_at, no_hold}
use Rattle.form.specs.Setting.{own_place, own_w, own_r, set_w, set_r, set_history, set_held, set_lines, set_operation}
use Rattle.form.specs.declared.{Operation.TheVariants.{Writing, FirstWait}, Tables.Tables}
use Rattle.events.specs.declared.{Ruled.Ruled, Took.Took}

-- the value of write number x
unfoldable pub value_of : Tables → ℕ → ℕ
value_of p x = get_or p.history x 0

-- lines 1 and 14: w[i] grows by one, to x, and v joins the history as value x
unfoldable pub learned : Tables → ℕ → Tables
learned p v =
    set_history (set_w p (set p.w (own_place p) (record { 0 = own_w p + 1 }))) (set p.history (own_w p + 1) v)

-- lines 2 and 15: WRITE(x mod 2, v) to each l with w[l] = x − 1, where x has just been learned
unfoldable pub spread : Tables → ℕ → Cast
spread p v =
    record { to = marks p.n (has_w (learned p v).w (own_w p)); kind = (own_w p + 1) % 2; value = v }

abbrev pub sends_own : Cast → Sends
sends_own c = record { own = c; held = no_cast; peer = 0; proceeds = 0 }

-- write v: lines 1 and 2
unfoldable pub write_rule : Tables → ℕ → Ruled
write_rule p v = record { tables = set_operation (learned p v) Writing; sends = sends_own (spread p v) }

-- read: lines 5 and 6
unfoldable pub read_rule : Tables → Ruled
read_rule p =
    record {
      tables = set_operation (set_r p (set p.r (own_place p) (record { 0 = own_r p + 1 }))) FirstWait;
      sends = sends_own (record { to = marks p.n (is_other p.number); kind = 2; value = 0 });
    }

-- w[j] becomes x
unfoldable pub reached : Tables → ℕ → ℕ → Tables
reached p k x = set_w p (set p.w k (record { 0 = x }))

-- lines 12 to 18, with x = w[j]+1: v is learned and spread; or j lags and gets its next value; or neither. Last, w[j] becomes x
unfoldable pub take : Tables → ℕ → ℕ → Took
take p k v =
    ite (eqb (w_at p.w k) (own_w p))
    (record { tables = reached (learned p v) k (own_w p + 1); cast = spread p v })
    (ite (ltb (w_at p.w k + 1) (own_w p))
    (record {
      tables = reached p k (w_at p.w k + 1);
      cast = record { to = only_place k; kind = (w_at p.w k + 2) % 2; value = value_of p (w_at p.w k + 2) };
    })
    (record { tables = reached p k (w_at p.w k + 1); cast = no_cast }))

-- "Then a held WRITE of j is treated the same way"
unfoldable pub take_held : Tables → ℕ → Took
take_held p k =
    ite (hold_at p.held k).full
    (take (set_held p (set p.held k no_hold)) k (hold_at p.held k).value)
    (record { tables = p; cast = no_cast })

-- "Then READs of j with sn ≤ w[j] leave the line from the front" (lines 20 and 21)
unfoldable pub released : Tables → ℕ → Tables
released p k =
    set_lines p (set p.lines k (without (line_at p.lines k) (leaving (line_at p.lines k) (w_at p.w k))))

-- WRITE(b, v) from j, of the right bit: lines 12 to 18, the held WRITE, the waiting READs
unfoldable pub take_rule : Tables → ℕ → ℕ → Ruled
take_rule p k v =
    let a : Took = take p k v in
    let b : Took = take_held a.tables k in
    record {
      tables = released b.tables k;
      sends = record {
        own = a.cast;
        held = b.cast;
        peer = k + 1;
        proceeds = leaving (line_at b.tables.lines k) (w_at b.tables.w k);
      };
    }

abbrev pub sends_proceeds : ℕ → ℕ → Sends
sends_proceeds k m = record { own = no_cast; held = no_cast; peer = k + 1; proceeds = m }

-- WRITE(b, v) from j, of the other bit: it is held (line 11)
unfoldable pub hold_rule : Tables → ℕ → ℕ → Ruled
hold_rule p k v =
    record { tables = set_held p (set p.held k (record { full = true; value = v })); sends = sends_proceeds k 0 }

-- READ from j: lines 19 to 21; sn is w[i] as the READ comes
unfoldable pub read_from_rule : Tables → ℕ → Ruled
read_from_rule p k =
    ite (leb (own_w p) (w_at p.w k))
    (record { tables = p; sends = sends_proceeds k 1 })
    (record {
      tables = set_lines p (set p.lines k (joined (line_at p.lines k) (record { 0 = own_w p })));
      sends = sends_proceeds k 0;
    })

-- PROCEED from j: line 22
unfoldable pub proceed_rule : Tables → ℕ → Ruled
proceed_rule p k =
    record { tables = set_r p (set p.r k (record { 0 = r_at p.r k + 1 })); sends = sends_proceeds k 0 }
