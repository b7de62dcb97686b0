-- A panel's tables, what it sends and its answer in the words of the protocol: numbers by place, counts by place and kind.
-- Assumes nothing.
use Rattle.std.specs.Prelude.{ℕ, ◌+◌, Ok, Err, Some, None}
use mathlib.Core.{Bool.false, Path.◌≡◌}
use Rattle.basics.specs.{Below.one_if, Refusal.number_of}
use Rattle.messages.specs.{Sends.{cast_of, messages_of}, Tally.tally, declared.Cast.Cast, declared.Sends.Sends}
use Rattle.tables.specs.{Marks.{has_w, reaches_w, has_r, enough}, Places.{w_at, r_at, hold_at, line_at}}
use Rattle.form.specs.{Setting.{own_w, own_r}, declared.Operation.Operation}
use Rattle.form.specs.declared.{Operation.TheVariants.{Idle, Writing, FirstWait, SecondWait}, Tables.Tables}
use Rattle.events.specs.{Events.Answer, declared.Finished.TheVariants.{Wrote, Gave}}
use Rattle.protocol.specs.World.{View, Out}

-- the numbers of a panel, by place
unfoldable pub view_of : Tables → View
view_of p =
    record {
      w = λ (l : ℕ). w_at p.w l;
      r = λ (l : ℕ). r_at p.r l;
      held = λ (l : ℕ). one_if (hold_at p.held l).full;
      waiting = λ (l : ℕ). (line_at p.lines l).len;
    }

-- how many messages of kind k go to place l: of one cast, and of all that an event sends
unfoldable pub cast_out : Cast → Out
cast_out c l k = tally (cast_of c) (l + 1) k

unfoldable pub out_of : Sends → Out
out_of s l k = tally (messages_of s) (l + 1) k

-- the number of the refusal, 0 for none
unfoldable pub code_of : Answer → ℕ
code_of (Err r) = number_of r
code_of (Ok None) = 0
code_of (Ok (Some (Wrote x))) = 0
code_of (Ok (Some (Gave x v))) = 0

-- the wait of an open operation is not met: lines 3, 7 and 9
abbrev pub WaitsAs : Operation → Tables → Type 0
WaitsAs Idle p = Unit {0}
WaitsAs Writing p = enough p.n p.t (has_w p.w (own_w p)) ≡ false
WaitsAs FirstWait p = enough p.n p.t (has_r p.r (own_r p)) ≡ false
WaitsAs (SecondWait sn) p = enough p.n p.t (reaches_w p.w sn.0) ≡ false

abbrev pub Waits : Tables → Type 0
Waits p = WaitsAs p.operation p
