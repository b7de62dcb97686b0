-- The description's cases for one panel, computed on the definitions, and the errors that it says to expect. An answer stands as
-- 0 and a refusal's number, 1 for nothing, 2 and the number written, or 3, the number and the value read; behind it stand each
-- message's receiver, kind and value.
-- Assumes nothing.
use Prim.Native.Nat.{ℕ}
use mathlib.Core.{Bool.{true, false}, List.{List, [], ◌∷◌, ◌++◌}, Path.{◌≡◌, refl}}
use Rattle.std.specs.Prelude.{Ok, Err, Some, None}
use Rattle.basics.specs.{Below.{one_if, all_below, count_below, list_below}, Choice.{ite, both}, Refusal.{number_of, met, unless}}
use Rattle.messages.specs.Sends.{Message, cast_below, cast_of, proceeds_to, messages_of, no_cast, no_sends}
use Rattle.tables.specs.{Form.{entry_ok, line_ok, hold_ok, quiet_ok, unknown_ok, history_ok}, Lines.{joined, leading, leaving, without}}
use Rattle.tables.specs.{Marks.{has_w, reaches_w, has_r, among, marks, enough, is_other, only_place}, Places.{w_at, line_at}}
use Rattle.events.specs.{Events.{Answer, rule, refused_by, looked_at, happens}, Look.{look_writing, look_second, look_first, look_as, look}}
use Rattle.events.specs.Rules.{value_of, learned, spread, write_rule, read_rule, reached, take, take_held, released, take_rule, hold_rule, read_from_rule, proceed_rule}
use Rattle.events.specs.declared.{Finished.TheVariants.{Wrote, Gave}, Done.Done}
use Rattle.form.specs.{Form.{fits, is_panel, at_writer, place_with, place_ok, operation_ok, in_form, empty_line, fresh, idle}, declared.Tables.Tables}
use Rattle.refusals.specs.Refusals.{Event, is_peer, right_bit, too_high, stray, line_full, first_trials, peer_trials, write_trials, read_trials, write_from_trials, read_from_trials, proceed_from_trials, trials}
use Rattle.refusals.specs.Refusals.Event.{write, read, write_from, read_from, proceed_from}

answered : Answer → List ℕ
answered (Err r) = 0 ∷ number_of r ∷ []
answered (Ok None) = 1 ∷ []
answered (Ok (Some (Wrote x))) = 2 ∷ x.0 ∷ []
answered (Ok (Some (Gave x v))) = 3 ∷ x.0 ∷ v ∷ []

flat : List Message → List ℕ
flat [] = []
flat (m ∷ ms) = m.to ∷ m.kind ∷ m.value ∷ flat ms

said : Done → List ℕ
said d = answered d.answer ++ flat (messages_of d.sends)

run : Tables → List Event → Tables
run p [] = p
run p (e ∷ es) = run (happens p 107 e).tables es

-- how many READs of the peer at place k wait, and the first one's sn
waiting : Tables → ℕ → List ℕ
waiting p k = (line_at p.lines k).len ∷ w_at (line_at p.lines k).sn 0 ∷ []

after : ℕ → ℕ → ℕ → ℕ → List Event → Event → List ℕ
after n t w i es e = said (happens (run (fresh n t w i 700) es) 107 e)

values : List (List ℕ)
unfolding answered flat said run waiting after ite both one_if all_below count_below list_below met unless cast_below cast_of proceeds_to messages_of no_cast no_sends has_w reaches_w has_r among marks enough is_other only_place entry_ok line_ok hold_ok quiet_ok unknown_ok history_ok joined leading leaving without fits is_panel place_with at_writer place_ok operation_ok in_form empty_line fresh value_of learned spread write_rule read_rule reached take take_held released take_rule hold_rule read_from_rule proceed_rule look_writing look_second look_first look_as look is_peer idle right_bit too_high stray line_full first_trials peer_trials write_trials read_trials write_from_trials read_from_trials proceed_from_trials trials rule refused_by looked_at happens
values =
    -- P "n=1, t=0: a write and a read each finish in their own start"
    after 1 0 1 1 [] (write 650)
    ∷ after 1 0 1 1 (write 650 ∷ []) read
    -- P "The listing's step 3: panel 2 sends to 1 and 3"; an echo set before forwarding would be lost
    ∷ after 3 1 1 2 [] (write_from 1 true 650)
    -- P "Step 4 finishes write 1"
    ∷ after 3 1 1 1 (write 650 ∷ []) (write_from 2 true 650)
    -- P "Step 10 gives 650"
    ∷ after 3 1 1 3 (read ∷ write_from 1 true 650 ∷ write_from 2 true 650 ∷ []) (proceed_from 1)
    -- P "READ from 3 at panel 2 right after step 3 waits with sn 1": nothing is sent, one entry, 1
    ∷ after 3 1 1 2 (write_from 1 true 650 ∷ []) (read_from 3)
    ∷ waiting (run (fresh 3 1 1 2 700) (write_from 1 true 650 ∷ read_from 3 ∷ [])) 2
    -- P "the WRITE1 from 3 then sends one PROCEED"
    ∷ after 3 1 1 2 (write_from 1 true 650 ∷ read_from 3 ∷ []) (write_from 3 true 650)
    -- Overtaking: "write B goes to 3 only"
    ∷ after 3 1 1 1 (write 10 ∷ write_from 3 true 10 ∷ []) (write 20)
    -- "WRITE0 2→1 is held and sends nothing"
    ∷ after 3 1 1 1 (write 10 ∷ write_from 3 true 10 ∷ write 20 ∷ []) (write_from 2 false 20)
    -- P "WRITE1 2→1 then sends one WRITE0 to 2 and finishes write 2"
    ∷ after 3 1 1 1 (write 10 ∷ write_from 3 true 10 ∷ write 20 ∷ write_from 2 false 20 ∷ []) (write_from 2 true 10)
    -- P "PROCEED at a panel that has read nothing: 12"
    ∷ after 3 1 1 2 [] (proceed_from 1)
    -- sn is taken when the READ came, not when it is answered: one PROCEED, though value 2 is known by now
    ∷ after 3 1 1 2 (write_from 1 true 650 ∷ read_from 3 ∷ write_from 1 false 700 ∷ []) (write_from 3 true 650)
    -- a read gives value sn and not the newest: sn was 1 when the first wait ended
    ∷ after 3 0 1 2 (write_from 1 true 650 ∷ read ∷ proceed_from 1 ∷ proceed_from 3 ∷ write_from 1 false 700 ∷ []) (write_from 3 true 650)
    -- r is not cleared at a read: a late PROCEED does not count for the next one
    ∷ after 3 1 1 2 (read ∷ proceed_from 1 ∷ read ∷ []) (proceed_from 3)
    -- a lagging peer gets its next value and not the newest
    ∷ after 3 1 1 1 (write 10 ∷ write_from 3 true 10 ∷ write 20 ∷ write_from 3 false 20 ∷ write 30 ∷ []) (write_from 2 true 10)
    -- "The writer reads like any other panel": it waits, and its READs carry no value
    ∷ after 3 1 1 1 [] read
    -- a read before any write gives number 0 and the initial value
    ∷ after 3 1 1 2 (read ∷ []) (proceed_from 1)
    -- 7: a read while writing, a write while reading
    ∷ after 3 1 1 1 (write 650 ∷ []) read
    ∷ after 3 1 1 1 (read ∷ []) (write 650)
    -- the held WRITE is treated before READs leave
    ∷ after 3 1 1 2 (write_from 1 true 10 ∷ write_from 1 false 20 ∷ read_from 3 ∷ write_from 3 false 20 ∷ []) (write_from 3 true 10)
    ∷ []

shown :
    values ≡
    (2 ∷ 1 ∷ [])
    ∷ (3 ∷ 1 ∷ 650 ∷ [])
    ∷ (1 ∷ 1 ∷ 1 ∷ 650 ∷ 3 ∷ 1 ∷ 650 ∷ [])
    ∷ (2 ∷ 1 ∷ [])
    ∷ (3 ∷ 1 ∷ 650 ∷ [])
    ∷ (1 ∷ [])
    ∷ (1 ∷ 1 ∷ [])
    ∷ (1 ∷ 3 ∷ 3 ∷ 0 ∷ [])
    ∷ (1 ∷ 3 ∷ 0 ∷ 20 ∷ [])
    ∷ (1 ∷ [])
    ∷ (2 ∷ 2 ∷ 2 ∷ 0 ∷ 20 ∷ [])
    ∷ (0 ∷ 12 ∷ [])
    ∷ (1 ∷ 3 ∷ 0 ∷ 700 ∷ 3 ∷ 3 ∷ 0 ∷ [])
    ∷ (3 ∷ 1 ∷ 650 ∷ 3 ∷ 0 ∷ 700 ∷ [])
    ∷ (1 ∷ [])
    ∷ (1 ∷ 2 ∷ 0 ∷ 20 ∷ [])
    ∷ (1 ∷ 2 ∷ 2 ∷ 0 ∷ 3 ∷ 2 ∷ 0 ∷ [])
    ∷ (3 ∷ 0 ∷ 700 ∷ [])
    ∷ (0 ∷ 7 ∷ [])
    ∷ (0 ∷ 7 ∷ [])
    ∷ (1 ∷ 3 ∷ 0 ∷ 20 ∷ 3 ∷ 3 ∷ 0 ∷ [])
    ∷ []
unfolding values
shown = refl
