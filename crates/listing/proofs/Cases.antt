-- Computed: the description's listing, byte for byte; an empty input, and where the listing ends or goes on after a refusal.
-- Assumes nothing.
use mathlib.Core.{List.{List, [], ◌∷◌, ◌++◌, map}, Path.{◌≡◌, refl}}
use Prim.Native.Nat.{ℕ}
use Rattle.basics.specs.{Below.{one_if, all_below, count_below, list_below}, Choice.{ite, both, some_or}, Refusal.{met, unless}}
use Rattle.codec.specs.{Items.{total, size_of, numbers_at, item_at}, Numbers.number_at}
use Rattle.schedule.specs.Records.{singles, carries, row, records, single, value_behind, record_of, refusal_of, refusing, answered, reading}
use Rattle.text.specs.Text.{first_line, dec, first_panel, second_panel, panel_text, result_text, fields, spaced, line_text}
use Rattle.text.specs.Text as text
use Rattle.messages.specs.Sends.{cast_below, cast_of, proceeds_to, messages_of, no_cast, no_sends}
use Rattle.tables.specs.{Form.{entry_ok, line_ok, hold_ok, quiet_ok, unknown_ok, history_ok}, Lines.{leaving, without}}
use Rattle.tables.specs.Marks.{has_w, reaches_w, has_r, is_other, among, marks, only_place, enough}
use Rattle.tables.specs.Lines as lines
use Rattle.form.specs.Form.{fits, is_panel, at_writer, operation_ok, in_form, empty_line, fresh}
use Rattle.form.specs.Form as form
use Rattle.unused.specs.Unused.{entry_zero, value_zero, line_unused, history_unused, place_unused, idle, unused}
use Rattle.unused.specs.Unused as zero
use Rattle.refusals.specs.Refusals.{is_peer, right_bit, too_high, stray, line_full, first_trials, peer_trials, write_from_trials, read_from_trials, proceed_from_trials, trials}
use Rattle.refusals.specs.Refusals as panels
use Rattle.events.specs.{Asked.sn_of, Events.{rule, refused_by, looked_at, happens}, Look.{look_writing, look_second, look_first, look_as, look}}
use Rattle.events.specs.Rules.{value_of, learned, spread, write_rule, read_rule, reached, take, take_held, released, take_rule, hold_rule, read_from_rule, proceed_rule}
use Rattle.panel.specs.Calls.{next_of, after, nothing, made, set_up_trials}
use Rattle.channels.specs.Channels.{by_kind, in_flight, has, value_in, room, less, slot_ok, channel_ok, channel_empty, leads, row_place_ok, row_ok, empty_row}
use Rattle.channels.specs.Posting.{with_channel, fits_in, post, posts, posted_all, taken}
use Rattle.channels.specs.Channels as channels
use Rattle.protocol.specs.Counts.{sum_below, panel_load, out_load, load}
use Rattle.promise.specs.View.{view_of, code_of}
use Rattle.house.specs.NetForm.{may_be_down, downs_in, member_with, channels_ok, net_form}
use Rattle.house.specs.Search.{live, first_below, spot_at, of_pair, of_sender, first_in}
use Rattle.house.specs.NetForm as house
use Rattle.steps.specs.{Drain.{next_in, drain_by, drain_in, drained}, Numbers.load_of, SetUp.{fresh_network, set_up}}
use Rattle.steps.specs.Steps.{tried, is_pair, deliver_trials, lose_trials, settled, comes, write_in, read_in, deliver_in, lose_in, checked}
use Rattle.steps.specs.Steps as steps
use Rattle.listing.specs.Entries.{panels_of, noted, entry, unread, told, delivery_of, next_step, deliveries_by, drain_entries_as, stepped, entries, next, later, first_set_up, first, all}
use Rattle.listing.specs.{Listing.{text_from, whole_text, listing_of}, Reads.{if_taken, reads_from, reads_of}}

-- the listing, computed
shows : List ℕ → List ℕ
unfolding
    ite both one_if all_below count_below list_below some_or met unless number_at total size_of numbers_at item_at singles carries row records single value_behind
    record_of refusal_of refusing answered reading first_line text.leading dec first_panel second_panel panel_text result_text fields spaced line_text cast_below cast_of proceeds_to
    messages_of no_cast no_sends entry_ok line_ok hold_ok quiet_ok unknown_ok history_ok lines.joined lines.leading leaving without has_w reaches_w has_r
    is_other among marks only_place enough fits is_panel at_writer form.place_with form.place_ok operation_ok in_form empty_line fresh entry_zero
    value_zero line_unused history_unused zero.place_with place_unused idle unused is_peer right_bit too_high stray line_full first_trials
    peer_trials panels.write_trials panels.read_trials write_from_trials read_from_trials proceed_from_trials trials sn_of value_of learned spread
    write_rule read_rule reached take take_held released take_rule hold_rule read_from_rule proceed_rule look_writing look_second look_first look_as look
    rule refused_by looked_at happens next_of after nothing made set_up_trials by_kind in_flight has value_in room channels.joined less slot_ok channel_ok
    channel_empty leads row_place_ok row_ok empty_row with_channel fits_in post posts posted_all taken sum_below panel_load out_load load view_of code_of
    may_be_down downs_in member_with house.place_ok channels_ok net_form live first_below spot_at of_pair of_sender first_in tried is_pair steps.write_trials
    steps.read_trials deliver_trials lose_trials settled comes write_in read_in deliver_in lose_in checked load_of next_in drain_by drain_in drained
    fresh_network set_up if_taken reads_from reads_of panels_of noted entry unread told delivery_of next_step deliveries_by drain_entries_as stepped entries
    next later first_set_up first all text_from whole_text listing_of
shows bytes = listing_of bytes

-- `00 03 01 01 00 00 02 BC`, `01 00 00 02 8A`, `04 01 02`, `04 02 01`, `02 03`, `08`
pub schedule : List ℕ
schedule =
    0 ∷ 3 ∷ 1 ∷ 1 ∷ 0 ∷ 0 ∷ 2 ∷ 188
    ∷ 1 ∷ 0 ∷ 0 ∷ 2 ∷ 138
    ∷ 4 ∷ 1 ∷ 2
    ∷ 4 ∷ 2 ∷ 1
    ∷ 2 ∷ 3
    ∷ 8
    ∷ []

pub shown : List ℕ
shown =
    115 ∷ 116 ∷ 101 ∷ 112 ∷ 32 ∷ 107 ∷ 105 ∷ 110 ∷ 100 ∷ 32 ∷ 97 ∷ 32 ∷ 98 ∷ 32 ∷ 97 ∷ 110 ∷ 115 ∷ 119 ∷ 101 ∷ 114 ∷ 32 ∷ 114 ∷ 101 ∷ 115 ∷ 117 ∷ 108 ∷ 116 ∷ 10
    ∷ 49 ∷ 32 ∷ 48 ∷ 32 ∷ 45 ∷ 32 ∷ 45 ∷ 32 ∷ 48 ∷ 32 ∷ 45 ∷ 10
    ∷ 50 ∷ 32 ∷ 49 ∷ 32 ∷ 45 ∷ 32 ∷ 45 ∷ 32 ∷ 48 ∷ 32 ∷ 45 ∷ 10
    ∷ 51 ∷ 32 ∷ 52 ∷ 32 ∷ 49 ∷ 32 ∷ 50 ∷ 32 ∷ 48 ∷ 32 ∷ 45 ∷ 10
    ∷ 52 ∷ 32 ∷ 52 ∷ 32 ∷ 50 ∷ 32 ∷ 49 ∷ 32 ∷ 48 ∷ 32 ∷ 119 ∷ 49 ∷ 10
    ∷ 53 ∷ 32 ∷ 50 ∷ 32 ∷ 51 ∷ 32 ∷ 45 ∷ 32 ∷ 48 ∷ 32 ∷ 45 ∷ 10
    ∷ 54 ∷ 32 ∷ 52 ∷ 32 ∷ 49 ∷ 32 ∷ 51 ∷ 32 ∷ 48 ∷ 32 ∷ 45 ∷ 10
    ∷ 55 ∷ 32 ∷ 52 ∷ 32 ∷ 50 ∷ 32 ∷ 51 ∷ 32 ∷ 48 ∷ 32 ∷ 45 ∷ 10
    ∷ 56 ∷ 32 ∷ 52 ∷ 32 ∷ 51 ∷ 32 ∷ 49 ∷ 32 ∷ 48 ∷ 32 ∷ 45 ∷ 10
    ∷ 57 ∷ 32 ∷ 53 ∷ 32 ∷ 51 ∷ 32 ∷ 49 ∷ 32 ∷ 48 ∷ 32 ∷ 45 ∷ 10
    ∷ 49 ∷ 48 ∷ 32 ∷ 54 ∷ 32 ∷ 49 ∷ 32 ∷ 51 ∷ 32 ∷ 48 ∷ 32 ∷ 114 ∷ 54 ∷ 53 ∷ 48 ∷ 10
    ∷ 49 ∷ 49 ∷ 32 ∷ 52 ∷ 32 ∷ 51 ∷ 32 ∷ 50 ∷ 32 ∷ 48 ∷ 32 ∷ 45 ∷ 10
    ∷ 49 ∷ 50 ∷ 32 ∷ 53 ∷ 32 ∷ 51 ∷ 32 ∷ 50 ∷ 32 ∷ 48 ∷ 32 ∷ 45 ∷ 10
    ∷ 49 ∷ 51 ∷ 32 ∷ 54 ∷ 32 ∷ 50 ∷ 32 ∷ 51 ∷ 32 ∷ 48 ∷ 32 ∷ 45 ∷ 10
    ∷ 49 ∷ 52 ∷ 32 ∷ 56 ∷ 32 ∷ 45 ∷ 32 ∷ 45 ∷ 32 ∷ 48 ∷ 32 ∷ 100 ∷ 56 ∷ 10
    ∷ []

listing-shown : shows schedule ≡ shown
unfolding shows schedule shown
listing-shown = refl

pub sample-listed : listing_of schedule ≡ shown
unfolding shows
sample-listed = listing-shown

schedules : List (List ℕ)
schedules =
    []
    ∷ (0 ∷ 0 ∷ 0 ∷ 1 ∷ 0 ∷ 0 ∷ 0 ∷ 0 ∷ 8 ∷ [])
    ∷ (255 ∷ 8 ∷ [])
    ∷ (0 ∷ 3 ∷ 1 ∷ [])
    ∷ (4 ∷ 1 ∷ 2 ∷ 8 ∷ [])
    ∷ (0 ∷ 3 ∷ 1 ∷ 1 ∷ 0 ∷ 0 ∷ 2 ∷ 188 ∷ 9 ∷ 8 ∷ [])
    ∷ (0 ∷ 3 ∷ 1 ∷ 1 ∷ 0 ∷ 0 ∷ 2 ∷ 188 ∷ 3 ∷ 1 ∷ [])
    ∷ (0 ∷ 3 ∷ 1 ∷ 1 ∷ 0 ∷ 0 ∷ 2 ∷ 188 ∷ 0 ∷ 9 ∷ 0 ∷ 1 ∷ 0 ∷ 0 ∷ 0 ∷ 0 ∷ 8 ∷ [])
    ∷ (0 ∷ 3 ∷ 1 ∷ 1 ∷ 0 ∷ 0 ∷ 2 ∷ 188 ∷ 2 ∷ 255 ∷ 7 ∷ 2 ∷ 7 ∷ 3 ∷ [])
    ∷ []

texts : List (List ℕ)
texts =
    -- an empty input: the first line alone
    []
    -- 1 ends the listing (n is 0): `1 0 - - 1 -`
    ∷ (49 ∷ 32 ∷ 48 ∷ 32 ∷ 45 ∷ 32 ∷ 45 ∷ 32 ∷ 49 ∷ 32 ∷ 45 ∷ 10 ∷ [])
    -- 15 at first, with the kind byte as it stands: `1 255 - - 15 -`
    ∷ (49 ∷ 32 ∷ 50 ∷ 53 ∷ 53 ∷ 32 ∷ 45 ∷ 32 ∷ 45 ∷ 32 ∷ 49 ∷ 53 ∷ 32 ∷ 45 ∷ 10 ∷ [])
    -- 16 at first (a body cut short): `1 0 - - 16 -`
    ∷ (49 ∷ 32 ∷ 48 ∷ 32 ∷ 45 ∷ 32 ∷ 45 ∷ 32 ∷ 49 ∷ 54 ∷ 32 ∷ 45 ∷ 10 ∷ [])
    -- 17 at first, with its panels: `1 4 1 2 17 -`
    ∷ (49 ∷ 32 ∷ 52 ∷ 32 ∷ 49 ∷ 32 ∷ 50 ∷ 32 ∷ 49 ∷ 55 ∷ 32 ∷ 45 ∷ 10 ∷ [])
    -- 15 later: `1 0 - - 0 -`, `2 9 - - 15 -`
    ∷ (49 ∷ 32 ∷ 48 ∷ 32 ∷ 45 ∷ 32 ∷ 45 ∷ 32 ∷ 48 ∷ 32 ∷ 45 ∷ 10
    ∷ 50 ∷ 32 ∷ 57 ∷ 32 ∷ 45 ∷ 32 ∷ 45 ∷ 32 ∷ 49 ∷ 53 ∷ 32 ∷ 45 ∷ 10 ∷ [])
    -- 16 later: `1 0 - - 0 -`, `2 3 - - 16 -`
    ∷ (49 ∷ 32 ∷ 48 ∷ 32 ∷ 45 ∷ 32 ∷ 45 ∷ 32 ∷ 48 ∷ 32 ∷ 45 ∷ 10
    ∷ 50 ∷ 32 ∷ 51 ∷ 32 ∷ 45 ∷ 32 ∷ 45 ∷ 32 ∷ 49 ∷ 54 ∷ 32 ∷ 45 ∷ 10 ∷ [])
    -- 17 later, though n is 9, and the listing goes on; a drain with nothing to deliver: `1 0 - - 0 -`, `2 0 - - 17 -`, `3 8 - - 0 d0`
    ∷ (49 ∷ 32 ∷ 48 ∷ 32 ∷ 45 ∷ 32 ∷ 45 ∷ 32 ∷ 48 ∷ 32 ∷ 45 ∷ 10
    ∷ 50 ∷ 32 ∷ 48 ∷ 32 ∷ 45 ∷ 32 ∷ 45 ∷ 32 ∷ 49 ∷ 55 ∷ 32 ∷ 45 ∷ 10
    ∷ 51 ∷ 32 ∷ 56 ∷ 32 ∷ 45 ∷ 32 ∷ 45 ∷ 32 ∷ 48 ∷ 32 ∷ 100 ∷ 48 ∷ 10 ∷ [])
    -- a panel's number as given, and `-` as the result of what is refused: `1 0 - - 0 -`, `2 2 255 - 4 -`, `3 7 2 - 0 -`, `4 7 3 - 10 -`
    ∷ (49 ∷ 32 ∷ 48 ∷ 32 ∷ 45 ∷ 32 ∷ 45 ∷ 32 ∷ 48 ∷ 32 ∷ 45 ∷ 10
    ∷ 50 ∷ 32 ∷ 50 ∷ 32 ∷ 50 ∷ 53 ∷ 53 ∷ 32 ∷ 45 ∷ 32 ∷ 52 ∷ 32 ∷ 45 ∷ 10
    ∷ 51 ∷ 32 ∷ 55 ∷ 32 ∷ 50 ∷ 32 ∷ 45 ∷ 32 ∷ 48 ∷ 32 ∷ 45 ∷ 10
    ∷ 52 ∷ 32 ∷ 55 ∷ 32 ∷ 51 ∷ 32 ∷ 45 ∷ 32 ∷ 49 ∷ 48 ∷ 32 ∷ 45 ∷ 10 ∷ [])
    ∷ []

others-shown : map shows schedules ≡ map (λ (text : List ℕ). first_line ++ text) texts
unfolding shows schedules texts
others-shown = refl
