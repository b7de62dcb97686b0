-- The definitions that cases compute with, layer by layer. A claim over spared cases says `unfolding opened`; one that has a network
-- tested for form says `unfolding opened-whole`.
-- Assumes nothing.
use Rattle.basics.specs.{Below.{one_if, all_below, count_below, list_below}, Choice.{ite, some_or, both}, Refusal.{met, unless}}
use Rattle.messages.specs.{Area.{laid, laid_in, room_of}, Sends.{cast_below, cast_of, proceeds_to, messages_of, no_cast, no_sends}}
use Rattle.tables.specs.{Form.{entry_ok, line_ok, hold_ok, quiet_ok, unknown_ok, history_ok}, Lines.{joined, leading, leaving, without}}
use Rattle.tables.specs.Marks.{has_w, reaches_w, has_r, among, marks, enough, is_other, only_place}
use Rattle.channels.specs.Channels as channel
use Rattle.channels.specs.Posting.{with_channel, fits_in, post, posts, posted_all, taken}
use Rattle.form.specs.Form as form
use Rattle.unused.specs.Unused as unused
use Rattle.refusals.specs.Refusals as refusal
use Rattle.events.specs.{Events.{rule, refused_by, looked_at, happens}, Look.{look_writing, look_second, look_first, look_as, look}}
use Rattle.events.specs.Rules.{value_of, learned, spread, write_rule, read_rule, reached, take, take_held, released, take_rule, hold_rule, read_from_rule, proceed_rule}
use Rattle.panel.specs.Calls as panel
use Rattle.protocol.specs.Counts.{sum_below, panel_load, out_load, load}
use Rattle.promise.specs.View.{view_of, code_of}
use Rattle.house.specs.NetForm as net
use Rattle.house.specs.Search.{live, first_below, spot_at, of_pair, of_sender, first_in}
use Rattle.steps.specs.{Drain.{next_in, drain_by, drain_in, drained}, Numbers.load_of, SetUp.{fresh_network, set_up}}
use Rattle.steps.specs.Steps as step
use Rattle.runs.specs.Runs as run
use Rattle.runs.specs.Claims.{most_deliveries}
use Rattle.claims.specs.Shown as shown
use Rattle.claims.specs.Noted.{told, noted, start, lone, values_of}
use Rattle.claims.proofs.Spared.{once_of, once_drained, once_in, after_in, entries_in, noted_in, spared_of, spared}

basics-opened : Unit {0}
unfolding ite some_or both one_if all_below count_below list_below met unless
basics-opened = tt

messages-opened : Unit {0}
unfolding cast_below cast_of proceeds_to messages_of no_cast no_sends laid laid_in room_of
messages-opened = tt

tables-opened : Unit {0}
unfolding has_w reaches_w has_r among marks enough is_other only_place entry_ok line_ok hold_ok quiet_ok unknown_ok history_ok joined leading leaving without
tables-opened = tt

channels-opened : Unit {0}
unfolding channel.by_kind channel.in_flight channel.has channel.value_in channel.room channel.joined channel.less channel.empty_row
channels-opened = tt

posting-opened : Unit {0}
unfolding with_channel fits_in post posts posted_all taken
posting-opened = tt

form-opened : Unit {0}
unfolding form.fits form.is_panel form.at_writer form.place_with form.place_ok form.operation_ok form.idle form.in_form form.empty_line form.fresh
form-opened = tt

tests-opened : Unit {0}
unfolding refusal.is_peer refusal.right_bit refusal.too_high refusal.stray refusal.line_full refusal.trials
tests-opened = tt

trials-opened : Unit {0}
unfolding refusal.first_trials refusal.peer_trials refusal.write_trials refusal.read_trials refusal.write_from_trials refusal.read_from_trials refusal.proceed_from_trials
trials-opened = tt

rules-opened : Unit {0}
unfolding value_of learned spread write_rule read_rule reached take take_held released take_rule hold_rule read_from_rule proceed_rule
rules-opened = tt

events-opened : Unit {0}
unfolding look_writing look_second look_first look_as look rule refused_by looked_at happens
events-opened = tt

panel-opened : Unit {0}
unfolding panel.next_of panel.after panel.told panel.called panel.nothing panel.set_up_trials panel.made
panel-opened = tt

search-opened : Unit {0}
unfolding live first_below spot_at of_pair of_sender first_in net.may_be_down net.downs_in
search-opened = tt

steps-opened : Unit {0}
unfolding fresh_network set_up code_of step.tried step.is_pair step.write_trials step.read_trials step.deliver_trials step.lose_trials step.settled step.comes
steps-opened = tt

drain-opened : Unit {0}
unfolding step.write_in step.read_in step.deliver_in step.lose_in next_in drain_by drain_in sum_below panel_load out_load load view_of load_of
drain-opened = tt

runs-opened : Unit {0}
unfolding run.did run.emptied run.is_write run.is_read run.writes run.reads run.deliveries most_deliveries
runs-opened = tt

shown-opened : Unit {0}
unfolding shown.answered shown.counted shown.times shown.flying_in shown.flying_to shown.flying_below shown.flying_from shown.line_of shown.drain_lines
shown-opened = tt

places-opened : Unit {0}
unfolding shown.value_held shown.held_at shown.sns_of shown.waiting_at shown.operation shown.doing_at shown.totals
places-opened = tt

spared-opened : Unit {0}
unfolding start lone values_of once_of once_drained once_in after_in entries_in noted_in spared_of spared
spared-opened = tt

one-panel-opened : Unit {0}
unfolding basics-opened messages-opened tables-opened form-opened tests-opened trials-opened rules-opened events-opened panel-opened
one-panel-opened = tt

unfoldable pub opened : Unit {0}
unfolding one-panel-opened channels-opened posting-opened search-opened steps-opened drain-opened runs-opened shown-opened places-opened spared-opened
opened = tt

-- ---- with the test for form

rows-opened : Unit {0}
unfolding channel.slot_ok channel.channel_ok channel.channel_empty channel.leads channel.row_place_ok channel.row_ok
rows-opened = tt

unused-opened : Unit {0}
unfolding unused.entry_zero unused.value_zero unused.line_unused unused.history_unused unused.place_with unused.place_unused unused.idle unused.unused
unused-opened = tt

house-opened : Unit {0}
unfolding net.member_with net.place_ok net.channels_ok net.net_form step.checked drained
house-opened = tt

unfoldable pub opened-whole : Unit {0}
unfolding opened rows-opened unused-opened house-opened told noted run.does run.after
opened-whole = tt
