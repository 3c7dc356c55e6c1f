-- Says nothing: `unfolding steps` opens the steps of a tick down to the parts of the board; `unfolding opened` all that a call goes
-- through, the CRC included, so that a call on a given board computes; `unfolding accounted` also the account from a history of calls.
-- Assumes nothing.
use Rattle.laws.specs.Fold.{shifted, packed}
use Rattle.crc.specs.Crc as crc
use Rattle.cabinet.specs.Cabinet as cabinet
use Rattle.classes.specs.Store as classes
use Rattle.editions.specs.Editions as editions
use Rattle.desk.specs.Desk as desk
use Rattle.events.specs.Events as events
use Rattle.events.specs.Area as area
use Rattle.guard.specs.Guard.{holds_of, waits_of, recovers_of, latched_of, guard_of}
use Rattle.guard.specs.Account.{latched_from, waits_from, remembered_from}
use Rattle.guard.specs.Table.{is, charge_off, discharge_off, faulty, latch_event, recovery_event, event_of}
use Rattle.live.specs.Live as live
use Rattle.settings.specs.Settings as settings
use Rattle.signed.specs.Signed as signed
use Rattle.statistics.specs.Statistics as statistics
use Rattle.hire.specs.Hire.{new_hire}
use Rattle.board.specs.Start.{start_board}
use Rattle.hire.specs.Tick.{readings_of, speed_and_distance_of, events_of, recorded_all, record_of, status_for, status_of, balancing_of}
use Rattle.hire.specs.Tick.{statistics_of}
use Rattle.hire.specs.Tick.{switches_of}
use Rattle.pack.specs.Pack.{new_pack, start_outcome, later_of, time_of, conditions_of}
use Rattle.board.specs.Tick.{readings_kept, time_passed, ridden, guarded, recorded, status_set, balanced, counted, switched, sensed}
use Rattle.board.specs.Tick.{watched, acted, ticked_of}
use Rattle.hire.specs.Registers.{reading_register}
use Rattle.answers.specs.Registers.{shown_at, value_at}
use Rattle.answers.specs.Answers.{body_by, payload_of, taken_reply, accepted_reply, reply_bytes, reply_by, asked_outcome}
use Rattle.refusals.specs.Refusals.{first}
use Rattle.board.specs.Handover.{handed_over}
use Rattle.replies.specs.Replies.{words, sealed, padded}
use Rattle.writes.specs.Writes.{pair_at, pairs_of, count_of, well_counted, all_settings, write_command, drafted_of}
use Rattle.requests.specs.Requests.{expected_of, length_of, address_at, all_shown, kind_of, fields_of, request_of, command_of, has_length}
use Rattle.requests.specs.Requests.{marks}
use Rattle.board.specs.Changes.{changed_by, asked_deeds}
use Rattle.receiver.specs.Receiver.{is_held, with_byte, offered_of}
use Rattle.board.specs.Calls.{shape, outcome_of, board_by, seen_of, left_of}
use Rattle.board.specs.Behaviour.{after_in, answers_in}
use Rattle.board.specs.Account.{settings_at, seconds_at, clock_at, latched_at, waits_at, remembered_at, sensed_at, window_at, status_at}
use Rattle.board.specs.Account.{decision_at, balancing_at, charge_at, discharge_at, events_at, statistics_at, heard_at, board_at, calling}
use Rattle.board.specs.Account.{deeds_of}
use Rattle.board.specs.Demands.{told, told_all}

unfoldable pub steps : Unit {0}
unfolding ticked_of sensed watched acted readings_kept time_passed ridden guarded recorded status_set balanced counted switched readings_of
    time_of speed_and_distance_of conditions_of record_of status_of balancing_of statistics_of switches_of
steps = tt

unfoldable pub opened : Unit {0}
unfolding steps first shifted packed crc.crc_of crc.byte_in crc.times crc.shifted_out events.latest events.no_events events.add_of events.sent_of
    holds_of waits_of
    recovers_of latched_of guard_of is charge_off discharge_off faulty latch_event recovery_event event_of events_of recorded_all live.bits_of
    live.speed_bits_of
    settings.of_kind settings.register_of settings.registers settings.values_of settings.settings_of settings.fits settings.is_out
    settings.in_range
    settings.ordered settings.judged_of settings.put_of settings.standing_of signed.bits_of signed.from_bits signed.degrees_of
    statistics.distance_of statistics.summed_of statistics.bill_of desk.record_bytes cabinet.register_at cabinet.filled_of
    classes.store_rows classes.records_in classes.store_of classes.record_of classes.kept_of classes.pairs_in editions.edition_of editions.spoilt
    editions.repeated editions.place_for
    statistics.counts_of statistics.temperatures_shown statistics.ridden_of statistics.counted_of statistics.cleared_at statistics.register_of
    new_hire new_pack
    start_outcome start_board later_of status_for reading_register shown_at value_at handed_over words sealed padded expected_of address_at all_shown
    pair_at pairs_of count_of
    well_counted all_settings write_command kind_of fields_of request_of command_of has_length marks drafted_of body_by payload_of taken_reply
    accepted_reply reply_by
    asked_outcome changed_by length_of is_held with_byte offered_of area.area_of area.records_in area.used_of area.parted area.is_recorded
    area.load_rows area.load_of
    asked_deeds shape outcome_of board_by seen_of left_of after_in answers_in
opened = tt

unfoldable pub accounted : Unit {0}
unfolding opened latched_from waits_from remembered_from settings_at seconds_at clock_at latched_at waits_at remembered_at sensed_at window_at status_at
    decision_at balancing_at charge_at discharge_at events_at statistics_at heard_at board_at calling deeds_of told told_all reply_bytes
accounted = tt
