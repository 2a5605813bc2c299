-- Every starred case of document 01 holds, all in one statement: the checker computes each row of the table.
-- Assumes nothing.
use mathlib.Core.Path.{◌≡◌, refl}
use mathlib.Core.Bool.{true}
use Rattle.occupancy.specs.Places.{least, count, word_of}
use Rattle.pdu.specs.Refusals.{named}
use Rattle.pdu.specs.Rules.{wrong_version, wrong_sync, access_rules, slot_rules, network_rules, live_rules, body_rules, inner_rules}
use Rattle.pdu.specs.Reading.{transmitter_of, signal_of, content, wrong_type, wrong_length, wrong_fixed, wrong_records, wrong_bits, start_rules}
use Rattle.pdu.specs.Reading.{transmitter_layout, signal_layout, reading_rules, refusal, reading}
use Rattle.station.specs.Units.{fresh, made, place_of}
use Rattle.station.specs.Hearing.{enter, renew, heard_transmitter, step, heard}
use Rattle.station.specs.Clock.{at_time, clocked}
use Rattle.edges.specs.Cases.{all_hold, starred_cases}

pub starred : all_hold starred_cases ≡ true
unfolding wrong_version wrong_sync access_rules slot_rules network_rules live_rules body_rules inner_rules transmitter_of signal_of content
    wrong_type wrong_length
    wrong_fixed wrong_records wrong_bits start_rules transmitter_layout signal_layout reading_rules refusal reading
    fresh made place_of enter renew heard_transmitter step heard at_time clocked least count word_of named
starred = refl
