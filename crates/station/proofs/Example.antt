-- The runs of the example end as it says: the checker computes them.
-- Assumes nothing.
use mathlib.Core.Path.{refl}
use Rattle.occupancy.specs.Places.{least, word_of}
use Rattle.pdu.specs.Rules.{wrong_version, wrong_status, wrong_sync, access_rules, slot_rules, network_rules, live_rules, body_rules, inner_rules}
use Rattle.pdu.specs.Reading.{transmitter_of, signal_of, content, wrong_type, wrong_length, wrong_fixed, wrong_records, wrong_bits, start_rules}
use Rattle.pdu.specs.Reading.{transmitter_layout, signal_layout, reading_rules, refusal, reading}
use Rattle.pdu.specs.Words.{word_at}
use Rattle.pdu.specs.Tables.{body_slots}
use Rattle.pdu.specs.Forms.{bytes_of}
use Rattle.station.specs.Units.{fresh, made, place_of}
use Rattle.station.specs.Hearing.{enter, renew, heard_transmitter, other_id, signal_rules as station_rules, labelled, word_saying, message_of, after_j00}
use Rattle.station.specs.Hearing.{after_ppli, heard_message, heard_signal, step, heard}
use Rattle.station.specs.Clock.{at_time, clocked}
use Rattle.station.specs.Example.{ExampleRuns}

pub runs : ExampleRuns
unfolding body_slots bytes_of word_at wrong_version wrong_sync access_rules slot_rules network_rules live_rules body_rules inner_rules transmitter_of signal_of
    content
    wrong_type wrong_length
    wrong_fixed wrong_records wrong_status wrong_bits start_rules transmitter_layout signal_layout reading_rules refusal reading
    least word_of fresh made place_of enter
    renew heard_transmitter other_id station_rules labelled word_saying message_of after_j00 after_ppli heard_message
    heard_signal step heard at_time clocked
runs = record {
  first_answers = refl;
  first_state = refl;
  first_id = refl;
  second_answers = refl;
  second_state = refl;
  third_answers = refl;
  third_state = refl;
  third_count = refl;
  fourth_answers = refl;
}
