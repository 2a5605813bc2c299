-- Runs of a station, which show that what the theorems speak of happens. A unit is heard, its J0.0 and its PPLI are taken and its traffic is
-- passed; it is held at 59 seconds and gone at 60, by a station made with 60. At level 4 on both sides the same J0.0 leaves the station Coarse,
-- and traffic is not passed. From there two timing replies, which is the station's number of exchanges, make it Fine; one before the J0.0 and an
-- interrogation do not count. By the maker without a limit a unit is held at 95 seconds and gone at 96.
use Rattle.std.specs.Prelude.{ℕ, ◌*◌, ◌≡◌, List, [], ◌∷◌, ◌++◌, replicate}
use Rattle.pdu.specs.Forms.{bytes_of}
use Rattle.pdu.specs.declared.Header.{Header}
use Rattle.pdu.specs.declared.Reading.TheVariants.{Transmitter, Signal}
use Rattle.station.specs.Units.{count_of, id_of, state_of, settings_of, usual_settings, made}
use Rattle.station.specs.Runs.{Call, datagram, time, after, answers}
use Rattle.station.specs.declared.State.TheVariants.{Coarse, Fine}
use Rattle.station.specs.declared.Station.{Station}

abbrev pub header : Header
header = record { version = 6; exercise = 1; timestamp = 0; status = 0; site = 1; application = 2; entity = 3; radio = 4 }

-- a Transmitter that is fine, of this level, with ID 9
abbrev pub unit : ℕ → Call
unit level =
    datagram
    (bytes_of (Transmitter (record {
      header = header;
      entity = record { kind = 0; domain = 0; country = 0; version = 0; nomenclature = 0; state = 0 };
      antenna = record { x = 0; y = 0; z = 0; dx = 0; dy = 0; dz = 0; pattern = 0 };
      emission = record { frequency = 0; bandwidth = 0; power = 0; spread = 0; crypto = 0; key = 0 };
      sync = record { level = level; primary = 1; secondary = 0; state = 3; id = 9 };
    })) [])

-- a type 0 Signal of that unit on net 5 with one initial word of this label
abbrev pub say : ℕ → Call
say label =
    datagram
    (bytes_of (Signal (record {
      header = header;
      encoding = 0;
      rate = 0;
      samples = 0;
      network = record { npg = 0; net = 5; tsec = 255; msec = 255; message_type = 0; slot = 0; epoch = 0; time = 0 };
    }) 16) (replicate 15 0 ++ (label * 4 ∷ [])))

-- a message of that unit in round-trip timing: 1 an interrogation, 2 a reply
abbrev pub timing : ℕ → Call
timing type =
    datagram
    (bytes_of (Signal (record {
      header = header;
      encoding = 0;
      rate = 0;
      samples = 0;
      network = record { npg = 0; net = 5; tsec = 255; msec = 255; message_type = type; slot = 0; epoch = 0; time = 0 };
    }) 6) (replicate 6 0))

abbrev pub first_run : List Call
first_run = say 0 ∷ unit 3 ∷ say 3 ∷ say 0 ∷ say 2 ∷ say 3 ∷ time 59 ∷ say 3 ∷ time 60 ∷ say 3 ∷ time 59 ∷ []

abbrev pub second_run : List Call
second_run = unit 4 ∷ say 0 ∷ say 2 ∷ say 3 ∷ unit 4 ∷ []

abbrev pub third_run : List Call
third_run = unit 4 ∷ timing 2 ∷ say 0 ∷ timing 2 ∷ timing 1 ∷ timing 2 ∷ timing 2 ∷ []

abbrev pub fourth_run : List Call
fourth_run = unit 3 ∷ time 95 ∷ say 3 ∷ time 96 ∷ say 3 ∷ []

-- a station made with a limit of 60 seconds, and one of the maker without a limit
abbrev pub sixty : Station
sixty = (made (settings_of 4 5 2 60)).station

abbrev pub usual : Station
usual = (made (usual_settings 4 5 2)).station

-- the answers of each run, and the state that it ends in
pub record ExampleRuns : Type 0 where
  pub first_answers : answers sixty first_run ≡ 31 ∷ 40 ∷ 35 ∷ 42 ∷ 43 ∷ 44 ∷ 46 ∷ 44 ∷ 46 ∷ 31 ∷ 36 ∷ []
  pub first_state : state_of (after sixty first_run) ≡ Fine
  pub first_id : id_of (after sixty first_run) ≡ 9
  pub second_answers : answers sixty second_run ≡ 40 ∷ 42 ∷ 43 ∷ 35 ∷ 41 ∷ []
  pub second_state : state_of (after sixty second_run) ≡ Coarse
  pub third_answers : answers sixty third_run ≡ 40 ∷ 44 ∷ 42 ∷ 47 ∷ 44 ∷ 47 ∷ 44 ∷ []
  pub third_state : state_of (after sixty third_run) ≡ Fine
  pub third_count : count_of (after sixty third_run) ≡ 2
  pub fourth_answers : answers usual fourth_run ≡ 40 ∷ 46 ∷ 35 ∷ 46 ∷ 31 ∷ []
