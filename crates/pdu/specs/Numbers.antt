-- The numbers of document 01 that a table or a rule uses, each named once.
use Rattle.std.specs.Prelude.{ℕ}

-- "Bytes 0 to 19, both PDUs": PDU types, family, the versions (02, R-9: 7 too), and the bytes that the first rules look at (refusal 1)
abbrev pub transmitter_type : ℕ
transmitter_type = 25

abbrev pub signal_type : ℕ
signal_type = 26

abbrev pub radio_family : ℕ
radio_family = 4

abbrev pub older_version : ℕ
older_version = 5

abbrev pub newer_version : ℕ
newer_version = 6

abbrev pub status_version : ℕ
status_version = 7

abbrev pub shortest : ℕ
shortest = 12

-- "Transmitter, 112 bytes": its size, the least length of refusal 4, and its fields of one allowed value
abbrev pub transmitter_size : ℕ
transmitter_size = 112

abbrev pub transmitter_least : ℕ
transmitter_least = 104

abbrev pub category : ℕ
category = 21

abbrev pub input_source : ℕ
input_source = 8

abbrev pub pattern_length : ℕ
pattern_length = 0

abbrev pub major : ℕ
major = 7

abbrev pub detail : ℕ
detail = 0

abbrev pub system : ℕ
system = 8

abbrev pub modulation_length : ℕ
modulation_length = 8

-- 02, R-9: the variable parameter records that a Transmitter of version 7 may have
abbrev pub parameter_records : ℕ
parameter_records = 0

-- bytes 104 to 111: the highest TSA level, the first level with a synchronization ID, the modes, and the two synchronization states
abbrev pub last_level : ℕ
last_level = 4

abbrev pub first_id_level : ℕ
first_id_level = 3

abbrev pub first_primary_mode : ℕ
first_primary_mode = 1

abbrev pub last_primary_mode : ℕ
last_primary_mode = 2

abbrev pub last_secondary_mode : ℕ
last_secondary_mode = 3

abbrev pub coarse : ℕ
coarse = 2

abbrev pub fine : ℕ
fine = 3

-- "Signal": the least length of refusal 4, the encoding class over its kept part, the TDL type
abbrev pub signal_least : ℕ
signal_least = 32

abbrev pub encoding_class : ℕ
encoding_class = 1

abbrev pub encoding_kept : ℕ
encoding_kept = 16384

abbrev pub tdl_type : ℕ
tdl_type = 100

-- the network header: its bytes, which are counted as data, and the highest value of each of its fields
abbrev pub network_bytes : ℕ
network_bytes = 20

abbrev pub last_npg : ℕ
last_npg = 511

abbrev pub last_net : ℕ
last_net = 127

abbrev pub last_security : ℕ
last_security = 127

abbrev pub no_security : ℕ
no_security = 255

abbrev pub last_message_type : ℕ
last_message_type = 7

-- "Slot ID": the last slot of an epoch, the last epoch, and the last slot in that (02, R-2: "49,151")
abbrev pub last_slot : ℕ
last_slot = 98303

abbrev pub last_epoch : ℕ
last_epoch = 112

abbrev pub last_slot_of_last_epoch : ℕ
last_slot_of_last_epoch = 49151

-- "Type 0 body": its header bytes, a word's bytes, the most words; and the most bytes of types 1 to 7
abbrev pub body_header : ℕ
body_header = 6

abbrev pub word_bytes : ℕ
word_bytes = 10

abbrev pub most_words : ℕ
most_words = 12

abbrev pub most_bytes : ℕ
most_bytes = 256

-- 02, R-1: the two message types of round-trip timing, and the bytes of their body (001, Tables 5.2.5 and 5.2.6)
abbrev pub interrogation : ℕ
interrogation = 1

abbrev pub timing_reply : ℕ
timing_reply = 2

abbrev pub timing_bytes : ℕ
timing_bytes = 6

-- 02, R-4: the first and the last of the message types that are retired
abbrev pub first_retired : ℕ
first_retired = 3

abbrev pub last_retired : ℕ
last_retired = 5

-- where a Signal's body starts
abbrev pub body_start : ℕ
body_start = 52
