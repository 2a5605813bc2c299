-- The layouts: one table for each whole PDU, in byte order, body and fill included (source 000, Tables 3 and 5; IEEE 1278.1 for the DIS header),
-- as document 01 condenses them and 02 changes them. Lengths are fixed values of the table; each struct of the record has a run of slots of its own.
use Rattle.std.specs.Prelude.{ℕ, ◌+◌, ◌-◌, ◌*◌, ◌/◌, Bool, cond, ◌||◌, List, [], ◌∷◌, ◌++◌, eqb}
use Rattle.wire.specs.Table.{Part, Slot, kept, padding, one, parts, keep, only, skip}
use Rattle.pdu.specs.Numbers

-- a size filled to a multiple of 4 (01: "filled to a multiple of 4")
abbrev pub filled : ℕ → ℕ
filled n = (n + 3) / 4 * 4

-- the size of a Signal PDU whose body has n bytes (01: "32 plus the data bytes, filled"; the network header counts as data)
abbrev pub signal_size : ℕ → ℕ
signal_size n = filled (Numbers.signal_least + (Numbers.network_bytes + n))

-- the data length in bits of a Signal whose body has n bytes
abbrev pub data_bits : ℕ → ℕ
data_bits n = 8 * (Numbers.network_bytes + n)

-- how many bytes fill a Signal with a body of n bytes
abbrev pub fill_of : ℕ → ℕ
fill_of n = signal_size n - (Numbers.body_start + n)

-- 02, R-9: whether a version is 7, on which it depends whether bytes 10, 30 and 31 are padding: the one place that decides it
abbrev pub is_seven : ℕ → Bool
is_seven version = eqb version Numbers.status_version

-- so many bits in version 7, and none before it
abbrev pub bits_in : Bool → ℕ → ℕ
bits_in seven bits = cond seven bits 0

-- byte 10 (02, R-9): the PDU status in version 7, padding before it
abbrev pub status_parts : Bool → List Part
status_parts seven = skip (8 - bits_in seven 8) ∷ keep (bits_in seven 8) ∷ []

-- bytes 30 and 31 of a Transmitter (02, R-9): in version 7 they "count variable parameter records; we take only 0", padding before it
abbrev pub records_parts : Bool → List Part
records_parts seven = skip (16 - bits_in seven 16) ∷ only (bits_in seven 16) Numbers.parameter_records ∷ []

-- 01, "Bytes 0 to 19, both PDUs", for a version that is 7 or not, the PDU type and the size given
abbrev pub header_table : Bool → ℕ → ℕ → List Slot
header_table seven type size =
    kept 1  -- 0 protocol version
    ∷ kept 1  -- 1 exercise
    ∷ one 1 type  -- 2 PDU type
    ∷ one 1 Numbers.radio_family  -- 3 family
    ∷ kept 4  -- 4 timestamp
    ∷ one 2 size  -- 8 length
    ∷ parts 1 (status_parts seven)  -- 10 status, or padding
    ∷ padding 1  -- 11
    ∷ kept 2  -- 12 site
    ∷ kept 2  -- 14 application
    ∷ kept 2  -- 16 entity
    ∷ kept 2  -- 18 radio
    ∷ []

-- 01, "Transmitter, 112 bytes": bytes 20 to 31
abbrev pub entity_table : Bool → List Slot
entity_table seven =
    kept 1  -- 20 entity kind
    ∷ kept 1  -- 21 domain
    ∷ kept 2  -- 22 country
    ∷ one 1 Numbers.category  -- 24
    ∷ kept 1  -- 25 nomenclature version
    ∷ kept 2  -- 26 nomenclature
    ∷ kept 1  -- 28 transmit state
    ∷ one 1 Numbers.input_source  -- 29
    ∷ parts 2 (records_parts seven)  -- 30 variable parameter records, or padding
    ∷ []

-- bytes 32 to 71
abbrev pub antenna_table : List Slot
antenna_table =
    kept 8  -- 32 antenna location, three numbers
    ∷ kept 8  -- 40
    ∷ kept 8  -- 48
    ∷ kept 4  -- 56 relative location, three numbers
    ∷ kept 4  -- 60
    ∷ kept 4  -- 64
    ∷ kept 2  -- 68 pattern type
    ∷ one 2 Numbers.pattern_length  -- 70
    ∷ []

-- bytes 72 to 103
abbrev pub emission_table : List Slot
emission_table =
    kept 8  -- 72 frequency
    ∷ kept 4  -- 80 bandwidth
    ∷ kept 4  -- 84 power
    ∷ kept 2  -- 88 spread spectrum
    ∷ one 2 Numbers.major  -- 90
    ∷ one 2 Numbers.detail  -- 92
    ∷ one 2 Numbers.system  -- 94
    ∷ kept 2  -- 96 crypto system
    ∷ kept 2  -- 98 key ID
    ∷ one 1 Numbers.modulation_length  -- 100
    ∷ padding 3  -- 101
    ∷ []

-- bytes 104 to 111
abbrev pub sync_table : List Slot
sync_table =
    kept 1  -- 104 TSA level
    ∷ kept 1  -- 105 primary mode
    ∷ kept 1  -- 106 secondary mode
    ∷ kept 1  -- 107 synchronization state
    ∷ kept 4  -- 108 synchronization ID
    ∷ []

-- 01, "Transmitter, 112 bytes"
abbrev pub transmitter_table : Bool → List Slot
transmitter_table seven =
    header_table seven Numbers.transmitter_type Numbers.transmitter_size
    ++ (entity_table seven ++ (antenna_table ++ (emission_table ++ sync_table)))

-- 01, "Signal": bytes 20 to 31, for a body of n bytes
abbrev pub encoding_table : ℕ → List Slot
encoding_table n =
    parts 2 (only 2 Numbers.encoding_class ∷ keep 14 ∷ [])  -- 20 encoding
    ∷ one 2 Numbers.tdl_type  -- 22
    ∷ kept 4  -- 24 sample rate
    ∷ one 2 (data_bits n)  -- 28 data length in bits
    ∷ kept 2  -- 30 samples
    ∷ []

-- bytes 32 to 51
abbrev pub network_table : List Slot
network_table =
    kept 2  -- 32 NPG
    ∷ kept 1  -- 34 net
    ∷ kept 1  -- 35 TSEC
    ∷ kept 1  -- 36 MSEC
    ∷ kept 1  -- 37 message type
    ∷ padding 2  -- 38
    ∷ parts 4 (keep 8 ∷ skip 7 ∷ keep 17 ∷ [])  -- 40 slot ID: epoch, padding, slot
    ∷ kept 8  -- 44 perceived transmit time
    ∷ []

-- bytes 0 to 51, for a body of n bytes
abbrev pub signal_head : Bool → ℕ → List Slot
signal_head seven n = header_table seven Numbers.signal_type (signal_size n) ++ (encoding_table n ++ network_table)

-- 02, R-1: whether a message type is one of round-trip timing
abbrev pub is_timing : ℕ → Bool
is_timing type = eqb type Numbers.interrogation || eqb type Numbers.timing_reply

-- 001, Tables 5.2.5 and 5.2.6: of 48 bits, bits 35 to 47 are padding and bits 0 to 34 kept; rule 14 asks for the 6 bytes that these take
abbrev pub timing_slots : ℕ → List Slot
timing_slots n = parts n (skip 13 ∷ keep 35 ∷ []) ∷ []

-- the body's n bytes in a message of this type: round-trip timing by its table, all else one number, "carried unread", "every bit of a body"
unfoldable pub body_slots : ℕ → ℕ → List Slot
body_slots type n = cond (is_timing type) (timing_slots n) (kept n ∷ [])

-- from byte 52 on: the body, and the fill
abbrev pub body_table : ℕ → ℕ → List Slot
body_table type n = body_slots type n ++ (padding (fill_of n) ∷ [])

-- 01, "Signal", for a message of this type with a body of n bytes
abbrev pub signal_table : Bool → ℕ → ℕ → List Slot
signal_table seven type n = signal_head seven n ++ body_table type n

-- 01, "A word is an 80-bit number": sublabel in bits 7 to 9, label in 2 to 6, format in 0 and 1
abbrev pub word_table : List Slot
word_table = parts 10 (keep 70 ∷ keep 3 ∷ keep 5 ∷ keep 2 ∷ []) ∷ []
