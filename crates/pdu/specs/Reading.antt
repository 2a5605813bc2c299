-- Reading the first PDU of a slice (02, R-5): the refusals in document 01's order, and the answer; live reading, and archive reading of old
-- captures (02, R-4).
use Rattle.std.specs.Prelude.{ℕ, ◌+◌, ◌-◌, ◌*◌, ◌/◌, ◌%◌, ◌≡◌, Bool, cond, not, ◌&&◌, ◌||◌, List, [], ◌∷◌, ◌++◌, length, eqb, ltb, Result, Ok, Err}
use Rattle.wire.specs.Bytes.{num}
use Rattle.wire.specs.First.{Refusal, ◌given_when◌, first, without, told}
use Rattle.wire.specs.Table.{read}
use Rattle.pdu.specs.Refusals.{Refusal as Reason, number, named}
use Rattle.pdu.specs.Numbers
use Rattle.pdu.specs.Tables.{filled, is_seven, header_table, transmitter_table, signal_head}
use Rattle.pdu.specs.Records.{header_from, transmitter_from, transmitter_values, signal_from, signal_values}
use Rattle.pdu.specs.Rules.{wrong_version, inner_rules}
use Rattle.pdu.specs.Forms.{size_of, body_in}
use Rattle.pdu.specs.declared.Header.{Header}
use Rattle.pdu.specs.declared.Transmitter.{Transmitter}
use Rattle.pdu.specs.declared.Signal.{Signal}
use Rattle.pdu.specs.declared.Reading.{Reading}
use Rattle.pdu.specs.declared.Reading.TheVariants.{Refused, Transmitter as a_transmitter, Signal as a_signal}

-- ---- what a datagram holds, by its table

-- whether byte 0 says version 7
abbrev pub version_seven : List ℕ → Bool
version_seven d = is_seven (num 1 0 d)

-- the shared fields
unfoldable pub header_of : List ℕ → Header
header_of d = header_from (read 0 (header_table (version_seven d) 0 0) d)

unfoldable pub transmitter_of : List ℕ → Transmitter
transmitter_of d = transmitter_from (read 0 (transmitter_table (version_seven d)) d)

-- the body's size that the data length gives
abbrev pub body_size : List ℕ → ℕ
body_size d = num 2 28 d / 8 - Numbers.network_bytes

unfoldable pub signal_of : List ℕ → Signal
signal_of d = signal_from (read 0 (signal_head (version_seven d) (body_size d)) d)

-- whether byte 2 says Transmitter
abbrev pub says_transmitter : List ℕ → Bool
says_transmitter d = eqb (num 1 2 d) Numbers.transmitter_type

-- what a datagram holds, by its PDU type: the one place that decides it
unfoldable pub content : List ℕ → Reading
content d = cond (says_transmitter d) (a_transmitter (transmitter_of d)) (a_signal (signal_of d) (body_size d))

-- the body of what a datagram holds
abbrev pub body_of : List ℕ → List ℕ
body_of d = body_in (content d) d

-- ---- the refusals

-- 3: Transmitter or Signal, and the radio family
unfoldable pub wrong_type : List ℕ → Bool
wrong_type d =
    not ((says_transmitter d || eqb (num 1 2 d) Numbers.signal_type) && eqb (num 1 3 d) Numbers.radio_family)

-- 4 (02, R-5): "the length field is above the slice's length or below the fixed part"
unfoldable pub wrong_length : ℕ → List ℕ → Bool
wrong_length least d = ltb (length d) (num 2 8 d) || ltb (num 2 8 d) least

-- 5: category, input source, major, detail and system
unfoldable pub wrong_fixed : List ℕ → Bool
wrong_fixed d =
    not
    (eqb (num 1 24 d) Numbers.category
    && eqb (num 1 29 d) Numbers.input_source
    && eqb (num 2 90 d) Numbers.major
    && eqb (num 2 92 d) Numbers.detail
    && eqb (num 2 94 d) Numbers.system)

-- 64 (02, R-9): variable parameter records in version 7
unfoldable pub wrong_records : List ℕ → Bool
wrong_records d = version_seven d && not (eqb (num 2 30 d) Numbers.parameter_records)

-- 12: whole bytes, and at least the network header
unfoldable pub wrong_bits : ℕ → Bool
wrong_bits bits = not (eqb (bits % 8) 0) || ltb bits (8 * Numbers.network_bytes)

-- 1, 2, 3
unfoldable pub start_rules : List ℕ → List Refusal
start_rules d =
    (1 given_when ltb (length d) Numbers.shortest)
    ∷ (2 given_when wrong_version (num 1 0 d))
    ∷ (3 given_when wrong_type d)
    ∷ []

-- a Transmitter's 4, 5, 6, 7, 64, 8; "8 measures against the length field" (02, R-5)
unfoldable pub transmitter_layout : List ℕ → List Refusal
transmitter_layout d =
    (4 given_when wrong_length Numbers.transmitter_least d)
    ∷ (5 given_when wrong_fixed d)
    ∷ (6 given_when not (eqb (num 1 100 d) Numbers.modulation_length))
    ∷ (7 given_when not (eqb (num 2 70 d) Numbers.pattern_length))
    ∷ (64 given_when wrong_records d)
    ∷ (8 given_when not (eqb (num 2 8 d) Numbers.transmitter_size))
    ∷ []

-- a Signal's 4, 10, 11, 12, 8
unfoldable pub signal_layout : List ℕ → List Refusal
signal_layout d =
    (4 given_when wrong_length Numbers.signal_least d)
    ∷ (10 given_when not (eqb (num 2 20 d / Numbers.encoding_kept) Numbers.encoding_class))
    ∷ (11 given_when not (eqb (num 2 22 d) Numbers.tdl_type))
    ∷ (12 given_when wrong_bits (num 2 28 d))
    ∷ (8 given_when not (eqb (num 2 8 d) (filled (Numbers.signal_least + num 2 28 d / 8))))
    ∷ []

-- the layout's rules, by the form
abbrev pub layout_rules : Reading → List ℕ → List Refusal
layout_rules (Refused e) d = []
layout_rules (a_transmitter t) d = transmitter_layout d
layout_rules (a_signal s n) d = signal_layout d

-- the rules behind 3, for a datagram of this form
abbrev pub form_rules : Reading → List ℕ → List Refusal
form_rules r d = layout_rules r d ++ inner_rules r

-- a datagram that breaks neither 1, 2, 3 nor a rule of its layout: every field of its form lies in it
abbrev pub Laid : List ℕ → Type 0
Laid d = (first (start_rules d) ≡ 0) × (first (layout_rules (content d) d) ≡ 0)

-- all refusals of reading, in order
unfoldable pub reading_rules : List ℕ → List Refusal
reading_rules d = start_rules d ++ form_rules (content d) d

-- the refusal number of a datagram, 0 where it is taken
unfoldable pub refusal : List ℕ → ℕ
refusal d = first (reading_rules d)

-- the answer about a datagram by its refusal number: what it holds where that is 0, else the refusal that has the number
abbrev pub answer_by : ℕ → List ℕ → Reading
answer_by n d = cond (eqb n 0) (content d) (Refused (named n))

-- what reading answers
unfoldable pub reading : List ℕ → Reading
reading d = answer_by (refusal d) d

-- "how many bytes it used" (02, R-5), 0 where the slice is refused
abbrev pub used : List ℕ → ℕ
used d = size_of (reading d)

-- document 01's number of each answer of reading
abbrev pub number_of : Reading → ℕ
number_of (Refused e) = number e
number_of (a_transmitter t) = 0
number_of (a_signal s n) = 0

-- that an answer is the refusal of this number
abbrev pub RefusedAs : ℕ → Reading → Type 0
RefusedAs n (Refused e) = number e ≡ n
RefusedAs n (a_transmitter t) = ⊥
RefusedAs n (a_signal s size) = ⊥

-- the size of what each answer holds, or its refusal
abbrev pub answer_of : Reading → Result ℕ Reason
answer_of (Refused e) = Err e
answer_of (a_transmitter t) = Ok (size_of (a_transmitter t))
answer_of (a_signal s n) = Ok (size_of (a_signal s n))

-- the values of each answer: the fields in byte order, and last the size of a Signal's body
abbrev pub values_held : Reading → List ℕ
values_held (Refused e) = []
values_held (a_transmitter t) = transmitter_values t
values_held (a_signal s n) = signal_values s (n ∷ [])

-- document 01's number and values of each answer of reading
abbrev pub reading_says : Reading → List ℕ
reading_says r = number_of r ∷ values_held r

-- what an answer by this refusal number says in document 01's numbers: the refusal's alone, or 0 and what the datagram holds
abbrev pub said_by : ℕ → List ℕ → List ℕ
said_by n d = told n (values_held (content d))

-- what reading says
abbrev pub read_says : List ℕ → List ℕ
read_says d = said_by (refusal d) d

-- ---- archive reading (02, R-4)

-- "exactly as live reading did till now": the refusals of live reading, whatever they are, without 50
unfoldable pub archive_rules : List ℕ → List Refusal
archive_rules d = without 50 (reading_rules d)

-- the refusal number of a datagram in archive reading, 0 where it is taken
unfoldable pub archive_refusal : List ℕ → ℕ
archive_refusal d = first (archive_rules d)

-- what archive reading answers
unfoldable pub archive_reading : List ℕ → Reading
archive_reading d = answer_by (archive_refusal d) d

-- and says
abbrev pub archive_says : List ℕ → List ℕ
archive_says d = said_by (archive_refusal d) d
