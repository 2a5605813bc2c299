-- Which bits are padding, and what a PDU that is written holds at each place: at byte places and in literal numbers, beside the tables, which say
-- the same slot by slot. `span a b d` are bytes a to b of d, b left out; `num w o d` is the number in the w bytes of d from byte o on.
use Rattle.std.specs.Prelude.{ℕ, ◌+◌, ◌-◌, ◌/◌, ◌%◌, ◌≡◌, cond, ◌||◌, Ok, Err, List, [], ◌∷◌, ◌++◌, length, get_or, drop, replicate, eqb}
use Rattle.wire.specs.Bytes.{num, span, joined}
use Rattle.pdu.specs.Plain.{FixedRule, FilledTo}
use Rattle.pdu.specs.Fields.{TransmitterFields, SignalFields}
use Rattle.pdu.specs.Forms.{bytes_of}
use Rattle.pdu.specs.Writing.{written, output_after, padding_zero}
use Rattle.pdu.specs.declared.Transmitter.{Transmitter}
use Rattle.pdu.specs.declared.Signal.{Signal}
use Rattle.pdu.specs.declared.Reading.{Reading}
use Rattle.pdu.specs.Refusals.{Refusal}

-- ---- padding

-- byte 10 with padding zero: the status in version 7, padding in versions 5 and 6 (02, R-9)
abbrev pub plain_status : List ℕ → ℕ
plain_status d = cond (eqb (num 1 0 d) 7) (get_or d 10 0) 0

-- a Transmitter with padding zero: "10 padding (2)", "30 padding (2)", "101 padding (3)"; in version 7 byte 10 is kept, and bytes 30 and 31 are zero
-- already (02, R-9)
abbrev pub plain_transmitter_zero : List ℕ → List (List ℕ)
plain_transmitter_zero d =
    span 0 10 d
    ∷ (plain_status d ∷ 0 ∷ [])  -- 10, 11
    ∷ span 12 30 d
    ∷ (0 ∷ 0 ∷ [])  -- 30, 31
    ∷ span 32 101 d
    ∷ (0 ∷ 0 ∷ 0 ∷ [])  -- 101, 102, 103
    ∷ span 104 112 d
    ∷ []

-- where a Signal's fill starts: "32 plus the data bytes"; its data length is in bits
abbrev pub data_end : List ℕ → ℕ
data_end d = 32 + num 2 28 d / 8

-- a body with padding zero: that of types 1 and 2 (02, R-1; 001, Tables 5.2.5 and 5.2.6) begins with "bits 35 to 47", which are byte 52 of the PDU
-- and the upper five bits of byte 53; in all others nothing is padding
abbrev pub plain_given : ℕ → List ℕ → List ℕ
plain_given type body = cond (eqb type 1 || eqb type 2) (0 ∷ get_or body 1 0 % 8 ∷ drop 2 body) body

-- a Signal with padding zero: "10 padding (2)", of which version 7 keeps byte 10 (02, R-9); "38 padding (2)", of the slot ID "bits 17 to 23", which
-- are the upper seven of byte 41, and the fill
abbrev pub plain_signal_zero : List ℕ → List (List ℕ)
plain_signal_zero d =
    span 0 10 d
    ∷ (plain_status d ∷ 0 ∷ [])  -- 10, 11
    ∷ span 12 38 d
    ∷ (0 ∷ 0 ∷ [])  -- 38, 39
    ∷ (get_or d 40 0 ∷ get_or d 41 0 % 2 ∷ get_or d 42 0 ∷ get_or d 43 0 ∷ [])
    ∷ span 44 52 d
    ∷ plain_given (num 1 37 d) (span 52 (data_end d) d)  -- the body
    ∷ replicate (num 2 8 d - data_end d) 0
    ∷ []

-- "padding zero" of a taken datagram: zero at these places of its first PDU, and the datagram at all others
pub record PaddingPlaces (d : List ℕ) : Type 0 where
  pub transmitter : num 1 2 d ≡ 25 → padding_zero d ≡ joined (plain_transmitter_zero d)
  pub signal : num 1 2 d ≡ 26 → padding_zero d ≡ joined (plain_signal_zero d)

-- ---- what is written

-- the bytes z that a Transmitter is written as: each field at its place, each fixed value, and zero at each place of padding
pub record TransmitterBytes (t : Transmitter) (z : List ℕ) : Type 0 where
  pub size : length z ≡ 112
  pub type : num 1 2 z ≡ 25
  pub family : num 1 3 z ≡ 4
  pub length_field : num 2 8 z ≡ 112
  pub fields : TransmitterFields z t
  pub fixed : FixedRule z
  pub modulation_length : num 1 100 z ≡ 8
  pub pattern_length : num 2 70 z ≡ 0
  pub padding : z ≡ joined (plain_transmitter_zero z)

-- those of a Signal with this body
pub record SignalBytes (s : Signal) (body z : List ℕ) : Type 0 where
  pub size : FilledTo (52 + length body) (length z)
  pub type : num 1 2 z ≡ 26
  pub family : num 1 3 z ≡ 4
  pub length_field : num 2 8 z ≡ length z
  pub fields : SignalFields z s (length body) (plain_given s.network.message_type body)
  pub encoding_class : num 2 20 z / 16384 ≡ 1
  pub tdl_type : num 2 22 z ≡ 100
  pub padding : z ≡ joined (plain_signal_zero z)

-- what a writing leaves in the output: the PDU "from the start of its output", by the size answered, and behind it what stood there; "A refusal
-- changes .. no byte of any lent buffer"
pub record OutputExactly (r : Reading) (body out : List ℕ) : Type 0 where
  pub taken : (n : ℕ) → written r (length out) ≡ Ok n → (length (bytes_of r body) ≡ n) × (output_after r body out ≡ bytes_of r body ++ drop n out)
  pub refused : (e : Refusal) → written r (length out) ≡ Err e → output_after r body out ≡ out
