-- Document 01's rules for the trunk's calls, in its order, in plain numbers and at byte places, beside the tables and tests of Kinds, Record,
-- Near and Far, with which they share no constant. `num w o r` is the number in the w bytes of r from byte o on: of a record, byte 0 is the
-- kind, bytes 1 to 4 are the number, and the PDU stands from byte 5 on. `big 4 n` is the number n in 4 bytes.
use Rattle.std.specs.Prelude.{ℕ, ◌+◌, ◌-◌, ◌*◌, ◌/◌, ◌%◌, ◌≤◌, ◌<◌, ◌≡◌, ◌⊎◌, ◌≢◌, cond, ◌||◌, List, [], ◌∷◌, ◌++◌, length, get_or, take, drop, eqb}
use Rattle.std.specs.Prelude.{Option, None, Some}
use Rattle.wire.specs.Bytes.{num, big}
use Rattle.wire.specs.Rules.{Rule, ◌unless◌}
use Rattle.pdu.specs.Reading.{reading, refusal}
use Rattle.pdu.specs.Writing.{written_form}
use Rattle.pdu.specs.declared.Transmitter.{Transmitter as TransmitterFields}
use Rattle.pdu.specs.declared.Signal.{Signal as SignalFields}
use Rattle.pdu.specs.declared.Reading.{Reading}
use Rattle.pdu.specs.declared.Reading.TheVariants.{Refused, Transmitter as a_transmitter, Signal as a_signal}
use Rattle.trunk.specs.declared.Load.{Load}
use Rattle.trunk.specs.declared.Load.TheVariants.{Words, Transmitter, Interrogation, TimingReply, Nothing}
use Rattle.trunk.specs.declared.Near.{Near}

-- ---- kinds

-- "Kind n from 0 to 12 ..; Kind 16 ..; Kind 32"; 02, R-1: "kinds 17 and 18"
abbrev pub KnownKind : ℕ → Type 0
KnownKind kind = (kind ≤ 12) ⊎ ((kind ≡ 16) ⊎ ((kind ≡ 17) ⊎ ((kind ≡ 18) ⊎ (kind ≡ 32))))

-- what a kind carries: "a type 0 Signal of n words", "a Transmitter", "a reply, the number alone"; round-trip timing of type 1 and of type 2
pub data KindCarries (kind : ℕ) : Option Load → Type 0 where
  signal : kind ≤ 12 → KindCarries kind (Some (Words kind))
  transmitter : kind ≡ 16 → KindCarries kind (Some Transmitter)
  ask : kind ≡ 17 → KindCarries kind (Some Interrogation)
  answer : kind ≡ 18 → KindCarries kind (Some TimingReply)
  reply : kind ≡ 32 → KindCarries kind (Some Nothing)
  none : ¬ KnownKind kind → KindCarries kind None

-- the length of a record of a kind: "Records: 65, 73, 85, 185" for 0 to 12 words; "Transmitter 117; reply 5", and 5 where it is unknown; those of
-- round-trip timing have a PDU of 60 bytes (52 and 6, filled)
abbrev pub signal_lengths : List ℕ
signal_lengths = 65 ∷ 73 ∷ 85 ∷ 93 ∷ 105 ∷ 113 ∷ 125 ∷ 133 ∷ 145 ∷ 153 ∷ 165 ∷ 173 ∷ 185 ∷ []

abbrev pub other_length : ℕ → ℕ
other_length kind = cond (eqb kind 16) 117 (cond (eqb kind 17 || eqb kind 18) 65 5)

abbrev pub plain_length : ℕ → ℕ
plain_length kind = get_or signal_lengths kind (other_length kind)

-- "a PDU of that kind": n words behind 6 header bytes, 10 bytes each, for kind n; a Transmitter for kind 16; type 1 for 17 and type 2 for 18
pub data OfKind (kind : ℕ) : Reading → Type 0 where
  signal : (s : SignalFields) (n : ℕ) → s.network.message_type ≡ 0 → n ≡ 6 + 10 * kind → OfKind kind (a_signal s n)
  transmitter : (t : TransmitterFields) → kind ≡ 16 → OfKind kind (a_transmitter t)
  ask : (s : SignalFields) (n : ℕ) → s.network.message_type ≡ 1 → kind ≡ 17 → OfKind kind (a_signal s n)
  answer : (s : SignalFields) (n : ℕ) → s.network.message_type ≡ 2 → kind ≡ 18 → OfKind kind (a_signal s n)

-- ---- records

-- the kind under which a PDU is offered, by what was read: 16 for a Transmitter, 17 and 18 for types 1 and 2, n for a Signal of n words behind 6
-- header bytes, 10 bytes each (a refusal is not offered; 0 fills its place)
abbrev pub plain_kind : Reading → ℕ
plain_kind (Refused e) = 0
plain_kind (a_transmitter t) = 16
plain_kind (a_signal s n) =
    let type = s.network.message_type in
    cond (eqb type 1) 17 (cond (eqb type 2) 18 ((n - 6) / 10))

-- "A record is one byte of kind, then .. a 4-byte number, then the PDU"
abbrev pub record_with : ℕ → ℕ → List ℕ → List ℕ
record_with kind number pdu = kind ∷ (big 4 number ++ pdu)

-- "Kind 32: a reply, the number alone"
abbrev pub reply_with : ℕ → List ℕ
reply_with number = 32 ∷ big 4 number

-- the record of a PDU under a number
abbrev pub record_for : ℕ → List ℕ → List ℕ
record_for number pdu = record_with (plain_kind (reading pdu)) number pdu

-- ---- rows

-- the kind byte of number i's row: "rows of 192 bytes", "row (number mod 8)"
abbrev pub plain_row_kind : List ℕ → ℕ → ℕ
plain_row_kind store i = num 1 (192 * (i % 8)) store

-- "its record (the row's bytes as they stand, to the length of their kind)"
abbrev pub plain_row : List ℕ → ℕ → List ℕ
plain_row store i = take (plain_length (plain_row_kind store i)) (drop (192 * (i % 8)) store)

-- ---- rules

-- 28: "store is not 1,536 bytes"
abbrev pub StoreRule : List ℕ → Type 0
StoreRule store = length store ≡ 1536

-- 25: "a PDU record with that number"
abbrev pub NumberRule : ℕ → Type 0
NumberRule number = number ≢ 4294967295

-- 16 at the far end: "if the reply buffer is under 5 bytes or the output under 180"
abbrev pub RoomRule : ℕ → ℕ → Type 0
RoomRule reply_room room = (5 ≤ reply_room) × (180 ≤ room)

-- 29: the kind of a reply
abbrev pub ReplyKind : ℕ → Type 0
ReplyKind kind = kind ≡ 32

-- 20: "first byte present, but no known trunk kind"
abbrev pub KindRule : List ℕ → Type 0
KindRule r = 0 < length r → KnownKind (num 1 0 r)

-- 21: "record empty, or not the length of its kind"
abbrev pub LengthRule : List ℕ → Type 0
LengthRule r = (0 < length r) × (length r ≡ plain_length (num 1 0 r))

-- 22: "carried bytes are not what the writer would give, or not a PDU of that kind"; the writer gives one PDU, so nothing stands behind it
abbrev pub CarriedRule : List ℕ → Type 0
CarriedRule r =
    (refusal (drop 5 r) ≡ 0)
    × (written_form (drop 5 r) ≡ drop 5 r)
    × OfKind (num 1 0 r) (reading (drop 5 r))

-- 23: "types 1 to 7 are not carried", by 02, R-1 "only for types 3 to 7", of which R-4 leaves 6 and 7 to be read
abbrev pub TypeRule : List ℕ → Type 0
TypeRule d = (s : SignalFields) (n : ℕ) → reading d ≡ a_signal s n → s.network.message_type ≤ 2

-- ---- bundles (02, R-5)

-- one PDU alone: the reader takes it, 23 does not stop it, and its length field counts all its bytes
pub record OnePdu (p : List ℕ) : Type 0 where
  pub taken : refusal p ≡ 0
  pub carried : TypeRule p
  pub whole : num 2 8 p ≡ length p

abbrev pub AllPdus : List (List ℕ) → Type 0
AllPdus [] = Unit {0}
AllPdus (p ∷ ps) = OnePdu p × AllPdus ps

-- end to end
abbrev pub joined : List (List ℕ) → List ℕ
joined [] = []
joined (p ∷ ps) = p ++ joined ps

-- what stops a slice behind PDUs: nothing, where it ends behind one; or the reader refuses what is left, which is empty only if the whole slice is
-- ("an empty slice is 1"); or what is left begins with a PDU of a type that is not carried
pub data Ends (pdus : List (List ℕ)) (left : List ℕ) : ℕ → Type 0 where
  at_end : 0 < length pdus → length left ≡ 0 → Ends pdus left 0
  refused : (0 < length pdus → 0 < length left) → refusal left ≢ 0 → Ends pdus left (refusal left)
  not_carried : refusal left ≡ 0 → ¬ TypeRule left → Ends pdus left 23

-- a slice from the front: so many PDUs, what is left behind them, and the number that stops it there, or 0
pub record Walked (d : List ℕ) (pdus : List (List ℕ)) (left : List ℕ) (stop : ℕ) : Type 0 where
  pub parts : d ≡ joined pdus ++ left
  pub each : AllPdus pdus
  pub ends : Ends pdus left stop

-- ---- the calls

-- Offering a slice that `stop` stops behind so many PDUs: 28, that number, 51, 25, 24 (02, R-5: "51 for more than eight PDUs; 25 and 24 if not all
-- fit": no number is 4,294,967,295, and eight PDUs are unacknowledged at most)
abbrev pub plain_offer : Near → List ℕ → ℕ → ℕ → List Rule
plain_offer near store stop pdus =
    (28 unless StoreRule store)
    ∷ (stop unless (stop ≡ 0))
    ∷ (51 unless (pdus ≤ 8))
    ∷ (25 unless (near.accepted + pdus ≤ 4294967295))
    ∷ (24 unless (near.accepted + pdus ≤ near.acknowledged + 8))
    ∷ []

-- Sending number i: 28, 26, 20, 29, 16
abbrev pub plain_send : Near → List ℕ → ℕ → ℕ → List Rule
plain_send near store i room =
    (28 unless StoreRule store)
    ∷ (26 unless ((near.acknowledged ≤ i) × (i < near.accepted)))
    ∷ (20 unless KnownKind (plain_row_kind store i))
    ∷ (29 unless (¬ ReplyKind (plain_row_kind store i)))
    ∷ (16 unless (plain_length (plain_row_kind store i) ≤ room))
    ∷ []

-- Taking a reply: 20, 21, 29, 27
abbrev pub plain_reply : Near → List ℕ → List Rule
plain_reply near r =
    (20 unless KindRule r)
    ∷ (21 unless LengthRule r)
    ∷ (29 unless ReplyKind (num 1 0 r))
    ∷ (27 unless (num 4 1 r ≤ near.accepted))
    ∷ []

-- A record at the far end: 20, 21, 29, 25, 22, 16
abbrev pub plain_arrival : List ℕ → ℕ → ℕ → List Rule
plain_arrival r reply_room room =
    (20 unless KindRule r)
    ∷ (21 unless LengthRule r)
    ∷ (29 unless (¬ ReplyKind (num 1 0 r)))
    ∷ (25 unless NumberRule (num 4 1 r))
    ∷ (22 unless CarriedRule r)
    ∷ (16 unless RoomRule reply_room room)
    ∷ []

-- "The lister and the host's check test 20, 21, 25, 22"; 25 and 22 are of a PDU record
abbrev pub plain_check : List ℕ → List Rule
plain_check r =
    (20 unless KindRule r)
    ∷ (21 unless LengthRule r)
    ∷ (25 unless (¬ ReplyKind (num 1 0 r) → NumberRule (num 4 1 r)))
    ∷ (22 unless (¬ ReplyKind (num 1 0 r) → CarriedRule r))
    ∷ []
