-- Document 01, "Sizes and edges": each starred case is a row, and `holds` says what a row claims.
use Rattle.std.specs.Prelude.{ℕ, ◌+◌, ◌*◌, ◌-◌, Bool, true, false, ◌&&◌, List, [], ◌∷◌, ◌++◌, replicate, eqb}
use Rattle.wire.specs.Bytes.{big}
use Rattle.pdu.specs.Forms.{size_of}
use Rattle.pdu.specs.Reading.{reading, number_of}
use Rattle.station.specs.Units.{settings_of, made, units_held}
use Rattle.station.specs.Runs.{datagram, time, after}
use Rattle.pdu.specs.declared.Reading.{Reading}
use Rattle.pdu.specs.declared.Reading.TheVariants.{Refused, Transmitter, Signal}

-- zero bytes
abbrev pub zeros : ℕ → List ℕ
zeros n = replicate n 0

-- a Signal of version 6 in `size` bytes with so many data bytes, the slot ID and TSEC given, all else zero or as 01 fixes it
abbrev pub signal : ℕ → ℕ → ℕ → ℕ → List ℕ
signal size data_bytes slot_id tsec =
    (6 ∷ 0 ∷ 26 ∷ 4 ∷ [])
    ++ (zeros 4 ++ (big 2 size ++ zeros 10))
    ++ (big 2 16384 ++ (big 2 100 ++ (zeros 4 ++ (big 2 (8 * data_bytes) ++ zeros 2))))
    ++ (zeros 3 ++ (tsec ∷ 0 ∷ 0 ∷ zeros 2))
    ++ (big 4 slot_id ++ zeros 8)
    ++ zeros (size - 52)

-- a type 0 Signal of so many words, in a PDU of the size given
abbrev pub words : ℕ → ℕ → List ℕ
words n size = signal size (26 + 10 * n) 0 0

-- a Transmitter of version 6 at level 0, fine, with key 1, all else zero or as 01 fixes it
abbrev pub a_transmitter : List ℕ
a_transmitter =
    (6 ∷ 0 ∷ 25 ∷ 4 ∷ [])
    ++ (zeros 4 ++ (big 2 112 ++ (zeros 8 ++ big 2 1)))
    ++ (zeros 4 ++ (21 ∷ zeros 4 ++ (8 ∷ zeros 60)))
    ++ (big 2 7 ++ (zeros 2 ++ (big 2 8 ++ zeros 4)))
    ++ (8 ∷ zeros 3 ++ (0 ∷ 1 ∷ 0 ∷ 3 ∷ zeros 4))

-- a row: a datagram with the number and size of its answer; or a Signal that is taken, with its epoch and slot; or how long a unit stays
pub data Case : Type 0 where
  answers : List ℕ → ℕ → ℕ → Case
  slot_of : List ℕ → ℕ → ℕ → Case
  -- a station made with this limit, a unit last heard at this second, a clock, and the number of units held then
  held_at : ℕ → ℕ → ℕ → ℕ → Case

-- whether reading answered a Signal with the epoch and slot given
abbrev pub slot_is : Reading → ℕ → ℕ → Bool
slot_is (Refused refusal) epoch slot = false
slot_is (Transmitter t) epoch slot = false
slot_is (Signal s n) epoch slot = eqb s.network.epoch epoch && eqb s.network.slot slot

-- what a row claims
abbrev pub holds : Case → Bool
holds (answers d number size) = eqb (number_of (reading d)) number && eqb (size_of (reading d)) size
holds (slot_of d epoch slot) = slot_is (reading d) epoch slot
holds (held_at limit last t count) =
    eqb (units_held (after (made (settings_of 0 0 1 limit)).station (time last ∷ datagram a_transmitter ∷ time t ∷ []))) count

-- whether every row holds
abbrev pub all_hold : List Case → Bool
all_hold [] = true
all_hold (c ∷ cs) = holds c && all_hold cs

-- the starred cases, in the order of 01; 02, R-2 replaces the one for slot 45,152, and R-3 gives 138 and 133 for 13
abbrev pub starred_cases : List Case
starred_cases =
    answers (zeros 11) 1 0  -- 11 bytes
    ∷ answers (8 ∷ zeros 11) 2 0  -- 02, R-9: 12 bytes, version 8
    ∷ answers (6 ∷ 0 ∷ 26 ∷ 4 ∷ 0 ∷ 0 ∷ 0 ∷ 0 ∷ 0 ∷ 12 ∷ 0 ∷ 0 ∷ []) 4 0  -- 12 bytes, version 6, type 26, family 4, length 12
    ∷ answers (words 0 60) 0 60  -- PDU sizes for 0, 1, 2 and 12 words
    ∷ answers (words 1 68) 0 68
    ∷ answers (words 2 80) 0 80
    ∷ answers (words 12 180) 0 180
    ∷ answers (words 13 188) 15 0  -- 188 bytes, 13 words
    ∷ answers (signal 60 25 0 0) 14 0  -- type 0 with 25 data bytes
    ∷ slot_of (signal 60 26 0x6F017FFF 0) 111 98303  -- epoch 111, slot 98,303, taken
    ∷ slot_of (signal 60 26 0x7000BFFF 0) 112 49151  -- 02, R-2: epoch 112, slot 49,151, taken
    ∷ answers (signal 60 26 0x7000C000 0) 138 0
    ∷ answers (signal 60 26 0 128) 133 0  -- TSEC 128 and 254
    ∷ answers (signal 60 26 0 254) 133 0
    ∷ answers a_transmitter 0 112  -- the Transmitter of the next two rows is taken
    ∷ held_at 60 40 99 1  -- last heard at 40: in at 99, by a station made with 60 (02, R-12)
    ∷ held_at 60 40 100 0  -- removed at 100
    ∷ []
