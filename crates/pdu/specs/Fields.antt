-- What a taken datagram and a word hold, field by field, at byte places and in literal numbers: the plain twin of the tables and the records.
-- `num w o d` is the number in the w bytes of d from byte o on.
use Rattle.std.specs.Prelude.{ℕ, ◌+◌, ◌*◌, ◌/◌, ◌%◌, ◌^◌, ◌≤◌, ◌<◌, ◌≡◌, ◌≢◌, cond, List, [], ◌∷◌, length, take, drop, ltb, Some, None}
use Rattle.wire.specs.Bytes.{num}
use Rattle.pdu.specs.Words.{word_at}
use Rattle.pdu.specs.declared.Header.{Header}
use Rattle.pdu.specs.declared.Entity.{Entity}
use Rattle.pdu.specs.declared.Antenna.{Antenna}
use Rattle.pdu.specs.declared.Emission.{Emission}
use Rattle.pdu.specs.declared.Sync.{Sync}
use Rattle.pdu.specs.declared.Transmitter.{Transmitter}
use Rattle.pdu.specs.declared.Network.{Network}
use Rattle.pdu.specs.declared.Signal.{Signal}

-- 01, "Bytes 0 to 19, both PDUs"; 02, R-9: "byte 10 for PDU status", "0 for versions 5 and 6"
pub record HeaderFields (d : List ℕ) (h : Header) : Type 0 where
  pub version : h.version ≡ num 1 0 d
  pub exercise : h.exercise ≡ num 1 1 d
  pub timestamp : h.timestamp ≡ num 4 4 d
  pub status_7 : num 1 0 d ≡ 7 → h.status ≡ num 1 10 d % 2 ^ 8
  pub status_before : num 1 0 d ≢ 7 → h.status ≡ 0
  pub site : h.site ≡ num 2 12 d
  pub application : h.application ≡ num 2 14 d
  pub entity : h.entity ≡ num 2 16 d
  pub radio : h.radio ≡ num 2 18 d

-- 01, "Transmitter, 112 bytes"
pub record EntityFields (d : List ℕ) (e : Entity) : Type 0 where
  pub kind : e.kind ≡ num 1 20 d
  pub domain : e.domain ≡ num 1 21 d
  pub country : e.country ≡ num 2 22 d
  pub version : e.version ≡ num 1 25 d
  pub nomenclature : e.nomenclature ≡ num 2 26 d
  pub state : e.state ≡ num 1 28 d

pub record AntennaFields (d : List ℕ) (a : Antenna) : Type 0 where
  pub x : a.x ≡ num 8 32 d
  pub y : a.y ≡ num 8 40 d
  pub z : a.z ≡ num 8 48 d
  pub dx : a.dx ≡ num 4 56 d
  pub dy : a.dy ≡ num 4 60 d
  pub dz : a.dz ≡ num 4 64 d
  pub pattern : a.pattern ≡ num 2 68 d

pub record EmissionFields (d : List ℕ) (e : Emission) : Type 0 where
  pub frequency : e.frequency ≡ num 8 72 d
  pub bandwidth : e.bandwidth ≡ num 4 80 d
  pub power : e.power ≡ num 4 84 d
  pub spread : e.spread ≡ num 2 88 d
  pub crypto : e.crypto ≡ num 2 96 d
  pub key : e.key ≡ num 2 98 d

pub record SyncFields (d : List ℕ) (s : Sync) : Type 0 where
  pub level : s.level ≡ num 1 104 d
  pub primary : s.primary ≡ num 1 105 d
  pub secondary : s.secondary ≡ num 1 106 d
  pub state : s.state ≡ num 1 107 d
  pub id : s.id ≡ num 4 108 d

pub record TransmitterFields (d : List ℕ) (t : Transmitter) : Type 0 where
  pub header : HeaderFields d t.header
  pub entity : EntityFields d t.entity
  pub antenna : AntennaFields d t.antenna
  pub emission : EmissionFields d t.emission
  pub sync : SyncFields d t.sync

-- 01, "Signal": "Slot ID: bits 0 to 16 slot", "bits 24 to 31 epoch"
pub record NetworkFields (d : List ℕ) (n : Network) : Type 0 where
  pub npg : n.npg ≡ num 2 32 d
  pub net : n.net ≡ num 1 34 d
  pub tsec : n.tsec ≡ num 1 35 d
  pub msec : n.msec ≡ num 1 36 d
  pub message_type : n.message_type ≡ num 1 37 d
  pub slot : n.slot ≡ num 4 40 d % 2 ^ 17
  pub epoch : n.epoch ≡ num 4 40 d / 2 ^ 24 % 2 ^ 8
  pub time : n.time ≡ num 8 44 d

-- "20 encoding: .. low 14 bits kept"; the body is the part that starts at byte 52
pub record SignalFields (d : List ℕ) (s : Signal) (size : ℕ) (body : List ℕ) : Type 0 where
  pub header : HeaderFields d s.header
  pub encoding : s.encoding ≡ num 2 20 d % 2 ^ 14
  pub rate : s.rate ≡ num 4 24 d
  pub samples : s.samples ≡ num 2 30 d
  pub network : NetworkFields d s.network
  pub body_size : 8 * (20 + size) ≡ num 2 28 d
  pub body_bytes : body ≡ take size (drop 52 d)

-- 01, "A word is an 80-bit number: bits 0-1 format, 2-6 label, 7-9 sublabel": word i stands behind 6 header bytes and i words of 10
pub record WordParts (body : List ℕ) (i : ℕ) : Type 0 where
  pub here :
      16 + 10 * i ≤ length body
      → word_at body i
      ≡ Some
      record {
        format = num 10 (6 + 10 * i) body % 2 ^ 2;
        label = num 10 (6 + 10 * i) body / 2 ^ 2 % 2 ^ 5;
        sublabel = num 10 (6 + 10 * i) body / 2 ^ 7 % 2 ^ 3;
      }
  pub absent : length body < 16 + 10 * i → word_at body i ≡ None

-- the same as what is said of word i: its three parts, or nothing where the body ends before it does
abbrev pub plain_word : List ℕ → ℕ → List ℕ
plain_word body i =
    let word = num 10 (6 + 10 * i) body in
    cond (ltb (length body) (16 + 10 * i)) [] (word % 2 ^ 2 ∷ word / 2 ^ 2 % 2 ^ 5 ∷ word / 2 ^ 7 % 2 ^ 3 ∷ [])

-- 001, Tables 5.2.5 and 5.2.6 (02, R-1): the first six bytes of a body are a 48-bit number, "bits 0 to 34" of which are the field
abbrev pub plain_timing : List ℕ → List ℕ
plain_timing body = cond (ltb (length body) 6) [] (num 6 0 body % 2 ^ 35 ∷ [])
