-- Which records the calls can carry: each field is below what its type holds.
use Rattle.std.specs.Prelude.{ℕ, ◌^◌, ◌<◌}
use Rattle.pdu.specs.declared.Header.{Header}
use Rattle.pdu.specs.declared.Entity.{Entity}
use Rattle.pdu.specs.declared.Antenna.{Antenna}
use Rattle.pdu.specs.declared.Emission.{Emission}
use Rattle.pdu.specs.declared.Sync.{Sync}
use Rattle.pdu.specs.declared.Transmitter.{Transmitter}
use Rattle.pdu.specs.declared.Network.{Network}
use Rattle.pdu.specs.declared.Signal.{Signal}
use Rattle.pdu.specs.declared.Reading.{Reading}
use Rattle.pdu.specs.declared.Reading.TheVariants.{Refused, Transmitter as a_transmitter, Signal as a_signal}

-- n is a number of so many bits
abbrev pub Bits : ℕ → ℕ → Type 0
Bits bits n = n < 2 ^ bits

pub record FitsHeader (h : Header) : Type 0 where
  pub version : Bits 8 h.version
  pub exercise : Bits 8 h.exercise
  pub timestamp : Bits 32 h.timestamp
  pub status : Bits 8 h.status
  pub site : Bits 16 h.site
  pub application : Bits 16 h.application
  pub entity : Bits 16 h.entity
  pub radio : Bits 16 h.radio

pub record FitsEntity (e : Entity) : Type 0 where
  pub kind : Bits 8 e.kind
  pub domain : Bits 8 e.domain
  pub country : Bits 16 e.country
  pub version : Bits 8 e.version
  pub nomenclature : Bits 16 e.nomenclature
  pub state : Bits 8 e.state

pub record FitsAntenna (a : Antenna) : Type 0 where
  pub x : Bits 64 a.x
  pub y : Bits 64 a.y
  pub z : Bits 64 a.z
  pub dx : Bits 32 a.dx
  pub dy : Bits 32 a.dy
  pub dz : Bits 32 a.dz
  pub pattern : Bits 16 a.pattern

pub record FitsEmission (e : Emission) : Type 0 where
  pub frequency : Bits 64 e.frequency
  pub bandwidth : Bits 32 e.bandwidth
  pub power : Bits 32 e.power
  pub spread : Bits 16 e.spread
  pub crypto : Bits 16 e.crypto
  pub key : Bits 16 e.key

pub record FitsSync (s : Sync) : Type 0 where
  pub level : Bits 8 s.level
  pub primary : Bits 8 s.primary
  pub secondary : Bits 8 s.secondary
  pub state : Bits 8 s.state
  pub id : Bits 32 s.id

pub record FitsTransmitter (t : Transmitter) : Type 0 where
  pub header : FitsHeader t.header
  pub entity : FitsEntity t.entity
  pub antenna : FitsAntenna t.antenna
  pub emission : FitsEmission t.emission
  pub sync : FitsSync t.sync

pub record FitsNetwork (n : Network) : Type 0 where
  pub npg : Bits 16 n.npg
  pub net : Bits 8 n.net
  pub tsec : Bits 8 n.tsec
  pub msec : Bits 8 n.msec
  pub message_type : Bits 8 n.message_type
  pub slot : Bits 32 n.slot
  pub epoch : Bits 8 n.epoch
  pub time : Bits 64 n.time

pub record FitsSignal (s : Signal) : Type 0 where
  pub header : FitsHeader s.header
  pub encoding : Bits 16 s.encoding
  pub rate : Bits 32 s.rate
  pub samples : Bits 16 s.samples
  pub network : FitsNetwork s.network

-- the record that reading answered, or that writing is given; a refusal is none
abbrev pub Fits : Reading → Type 0
Fits (Refused e) = ⊥
Fits (a_transmitter t) = FitsTransmitter t
Fits (a_signal s n) = FitsSignal s
