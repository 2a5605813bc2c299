-- The records that the calls carry: each struct from the values of its own slots, and back. Positions count from 0 in each struct.
use Rattle.std.specs.Prelude.{ℕ, true, List, [], ◌∷◌, ◌++◌, get_or, drop}
use Rattle.wire.specs.Table.{counts}
use Rattle.pdu.specs.Tables.{header_table, entity_table, antenna_table, emission_table, encoding_table}
use Rattle.pdu.specs.declared.Header.{Header}
use Rattle.pdu.specs.declared.Entity.{Entity}
use Rattle.pdu.specs.declared.Antenna.{Antenna}
use Rattle.pdu.specs.declared.Emission.{Emission}
use Rattle.pdu.specs.declared.Sync.{Sync}
use Rattle.pdu.specs.declared.Transmitter.{Transmitter}
use Rattle.pdu.specs.declared.Network.{Network}
use Rattle.pdu.specs.declared.Signal.{Signal}

-- ---- bytes 0 to 19

abbrev pub header_from : List ℕ → Header
header_from v =
    record {
      version = get_or v 0 0;
      exercise = get_or v 1 0;
      timestamp = get_or v 2 0;
      status = get_or v 3 0;
      site = get_or v 4 0;
      application = get_or v 5 0;
      entity = get_or v 6 0;
      radio = get_or v 7 0;
    }

abbrev pub header_values : Header → List ℕ
header_values h =
    h.version ∷ h.exercise ∷ h.timestamp ∷ h.status ∷ h.site ∷ h.application ∷ h.entity ∷ h.radio ∷ []

-- the values behind the header's, which are as many in every version
abbrev pub past_header : List ℕ → List ℕ
past_header v = drop (counts (header_table true 0 0)) v

-- ---- a Transmitter

abbrev pub entity_from : List ℕ → Entity
entity_from v =
    record {
      kind = get_or v 0 0;
      domain = get_or v 1 0;
      country = get_or v 2 0;
      version = get_or v 3 0;
      nomenclature = get_or v 4 0;
      state = get_or v 5 0;
    }

abbrev pub entity_values : Entity → List ℕ
entity_values e =
    e.kind ∷ e.domain ∷ e.country ∷ e.version ∷ e.nomenclature ∷ e.state ∷ []

abbrev pub antenna_from : List ℕ → Antenna
antenna_from v =
    record {
      x = get_or v 0 0;
      y = get_or v 1 0;
      z = get_or v 2 0;
      dx = get_or v 3 0;
      dy = get_or v 4 0;
      dz = get_or v 5 0;
      pattern = get_or v 6 0;
    }

abbrev pub antenna_values : Antenna → List ℕ
antenna_values a = a.x ∷ a.y ∷ a.z ∷ a.dx ∷ a.dy ∷ a.dz ∷ a.pattern ∷ []

abbrev pub emission_from : List ℕ → Emission
emission_from v =
    record {
      frequency = get_or v 0 0;
      bandwidth = get_or v 1 0;
      power = get_or v 2 0;
      spread = get_or v 3 0;
      crypto = get_or v 4 0;
      key = get_or v 5 0;
    }

abbrev pub emission_values : Emission → List ℕ
emission_values e =
    e.frequency ∷ e.bandwidth ∷ e.power ∷ e.spread ∷ e.crypto ∷ e.key ∷ []

abbrev pub sync_from : List ℕ → Sync
sync_from v =
    record {
      level = get_or v 0 0;
      primary = get_or v 1 0;
      secondary = get_or v 2 0;
      state = get_or v 3 0;
      id = get_or v 4 0;
    }

abbrev pub sync_values : Sync → List ℕ
sync_values s = s.level ∷ s.primary ∷ s.secondary ∷ s.state ∷ s.id ∷ []

-- a Transmitter from the values of its table, and back
abbrev pub transmitter_from : List ℕ → Transmitter
transmitter_from v =
    record {
      header = header_from v;
      entity = entity_from (past_header v);
      antenna = antenna_from (drop (counts (entity_table true)) (past_header v));
      emission = emission_from (drop (counts (entity_table true ++ antenna_table)) (past_header v));
      sync = sync_from (drop (counts (entity_table true ++ (antenna_table ++ emission_table))) (past_header v));
    }

abbrev pub transmitter_values : Transmitter → List ℕ
transmitter_values t =
    header_values t.header
    ++ (entity_values t.entity
    ++ (antenna_values t.antenna ++ (emission_values t.emission ++ sync_values t.sync)))

-- ---- a Signal

abbrev pub network_from : List ℕ → Network
network_from v =
    record {
      npg = get_or v 0 0;
      net = get_or v 1 0;
      tsec = get_or v 2 0;
      msec = get_or v 3 0;
      message_type = get_or v 4 0;
      epoch = get_or v 5 0;
      slot = get_or v 6 0;
      time = get_or v 7 0;
    }

abbrev pub network_values : Network → List ℕ
network_values n =
    n.npg ∷ n.net ∷ n.tsec ∷ n.msec ∷ n.message_type ∷ n.epoch ∷ n.slot ∷ n.time ∷ []

-- the values of bytes 20 to 31
abbrev pub encoding_values : Signal → List ℕ
encoding_values s = s.encoding ∷ s.rate ∷ s.samples ∷ []

-- a Signal from the values of its table, its body left out
abbrev pub signal_from : List ℕ → Signal
signal_from v =
    record {
      header = header_from v;
      encoding = get_or (past_header v) 0 0;
      rate = get_or (past_header v) 1 0;
      samples = get_or (past_header v) 2 0;
      network = network_from (drop (counts (encoding_table 0)) (past_header v));
    }

-- the values of a Signal whose body has these
abbrev pub signal_values : Signal → List ℕ → List ℕ
signal_values s body =
    header_values s.header ++ (encoding_values s ++ (network_values s.network ++ body))
