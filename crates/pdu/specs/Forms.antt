-- What reading answers is also the form of a PDU: its table, its values, its bytes and its size all follow from it.
use Rattle.std.specs.Prelude.{ℕ, List, [], length, take, drop}
use Rattle.wire.specs.Table.{Slot, read, fill, clear}
use Rattle.pdu.specs.Numbers
use Rattle.pdu.specs.Tables.{signal_size, is_seven, transmitter_table, body_slots, body_table, signal_table}
use Rattle.pdu.specs.Records.{transmitter_values, signal_values}
use Rattle.pdu.specs.declared.Reading.{Reading}
use Rattle.pdu.specs.declared.Reading.TheVariants.{Refused, Transmitter, Signal}

-- the table of the whole PDU; a refusal has none
abbrev pub table_of : Reading → List Slot
table_of (Refused e) = []
table_of (Transmitter t) = transmitter_table (is_seven t.header.version)
table_of (Signal s n) = signal_table (is_seven s.header.version) s.network.message_type n

-- the values of a body of n bytes in a message of this type
abbrev pub body_values : ℕ → ℕ → List ℕ → List ℕ
body_values type n body = read 0 (body_slots type n) body

-- such a body with the padding inside it zero (02, R-1)
abbrev pub body_cleared : ℕ → ℕ → List ℕ → List ℕ
body_cleared type n body = clear 0 (body_slots type n) body

-- the values in the table's order, with the body given
abbrev pub values_of : Reading → List ℕ → List ℕ
values_of (Refused e) body = []
values_of (Transmitter t) body = transmitter_values t
values_of (Signal s n) body = signal_values s (body_values s.network.message_type n body)

-- the bytes from byte 52 on in a message of this type: the body, and its fill
abbrev pub bytes_of_body : ℕ → List ℕ → List ℕ
bytes_of_body type body = fill (body_table type (length body)) (body_values type (length body) body)

-- the bytes of the PDU, with the body given
unfoldable pub bytes_of : Reading → List ℕ → List ℕ
bytes_of r body = fill (table_of r) (values_of r body)

-- the size of the PDU; 0 where the datagram is refused
abbrev pub size_of : Reading → ℕ
size_of (Refused e) = 0
size_of (Transmitter t) = Numbers.transmitter_size
size_of (Signal s n) = signal_size n

-- the body in a datagram of this form: "the part of the caller's datagram that starts at byte 52"
abbrev pub body_in : Reading → List ℕ → List ℕ
body_in (Refused e) d = []
body_in (Transmitter t) d = []
body_in (Signal s n) d = take n (drop Numbers.body_start d)
