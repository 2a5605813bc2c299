-- What a slice keeps that has passed a check of reading: no function behind the check asks for it again.
use Rattle.std.specs.Prelude.{ℕ, ◌*◌, ◌≤◌, ◌≡◌, List, length}
use Rattle.wire.specs.Bytes.{num, Bytes}
use Rattle.wire.specs.First.{first}
use Rattle.pdu.specs.Numbers
use Rattle.pdu.specs.Tables.{signal_size}
use Rattle.pdu.specs.Reading.{body_size, start_rules, transmitter_layout, signal_layout}

-- past 1, 2 and 3: a header's start lies in the slice
pub record IsStarted (d : List ℕ) : Type 0 where
  pub unbroken : first (start_rules d) ≡ 0
  pub inside : Numbers.shortest ≤ length d
  pub bytes : Bytes d

-- past 4, 5, 6, 7, 64 and 8: a Transmitter lies in the slice
pub record IsLaidTransmitter (d : List ℕ) : Type 0 where
  pub unbroken : first (transmitter_layout d) ≡ 0
  pub inside : Numbers.transmitter_size ≤ length d
  pub bytes : Bytes d

-- past 4, 10, 11, 12 and 8: the data length counts the network header, and a Signal lies in the slice, its body and its fill included
pub record IsLaidSignal (d : List ℕ) : Type 0 where
  pub unbroken : first (signal_layout d) ≡ 0
  pub counted : 8 * Numbers.network_bytes ≤ num 2 28 d
  pub inside : signal_size (body_size d) ≤ length d
  pub bytes : Bytes d
