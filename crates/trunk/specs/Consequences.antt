-- What demand 3 means for the box: the far station is given each order once, what the near end counts as acknowledged was put out, and nothing
-- is put out that was not offered.
use Rattle.std.specs.Prelude.{ℕ, ◌<◌, ◌≡◌, get_or, take, Ok}
use mathlib.Core.List.{List, [], ◌∷◌, Memᴰ}
use Rattle.pdu.specs.Writing.{padding_zero}
use Rattle.station.specs.Runs.{Call as StationCall, datagram, time}
use Rattle.trunk.specs.Bundle.{bundle}
use Rattle.trunk.specs.Line.{Entry, offer_made, Call, offer, Line, accepted, put_out, events}
use Rattle.trunk.specs.Demand.{pdu_at, count}

-- the datagrams among a station's calls
abbrev pub datagrams : List StationCall → List (List ℕ)
datagrams [] = []
datagrams (datagram d ∷ cs) = d ∷ datagrams cs
datagrams (time t ∷ cs) = datagrams cs

-- a PDU that an offer of a list of calls brought: the offer, the number that it answered, and the store after it; the PDU is one of those in its
-- datagram with padding zero
pub record WasOffered (p : List ℕ) (calls : List Call) (log : List Entry) : Type 0 where
  pub given : List ℕ
  pub number : ℕ
  pub call : Memᴰ (offer given) calls
  pub store : List ℕ
  pub entry : Memᴰ (offer_made given (Ok number) store) log
  pub pdu : List ℕ
  pub inside : Memᴰ pdu (bundle given)
  pub form : p ≡ padding_zero pdu

-- what holds after a list of calls, the line that they bring about given
pub record Consequences (calls : List Call) (l : Line) : Type 0 where
  -- an order never reaches the far station twice, whichever replies are lost and however often its record arrives: the datagrams that the
  -- station was given are the first k PDUs accepted, each once, in their order
  pub heard_once : datagrams (events l.log) ≡ take (count l.log) (accepted l.log)
  -- what the near end counts as acknowledged was put out: PDU i of those accepted is number i of those put out
  pub acknowledged_was_put_out : (i : ℕ) → i < l.near.acknowledged → get_or (put_out l.log) i [] ≡ pdu_at l.log i
  -- nothing is put out that was not offered: each PDU put out is, with padding zero, one of an offer that was not refused
  pub only_offered : (p : List ℕ) → Memᴰ p (put_out l.log) → WasOffered p calls l.log
