-- Demand 3, sentence by sentence (01, "What demand 3 means"): what holds after every fair list of calls.
use Rattle.std.specs.Prelude.{ℕ, ◌+◌, ◌≤◌, ◌<◌, ◌≡◌, List, [], ◌∷◌, map, length, get_or, take, Ok, Err}
use Rattle.pdu.specs.Writing.{padding_zero}
use Rattle.station.specs.Runs.{after, answers}
use Rattle.station.specs.declared.Station.{Station}
use Rattle.trunk.specs.Plain.{record_for, reply_with, plain_row}
use Rattle.trunk.specs.Bundle.{bundle}
use Rattle.trunk.specs.Far.{reply_after}
use Rattle.trunk.specs.Line.{Entry, offer_made, send_made, reply_heard, record_heard, clock_set, Call, to_near, to_far, Line, run, collect}
use Rattle.trunk.specs.Line.{accepted, put_out, acknowledged, events, station_said, Fair}
use Rattle.trunk.specs.declared.Arrival.TheVariants.{Delivered, Repeat, Early}

-- PDU i of those accepted, and its record: "kind, i, PDU i"
abbrev pub pdu_at : List Entry → ℕ → List ℕ
pdu_at log i = get_or (accepted log) i []

abbrev pub record_at : List Entry → ℕ → List ℕ
record_at log i = record_for i (pdu_at log i)

-- the PDUs of the offers not refused, from number 0, as they were offered
abbrev pub given_by : Entry → List (List ℕ)
given_by (offer_made d (Err e) store) = []
given_by (offer_made d (Ok i) store) = bundle d
given_by (send_made i a out) = []
given_by (reply_heard r a) = []
given_by (record_heard r a reply out) = []
given_by (clock_set t a) = []

abbrev pub given : List Entry → List (List ℕ)
given log = collect given_by log

-- k: "k counts them", the PDUs put out
abbrev pub count : List Entry → ℕ
count log = length (put_out log)

-- record k handed over with these lent buffers, and the reply that it leaves next
abbrev pub handover : Line → List ℕ → List ℕ → List Call
handover l reply out =
    to_far (record_at l.log (count l.log)) reply out
    ∷ to_near (take 5 (reply_after l.far (record_at l.log (count l.log)) reply (length out)))
    ∷ []

-- the numbers in an answer and in a written record are those of the log: an offer's first number and the records in the rows of its PDUs, a send's
-- record and size, a reply's count, a delivered PDU's size, and the count in each reply written, which is 32 and that count in 4 bytes
abbrev pub Says : Entry → List Entry → Type 0
Says (offer_made d (Err e) store) log = Unit {0}
Says (offer_made d (Ok i) store) log =
    (i ≡ length (accepted log))
    × ((j : ℕ) → i ≤ j → j < i + length (bundle d) → plain_row store j ≡ record_at (offer_made d (Ok i) store ∷ log) j)
Says (send_made i (Err e) out) log = Unit {0}
Says (send_made i (Ok n) out) log =
    (i < length (accepted log)) × (take n out ≡ record_at log i) × (n ≡ length (record_at log i))
Says (reply_heard r (Err e)) log = Unit {0}
Says (reply_heard r (Ok n)) log = n ≡ acknowledged (reply_heard r (Ok n) ∷ log)
Says (record_heard r (Err e) reply out) log = Unit {0}
Says (record_heard r (Ok (Delivered size answer)) reply out) log =
    (size ≡ length (pdu_at log (count log))) × (take 5 reply ≡ reply_with (count log + 1))
Says (record_heard r (Ok Repeat) reply out) log = take 5 reply ≡ reply_with (count log)
Says (record_heard r (Ok Early) reply out) log = take 5 reply ≡ reply_with (count log)
Says (clock_set t a) log = Unit {0}

-- every entry says so of the log before it
abbrev pub AllSay : List Entry → Type 0
AllSay [] = Unit {0}
AllSay (e ∷ log) = Says e log × AllSay log

-- what demand 3 claims of a line whose far end started with this station: its sentences, one by one
pub record Demand3 (station : Station) (l : Line) : Type 0 where
  -- "what the far end put out is the first k PDUs accepted, each once, in order"
  pub in_order : put_out l.log ≡ take (count l.log) (accepted l.log)
  -- and each is the PDU that was offered, with padding zero
  pub padding_zero : put_out l.log ≡ take (count l.log) (map padding_zero (given l.log))
  -- "its station stands .. as a fresh one given those PDUs and clock calls": "fields .. and places .. are the same"
  pub station_stands : l.far.station ≡ after station (events l.log)
  -- "and has answered as a fresh one": "answers .. are the same"
  pub station_answered : station_said l.log ≡ answers station (events l.log)
  -- "acknowledged ≤ k ≤ accepted ≤ acknowledged + 8"
  pub acknowledged_put_out : acknowledged l.log ≤ count l.log
  pub put_out_accepted : count l.log ≤ length (accepted l.log)
  pub window : length (accepted l.log) ≤ acknowledged l.log + 8
  -- "The ends' own counts .. are these"
  pub near_accepted : l.near.accepted ≡ length (accepted l.log)
  pub near_acknowledged : l.near.acknowledged ≡ acknowledged l.log
  pub far_count : l.far.count ≡ count l.log
  -- ".. and those in answers and written replies, are these. A send of i, unless refused, writes record i: kind, i, PDU i"
  pub all_say : AllSay l.log
  -- "and handing over record k and its reply makes acknowledged k + 1": where k is below accepted, with room in the lent buffers
  pub next :
      count l.log < length (accepted l.log)
      → (reply out : List ℕ)
      → 5 ≤ length reply
      → 180 ≤ length out
      → (run l (handover l reply out)).near.acknowledged ≡ count l.log + 1
  -- and both were written by calls, so that handing them over goes on with a fair list
  pub next_fair :
      count l.log < length (accepted l.log)
      → (reply out : List ℕ)
      → 5 ≤ length reply
      → 180 ≤ length out
      → Fair l (handover l reply out)
