-- A list of calls on both ends of the line (01, "What demand 3 means"): each call gets the state that the last one left, and a log keeps each
-- call with all that it gave back, last call first. What was accepted, written, put out and acknowledged are functions of the log.
use Rattle.std.specs.Prelude.{ℕ, zero, suc, ◌+◌, max, length, take, Result, Ok, Err}
use mathlib.Core.List.{List, [], ◌∷◌, ◌++◌, Memᴰ, map}
use Rattle.wire.specs.Bytes.{num, Bytes}
use Rattle.pdu.specs.Writing.{written_form}
use Rattle.station.specs.Answers.{number as station_number}
use Rattle.station.specs.declared.answers.Answer.{Answer}
use Rattle.station.specs.Runs.{Call as StationCall, datagram, time}
use Rattle.station.specs.declared.Settings.{Settings}
use Rattle.trunk.specs.Refusals.{Refusal}
use Rattle.trunk.specs.Plain.{plain_row}
use Rattle.trunk.specs.Bundle.{bundle}
use Rattle.trunk.specs.Near.{fresh_near, offered, store_after, sent, sent_out, replied}
use Rattle.trunk.specs.Far.{made_far, arrived, reply_after, output_after, ticked}
use Rattle.trunk.specs.declared.Near.{Near}
use Rattle.trunk.specs.declared.Far.{Far}
use Rattle.trunk.specs.declared.Arrival.{Arrival}
use Rattle.trunk.specs.declared.Arrival.TheVariants.{Delivered, Repeat, Early}

-- a call, with the arguments that its caller is free to choose
pub data Call : Type 0 where
  -- a datagram is offered at the near end
  offer : List ℕ → Call
  -- the near end sends the record of a number into a lent buffer
  send : ℕ → List ℕ → Call
  -- a record arrives at the near end
  to_near : List ℕ → Call
  -- a record arrives at the far end, with a lent reply buffer and a lent output
  to_far : List ℕ → List ℕ → List ℕ → Call
  -- the far end's clock
  tick : ℕ → Call

-- a call that was made: its arguments, its answer, and what it left in the store or the buffers lent to it
pub data Entry : Type 0 where
  offer_made : List ℕ → Result ℕ Refusal → List ℕ → Entry
  send_made : ℕ → Result ℕ Refusal → List ℕ → Entry
  reply_heard : List ℕ → Result ℕ Refusal → Entry
  record_heard : List ℕ → Result Arrival Refusal → List ℕ → List ℕ → Entry
  clock_set : ℕ → Answer → Entry

-- both ends, the store, and the log
pub record Line : Type 0 where
  pub near : Near
  pub store : List ℕ
  pub far : Far
  pub log : List Entry

-- "The list starts from a fresh near end, any store, and a fresh far end, its station of any settings": what the makers give
abbrev pub start : Settings → List ℕ → Line
start settings store = record { near = fresh_near; store = store; far = (made_far settings).far; log = [] }

-- the entry of a call
abbrev pub entry : Line → Call → Entry
entry l (offer d) = offer_made d (offered l.near l.store d).answer (store_after l.near l.store d)
entry l (send i out) = send_made i (sent l.near l.store i (length out)).answer (sent_out l.near l.store i out)
entry l (to_near r) = reply_heard r (replied l.near r).answer
entry l (to_far r reply out) =
    record_heard r
    (arrived l.far r (length reply) (length out)).answer
    (reply_after l.far r reply (length out))
    (output_after l.far r (length reply) out)
entry l (tick t) = clock_set t (ticked l.far t).answer

-- one call
abbrev pub step : Line → Call → Line
step l (offer d) =
    record {
      near = (offered l.near l.store d).near;
      store = store_after l.near l.store d;
      far = l.far;
      log = entry l (offer d) ∷ l.log;
    }
step l (send i out) =
    record {
      near = (sent l.near l.store i (length out)).near;
      store = l.store;
      far = l.far;
      log = entry l (send i out) ∷ l.log;
    }
step l (to_near r) =
    record {
      near = (replied l.near r).near;
      store = l.store;
      far = l.far;
      log = entry l (to_near r) ∷ l.log;
    }
step l (to_far r reply out) =
    record {
      near = l.near;
      store = l.store;
      far = (arrived l.far r (length reply) (length out)).far;
      log = entry l (to_far r reply out) ∷ l.log;
    }
step l (tick t) =
    record {
      near = l.near;
      store = l.store;
      far = (ticked l.far t).far;
      log = entry l (tick t) ∷ l.log;
    }

-- a list of calls, first call first
abbrev pub run : Line → List Call → Line
run l [] = l
run l (c ∷ cs) = run (step l c) cs

-- what each entry of a log gives, in the order of the calls
abbrev pub collect : {A : Type 0} → (Entry → List A) → List Entry → List A
collect f [] = []
collect f (e ∷ log) = collect f log ++ f e

-- "Accepted are the PDUs of the offers not refused, from number 0, as the writer gives them"; 02, R-5: "of the PDUs inside bundles, one by one"
abbrev pub accepted_by : Entry → List (List ℕ)
accepted_by (offer_made d (Err e) store) = []
accepted_by (offer_made d (Ok i) store) = map written_form (bundle d)
accepted_by (send_made i a out) = []
accepted_by (reply_heard r a) = []
accepted_by (record_heard r a reply out) = []
accepted_by (clock_set t a) = []

abbrev pub accepted : List Entry → List (List ℕ)
accepted log = collect accepted_by log

-- "Put out are the PDUs at the start of the output, by the size answered, of the arrivals answered delivered"
abbrev pub put_out_by : Entry → List (List ℕ)
put_out_by (offer_made d a store) = []
put_out_by (send_made i a out) = []
put_out_by (reply_heard r a) = []
put_out_by (record_heard r (Err e) reply out) = []
put_out_by (record_heard r (Ok (Delivered size answer)) reply out) = take size out ∷ []
put_out_by (record_heard r (Ok Repeat) reply out) = []
put_out_by (record_heard r (Ok Early) reply out) = []
put_out_by (clock_set t a) = []

abbrev pub put_out : List Entry → List (List ℕ)
put_out log = collect put_out_by log

-- the rows of so many numbers from this one on, each to the length of its kind
abbrev pub rows_from : List ℕ → ℕ → ℕ → List (List ℕ)
rows_from store i zero = []
rows_from store i (suc n) = plain_row store i ∷ rows_from store (i + 1) n

-- the records that calls wrote: an offer's, as their rows of the store have them; a send's, by the size answered; and an arrival's reply, 5 bytes
abbrev pub written_by : Entry → List (List ℕ)
written_by (offer_made d (Err e) store) = []
written_by (offer_made d (Ok i) store) = rows_from store i (length (bundle d))
written_by (send_made i (Err e) out) = []
written_by (send_made i (Ok n) out) = take n out ∷ []
written_by (reply_heard r a) = []
written_by (record_heard r (Err e) reply out) = []
written_by (record_heard r (Ok (Delivered size answer)) reply out) = take 5 reply ∷ []
written_by (record_heard r (Ok Repeat) reply out) = take 5 reply ∷ []
written_by (record_heard r (Ok Early) reply out) = take 5 reply ∷ []
written_by (clock_set t a) = []

abbrev pub written : List Entry → List (List ℕ)
written log = collect written_by log

-- "Acknowledged is the largest number of a reply taken without refusal, first 0"
abbrev pub acknowledged : List Entry → ℕ
acknowledged [] = 0
acknowledged (offer_made d a store ∷ log) = acknowledged log
acknowledged (send_made i a out ∷ log) = acknowledged log
acknowledged (reply_heard r (Err e) ∷ log) = acknowledged log
acknowledged (reply_heard r (Ok n) ∷ log) = max (acknowledged log) (num 4 1 r)
acknowledged (record_heard r a reply out ∷ log) = acknowledged log
acknowledged (clock_set t a ∷ log) = acknowledged log

-- what the station was given, "on each PDU put out and each clock call in the list's order"
abbrev pub events_by : Entry → List StationCall
events_by (offer_made d a store) = []
events_by (send_made i a out) = []
events_by (reply_heard r a) = []
events_by (record_heard r (Err e) reply out) = []
events_by (record_heard r (Ok (Delivered size answer)) reply out) = datagram (take size out) ∷ []
events_by (record_heard r (Ok Repeat) reply out) = []
events_by (record_heard r (Ok Early) reply out) = []
events_by (clock_set t a) = time t ∷ []

abbrev pub events : List Entry → List StationCall
events log = collect events_by log

-- what the station answered, by document 01's numbers
abbrev pub station_said_by : Entry → List ℕ
station_said_by (offer_made d a store) = []
station_said_by (send_made i a out) = []
station_said_by (reply_heard r a) = []
station_said_by (record_heard r (Err e) reply out) = []
station_said_by (record_heard r (Ok (Delivered size answer)) reply out) = station_number answer ∷ []
station_said_by (record_heard r (Ok Repeat) reply out) = []
station_said_by (record_heard r (Ok Early) reply out) = []
station_said_by (clock_set t a) = station_number a ∷ []

abbrev pub station_said : List Entry → List ℕ
station_said log = collect station_said_by log

-- what a caller may do after a log: "What arrives at either end is exactly a record that an earlier call of the list wrote. All other
-- arguments are free"; a datagram is a list of bytes
abbrev pub Allowed : List Entry → Call → Type 0
Allowed log (offer d) = Bytes d
Allowed log (send i out) = Unit {0}
Allowed log (to_near r) = Memᴰ r (written log)
Allowed log (to_far r reply out) = Memᴰ r (written log)
Allowed log (tick t) = Unit {0}

-- every call of a list is allowed where it is made
abbrev pub Fair : Line → List Call → Type 0
Fair l [] = Unit {0}
Fair l (c ∷ cs) = Allowed l.log c × Fair (step l c) cs
