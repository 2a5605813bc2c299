-- What each call of the trunk leaves, in plain numbers and at byte places (01, "The trunk"): of a call that is taken the end's state, the store
-- and every byte of the buffers lent to it; of a refused one, nothing changed. `OfferExactly` and the others say when a call is taken.
use Rattle.std.specs.Prelude.{ℕ, ◌+◌, ◌*◌, ◌%◌, max, ◌≡◌, ◌≢◌, List, [], ◌∷◌, ◌++◌, length, take, drop, Ok, Err}
use Rattle.wire.specs.Bytes.{num}
use Rattle.pdu.specs.Reading.{reading}
use Rattle.pdu.specs.Writing.{padding_zero}
use Rattle.station.specs.Answers.{number as station_number}
use Rattle.station.specs.Units.{made}
use Rattle.station.specs.Hearing.{heard}
use Rattle.station.specs.Clock.{clocked}
use Rattle.station.specs.declared.Settings.{Settings}
use Rattle.trunk.specs.Plain.{plain_kind, record_with, reply_with, plain_length, plain_row_kind, plain_row}
use Rattle.trunk.specs.Line.{Entry, offer_made, send_made, reply_heard, record_heard, clock_set, Call, offer, send, to_near, to_far, tick}
use Rattle.trunk.specs.Line.{Line, entry, step}
use Rattle.trunk.specs.declared.Near.{Near}
use Rattle.trunk.specs.declared.Far.{Far}
use Rattle.trunk.specs.declared.MadeFar.{MadeFar}
use Rattle.trunk.specs.declared.Ticked.{Ticked}

-- ---- calls that are taken

-- bytes with others written over them from byte `at` on
abbrev pub overwritten : ℕ → List ℕ → List ℕ → List ℕ
overwritten at bytes old = take at old ++ bytes ++ drop (at + length bytes) old

-- "the counts accepted .. and acknowledged, both first 0"; "a count k, first 0, and a station", which is the one that its maker gives
pub record Fresh (near : Near) (settings : Settings) (made-far : MadeFar) : Type 0 where
  pub accepted : near.accepted ≡ 0
  pub acknowledged : near.acknowledged ≡ 0
  pub count : made-far.far.count ≡ 0
  pub station : made-far.far.station ≡ (made settings).station
  pub answer : made-far.answer ≡ (made settings).answer

-- "Offering writes the record from the first byte of row (number mod 8)": kind, number, and the PDU with padding zero, one PDU behind the other under
-- the numbers from this one on; all other bytes of the store stay
abbrev pub rows_written : ℕ → List (List ℕ) → List ℕ → List ℕ
rows_written number [] store = store
rows_written number (p ∷ ps) store =
    rows_written (number + 1) ps
    (overwritten (192 * (number % 8)) (record_with (plain_kind (reading p)) number (padding_zero p)) store)

-- "The PDU takes the accepted count as its number", "of the PDUs inside bundles, one by one" (02, R-5)
pub record OfferLeaves (near : Near) (store : List ℕ) (pdus : List (List ℕ)) (near' : Near) (store' : List ℕ) : Type 0 where
  pub accepted : near'.accepted ≡ near.accepted + length pdus
  pub acknowledged : near'.acknowledged ≡ near.acknowledged
  pub store_is : store' ≡ rows_written near.accepted pdus store

-- "Sending number i writes its record (the row's bytes as they stand, to the length of their kind) from the start of a lent buffer"
pub record SendLeaves (near : Near) (store : List ℕ) (i : ℕ) (out : List ℕ) (near' : Near) (out' : List ℕ) : Type 0 where
  pub near_same : near' ≡ near
  pub output : out' ≡ plain_row store i ++ drop (plain_length (plain_row_kind store i)) out

-- "below the acknowledged count it changes nothing, else that count becomes its number"
pub record ReplyLeaves (near : Near) (r : List ℕ) (near' : Near) : Type 0 where
  pub accepted : near'.accepted ≡ near.accepted
  pub acknowledged : near'.acknowledged ≡ max near.acknowledged (num 4 1 r)

-- "Number k: the PDU is written at the start of the output, the station steps .., k grows by one", and a reply has the new k
pub record NumberK (far : Far) (r reply out : List ℕ) (far' : Far) (reply' out' : List ℕ) : Type 0 where
  pub count : far'.count ≡ far.count + 1
  pub station : far'.station ≡ (heard far.station (drop 5 r)).station
  pub reply_is : reply' ≡ reply_with (far.count + 1) ++ drop 5 reply
  pub output : out' ≡ drop 5 r ++ drop (length (drop 5 r)) out

-- "Below k: repeat. Above k: early, dropped": a reply with k alone
pub record OtherNumber (far : Far) (reply out : List ℕ) (far' : Far) (reply' out' : List ℕ) : Type 0 where
  pub far_same : far' ≡ far
  pub reply_is : reply' ≡ reply_with far.count ++ drop 5 reply
  pub output : out' ≡ out

pub record ArriveLeaves (far : Far) (r reply out : List ℕ) (far' : Far) (reply' out' : List ℕ) : Type 0 where
  pub next : num 4 1 r ≡ far.count → NumberK far r reply out far' reply' out'
  pub other : num 4 1 r ≢ far.count → OtherNumber far reply out far' reply' out'

-- the far end's clock call is its station's, and k stays
pub record TickLeaves (far : Far) (t : ℕ) (o : Ticked) : Type 0 where
  pub count : o.far.count ≡ far.count
  pub station : o.far.station ≡ (clocked far.station t).station
  pub answer : o.answer ≡ (clocked far.station t).answer

-- ---- calls that are refused

-- the entry of a refused call; a clock is refused by 36
abbrev pub Refused : Entry → Type 0
Refused (offer_made d (Err e) store) = Unit {0}
Refused (offer_made d (Ok i) store) = ⊥
Refused (send_made i (Err e) out) = Unit {0}
Refused (send_made i (Ok n) out) = ⊥
Refused (reply_heard r (Err e)) = Unit {0}
Refused (reply_heard r (Ok n)) = ⊥
Refused (record_heard r (Err e) reply out) = Unit {0}
Refused (record_heard r (Ok a) reply out) = ⊥
Refused (clock_set t a) = station_number a ≡ 36

-- what is lent to a call, and what it left there
abbrev pub lent : Line → Call → List (List ℕ)
lent l (offer d) = l.store ∷ []
lent l (send i out) = out ∷ []
lent l (to_near r) = []
lent l (to_far r reply out) = reply ∷ out ∷ []
lent l (tick t) = []

abbrev pub left : Entry → List (List ℕ)
left (offer_made d a store) = store ∷ []
left (send_made i a out) = out ∷ []
left (reply_heard r a) = []
left (record_heard r a reply out) = reply ∷ out ∷ []
left (clock_set t a) = []

-- "A refusal changes no state and no byte of any lent buffer": both ends, the store, and all that was lent to the call
pub record ChangesNothing (l : Line) (c : Call) : Type 0 where
  pub near_same : (step l c).near ≡ l.near
  pub store_same : (step l c).store ≡ l.store
  pub far_same : (step l c).far ≡ l.far
  pub lent_same : left (entry l c) ≡ lent l c
