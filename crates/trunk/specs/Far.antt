-- The far end: a record's arrival and the clock (01, "The trunk").
use Rattle.std.specs.Prelude.{ℕ, ◌+◌, ◌≡◌, Bool, cond, ◌||◌, List, [], ◌∷◌, ◌++◌, length, drop, eqb, ltb, Result, Ok, Err}
use Rattle.wire.specs.First.{Refusal, ◌given_when◌, first, told}
use Rattle.station.specs.Answers.{number as station_number}
use Rattle.station.specs.Units.{made}
use Rattle.station.specs.Hearing.{heard}
use Rattle.station.specs.Clock.{clocked}
use Rattle.station.specs.declared.Settings.{Settings}
use Rattle.station.specs.declared.Station.{Station}
use Rattle.trunk.specs.Refusals.{Refusal as Reason, number, named}
use Rattle.trunk.specs.Head.{head_size}
use Rattle.trunk.specs.Kinds.{longest_pdu}
use Rattle.trunk.specs.Record.{reply_of, number_in, carried_in, is_reply, form_rules, pdu_rules}
use Rattle.trunk.specs.declared.Far.{Far}
use Rattle.trunk.specs.declared.MadeFar.{MadeFar}
use Rattle.trunk.specs.declared.Arrival.{Arrival}
use Rattle.trunk.specs.declared.Arrival.TheVariants.{Delivered, Repeat, Early}
use Rattle.trunk.specs.declared.Arrived.{Arrived}
use Rattle.trunk.specs.declared.Ticked.{Ticked}

-- "a count k, first 0, and a station"
abbrev pub fresh_far : Station → Far
fresh_far s = record { count = 0; station = s }

-- what the far end's makers answer: the fresh far end with the station that the station's maker gives, 37 passed on
abbrev pub made_far : Settings → MadeFar
made_far given = record { far = fresh_far (made given).station; answer = (made given).answer }

-- "16 if the reply buffer is under 5 bytes or the output under 180"
abbrev pub lacks_room : ℕ → ℕ → Bool
lacks_room reply_room room = ltb reply_room head_size || ltb room longest_pdu

abbrev pub room_rules : ℕ → ℕ → List Refusal
room_rules reply_room room = (16 given_when lacks_room reply_room room) ∷ []

-- "On a record: 20, 21, 29, 25, 22, then 16"; and those behind the form
abbrev pub arrival_rest : List ℕ → ℕ → ℕ → List Refusal
arrival_rest r reply_room room = (29 given_when is_reply r) ∷ (pdu_rules r ++ room_rules reply_room room)

unfoldable pub arrival_rules : List ℕ → ℕ → ℕ → List Refusal
arrival_rules r reply_room room = form_rules r ++ arrival_rest r reply_room room

-- "Number k": whether a record with this number is the next
unfoldable pub is_next : ℕ → ℕ → Bool
is_next k number = eqb number k

-- the new k after a record with this number: "k grows by one"
unfoldable pub count_after : ℕ → ℕ → ℕ
count_after k number = cond (is_next k number) (k + 1) k

-- "Number k: the PDU is written .., the station steps .., its answer is handed up", with the new k
abbrev pub delivered : ℕ → Station → List ℕ → Arrived
delivered k station pdu =
    record {
      far = record { count = k; station = (heard station pdu).station };
      answer = Ok (Delivered (length pdu) (heard station pdu).answer);
    }

-- a record that was not refused: by its number, delivered, "Below k: repeat. Above k: early, dropped"
abbrev pub placed : Far → List ℕ → Arrived
placed far r =
    cond (is_next far.count (number_in r)) (delivered (count_after far.count (number_in r)) far.station (carried_in r))
    (cond (ltb (number_in r) far.count) (record { far = far; answer = Ok Repeat }) (record { far = far; answer = Ok Early }))

-- what an arrival answers and leaves
unfoldable pub arrived : Far → List ℕ → ℕ → ℕ → Arrived
arrived far r reply_room room =
    cond (eqb (first (arrival_rules r reply_room room)) 0)
    (placed far r)
    (record { far = far; answer = Err (named (first (arrival_rules r reply_room room))) })

-- what it leaves in the reply buffer: "All three write a reply with the new k at its buffer's start"
unfoldable pub reply_after : Far → List ℕ → List ℕ → ℕ → List ℕ
reply_after far r reply room =
    cond (eqb (first (arrival_rules r (length reply) room)) 0)
    (reply_of (count_after far.count (number_in r)) ++ drop head_size reply)
    reply

-- what it leaves in the output: "only the first touches the output"
unfoldable pub output_after : Far → List ℕ → ℕ → List ℕ → List ℕ
output_after far r reply_room out =
    cond (eqb (first (arrival_rules r reply_room (length out))) 0)
    (cond (is_next far.count (number_in r)) (carried_in r ++ drop (length (carried_in r)) out) out)
    out

-- document 01's number and values of each answer: "delivered (with PDU size and station's answer), repeat or early", which have none
abbrev pub arrival_says : Result Arrival Reason → List ℕ
arrival_says (Err e) = number e ∷ []
arrival_says (Ok (Delivered size answer)) = 0 ∷ size ∷ station_number answer ∷ []
arrival_says (Ok Repeat) = 0 ∷ []
arrival_says (Ok Early) = 0 ∷ []

-- the values of a record that was not refused
abbrev pub values_of : Far → List ℕ → List ℕ
values_of far r =
    cond (is_next far.count (number_in r))
    (length (carried_in r) ∷ station_number (heard far.station (carried_in r)).answer ∷ [])
    []

-- the whole outcome of an arrival: its answer with the far end after it, the reply buffer and the output after it
pub record ArrivalGives (far : Far) (r reply out : List ℕ) (a : Arrived) (reply' out' : List ℕ) : Type 0 where
  pub answer : a ≡ arrived far r (length reply) (length out)
  pub says : arrival_says a.answer ≡ told (first (arrival_rules r (length reply) (length out))) (values_of far r)
  pub reply_is : reply' ≡ reply_after far r reply (length out)
  pub output : out' ≡ output_after far r (length reply) out

-- the far end's clock call: its station's
unfoldable pub ticked : Far → ℕ → Ticked
ticked far t =
    record {
      far = record { count = far.count; station = (clocked far.station t).station };
      answer = (clocked far.station t).answer;
    }
