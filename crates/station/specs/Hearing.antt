-- What a datagram does to a station, and what the call answers. Answers are document 01's numbers: the reader's own, 30 to 35, 40 to 44, and 47.
use Rattle.std.specs.Prelude.{ℕ, ◌+◌, Bool, true, false, cond, not, ◌&&◌, ◌||◌, Option, Some, None, List, [], ◌∷◌, eqb, ltb}
use Rattle.wire.specs.First.{Refusal, ◌given_when◌, first}
use Rattle.occupancy.specs.Places.{places, free_place}
use Rattle.pdu.specs.Reading.{reading, body_of}
use Rattle.pdu.specs.Words.{word_at}
use Rattle.pdu.specs.declared.Transmitter.{Transmitter}
use Rattle.pdu.specs.declared.Signal.{Signal}
use Rattle.pdu.specs.declared.Word.{Word}
use Rattle.pdu.specs.declared.Reading.{Reading}
use Rattle.pdu.specs.declared.Reading.TheVariants.{Refused, Transmitter as a_transmitter, Signal as a_signal}
use Rattle.pdu.specs.Numbers.{fine, interrogation, timing_reply}
use Rattle.station.specs.Numbers.{any_id, coarse_level, ppli_label}
use Rattle.station.specs.Answers.{Answer, Unread, named}
use Rattle.station.specs.Units.{net_of, id_of, state_of, clock_of, with_standing, key_of, unit_at, place_of, known, with_own, with_unit, with_new}
use Rattle.station.specs.declared.State.{State}
use Rattle.station.specs.declared.State.TheVariants.{Waiting, Coarse, Fine}
use Rattle.station.specs.declared.Standing.{Standing}
use Rattle.station.specs.declared.Own.{Own}
use Rattle.station.specs.declared.Unit.{Unit}
use Rattle.station.specs.declared.Station.{Station}
use Rattle.station.specs.declared.Heard.{Heard}
use Rattle.station.specs.declared.Message.{Message}
use Rattle.station.specs.declared.Message.TheVariants.{NetEntry, Ppli, Interrogation, TimingReply, Other}

-- an answer, and the station that the call leaves
abbrev pub leaving : Answer → Station → Heard
leaving a s = record { station = s; answer = a }

-- the same by the number of the answer
abbrev pub answering : ℕ → Station → Heard
answering n s = leaving (named n) s

-- the first rule that applies gives its number and changes nothing; where none does, the outcome
abbrev pub unless : Station → List Refusal → Heard → Heard
unless s rules outcome = cond (eqb (first rules) 0) outcome (answering (first rules) s)

-- ---- Transmitter

-- "entry made, not In, last = now"
abbrev pub new_unit : ℕ → Transmitter → Unit
new_unit now t =
    record {
      key = key_of t.header;
      level = t.sync.level;
      state = t.sync.state;
      id = t.sync.id;
      inside = false;
      last = now;
    }

-- "level, state and ID replaced, In kept only if the state is 3 and the ID unchanged, last kept"
abbrev pub renewed : Unit → Transmitter → Unit
renewed u t =
    record {
      key = u.key;
      level = t.sync.level;
      state = t.sync.state;
      id = t.sync.id;
      inside = u.inside && (eqb t.sync.state fine && eqb t.sync.id u.id);
      last = u.last;
    }

-- "key unknown: entry made .. answer 40; 30 if no place is free"
unfoldable pub enter : Station → Transmitter → Heard
enter s t =
    unless s ((30 given_when not (ltb (free_place s.used) places)) ∷ [])
    (answering 40 (with_new s (free_place s.used) (new_unit (clock_of s) t)))

-- "key known: .. answer 41"
unfoldable pub renew : Station → ℕ → Transmitter → Heard
renew s i t = answering 41 (with_unit s i (renewed (unit_at s i) t))

-- "Transmitter, key unknown: ..", "Key known: .."
unfoldable pub heard_transmitter : Station → Transmitter → Heard
heard_transmitter s t = cond (known s (key_of t.header)) (renew s (place_of s (key_of t.header)) t) (enter s t)

-- ---- Signal

-- 33: the IDs differ, and neither is zero ("zero ID matches all")
unfoldable pub other_id : ℕ → ℕ → Bool
other_id own sender = cond (eqb own any_id || eqb sender any_id) false (not (eqb own sender))

-- the sender's entry
abbrev pub sender_of : Station → Signal → Unit
sender_of s g = unit_at s (place_of s (key_of g.header))

-- "Signal, in this order: 31 key unknown; 32 net differs; 33 IDs differ and neither is zero"
unfoldable pub signal_rules : Station → Signal → List Refusal
signal_rules s g =
    (31 given_when not (known s (key_of g.header)))
    ∷ (32 given_when not (eqb g.network.net (net_of s)))
    ∷ (33 given_when other_id (id_of s) (sender_of s g).id)
    ∷ []

-- "label 0, sublabel 0 (J0.0)", "label 2 (PPLI)", "all else"
unfoldable pub labelled : ℕ → ℕ → Message
labelled label sublabel = cond (eqb label 0 && eqb sublabel 0) NetEntry (cond (eqb label ppli_label) Ppli Other)

-- what a first word says, "by the first word of type 0 if it is initial"
unfoldable pub word_saying : ℕ → Option Word → Message
word_saying type None = Other
word_saying type (Some w) = cond (eqb type 0 && eqb w.format 0) (labelled w.label w.sublabel) Other

-- what a Signal says: round-trip timing by its type (02, R-1), all else by the first word; "all else, no words .. included"
unfoldable pub message_of : ℕ → Option Word → Message
message_of type w = cond (eqb type interrogation) Interrogation (cond (eqb type timing_reply) TimingReply (word_saying type w))

-- "If both levels are 4, Waiting becomes Coarse and other states stay; else the state becomes Fine"
abbrev pub state_after : Bool → State → State
state_after true Waiting = Coarse
state_after true Coarse = Coarse
state_after true Fine = Fine
state_after false state = Fine

-- whether both levels are 4
abbrev pub both_coarse : ℕ → ℕ → Bool
both_coarse own sender = eqb own coarse_level && eqb sender coarse_level

-- "A zero station ID becomes the sender's ID"
abbrev pub id_after : ℕ → ℕ → ℕ
id_after own sender = cond (eqb own any_id) sender own

-- 02, R-1: "The count is zero on entering Coarse"
abbrev pub count_joined : Bool → State → ℕ → ℕ
count_joined true Waiting count = 0
count_joined true Coarse count = count
count_joined true Fine count = count
count_joined false state count = count

-- where the station stands after a J0.0 from the sender u
abbrev pub standing_after : Own → Unit → Standing
standing_after own u =
    record {
      id = id_after own.standing.id u.id;
      count = count_joined (both_coarse own.settings.level u.level) own.standing.state own.standing.count;
      state = state_after (both_coarse own.settings.level u.level) own.standing.state;
    }

-- the station after a J0.0 from the sender u
unfoldable pub after_j00 : Station → Unit → Station
after_j00 s u = with_own s (with_standing s.own (standing_after s.own u))

-- the sender's entry after a PPLI: "then In, last = now"
abbrev pub heard_unit : ℕ → Unit → Unit
heard_unit now u =
    record { key = u.key; level = u.level; state = u.state; id = u.id; inside = true; last = now }

-- the station after a PPLI from the sender in place i
unfoldable pub after_ppli : Station → ℕ → Station
after_ppli s i = with_unit s i (heard_unit (clock_of s) (unit_at s i))

-- whether a station's state is Fine
abbrev pub is_fine : State → Bool
is_fine Waiting = false
is_fine Coarse = false
is_fine Fine = true

-- whether it is Coarse
abbrev pub is_coarse : State → Bool
is_coarse Waiting = false
is_coarse Coarse = true
is_coarse Fine = false

-- 02, R-1: "While it is Coarse and its level 4, each type 2 message .. from a fine sender of level 4 counts one"
abbrev pub counts_for : Own → Unit → Bool
counts_for own u = is_coarse own.standing.state && both_coarse own.settings.level u.level

-- one more, up to the number of exchanges
abbrev pub count_next : ℕ → ℕ → ℕ
count_next exchanges count = cond (ltb count exchanges) (count + 1) exchanges

-- "at that number the state becomes Fine"
abbrev pub state_timed : ℕ → ℕ → State
state_timed exchanges count = cond (eqb count exchanges) Fine Coarse

-- where the station stands after a message that counts
abbrev pub standing_timed : Own → Standing
standing_timed own =
    record {
      id = own.standing.id;
      count = count_next own.settings.exchanges own.standing.count;
      state = state_timed own.settings.exchanges (count_next own.settings.exchanges own.standing.count);
    }

-- the station after it
abbrev pub after_timing : Station → Station
after_timing s = with_own s (with_standing s.own (standing_timed s.own))

-- 34: "unless the sender is fine"
abbrev pub not_fine : Unit → Refusal
not_fine u = 34 given_when not (eqb u.state fine)

-- 35: "unless the sender is In and the station Fine"
abbrev pub not_in : Station → Unit → Refusal
not_in s u = 35 given_when not (u.inside && is_fine (state_of s))

-- what a Signal that passed 31, 32 and 33 does, by what it says, for the sender in place i
unfoldable pub heard_message : Station → ℕ → Message → Heard
heard_message s i NetEntry = unless s (not_fine (unit_at s i) ∷ []) (answering 42 (after_j00 s (unit_at s i)))
heard_message s i Ppli = unless s (not_fine (unit_at s i) ∷ []) (answering 43 (after_ppli s i))
heard_message s i TimingReply =
    unless s (not_fine (unit_at s i) ∷ []) (cond (counts_for s.own (unit_at s i)) (answering 47 (after_timing s)) (answering 44 s))
heard_message s i Interrogation = answering 44 s
heard_message s i Other = unless s (not_in s (unit_at s i) ∷ []) (answering 44 s)

-- a Signal and the first word of its body: "31", "32", "33", "Then, by the first word"
unfoldable pub heard_signal : Station → Signal → Option Word → Heard
heard_signal s g w =
    unless s (signal_rules s g)
    (heard_message s (place_of s (key_of g.header)) (message_of g.network.message_type w))

-- ---- any datagram

-- what reading answered, and the first word of the body, make of a station: "the reader's number comes first and changes nothing"
unfoldable pub step : Station → Reading → Option Word → Heard
step s (Refused refusal) w = leaving (Unread refusal) s
step s (a_transmitter t) w = heard_transmitter s t
step s (a_signal g n) w = heard_signal s g w

-- the first word of a datagram's body
abbrev pub first_word : List ℕ → Option Word
first_word d = word_at (body_of d) 0

-- what a datagram makes of a station
unfoldable pub heard : Station → List ℕ → Heard
heard s d = step s (reading d) (first_word d)
