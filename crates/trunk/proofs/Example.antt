-- One list of calls, computed: it is fair, and each call answers as its line says. Four PDUs are accepted, three of them in one bundle; a record comes
-- early, one is handed over twice, one is lost, replies are lost or come late, and calls at both ends are refused. So demand 3's premise can be met,
-- and it speaks of lists in which something happens.
-- Assumes nothing.
use Prim.Native.Nat.{ℕ, zero, suc, ◌+◌, ◌*◌}
use mathlib.Core.Path.{◌≡◌, refl, ap₂}
use mathlib.Core.Bool.{Bool, true, false, ◌&&◌, ◌||◌, false≢true}
use mathlib.Core.List.{List, [], ◌∷◌, ◌++◌, Memᴰ}
use lib.ListN.{length, replicate}
use lib.Dec.{eqb, ltb}
use lib.Pow.{are_bytes}
use native.Mathlib.Omega.{arith}
use borrow.Author.Tests.{eqb-true, ltb-true}
use Rattle.wire.specs.Bytes.{big, Bytes}
use Rattle.wire.proofs.TableLaws.{both_true}
use Rattle.pdu.specs.Rules.{wrong_version, wrong_status, wrong_sync, access_rules, slot_rules, network_rules, live_rules, body_rules, inner_rules}
use Rattle.pdu.specs.Tables.{body_slots}
use Rattle.pdu.specs.Forms.{bytes_of}
use Rattle.pdu.specs.Reading.{transmitter_of, signal_of, content, wrong_type, wrong_length, wrong_fixed, wrong_records, wrong_bits, start_rules}
use Rattle.pdu.specs.Reading.{transmitter_layout, signal_layout, reading_rules, refusal, reading}
use Rattle.pdu.specs.Writing.{written_form, in_written_form}
use Rattle.pdu.specs.Words.{word_at}
use Rattle.station.specs.declared.answers.Answer.{Answer}
use Rattle.station.specs.declared.answers.Answer.TheVariants.{ClockBack, Entered, Joined, TimePassed, Counted}
use Rattle.station.specs.Runs.{least, word_of}
use Rattle.station.specs.Units.{state_of, fresh, settings_of, place_of}
use Rattle.station.specs.Hearing.{enter, renew, heard_transmitter, other_id, signal_rules as station_rules, labelled, word_saying, message_of, after_j00}
use Rattle.station.specs.Hearing.{after_ppli, heard_message, heard_signal, step as station-step, heard}
use Rattle.station.specs.Clock.{at_time, clocked}
use Rattle.station.specs.declared.State.TheVariants.{Fine}
use Rattle.station.specs.declared.Settings.{Settings}
use Rattle.station.specs.Units.{made}
use Rattle.trunk.specs.Kinds.{load, longest_pdu}
use Rattle.trunk.specs.Record.{head_for, record_of, reply_of, unknown_kind, wrong_size, is_reply, last_of_all, wrong_carried, form_rules, pdu_rules}
use Rattle.trunk.specs.Bundle.{stop_of, stop_in, pdus_in, slice_stop, bundle, bundle_stop}
use Rattle.trunk.specs.Near.{store_size, row_size, offer_rules_of, stored_all, offered, store_after, send_rules, sent, sent_out, reply_rules}
use Rattle.trunk.specs.Near.{replied}
use Rattle.trunk.specs.Far.{is_next, count_after, arrival_rules, arrived, reply_after, output_after, ticked}
use Rattle.trunk.specs.Line.{Entry, offer_made, send_made, reply_heard, record_heard, clock_set, Call, offer, send, to_near, to_far, tick}
use Rattle.trunk.specs.Line.{Line, start, step, run, collect, accepted, acknowledged, written, Allowed, Fair}
use Rattle.trunk.specs.Demand.{count, Demand3}
use Rattle.pdu.specs.Refusals.{named as pdu_named}
use Rattle.pdu.specs.declared.refusals.Refusal.TheVariants.{Short, NoRoom}
use Rattle.trunk.specs.Refusals.{Refusal, Pdu, ManyPdus, WindowFull, WrongDirection, NotHeld, named}
use Rattle.trunk.specs.declared.Arrival.{Arrival}
use Rattle.trunk.specs.declared.Arrival.TheVariants.{Delivered, Repeat, Early}
use Rattle.std.specs.Prelude.{Result, Ok, Err}
use Rattle.trunk.proofs.Demand3.{demand3}

-- ---- a test of fairness

-- whether two lists of bytes are the same, and whether one is among others
same : List ℕ → List ℕ → Bool
same [] [] = true
same [] (y ∷ b) = false
same (x ∷ a) [] = false
same (x ∷ a) (y ∷ b) = eqb x y && same a b

among : List ℕ → List (List ℕ) → Bool
among r [] = false
among r (x ∷ l) = same r x || among r l

-- whether every call of a list is allowed where it is made
allowed : List Entry → Call → Bool
allowed log (offer d) = are_bytes d
allowed log (send i out) = true
allowed log (to_near r) = among r (written log)
allowed log (to_far r reply out) = among r (written log)
allowed log (tick t) = true

fair : Line → List Call → Bool
fair l [] = true
fair l (c ∷ cs) = allowed l.log c && fair (step l c) cs

same_says : (a b : List ℕ) → same a b ≡ true → a ≡ b
unfolding same
same_says [] [] e = refl
same_says [] (y ∷ b) e = absurd (false≢true e)
same_says (x ∷ a) [] e = absurd (false≢true e)
same_says (x ∷ a) (y ∷ b) e =
    let h = both_true (eqb x y) (same a b) e in
    ap₂ (λ (z : ℕ) (c : List ℕ). z ∷ c) (eqb-true x y h.0) (same_says a b h.1)

among_says : (r : List ℕ) (l : List (List ℕ)) → among r l ≡ true → Memᴰ r l
unfolding among
among_says r [] e = absurd (false≢true e)
among_says r (x ∷ l) e = by (same r x) refl (among_says r l) e
  where
    by : (b : Bool) → same r x ≡ b → (among r l ≡ true → Memᴰ r l) → (b || among r l) ≡ true → Memᴰ r (x ∷ l)
    by true s later t = Memᴰ.head (same_says r x s)
    by false s later t = Memᴰ.tail (later t)

bytes-say : (d : List ℕ) → are_bytes d ≡ true → Bytes d
bytes-say [] e i = omega arith
bytes-say (x ∷ d) e zero = ltb-true x 256 (both_true (ltb x 256) (are_bytes d) e).0
bytes-say (x ∷ d) e (suc i) = bytes-say d (both_true (ltb x 256) (are_bytes d) e).1 i

allowed_says : (log : List Entry) (c : Call) → allowed log c ≡ true → Allowed log c
unfolding allowed
allowed_says log (offer d) e = bytes-say d e
allowed_says log (send i out) e = tt
allowed_says log (to_near r) e = among_says r (written log) e
allowed_says log (to_far r reply out) e = among_says r (written log) e
allowed_says log (tick t) e = tt

fair_says : (l : Line) (calls : List Call) → fair l calls ≡ true → Fair l calls
unfolding fair
fair_says l [] e = tt
fair_says l (c ∷ cs) e =
    let h = both_true (allowed l.log c) (fair (step l c) cs) e in
    (allowed_says l.log c h.0, fair_says (step l c) cs h.1)

-- ---- the datagrams

unfoldable pub zeros : ℕ → List ℕ
zeros n = replicate n 0

-- bytes 0 to 19 of exercise 1: the version, byte 10, the PDU type, its length, and the unit of site 1, application 2, entity 3, radio 4
unfoldable pub start_of : ℕ → ℕ → ℕ → ℕ → List ℕ
start_of version status type size =
    (version ∷ 1 ∷ type ∷ 4 ∷ zeros 4) ++ big 2 size ++ (status ∷ 0 ∷ 0 ∷ 1 ∷ 0 ∷ 2 ∷ 0 ∷ 3 ∷ 0 ∷ 4 ∷ [])

-- the unit's Transmitter: level 4, in fine synchronization; version 6, whose byte 10 is padding
unfoldable pub unit : ℕ → List ℕ
unit padding =
    start_of 6 padding 25 112
    ++ (zeros 4 ++ (21 ∷ zeros 4 ++ (8 ∷ zeros 60)))
    ++ (0 ∷ 7 ∷ 0 ∷ 0 ∷ 0 ∷ 8 ∷ zeros 4 ++ (8 ∷ zeros 3))
    ++ (4 ∷ 1 ∷ 0 ∷ 3 ∷ zeros 4)

-- its type 0 Signal on net 0 with so many words, whose bytes are given; of no words where there are none
unfoldable pub signal : ℕ → List ℕ → ℕ → List ℕ
signal size words fill =
    start_of 6 0 26 size
    ++ (big 2 16384 ++ big 2 100 ++ zeros 4 ++ big 2 (8 * (26 + length words)) ++ zeros 2)
    ++ zeros 20
    ++ (zeros 6 ++ words ++ zeros fill)

-- a J0.0, and an order without words
unfoldable pub entry-message : List ℕ
entry-message = signal 68 (zeros 10) 0

unfoldable pub order : List ℕ
order = signal 60 [] 2

-- so many such orders in one datagram
unfoldable pub orders : ℕ → List ℕ
orders zero = []
orders (suc n) = order ++ orders n

-- its timing reply, a Signal of type 2 and version 7 with status 17, whose first two body bytes are given: the padding inside the body, and three
-- bits of the field
unfoldable pub timing : ℕ → ℕ → List ℕ
timing a b =
    start_of 7 17 26 60
    ++ (big 2 16384 ++ big 2 100 ++ zeros 4 ++ big 2 208 ++ zeros 2)
    ++ (zeros 5 ++ (2 ∷ zeros 14))
    ++ (a ∷ b ∷ 1 ∷ 2 ∷ 3 ∷ 4 ∷ zeros 2)

-- ---- the calls

-- what a call answered
pub data Said : Type 0 where
  offer_said : Result ℕ Refusal → Said
  send_said : Result ℕ Refusal → Said
  reply_said : Result ℕ Refusal → Said
  record_said : Result Arrival Refusal → Said
  clock_said : Answer → Said

unfoldable pub said : Entry → Said
said (offer_made d a store) = offer_said a
said (send_made i a out) = send_said a
said (reply_heard r a) = reply_said a
said (record_heard r a reply out) = record_said a
said (clock_set t a) = clock_said a

-- a send into a buffer, and an arrival at the far end, with room
unfoldable pub sending : ℕ → Call
sending i = send i (replicate row_size 170)

unfoldable pub arriving : List ℕ → Call
arriving r = to_far r (replicate 8 170) (replicate longest_pdu 170)

unfoldable pub record_0 : List ℕ
record_0 = record_of (head_for 16 0) (unit 0)

unfoldable pub record_1 : List ℕ
record_1 = record_of (head_for 1 1) entry-message

-- with the padding zero that the datagram offered has not
unfoldable pub record_2 : List ℕ
record_2 = record_of (head_for 18 2) (timing 0 5)

-- each call with its answer
unfoldable pub story : List (Call × Said)
story =
    (offer (unit 5 ++ entry-message ++ timing 255 253), offer_said (Ok 0))  -- a bundle of three: numbers 0, 1 and 2
    ∷ (offer (zeros 11), offer_said (Err (Pdu Short)))
    ∷ (offer (order ++ zeros 11), offer_said (Err (Pdu Short)))  -- what stands behind the first PDU is none: nothing is taken
    ∷ (offer order, offer_said (Ok 3))
    ∷ (offer (orders 9), offer_said (Err ManyPdus))
    ∷ (offer (orders 5), offer_said (Err WindowFull))  -- four rows are free
    ∷ (sending 1, send_said (Ok 73))
    ∷ (arriving record_1, record_said (Ok Early))  -- number 1 before number 0; its reply is lost
    ∷ (send 0 (zeros 116), send_said (Err (Pdu NoRoom)))
    ∷ (sending 0, send_said (Ok 117))
    ∷ (arriving record_0, record_said (Ok (Delivered 112 Entered)))
    ∷ (arriving record_0, record_said (Ok Repeat))  -- the same record again
    ∷ (tick 30, clock_said TimePassed)
    ∷ (arriving record_1, record_said (Ok (Delivered 68 Joined)))  -- both levels are 4: the station is Coarse
    ∷ (to_near (reply_of 2), reply_said (Ok 2))
    ∷ (to_near (reply_of 1), reply_said (Ok 2))  -- a late reply
    ∷ (to_near record_0, reply_said (Err WrongDirection))
    ∷ (sending 0, send_said (Err NotHeld))
    ∷ (sending 2, send_said (Ok 65))
    ∷ (to_far record_2 (zeros 4) (zeros 180), record_said (Err (Pdu NoRoom)))  -- no room for the reply
    ∷ (arriving record_2, record_said (Ok (Delivered 60 Counted)))  -- handed over again, with room: it counts, and the station is Fine; its reply is lost
    ∷ (sending 3, send_said (Ok 65))  -- lost: it never arrives
    ∷ (tick 20, clock_said ClockBack)
    ∷ []

abbrev pub calls_of : List (Call × Said) → List Call
calls_of [] = []
calls_of (x ∷ xs) = x.0 ∷ calls_of xs

abbrev pub answers_of : List (Call × Said) → List Said
answers_of [] = []
answers_of (x ∷ xs) = x.1 ∷ answers_of xs

-- from a store with whatever it held, and a station of level 4, net 0, 1 exchange, and a limit of 31 seconds: at 30 the unit heard at 0 is held
abbrev pub settings : Settings
settings = settings_of 4 0 1 31

unfoldable pub before : Line
before = start settings (replicate store_size 255)

unfoldable pub after-all : Line
after-all = run before (calls_of story)

-- the checker computes the test of fairness, each answer, and the three counts
computed :
    (fair before (calls_of story) ≡ true)
    × (collect (λ (e : Entry). said e ∷ []) after-all.log ≡ answers_of story)
    × (length (accepted after-all.log) ≡ 4)
    × (count after-all.log ≡ 3)
    × (acknowledged after-all.log ≡ 2)
    × (state_of after-all.far.station ≡ Fine)
unfolding named pdu_named fair allowed among same said story before after-all sending arriving record_0 record_1 record_2 unit entry-message order orders
    stop_of stop_in pdus_in slice_stop bundle bundle_stop stored_all
    signal timing start_of zeros offered store_after offer_rules_of sent sent_out send_rules replied reply_rules arrived is_next count_after reply_after
    output_after arrival_rules ticked record_of load unknown_kind wrong_size is_reply last_of_all wrong_carried form_rules pdu_rules wrong_version
    wrong_type wrong_length wrong_fixed wrong_records wrong_status wrong_sync wrong_bits network_rules live_rules body_rules reading_rules refusal content
    reading transmitter_of signal_of written_form in_written_form access_rules slot_rules inner_rules body_slots bytes_of start_rules transmitter_layout
    signal_layout word_at
    least word_of fresh made place_of enter renew heard_transmitter other_id station_rules labelled word_saying message_of after_j00 after_ppli
    heard_message heard_signal station-step heard at_time clocked
computed = (refl, refl, refl, refl, refl, refl)

-- the list is fair, so demand 3 speaks of it; each call answers as its line says; four PDUs are accepted, three put out, two acknowledged; the far
-- station is Fine by a timing reply
pub record Example : Type 0 where
  pub fairly : Fair before (calls_of story)
  pub answered : collect (λ (e : Entry). said e ∷ []) after-all.log ≡ answers_of story
  pub four_accepted : length (accepted after-all.log) ≡ 4
  pub three_put_out : count after-all.log ≡ 3
  pub two_acknowledged : acknowledged after-all.log ≡ 2
  pub fine : state_of after-all.far.station ≡ Fine
  pub demand : Demand3 (made settings).station after-all

pub example : Example
unfolding before after-all
example =
    let fairly = fair_says before (calls_of story) computed.0 in
    record {
      fairly = fairly;
      answered = computed.1;
      four_accepted = computed.2;
      three_put_out = computed.3;
      two_acknowledged = computed.4;
      fine = computed.5;
      demand = demand3 settings (replicate store_size 255) (calls_of story) fairly;
    }
