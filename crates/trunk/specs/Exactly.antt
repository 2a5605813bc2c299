-- Each answer of each call, exactly when it is given, in plain numbers (01, "The numbers"): a refusal's number is that of the first plain rule
-- that does not hold, and every other answer is given exactly where all rules hold, with the values that document 01 names.
use Rattle.std.specs.Prelude.{ℕ, ◌<◌, max, ◌≡◌, ◌↔◌, ◌≢◌, ◌⊎◌, List, [], ◌∷◌, length, drop, Result, Ok, Err}
use Rattle.wire.specs.Bytes.{num}
use Rattle.wire.specs.Rules.{Met, FirstBroken}
use Rattle.pdu.specs.Reading.{reading}
use Rattle.pdu.specs.declared.Signal.{Signal as SignalFields}
use Rattle.pdu.specs.declared.Reading.TheVariants.{Signal as a_signal}
use Rattle.station.specs.Answers.{number as station_number}
use Rattle.station.specs.Hearing.{heard}
use Rattle.station.specs.declared.answers.Answer.{Answer}
use Rattle.trunk.specs.Refusals.{Refusal, number, RefusedBy}
use Rattle.trunk.specs.Record.{checked_says, number_of_checked, size_of_checked}
use Rattle.trunk.specs.Near.{offer_says, send_says, reply_says}
use Rattle.trunk.specs.Far.{arrival_says}
use Rattle.trunk.specs.Plain.{StoreRule, Walked, plain_length, plain_row_kind, plain_offer, plain_send, plain_reply, plain_arrival, plain_check}
use Rattle.trunk.specs.declared.Checked.{Checked}
use Rattle.trunk.specs.declared.Checked.TheVariants.{Reply as a_reply, Pdu}
use Rattle.trunk.specs.declared.Near.{Near}
use Rattle.trunk.specs.declared.Far.{Far}
use Rattle.trunk.specs.declared.Arrival.{Arrival}
use Rattle.trunk.specs.declared.Arrival.TheVariants.{Delivered, Repeat, Early}

-- "an offer, the number taken", by 02, R-5 "the first number taken": of a slice that `stop` stops behind so many PDUs
pub record AnswerExactly (near : Near) (store : List ℕ) (stop pdus : ℕ) (a : Result ℕ Refusal) : Type 0 where
  pub refused : (n : ℕ) → RefusedBy n a ↔ FirstBroken n (plain_offer near store stop pdus)
  pub taken : (i : ℕ) → (a ≡ Ok i) ↔ (Met (plain_offer near store stop pdus) × (i ≡ near.accepted))

-- a slice has these PDUs from the front, and this number stops it, 0 for none; and so in one way only
pub record SliceExactly (d : List ℕ) (pdus : List (List ℕ)) (stop : ℕ) : Type 0 where
  pub left : List ℕ
  pub walked : Walked d pdus left stop
  pub only : (ps : List (List ℕ)) (l : List ℕ) (n : ℕ) → Walked d ps l n → (ps ≡ pdus) × (l ≡ left) × (n ≡ stop)

-- and the answer about every slice is by its PDUs and what stops it
pub record OfferExactly (near : Near) (store d : List ℕ) (a : Result ℕ Refusal) : Type 0 where
  pub pdus : List (List ℕ)
  pub stop : ℕ
  pub slice : SliceExactly d pdus stop
  pub answer : AnswerExactly near store stop (length pdus) a

-- what 23 stops in a slice: behind some PDUs a Signal of type 6 or 7
pub record NotCarried (d : List ℕ) : Type 0 where
  pub pdus : List (List ℕ)
  pub left : List ℕ
  pub walked : Walked d pdus left 23
  pub fields : SignalFields
  pub size : ℕ
  pub read : reading left ≡ a_signal fields size
  pub type : (fields.network.message_type ≡ 6) ⊎ (fields.network.message_type ≡ 7)

-- 02, R-4: "Near ends .. now pass on the reader's number", 50 for a retired message, wherever in a bundle it stands; of the types that are read, 23 is
-- left for 6 and 7
pub record TypesRefused (store d : List ℕ) (a : Result ℕ Refusal) : Type 0 where
  pub retired : (pdus : List (List ℕ)) (left : List ℕ) → StoreRule store → Walked d pdus left 50 → RefusedBy 50 a
  pub two_left : RefusedBy 23 a → NotCarried d

-- "a send, the size written"
pub record SendExactly (near : Near) (store : List ℕ) (i room : ℕ) (a : Result ℕ Refusal) : Type 0 where
  pub refused : (n : ℕ) → RefusedBy n a ↔ FirstBroken n (plain_send near store i room)
  pub size : (n : ℕ) → (a ≡ Ok n) ↔ (Met (plain_send near store i room) × (n ≡ plain_length (plain_row_kind store i)))

-- "a reply, the acknowledged count"
pub record ReplyExactly (near : Near) (r : List ℕ) (a : Result ℕ Refusal) : Type 0 where
  pub refused : (n : ℕ) → RefusedBy n a ↔ FirstBroken n (plain_reply near r)
  pub acknowledged : (n : ℕ) → (a ≡ Ok n) ↔ (Met (plain_reply near r) × (n ≡ max near.acknowledged (num 4 1 r)))

-- "a record at the far end, delivered (with PDU size and station's answer), repeat or early"
pub record ArriveExactly (far : Far) (r : List ℕ) (reply_room room : ℕ) (a : Result Arrival Refusal) : Type 0 where
  pub refused : (n : ℕ) → RefusedBy n a ↔ FirstBroken n (plain_arrival r reply_room room)
  pub delivered :
      (size : ℕ) (answer : Answer)
      → (a ≡ Ok (Delivered size answer))
      ↔ (Met (plain_arrival r reply_room room)
      × (num 4 1 r ≡ far.count)
      × (size ≡ length (drop 5 r))
      × (answer ≡ (heard far.station (drop 5 r)).answer))
  pub repeat : (a ≡ Ok Repeat) ↔ (Met (plain_arrival r reply_room room) × (num 4 1 r < far.count))
  pub early : (a ≡ Ok Early) ↔ (Met (plain_arrival r reply_room room) × (far.count < num 4 1 r))

-- the check of a record: a refusal's number, or kind, number and size as they stand in it
pub record CheckExactly (r : List ℕ) (c : Result Checked Refusal) : Type 0 where
  pub refused : (n : ℕ) → RefusedBy n c ↔ FirstBroken n (plain_check r)
  pub reply :
      (number size : ℕ)
      → (c ≡ Ok (a_reply number size))
      ↔ (Met (plain_check r) × (num 1 0 r ≡ 32) × (number ≡ num 4 1 r) × (size ≡ length r))
  pub pdu :
      (kind number size : ℕ)
      → (c ≡ Ok (Pdu kind number size))
      ↔ (Met (plain_check r) × (num 1 0 r ≢ 32) × (kind ≡ num 1 0 r) × (number ≡ num 4 1 r) × (size ≡ length r))

-- ---- what each case of each answer says in document 01's numbers, which the promises cite: a refusal its number alone, any other 0 and its values

pub record AnswersSay : Type 0 where
  -- each refusal has a number of its own
  pub own_number : (e f : Refusal) → number e ≡ number f → e ≡ f
  pub offer_refused : (e : Refusal) → offer_says (Err e) ≡ number e ∷ []
  pub offer_taken : (number : ℕ) → offer_says (Ok number) ≡ 0 ∷ number ∷ []
  pub send_refused : (e : Refusal) → send_says (Err e) ≡ number e ∷ []
  pub send_size : (size : ℕ) → send_says (Ok size) ≡ 0 ∷ size ∷ []
  pub reply_refused : (e : Refusal) → reply_says (Err e) ≡ number e ∷ []
  pub reply_acknowledged : (count : ℕ) → reply_says (Ok count) ≡ 0 ∷ count ∷ []
  pub arrival_refused : (e : Refusal) → arrival_says (Err e) ≡ number e ∷ []
  pub arrival_delivered : (size : ℕ) (answer : Answer) → arrival_says (Ok (Delivered size answer)) ≡ 0 ∷ size ∷ station_number answer ∷ []
  pub arrival_repeat : arrival_says (Ok Repeat) ≡ 0 ∷ []
  pub arrival_early : arrival_says (Ok Early) ≡ 0 ∷ []
  pub check_refused : (e : Refusal) → checked_says (Err e) ≡ number e ∷ []
  pub check_reply : (number size : ℕ) → checked_says (Ok (a_reply number size)) ≡ 0 ∷ 32 ∷ number ∷ size ∷ []
  pub check_pdu : (kind number size : ℕ) → checked_says (Ok (Pdu kind number size)) ≡ 0 ∷ kind ∷ number ∷ size ∷ []
  -- "A taken one has number 0 and the size of the .. record; a refused one has size 0"
  pub number_refused : (e : Refusal) → number_of_checked (Err e) ≡ number e
  pub number_reply : (number size : ℕ) → number_of_checked (Ok (a_reply number size)) ≡ 0
  pub number_pdu : (kind number size : ℕ) → number_of_checked (Ok (Pdu kind number size)) ≡ 0
  pub size_refused : (e : Refusal) → size_of_checked (Err e) ≡ 0
  pub size_reply : (number size : ℕ) → size_of_checked (Ok (a_reply number size)) ≡ size
  pub size_pdu : (kind number size : ℕ) → size_of_checked (Ok (Pdu kind number size)) ≡ size
