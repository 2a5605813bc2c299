-- The near end: offering, sending and taking a reply (01, "The trunk").
use Rattle.std.specs.Prelude.{ℕ, ◌+◌, ◌-◌, ◌*◌, ◌%◌, ◌≡◌, max, Bool, cond, not, ◌&&◌, List, [], ◌∷◌, ◌++◌, length, take, drop, eqb, leb, ltb, is_none, Result}
use Rattle.wire.specs.Bytes.{splice}
use Rattle.wire.specs.First.{Refusal, ◌given_when◌, first, told}
use Rattle.pdu.specs.Reading.{reading}
use Rattle.pdu.specs.Writing.{written_form}
use Rattle.trunk.specs.Refusals.{Refusal as Reason, answered, number_says}
use Rattle.trunk.specs.Head.{head_at}
use Rattle.trunk.specs.Kinds.{offered_kind, load, is_reply_load, record_size}
use Rattle.trunk.specs.Record.{head_for, record_of, number_in, last_number, is_reply, form_rules}
use Rattle.trunk.specs.Bundle.{bundle_stop, bundle}
use Rattle.trunk.specs.declared.Near.{Near}
use Rattle.trunk.specs.declared.Offered.{Offered}
use Rattle.trunk.specs.declared.Sending.{Sending}
use Rattle.trunk.specs.declared.Replied.{Replied}

-- "a lent store of eight rows of 192 bytes"
abbrev pub rows : ℕ
rows = 8

abbrev pub row_size : ℕ
row_size = 192

abbrev pub store_size : ℕ
store_size = rows * row_size

-- "the first byte of row (number mod 8)"
abbrev pub row_start : ℕ → ℕ
row_start number = row_size * (number % rows)

-- "the counts accepted and acknowledged, both first 0"
abbrev pub fresh_near : Near
fresh_near = record { accepted = 0; acknowledged = 0 }

-- 28, by the store's length: "store is not 1,536 bytes"
abbrev pub wrong_store : ℕ → Bool
wrong_store size = not (eqb size store_size)

-- ---- offering

-- 51: "more than eight PDUs"
abbrev pub most_pdus : ℕ
most_pdus = 8

-- "25 and 24 if not all fit": so many PDUs would take the last number, or more than the rows that are free
abbrev pub no_numbers : Near → ℕ → Bool
no_numbers near pdus = ltb last_number (near.accepted + pdus)

abbrev pub no_rows : Near → ℕ → Bool
no_rows near pdus = ltb rows ((near.accepted - near.acknowledged) + pdus)

-- 51, 25, 24 for so many PDUs
abbrev pub offer_rest : Near → ℕ → List Refusal
offer_rest near pdus =
    (51 given_when ltb most_pdus pdus)
    ∷ (25 given_when no_numbers near pdus)
    ∷ (24 given_when no_rows near pdus)
    ∷ []

-- 02, R-5: "28; then the number of the first PDU .. that the reader refuses or 23 stops ..; 51 ..; 25 and 24", by the store's length, that number and
-- how many PDUs there are
unfoldable pub offer_rules_of : Near → ℕ → ℕ → ℕ → List Refusal
offer_rules_of near size stop pdus =
    (28 given_when wrong_store size) ∷ (stop given_when not (eqb stop 0)) ∷ offer_rest near pdus

abbrev pub offer_rules : Near → List ℕ → List ℕ → List Refusal
offer_rules near store d = offer_rules_of near (length store) (bundle_stop d) (length (bundle d))

-- the record that an offer writes of a PDU under a number
abbrev pub offer_record : ℕ → List ℕ → List ℕ
offer_record number p = record_of (head_for (offered_kind (reading p)) number) (written_form p)

-- the store with that record in its row: "Offering writes the record from the first byte of row (number mod 8)"
abbrev pub stored : ℕ → List ℕ → List ℕ → List ℕ
stored number store p = splice (row_start number) (offer_record number p) store

-- "a whole bundle .. in order": "The PDU takes the accepted count as its number", and those behind it the numbers that follow
unfoldable pub stored_all : ℕ → List ℕ → List (List ℕ) → List ℕ
stored_all number store [] = store
stored_all number store (p ∷ ps) = stored_all (number + 1) (stored number store p) ps

-- the near end with so many more accepted
abbrev pub more_accepted : Near → ℕ → Near
more_accepted near pdus = record { accepted = near.accepted + pdus; acknowledged = near.acknowledged }

-- what an offer answers and leaves: "a whole bundle or nothing", and "the first number taken"
unfoldable pub offered : Near → List ℕ → List ℕ → Offered
offered near store d =
    record {
      near = cond (eqb (first (offer_rules near store d)) 0) (more_accepted near (length (bundle d))) near;
      answer = answered (first (offer_rules near store d)) near.accepted;
    }

-- what an offer leaves in the store
unfoldable pub store_after : Near → List ℕ → List ℕ → List ℕ
store_after near store d =
    cond (eqb (first (offer_rules near store d)) 0) (stored_all near.accepted store (bundle d)) store

-- document 01's number and values of its answer: "an offer, the number taken", by 02, R-5 the first
abbrev pub offer_says : Result ℕ Reason → List ℕ
offer_says a = number_says a

-- the whole outcome of an offer: its answer with the near end after it, and the store after it
pub record OfferGives (near : Near) (store d : List ℕ) (o : Offered) (store' : List ℕ) : Type 0 where
  pub answer : o ≡ offered near store d
  pub says : offer_says o.answer ≡ told (first (offer_rules near store d)) (near.accepted ∷ [])
  pub store_is : store' ≡ store_after near store d

-- ---- sending

-- "numbers from acknowledged up to accepted, the last left out, are held"
abbrev pub is_held : Near → ℕ → Bool
is_held near i = leb near.acknowledged i && ltb i near.accepted

-- the kind byte of number i's row
abbrev pub row_kind : List ℕ → ℕ → ℕ
row_kind store i = (head_at (row_start i) store).kind

-- "Sending number i: 28, 26, 20 or 29 by the row's kind byte, 16"
unfoldable pub send_rules : Near → List ℕ → ℕ → ℕ → List Refusal
send_rules near store i room =
    (28 given_when wrong_store (length store))
    ∷ (26 given_when not (is_held near i))
    ∷ (20 given_when is_none (load (row_kind store i)))
    ∷ (29 given_when is_reply_load (load (row_kind store i)))
    ∷ (16 given_when ltb room (record_size (row_kind store i)))
    ∷ []

-- "the row's bytes as they stand, to the length of their kind"
abbrev pub row_record : List ℕ → ℕ → List ℕ
row_record store i = take (record_size (row_kind store i)) (drop (row_start i) store)

-- what a send answers; it leaves the near end as it was
unfoldable pub sent : Near → List ℕ → ℕ → ℕ → Sending
sent near store i room =
    record { near = near; answer = answered (first (send_rules near store i room)) (record_size (row_kind store i)) }

-- what a send leaves in the lent buffer
unfoldable pub sent_out : Near → List ℕ → ℕ → List ℕ → List ℕ
sent_out near store i out =
    cond (eqb (first (send_rules near store i (length out))) 0)
    (row_record store i ++ drop (record_size (row_kind store i)) out)
    out

-- document 01's number and values of its answer: "a send, the size written"
abbrev pub send_says : Result ℕ Reason → List ℕ
send_says a = number_says a

-- the whole outcome of a send: its answer with the near end after it, and the lent buffer after it
pub record SendGives (near : Near) (store : List ℕ) (i : ℕ) (out : List ℕ) (s : Sending) (out' : List ℕ) : Type 0 where
  pub answer : s ≡ sent near store i (length out)
  pub says : send_says s.answer ≡ told (first (send_rules near store i (length out))) (record_size (row_kind store i) ∷ [])
  pub output : out' ≡ sent_out near store i out

-- ---- taking a reply

-- "Taking a reply: 20, 21, 29, 27"; and those behind the form
abbrev pub reply_rest : Near → List ℕ → List Refusal
reply_rest near r = (29 given_when not (is_reply r)) ∷ (27 given_when ltb near.accepted (number_in r)) ∷ []

unfoldable pub reply_rules : Near → List ℕ → List Refusal
reply_rules near r = form_rules r ++ reply_rest near r

-- "below the acknowledged count it changes nothing, else that count becomes its number"
abbrev pub acknowledged_after : ℕ → ℕ → ℕ
acknowledged_after count number = max count number

-- the near end after a reply with this number
abbrev pub acknowledging : Near → ℕ → Near
acknowledging near number =
    record { accepted = near.accepted; acknowledged = acknowledged_after near.acknowledged number }

-- what taking a reply answers and leaves
unfoldable pub replied : Near → List ℕ → Replied
replied near r =
    record {
      near = cond (eqb (first (reply_rules near r)) 0) (acknowledging near (number_in r)) near;
      answer = answered (first (reply_rules near r)) (acknowledged_after near.acknowledged (number_in r));
    }

-- document 01's number and values of its answer: "a reply, the acknowledged count"
abbrev pub reply_says : Result ℕ Reason → List ℕ
reply_says a = number_says a

-- the whole outcome of taking a reply: its answer with the near end after it
pub record ReplyGives (near : Near) (r : List ℕ) (o : Replied) : Type 0 where
  pub answer : o ≡ replied near r
  pub says :
      reply_says o.answer
      ≡ told (first (reply_rules near r)) (acknowledged_after near.acknowledged (number_in r) ∷ [])
