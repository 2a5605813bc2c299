-- What each call gives back, one law for each (`offer_outcome`, `send_outcome`, `reply_outcome`, `arrival_outcome`): refused, by the number of the
-- first plain rule that does not hold, with nothing changed; or taken, every rule met, with the change that document 01 names. By the verdicts
-- of the rules.
-- Assumes nothing.
use Prim.Native.Nat.{ℕ, ◌+◌, ◌≤◌, ◌<◌, max}
use mathlib.Core.Path.{◌≡◌, refl, ap}
use mathlib.Core.Logic.{◌≢◌}
use mathlib.Core.Bool.{Bool, true, false, not, ◌&&◌}
use mathlib.Core.List.{List, ◌++◌}
use lib.ListN.{length, drop}
use lib.Dec.{eqb, ltb}
use native.Mathlib.Omega.{arith}
use borrow.Author.Tests.{eqb-true, eqb-false, ltb-true, ltb-false}
use Rattle.std.proofs.lemmas.Bool.Decides.{nat_tests}
use Rattle.wire.specs.Bytes.{Bytes}
use Rattle.wire.specs.First.{first, lacks}
use Rattle.wire.specs.Rules.{Met, FirstBroken}
use Rattle.wire.specs.Rules.{Verdict}
use Rattle.trunk.specs.Head.{head_size}
use Rattle.trunk.specs.Kinds.{record_size}
use Rattle.trunk.specs.Record.{reply_of, number_in, carried_in, form_rules, pdu_rules, check_rules}
use Rattle.trunk.specs.Bundle.{bundle_stop, bundle}
use Rattle.trunk.specs.Near.{row_kind, row_record, more_accepted, stored_all, offer_rules_of, offer_rules, offered, store_after, send_rules, sent, sent_out}
use Rattle.trunk.specs.Near.{reply_rules, acknowledged_after, acknowledging, replied}
use Rattle.trunk.specs.Far.{arrival_rules, is_next, count_after, delivered, arrived, reply_after, output_after}
use Rattle.trunk.specs.Plain.{Ends, at_end, refused, not_carried, plain_offer, plain_send, plain_reply, plain_arrival}
use Rattle.trunk.specs.declared.Near.{Near}
use Rattle.trunk.specs.declared.Far.{Far}
use Rattle.trunk.specs.declared.Offered.{Offered}
use Rattle.trunk.specs.declared.Sending.{Sending}
use Rattle.trunk.specs.declared.Replied.{Replied}
use Rattle.trunk.specs.declared.Arrival.TheVariants.{Repeat, Early}
use Rattle.trunk.specs.declared.Arrived.{Arrived}
use Rattle.std.specs.Prelude.{Ok, Err}
use Rattle.pdu.specs.Refusals.{named as pdu_named}
use Rattle.trunk.specs.Refusals.{Refusal, NotCarried, number, named}
use Rattle.trunk.proofs.RefusalLaws.{strange, own_usual, read_usual, named_broken}
use Rattle.trunk.proofs.BundleLaws.{walked}
use Rattle.trunk.proofs.RuleLaws.{offer-verdict, send-verdict, reply_verdict, arrival_verdict}
use Rattle.trunk.proofs.Refused.{reply_kept, output_kept}

-- ---- the number of each call's first broken rule is that of a refusal

stop_usual : (d : List ℕ) → strange (bundle_stop d) ≡ false
stop_usual d = let (left, w) = walked d in by w.ends
  where
    by : {ps : List (List ℕ)} {left : List ℕ} {n : ℕ} → Ends ps left n → strange n ≡ false
    by (at_end some none) = refl
    by (refused before h) = read_usual _ h
    by (not_carried taken t) = own_usual NotCarried

pub offer_known : (near : Near) (store d : List ℕ) → lacks strange (offer_rules near store d) ≡ true
unfolding offer_rules_of named pdu_named
offer_known near store d = ap (λ (b : Bool). not b && true) (stop_usual d)

pub send_known : (near : Near) (store : List ℕ) (i room : ℕ) → lacks strange (send_rules near store i room) ≡ true
unfolding send_rules named pdu_named
send_known near store i room = refl

pub reply_known : (near : Near) (r : List ℕ) → lacks strange (reply_rules near r) ≡ true
unfolding reply_rules form_rules named pdu_named
reply_known near r = refl

pub arrival_known : (r : List ℕ) (reply_room room : ℕ) → lacks strange (arrival_rules r reply_room room) ≡ true
unfolding arrival_rules form_rules pdu_rules named pdu_named
arrival_known r reply_room room = refl

pub check_known : (r : List ℕ) → lacks strange (check_rules r) ≡ true
unfolding form_rules pdu_rules named pdu_named
check_known r = refl

-- ---- offering

-- an offer's answer with the near end after it, and the store after it
pub data OfferOutcome (near : Near) (store d : List ℕ) : Offered → List ℕ → Type 0 where
  offer_refused : (e : Refusal)
      → FirstBroken (number e) (plain_offer near store (bundle_stop d) (length (bundle d)))
      → OfferOutcome near store d (record { near = near; answer = Err e }) store
  offer_taken : Met (plain_offer near store (bundle_stop d) (length (bundle d)))
      → OfferOutcome near store d
      (record { near = more_accepted near (length (bundle d)); answer = Ok near.accepted })
      (stored_all near.accepted store (bundle d))

pub offer_outcome : (near : Near) (store d : List ℕ) → OfferOutcome near store d (offered near store d) (store_after near store d)
unfolding offered store_after
offer_outcome near store d = by (eqb (first (offer_rules near store d)) 0) refl
  where
    v : Verdict (offer_rules near store d) (plain_offer near store (bundle_stop d) (length (bundle d)))
    v = offer-verdict near store (bundle_stop d) (length (bundle d))

    by : (b : Bool) → eqb (first (offer_rules near store d)) 0 ≡ b → OfferOutcome near store d (offered near store d) (store_after near store d)
    by true e = rw e (offer_taken (v.none.0 (eqb-true _ _ e)))
    by false e =
        rw e
        (offer_refused _
        (named_broken (plain_offer near store (bundle_stop d) (length (bundle d))) v (offer_known near store d) (eqb-false _ _ e)))

-- ---- sending

-- a send's answer, and the lent buffer after it
pub data SendOutcome (near : Near) (store : List ℕ) (i : ℕ) (out : List ℕ) : Sending → List ℕ → Type 0 where
  send_refused : (e : Refusal)
      → FirstBroken (number e) (plain_send near store i (length out))
      → SendOutcome near store i out (record { near = near; answer = Err e }) out
  send_taken : Met (plain_send near store i (length out))
      → SendOutcome near store i out
      (record { near = near; answer = Ok (record_size (row_kind store i)) })
      (row_record store i ++ drop (record_size (row_kind store i)) out)

pub send_outcome :
    (near : Near) (store : List ℕ) (i : ℕ) (out : List ℕ)
    → SendOutcome near store i out (sent near store i (length out)) (sent_out near store i out)
unfolding sent sent_out
send_outcome near store i out = by (eqb (first (send_rules near store i (length out))) 0) refl
  where
    v : Verdict (send_rules near store i (length out)) (plain_send near store i (length out))
    v = send-verdict near store i (length out)

    by :
        (b : Bool)
        → eqb (first (send_rules near store i (length out))) 0 ≡ b
        → SendOutcome near store i out (sent near store i (length out)) (sent_out near store i out)
    by true e = rw e (send_taken (v.none.0 (eqb-true _ _ e)))
    by false e = rw e (send_refused _ (named_broken (plain_send near store i (length out)) v (send_known near store i (length out)) (eqb-false _ _ e)))

-- ---- taking a reply

-- the acknowledged count after a reply is the larger of the two numbers
pub after_is_max : (count number : ℕ) → acknowledged_after count number ≡ max count number
after_is_max count number = refl

-- a reply's answer with the near end after it
pub data ReplyOutcome (near : Near) (r : List ℕ) : Replied → Type 0 where
  reply_refused : (e : Refusal) → FirstBroken (number e) (plain_reply near r) → ReplyOutcome near r (record { near = near; answer = Err e })
  reply_taken : Met (plain_reply near r)
      → ReplyOutcome near r
      (record {
        near = acknowledging near (number_in r);
        answer = Ok (acknowledged_after near.acknowledged (number_in r));
      })

pub reply_outcome : (near : Near) (r : List ℕ) → ReplyOutcome near r (replied near r)
unfolding replied
reply_outcome near r = by (eqb (first (reply_rules near r)) 0) refl
  where
    v : Verdict (reply_rules near r) (plain_reply near r)
    v = reply_verdict near r

    by : (b : Bool) → eqb (first (reply_rules near r)) 0 ≡ b → ReplyOutcome near r (replied near r)
    by true e = rw e (reply_taken (v.none.0 (eqb-true _ _ e)))
    by false e = rw e (reply_refused _ (named_broken (plain_reply near r) v (reply_known near r) (eqb-false _ _ e)))

-- ---- a record at the far end

-- the next number is k, and no other is
next_number : (k number : ℕ) → is_next k number ≡ true → number ≡ k
unfolding is_next
next_number k number e = grind (arith, nat_tests)

other-number : (k number : ℕ) → is_next k number ≡ false → number ≢ k
unfolding is_next
other-number k number e = eqb-false number k e

-- k grows by one with the next number, and with no other
count_next_lem : (k number : ℕ) → is_next k number ≡ true → count_after k number ≡ k + 1
unfolding count_after
count_next_lem k number e = rw e

count-stays : (k number : ℕ) → is_next k number ≡ false → count_after k number ≡ k
unfolding count_after
count-stays k number e = rw e

-- an arrival's answer with the far end after it, the reply buffer and the output after it
pub data ArrivalOutcome (far : Far) (r reply out : List ℕ) : Arrived → List ℕ → List ℕ → Type 0 where
  arrival_refused : (e : Refusal)
      → FirstBroken (number e) (plain_arrival r (length reply) (length out))
      → ArrivalOutcome far r reply out (record { far = far; answer = Err e }) reply out
  arrival_delivered : Met (plain_arrival r (length reply) (length out))
      → number_in r ≡ far.count
      → ArrivalOutcome far r reply out
      (delivered (far.count + 1) far.station (carried_in r))
      (reply_of (far.count + 1) ++ drop head_size reply)
      (carried_in r ++ drop (length (carried_in r)) out)
  arrival_repeat : Met (plain_arrival r (length reply) (length out))
      → number_in r < far.count
      → ArrivalOutcome far r reply out (record { far = far; answer = Ok Repeat }) (reply_of far.count ++ drop head_size reply) out
  arrival_early : Met (plain_arrival r (length reply) (length out))
      → far.count < number_in r
      → ArrivalOutcome far r reply out (record { far = far; answer = Ok Early }) (reply_of far.count ++ drop head_size reply) out

pub arrival_outcome :
    (far : Far) (r reply out : List ℕ)
    → Bytes r
    → ArrivalOutcome far r reply out
    (arrived far r (length reply) (length out))
    (reply_after far r reply (length out))
    (output_after far r (length reply) out)
unfolding arrived reply_after output_after
arrival_outcome far r reply out b = by (eqb (first (arrival_rules r (length reply) (length out))) 0) refl
  where
    v : Verdict (arrival_rules r (length reply) (length out)) (plain_arrival r (length reply) (length out))
    v = arrival_verdict r b (length reply) (length out)

    Outcome : Type 0
    Outcome =
        ArrivalOutcome far r reply out
        (arrived far r (length reply) (length out))
        (reply_after far r reply (length out))
        (output_after far r (length reply) out)

    placed_by :
        (next below : Bool)
        → is_next far.count (number_in r) ≡ next
        → ltb (number_in r) far.count ≡ below
        → eqb (first (arrival_rules r (length reply) (length out))) 0 ≡ true
        → Outcome
    placed_by true below s t e =
        rw (e, count_next_lem far.count (number_in r) s, s)
        (arrival_delivered (v.none.0 (eqb-true _ _ e)) (next_number far.count (number_in r) s))
    placed_by false true s t e =
        rw (e, count-stays far.count (number_in r) s, s, t) (arrival_repeat (v.none.0 (eqb-true _ _ e)) (ltb-true _ _ t))
    placed_by false false s t e =
        let other = other-number far.count (number_in r) s in
        let least : far.count ≤ number_in r = ltb-false _ _ t in
        rw (e, count-stays far.count (number_in r) s, s, t) (arrival_early (v.none.0 (eqb-true _ _ e)) (omega arith))

    by : (b : Bool) → eqb (first (arrival_rules r (length reply) (length out))) 0 ≡ b → Outcome
    by true e = placed_by (is_next far.count (number_in r)) (ltb (number_in r) far.count) refl refl e
    by false e =
        rw (output_kept far r (length reply) out e, reply_kept far r reply (length out) e, e)
        (arrival_refused _ (named_broken (plain_arrival r (length reply) (length out)) v (arrival_known r (length reply) (length out)) (eqb-false _ _ e)))

-- ---- calls that break no rule

pub sends :
    (near : Near) (store : List ℕ) (i : ℕ) (out : List ℕ)
    → first (send_rules near store i (length out)) ≡ 0
    → ((sent near store i (length out)).answer ≡ Ok (record_size (row_kind store i)))
    × (sent_out near store i out ≡ row_record store i ++ drop (record_size (row_kind store i)) out)
unfolding sent sent_out
sends near store i out e = (rw e, rw e)

pub acknowledges :
    (near : Near) (r : List ℕ)
    → first (reply_rules near r) ≡ 0
    → (replied near r).near.acknowledged ≡ acknowledged_after near.acknowledged (number_in r)
unfolding replied
acknowledges near r e = rw e
