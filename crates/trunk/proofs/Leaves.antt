-- What each call leaves (`offer_leaves`, `send_leaves`, `reply_leaves`, `arrive_leaves`, `tick_leaves`, `fresh`), in plain numbers, where all its
-- plain rules hold. By the outcome of each call, and by what a record and a row are in plain numbers.
-- Assumes nothing.
use Prim.Native.Nat.{ℕ, ◌+◌}
use mathlib.Core.Path.{◌≡◌, refl, sym, ap, ap₂, subst, subst₂, ◌∙◌}
use mathlib.Core.List.{List, [], ◌∷◌, ◌++◌}
use lib.ListN.{length, take, drop}
use lib.Seq.{length-sets, sets-eq}
use native.Mathlib.Omega.{arith}
use borrow.Author.Tests.{not-false}
use Rattle.wire.specs.Bytes.{num, Bytes}
use Rattle.wire.specs.Rules.{Met}
use Rattle.pdu.specs.Reading.{reading}
use Rattle.pdu.specs.Writing.{written_form, padding_zero}
use Rattle.pdu.proofs.RoundTrip.{written_form_back}
use Rattle.station.specs.declared.Settings.{Settings}
use Rattle.std.specs.Prelude.{IsSome}
use Rattle.trunk.specs.Kinds.{kind_of, offered_kind}
use Rattle.trunk.specs.Head.{head_size}
use Rattle.trunk.specs.Record.{head_for, reply_of}
use Rattle.trunk.specs.Bundle.{bundle_stop, bundle}
use Rattle.trunk.specs.Near.{store_size, row_start, row_kind, fresh_near, offer_record, stored, stored_all, offered, store_after, sent, sent_out}
use Rattle.trunk.specs.Near.{replied}
use Rattle.trunk.specs.Far.{made_far, arrived, reply_after, output_after, ticked}
use Rattle.trunk.specs.Plain.{plain_kind, record_with, reply_with, OnePdu, AllPdus, Walked, plain_offer, plain_send, plain_reply, plain_arrival}
use Rattle.trunk.specs.Leaves.{overwritten, rows_written, Fresh, OfferLeaves, SendLeaves, ReplyLeaves, ArriveLeaves, TickLeaves}
use Rattle.trunk.specs.declared.Near.{Near}
use Rattle.trunk.specs.declared.Far.{Far}
use Rattle.trunk.specs.declared.Offered.{Offered}
use Rattle.trunk.specs.declared.Sending.{Sending}
use Rattle.trunk.specs.declared.Replied.{Replied}
use Rattle.trunk.specs.declared.Arrived.{Arrived}
use Rattle.trunk.proofs.KindLaws.{plain_length_lem}
use Rattle.trunk.proofs.RecordLaws.{carried_kind, type_says, plain_kind_lem, record_plain, reply_plain}
use Rattle.trunk.proofs.WriteLaws.{record_short}
use Rattle.trunk.proofs.BundleLaws.{walked, AsDefined, walked_only}
use Rattle.trunk.proofs.RuleLaws.{offer-verdict, offer_met, send-verdict, reply_verdict, arrival_verdict}
use Rattle.trunk.proofs.CallLaws.{after_is_max, OfferOutcome, offer_refused, offer_taken, offer_outcome, SendOutcome, send_refused}
use Rattle.trunk.proofs.CallLaws.{send_taken, send_outcome, ReplyOutcome, reply_refused, reply_taken, reply_outcome, ArrivalOutcome}
use Rattle.trunk.proofs.CallLaws.{arrival_refused, arrival_delivered, arrival_repeat, arrival_early, arrival_outcome}
use Rattle.trunk.proofs.ExactlyWhen.{clash}

-- what the makers give
pub fresh : (settings : Settings) → Fresh fresh_near settings (made_far settings)
fresh settings = record { accepted = refl; acknowledged = refl; count = refl; station = refl; answer = refl }

-- ---- offering

module _ (number : ℕ) (p : List ℕ) (one : OnePdu p) where
  carried : IsSome (kind_of (reading p))
  carried = not-false _ ((type_says p one.taken).1 one.carried)

  -- what is written of a PDU is kind, number, and its bytes with padding zero
  plain_offer_lem : offer_record number p ≡ record_with (plain_kind (reading p)) number (padding_zero p)
  plain_offer_lem =
      record_plain (offered_kind (reading p)) number (written_form p) (carried_kind p carried).byte
      ∙ ap₂ (λ (k : ℕ) (w : List ℕ). record_with k number w) (plain_kind_lem p carried) (written_form_back p one.taken)

  plain_row_lem :
      (store : List ℕ)
      → length store ≡ store_size
      → stored number store p ≡ overwritten (row_start number) (record_with (plain_kind (reading p)) number (padding_zero p)) store
  plain_row_lem store whole =
      let short = record_short (head_for (offered_kind (reading p)) number) p carried in
      sets-eq (offer_record number p) store (row_start number) (omega (arith, short))
      ∙ ap (λ (r : List ℕ). overwritten (row_start number) r store) plain_offer_lem

-- one row behind the other
plain_rows :
    (ps : List (List ℕ)) (number : ℕ) (store : List ℕ)
    → AllPdus ps
    → length store ≡ store_size
    → stored_all number store ps ≡ rows_written number ps store
unfolding stored_all
plain_rows [] number store all whole = refl
plain_rows (p ∷ ps) number store (one, all) whole =
    plain_rows ps (number + 1) (stored number store p) all (length-sets store (row_start number) (offer_record number p) ∙ whole)
    ∙ ap (rows_written (number + 1) ps) (plain_row_lem number p one store whole)

pub offer_leaves :
    (near : Near) (store d : List ℕ) (pdus : List (List ℕ)) (left : List ℕ)
    → Walked d pdus left 0
    → Met (plain_offer near store 0 (length pdus))
    → OfferLeaves near store pdus (offered near store d).near (store_after near store d)
offer_leaves near store d pdus left w met =
    subst (λ (ps : List (List ℕ)). OfferLeaves near store ps (offered near store d).near (store_after near store d)) (sym same.pdus)
    (by (offer_outcome near store d))
  where
    same : AsDefined d pdus 0
    same = walked_only d pdus left 0 w

    all_met : Met (plain_offer near store (bundle_stop d) (length (bundle d)))
    all_met = subst₂ (λ (n : ℕ) (ps : List (List ℕ)). Met (plain_offer near store n (length ps))) same.stop same.pdus met

    by : {o : Offered} {s : List ℕ} → OfferOutcome near store d o s → OfferLeaves near store (bundle d) o.near s
    by (offer_refused e f) = absurd (clash _ (offer-verdict near store (bundle_stop d) (length (bundle d))) _ f all_met)
    by (offer_taken x) =
        record {
          accepted = refl;
          acknowledged = refl;
          store_is = plain_rows (bundle d) near.accepted store (walked d).1.each (offer_met near store _ _ all_met).whole;
        }

-- ---- sending

pub send_leaves :
    (near : Near) (store : List ℕ) (i : ℕ) (out : List ℕ)
    → Met (plain_send near store i (length out))
    → SendLeaves near store i out (sent near store i (length out)).near (sent_out near store i out)
send_leaves near store i out met = by (send_outcome near store i out)
  where
    by : {o : Sending} {s : List ℕ} → SendOutcome near store i out o s → SendLeaves near store i out o.near s
    by (send_refused e f) = absurd (clash (plain_send near store i (length out)) (send-verdict near store i (length out)) _ f met)
    by (send_taken x) =
        record {
          near_same = refl;
          output = ap (λ (n : ℕ). take n (drop (row_start i) store) ++ drop n out) (plain_length_lem (row_kind store i));
        }

-- ---- taking a reply

pub reply_leaves : (near : Near) (r : List ℕ) → Met (plain_reply near r) → ReplyLeaves near r (replied near r).near
reply_leaves near r met = by (reply_outcome near r)
  where
    by : {o : Replied} → ReplyOutcome near r o → ReplyLeaves near r o.near
    by (reply_refused e f) = absurd (clash (plain_reply near r) (reply_verdict near r) _ f met)
    by (reply_taken x) = record { accepted = refl; acknowledged = after_is_max near.acknowledged (num 4 1 r) }

-- ---- a record at the far end

pub arrive_leaves :
    (far : Far) (r reply out : List ℕ)
    → Bytes r
    → Met (plain_arrival r (length reply) (length out))
    → ArriveLeaves far r reply out
    (arrived far r (length reply) (length out)).far
    (reply_after far r reply (length out))
    (output_after far r (length reply) out)
arrive_leaves far r reply out b met = by (arrival_outcome far r reply out b)
  where
    -- a reply, and what stood behind it
    with_reply : (n : ℕ) → reply_of n ++ drop head_size reply ≡ reply_with n ++ drop 5 reply
    with_reply n = ap (λ (a : List ℕ). a ++ drop 5 reply) (reply_plain n)

    by : {o : Arrived} {s t : List ℕ} → ArrivalOutcome far r reply out o s t → ArriveLeaves far r reply out o.far s t
    by (arrival_refused e f) =
        absurd (clash (plain_arrival r (length reply) (length out)) (arrival_verdict r b (length reply) (length out)) _ f met)
    by (arrival_delivered x same) =
        record {
          next = λ e.
              record {
                count = refl;
                station = refl;
                reply_is = with_reply (far.count + 1);
                output = refl;
              };
          other = λ d. absurd (d same);
        }
    by (arrival_repeat x below) =
        record {
          next = λ e. absurd (omega (arith, below, e));
          other = λ d. record { far_same = refl; reply_is = with_reply far.count; output = refl };
        }
    by (arrival_early x above) =
        record {
          next = λ e. absurd (omega (arith, above, e));
          other = λ d. record { far_same = refl; reply_is = with_reply far.count; output = refl };
        }

-- ---- the clock

pub tick_leaves : (far : Far) (t : ℕ) → TickLeaves far t (ticked far t)
unfolding ticked
tick_leaves far t = record { count = refl; station = refl; answer = refl }
