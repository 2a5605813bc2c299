-- What the invariant makes sure of: a number that is held is sent where there is room; its record, handed over with room, is answered with a
-- reply above that number; and such a reply becomes the acknowledged count. Each breaks no rule, since its record is that of a carried PDU or
-- a reply.
-- Assumes nothing.
use Prim.Native.Nat.{ℕ, ◌+◌, ◌≤◌, ◌<◌, max}
use mathlib.Core.Path.{◌≡◌, refl, sym, ap, subst, ◌∙◌}
use mathlib.Core.List.{List, [], Memᴰ}
use lib.ListN.{length, get_or, take, drop}
use native.Mathlib.Omega.{arith}
use Rattle.std.specs.Prelude.{Ok}
use Rattle.wire.specs.Bytes.{Bytes}
use Rattle.wire.specs.First.{first}
use Rattle.station.specs.declared.Station.{Station}
use Rattle.trunk.specs.Head.{head_size}
use Rattle.trunk.specs.Kinds.{record_size, longest_pdu}
use Rattle.trunk.specs.Record.{reply_of, number_in}
use Rattle.trunk.specs.Near.{row_size, row_kind, sent, sent_out, replied}
use Rattle.trunk.specs.Far.{arrival_rules, arrived, reply_after, output_after}
use Rattle.trunk.specs.Line.{record_heard, written_by}
use Rattle.trunk.specs.Plain.{KnownKind}
use Rattle.trunk.specs.declared.Near.{Near}
use Rattle.trunk.specs.declared.Far.{Far}
use Rattle.trunk.specs.declared.Arrived.{Arrived}
use Rattle.trunk.proofs.KindLaws.{known_says, no-reply_says, plain_length_lem}
use Rattle.trunk.proofs.RecordLaws.{carried_kind, pdu_number, pdu_sound, reply_sound, reply_written}
use Rattle.trunk.proofs.RuleLaws.{send-verdict, arrival_verdict, arrival_passes, reply_passes}
use Rattle.trunk.proofs.CallLaws.{sends, acknowledges, ArrivalOutcome, arrival_refused, arrival_delivered, arrival_repeat, arrival_early}
use Rattle.trunk.proofs.CallLaws.{arrival_outcome}
use Rattle.trunk.proofs.LogLaws.{Seen}
use Rattle.trunk.proofs.Invariant.{record_in, pdu_record, Holds, small, record_fits, larger, known_bytes, held_kind, held_size, held_written}

-- the reply to record i, where i is accepted and not above k: its number, which is above i, and k + 1 where i is k
pub record Replied (pdus : List (List ℕ)) (k i : ℕ) (o : Arrived) (reply out : List ℕ) : Type 0 where
  pub number : ℕ
  pub above : i < number
  pub accepted : number ≤ length pdus
  pub at_count : i ≡ k → number ≡ k + 1
  pub reply_is : take head_size reply ≡ reply_of number
  pub written : Memᴰ (take head_size reply) (written_by (record_heard (record_in pdus i) o.answer reply out))

module _ {station : Station} {near : Near} {store : List ℕ} {far : Far} {v : Seen} (h : Holds station near store far v) where
  -- a number that is held is sent, where there is room for a row
  pub sent_next :
      (i : ℕ) (out : List ℕ)
      → v.confirmed ≤ i
      → i < length v.pdus
      → row_size ≤ length out
      → ((sent near store i (length out)).answer ≡ Ok (record_size (row_kind store i)))
      × (take (record_size (row_kind store i)) (sent_out near store i out) ≡ record_in v.pdus i)
  sent_next i out held l room =
      let kind = carried_kind (get_or v.pdus i []) (h.held.carried i l).kind in
      let same = held_kind h i held l in
      let fits : record_size (row_kind store i) ≤ length out = omega (arith, held_size h i held l, record_fits h i l) in
      let passes =
      (send-verdict near store i (length out)).none.1 (
        h.held.whole (omega arith),
        (
          (omega (arith, h.counts.near_acknowledged), omega (arith, h.counts.near_accepted)),
          (
            subst KnownKind (sym same) ((known_says _).0 kind.known),
            ((λ e. (no-reply_says _).0 kind.no_reply (sym same ∙ e)), (rw (sym (plain_length_lem (row_kind store i))) fits, tt)),
          ),
        ),
      ) in
      let done = sends near store i out passes in
      (done.0, ap (take (record_size (row_kind store i))) done.1 ∙ held_written h i held l (drop (record_size (row_kind store i)) out))

  pub replied_next :
      (i : ℕ) (reply out : List ℕ)
      → i < length v.pdus
      → i ≤ length v.out
      → head_size ≤ length reply
      → longest_pdu ≤ length out
      → Replied v.pdus (length v.out) i
      (arrived far (record_in v.pdus i) (length reply) (length out))
      (reply_after far (record_in v.pdus i) reply (length out))
      (output_after far (record_in v.pdus i) (length reply) out)
  replied_next i reply out l up_to_lem fits room = by (arrival_outcome far (record_in v.pdus i) reply out bytes)
    where
      bytes : Bytes (record_in v.pdus i)
      bytes = known_bytes h (record_in v.pdus i) (pdu_record i l refl)

      number : number_in (record_in v.pdus i) ≡ i
      number = pdu_number i (get_or v.pdus i []) (h.held.carried i l) (small h i l)

      passes : first (arrival_rules (record_in v.pdus i) (length reply) (length out)) ≡ 0
      passes =
          arrival_passes (record_in v.pdus i) (length reply) (length out)
          (pdu_sound i (get_or v.pdus i []) (h.held.carried i l) (small h i l))
          fits
          room

      by :
          {o : Arrived} {reply' out' : List ℕ}
          → ArrivalOutcome far (record_in v.pdus i) reply out o reply' out'
          → Replied v.pdus (length v.out) i o reply' out'
      by (arrival_refused e f) =
          let x = ((arrival_verdict (record_in v.pdus i) bytes (length reply) (length out)).some _).1 f in
          absurd (x.1 (sym x.0 ∙ passes))
      by (arrival_delivered m e) =
          let reply_is = reply_written (far.count + 1) (drop head_size reply) in
          record {
            number = far.count + 1;
            above = omega (arith, e, number);
            accepted = omega (arith, e, number);
            at_count = λ same. ap (λ (n : ℕ). n + 1) h.counts.far_count;
            reply_is = reply_is;
            written = Memᴰ.head refl;
          }
      by (arrival_repeat m e) =
          let reply_is = reply_written far.count (drop head_size reply) in
          record {
            number = far.count;
            above = omega (arith, e, number);
            accepted = omega (arith, h.counts.far_count, h.counts.put_out_accepted);
            at_count = λ same. absurd (omega (arith, e, number, h.counts.far_count));
            reply_is = reply_is;
            written = Memᴰ.head refl;
          }
      by (arrival_early m e) = absurd (omega (arith, e, number, h.counts.far_count))

  -- a reply up to the accepted count, and not below the acknowledged one
  pub acknowledged_next : (n : ℕ) → v.confirmed ≤ n → n ≤ length v.pdus → (replied near (reply_of n)).near.acknowledged ≡ n
  acknowledged_next n low high =
      let sound = reply_sound n (omega (arith, h.counts.few)) in
      acknowledges near (reply_of n) (reply_passes near (reply_of n) n sound (omega (arith, h.counts.near_accepted)))
      ∙ larger h (number_in (reply_of n))
      ∙ ap (max v.confirmed) sound.number_is
      ∙ omega arith
