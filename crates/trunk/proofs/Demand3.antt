-- Demand 3, one theorem about every fair list of calls (`demand3`): from a fresh near end, any store, and a fresh far end with a station of any
-- settings, whatever is lost, repeated or reordered. Each call keeps the invariant and says what it should; the list goes by induction.
-- Assumes nothing.
use Prim.Native.Nat.{ℕ, ◌+◌, ◌≤◌, ◌<◌, max}
use mathlib.Core.Path.{◌≡◌, refl, sym, ap, ap₂, subst, ◌∙◌}
use mathlib.Core.List.Memᴰ
use mathlib.Core.List.{List, [], ◌∷◌, ◌++◌, Memᴰ, map, map-append}
use lib.ListN.{length, take, drop}
use lib.Seq.{take_at}
use native.Mathlib.Omega.{arith}
use Rattle.wire.specs.Bytes.{Bytes}
use Rattle.pdu.specs.Writing.{written_form, padding_zero}
use Rattle.pdu.proofs.RoundTrip.{written_form_back}
use Rattle.station.specs.Answers.{number as station_number}
use Rattle.station.specs.Runs.{datagram, time}
use Rattle.station.specs.Hearing.{heard}
use Rattle.station.specs.Units.{made}
use Rattle.station.specs.declared.Station.{Station}
use Rattle.station.specs.declared.Settings.{Settings}
use Rattle.trunk.specs.Head.{head_size}
use Rattle.trunk.specs.Kinds.{record_size}
use Rattle.trunk.specs.Record.{reply_of, number_in, carried_in}
use Rattle.trunk.specs.Plain.{AllPdus}
use Rattle.trunk.specs.Bundle.{bundle_stop, bundle}
use Rattle.trunk.specs.Near.{row_kind, replied}
use Rattle.trunk.specs.Far.{ticked}
use Rattle.trunk.specs.Line.{Entry, offer_made, send_made, reply_heard, record_heard, clock_set, Call, offer, send, to_near, to_far, tick}
use Rattle.trunk.specs.Line.{Line, start, step, run, accepted, accepted_by, acknowledged, written, Allowed, Fair}
use Rattle.trunk.specs.Demand.{pdu_at, given, given_by, count, Says, AllSay, Demand3}
use Rattle.trunk.specs.declared.Near.{Near}
use Rattle.trunk.specs.declared.Far.{Far}
use Rattle.trunk.specs.declared.Offered.{Offered}
use Rattle.trunk.specs.declared.Sending.{Sending}
use Rattle.trunk.specs.declared.Replied.{Replied}
use Rattle.trunk.specs.declared.Arrived.{Arrived}
use Rattle.trunk.proofs.RecordLaws.{reply_plain, reply_written}
use Rattle.trunk.proofs.BundleLaws.{walked, all-bytes}
use Rattle.trunk.proofs.RuleLaws.{offer_met, held_met, reply_met, pdu_met}
use Rattle.trunk.proofs.CallLaws.{OfferOutcome, offer_refused, offer_taken, offer_outcome, SendOutcome, send_refused, send_taken}
use Rattle.trunk.proofs.CallLaws.{send_outcome, ReplyOutcome, reply_refused, reply_taken, reply_outcome, ArrivalOutcome, arrival_refused}
use Rattle.trunk.proofs.CallLaws.{arrival_delivered, arrival_repeat, arrival_early, arrival_outcome}
use Rattle.trunk.proofs.LogLaws.{Seen, seen, more, accepting, adds_nothing, adds_accepted, writing, adds_written, confirming}
use Rattle.trunk.proofs.LogLaws.{delivering, adds_delivered, adds_timed}
use Rattle.trunk.proofs.Progress.{replied_next, acknowledged_next}
use Rattle.trunk.proofs.Invariant.{reply_record, Holds, writes, bundle-keeps, bundle-row, bundle-rows, held_size, held_written}
use Rattle.trunk.proofs.Invariant.{send_keeps, larger, reply_keeps, known_bytes, arriving, delivery_keeps, clock_keeps}

-- after a log: the invariant, what was accepted is what was offered with padding zero, and every entry says what it should
pub record Stands (station : Station) (near : Near) (store : List ℕ) (far : Far) (log : List Entry) : Type 0 where
  pub holds : Holds station near store far (seen log)
  pub as_given : accepted log ≡ map padding_zero (given log)
  pub all_say : AllSay log

-- what is accepted of PDUs is their bytes with padding zero
written_forms : (ps : List (List ℕ)) → AllPdus ps → map written_form ps ≡ map padding_zero ps
written_forms [] all = refl
written_forms (p ∷ ps) (one, all) = ap₂ ◌∷◌ (written_form_back p one.taken) (written_forms ps all)

module _ {station : Station} {near : Near} {store : List ℕ} {far : Far} {log : List Entry} (s : Stands station near store far log) where
  -- an entry, with what it says
  also :
      {near' : Near} {store' : List ℕ} {far' : Far} {v : Seen} (e : Entry)
      → accepted_by e ≡ map padding_zero (given_by e)
      → seen (e ∷ log) ≡ v
      → Holds station near' store' far' v
      → Says e log
      → Stands station near' store' far' (e ∷ log)
  also {near'} {store'} {far'} e form same holds says =
      record {
        holds = subst (Holds station near' store' far') (sym same) holds;
        as_given = ap₂ ◌++◌ s.as_given form ∙ sym (map-append padding_zero (given log) (given_by e));
        all_say = (says, s.all_say);
      }

  after_offer :
      (d : List ℕ)
      → Bytes d
      → {o : Offered} {store' : List ℕ}
      → OfferOutcome near store d o store'
      → Stands station o.near store' far (offer_made d o.answer store' ∷ log)
  after_offer d b (offer_refused e f) = also _ refl (adds_nothing (seen log)) s.holds tt
  after_offer d b (offer_taken m) =
      let ps : List (List ℕ) = bundle d in
      let qs : List (List ℕ) = map written_form ps in
      let met = offer_met near store (bundle_stop d) (length ps) m in
      let (left, w) = walked d in
      let bytes = all-bytes ps left (subst Bytes w.parts b) in
      let kept = bundle-keeps s.holds ps bytes w.each met.whole met.numbers met.free in
      also _
      (written_forms ps w.each)
      (adds_accepted (seen log) qs _ ∙ ap (accepting (seen log) qs) (bundle-rows s.holds ps kept))
      kept
      (s.holds.counts.near_accepted, bundle-row s.holds ps kept)

  after_send :
      (i : ℕ) (out : List ℕ) {o : Sending} {out' : List ℕ}
      → SendOutcome near store i out o out'
      → Stands station o.near store far (send_made i o.answer out' ∷ log)
  after_send i out (send_refused e f) = also _ refl (adds_nothing (seen log)) s.holds tt
  after_send i out (send_taken m) =
      let h = s.holds in
      let within = held_met near store i (length out) m in
      let held : acknowledged log ≤ i = omega (arith, within.0, h.counts.near_acknowledged) in
      let below : i < length (accepted log) = omega (arith, within.1, h.counts.near_accepted) in
      let record_is = held_written h i held below (drop (record_size (row_kind store i)) out) in
      also _ refl
      (adds_written (seen log) _ ∙ ap (writing (seen log)) record_is)
      (send_keeps h i held below)
      (below, record_is, held_size h i held below)

  after_reply :
      (r : List ℕ)
      → Memᴰ r (written log)
      → {o : Replied}
      → ReplyOutcome near r o
      → Stands station o.near store far (reply_heard r o.answer ∷ log)
  after_reply r w (reply_refused e f) = also _ refl (adds_nothing (seen log)) s.holds tt
  after_reply r w (reply_taken m) =
      also _ refl
      (adds_nothing (confirming (seen log) (max (acknowledged log) (number_in r))))
      (reply_keeps s.holds r (s.holds.known r w) (reply_met near r m))
      (larger s.holds (number_in r))

  -- a reply with the count as it stands
  replied_again : (reply : List ℕ) → take head_size (reply_of far.count ++ drop head_size reply) ≡ reply_of far.count
  replied_again reply = reply_written far.count (drop head_size reply)

  written_again :
      (reply : List ℕ)
      → more (seen log) [] [] (take head_size (reply_of far.count ++ drop head_size reply) ∷ []) [] []
      ≡ writing (seen log) (reply_of far.count)
  written_again reply = adds_written (seen log) _ ∙ ap (writing (seen log)) (replied_again reply)

  again : Holds station near store far (writing (seen log) (reply_of far.count))
  again = writes s.holds (reply_of far.count) (reply_record far.count (omega (arith, s.holds.counts.far_count)) refl)

  after_arrival :
      (r reply out : List ℕ)
      → Memᴰ r (written log)
      → {o : Arrived} {reply' out' : List ℕ}
      → ArrivalOutcome far r reply out o reply' out'
      → Stands station near store o.far (record_heard r o.answer reply' out' ∷ log)
  after_arrival r reply out w (arrival_refused e f) = also _ refl (adds_nothing (seen log)) s.holds tt
  after_arrival r reply out w (arrival_delivered m e) =
      let this = arriving s.holds r (s.holds.known r w) (pdu_met r _ _ m) in
      let number : number_in r ≡ count log = e ∙ s.holds.counts.far_count in
      let pdu = take_at (carried_in r) (drop (length (carried_in r)) out) (length (carried_in r)) refl in
      let answered = reply_written (far.count + 1) (drop head_size reply) in
      let said : ℕ = station_number (heard far.station (carried_in r)).answer in
      also _ refl
      (adds_delivered (seen log) _ _ _ _ ∙ ap₂ (λ (p q : List ℕ). delivering (seen log) p q (datagram p) said) pdu answered)
      (delivery_keeps s.holds r this e)
      (ap length (this.pdu ∙ ap (pdu_at log) number), answered ∙ ap (λ (n : ℕ). reply_of (n + 1)) s.holds.counts.far_count ∙ reply_plain _)
  after_arrival r reply out w (arrival_repeat m l) =
      also _ refl (written_again reply) again (replied_again reply ∙ ap reply_of s.holds.counts.far_count ∙ reply_plain _)
  after_arrival r reply out w (arrival_early m l) =
      also _ refl (written_again reply) again (replied_again reply ∙ ap reply_of s.holds.counts.far_count ∙ reply_plain _)

  after_clock : (t : ℕ) → Stands station near store (ticked far t).far (clock_set t (ticked far t).answer ∷ log)
  unfolding ticked
  after_clock t = also _ refl (adds_timed (seen log) (time t) _) (clock_keeps s.holds t) tt

-- ---- a list of calls

abbrev pub StandsAt : Station → Line → Type 0
StandsAt station l = Stands station l.near l.store l.far l.log

pub step_stands : {station : Station} (l : Line) (c : Call) → Allowed l.log c → StandsAt station l → StandsAt station (step l c)
step_stands l (offer d) b s = after_offer s d b (offer_outcome l.near l.store d)
step_stands l (send i out) f s = after_send s i out (send_outcome l.near l.store i out)
step_stands l (to_near r) w s = after_reply s r w (reply_outcome l.near r)
step_stands l (to_far r reply out) w s =
    after_arrival s r reply out w
    (arrival_outcome l.far r reply out (known_bytes s.holds r (s.holds.known r w)))
step_stands l (tick t) f s = after_clock s t

pub run_stands : {station : Station} (l : Line) (calls : List Call) → Fair l calls → StandsAt station l → StandsAt station (run l calls)
run_stands l [] f s = s
run_stands l (c ∷ cs) f s = run_stands (step l c) cs f.1 (step_stands l c f.0 s)

pub start_stands : (settings : Settings) (store : List ℕ) → StandsAt (made settings).station (start settings store)
start_stands settings store =
    record {
      holds =
          record {
            counts =
                record {
                  near_accepted = refl;
                  near_acknowledged = refl;
                  far_count = refl;
                  acknowledged_put_out = omega arith;
                  put_out_accepted = omega arith;
                  window = omega arith;
                  few = omega arith;
                };
            held = record { carried = λ i l. absurd (omega arith); whole = λ l. absurd (omega arith); stored = λ i held l. absurd (omega arith) };
            known = λ r w. absurd (Memᴰ.not-nil w);
            recorded = λ i l. absurd (omega arith);
            in_order = refl;
            played = record { stands = refl; answered = refl };
          };
      as_given = refl;
      all_say = tt;
    }

-- ---- demand 3

pub stands_demand : {station : Station} (l : Line) → StandsAt station l → Demand3 station l
stands_demand l s =
    let h = s.holds in
    record {
      in_order = h.in_order;
      padding_zero = h.in_order ∙ ap (take (count l.log)) s.as_given;
      acknowledged_put_out = h.counts.acknowledged_put_out;
      put_out_accepted = h.counts.put_out_accepted;
      window = h.counts.window;
      near_accepted = h.counts.near_accepted;
      near_acknowledged = h.counts.near_acknowledged;
      far_count = h.counts.far_count;
      station_stands = h.played.stands;
      station_answered = h.played.answered;
      all_say = s.all_say;
      next = λ more reply out fits room.
          let k : ℕ = count l.log in
          let answer = replied_next h k reply out more (omega arith) fits room in
          ap (λ (r : List ℕ). (replied l.near r).near.acknowledged) answer.reply_is
          ∙ acknowledged_next h answer.number (omega (arith, h.counts.acknowledged_put_out, answer.above)) answer.accepted
          ∙ answer.at_count refl;
      next_fair = λ more reply out fits room.
          let answer = replied_next h (count l.log) reply out more (omega arith) fits room in
          (h.recorded (count l.log) more, (Memᴰ.append_right (written l.log) answer.written, tt));
    }

-- for every fair list of calls, from a fresh near end, any store, and a fresh far end, its station of any settings
pub demand3 :
    (settings : Settings) (store : List ℕ) (calls : List Call)
    → Fair (start settings store) calls
    → Demand3 (made settings).station (run (start settings store) calls)
demand3 settings store calls fair =
    let begin : Line = start settings store in
    stands_demand (run begin calls) (run_stands begin calls fair (start_stands settings store))
