-- Each answer of each call, exactly when it is given, in plain numbers: a refusal's number is that of the first plain rule that does not hold,
-- and every other answer is given exactly where all rules hold, with the values that document 01 names. By the outcome of each call.
-- Assumes nothing.
use Prim.Native.Nat.{ℕ}
use mathlib.Core.Path.{◌≡◌, refl, sym, ap, ap₂, subst, ◌∙◌}
use mathlib.Core.Logic.{◌↔◌, ◌≢◌}
use mathlib.Core.Bool.{Bool, true, false}
use mathlib.Core.List.{List, ◌++◌}
use lib.ListN.{length}
use lib.Dec.{eqb}
use borrow.Author.Tests.{eqb-true, eqb-false}
use native.Mathlib.Omega.{arith}
use Rattle.wire.specs.Bytes.{num, Bytes}
use Rattle.wire.specs.First.{Refusal as Rule, first}
use Rattle.wire.specs.Rules.{Rule as PlainRule, Met, FirstBroken}
use Rattle.wire.specs.Rules.{Verdict}
use Rattle.station.specs.Hearing.{heard}
use Rattle.station.specs.declared.answers.Answer.{Answer}
use Rattle.trunk.specs.Kinds.{load, is_reply_load, record_size}
use Rattle.trunk.specs.Record.{kind_in, number_in, carried_in, is_reply, check_rules, checked}
use Rattle.trunk.specs.Bundle.{bundle_stop, bundle}
use Rattle.trunk.specs.Near.{row_kind, acknowledged_after, offered, sent, replied}
use Rattle.trunk.specs.Far.{arrived}
use Rattle.trunk.specs.Exactly.{AnswerExactly, SliceExactly, OfferExactly, SendExactly, ReplyExactly, ArriveExactly, CheckExactly, AnswersSay}
use Rattle.trunk.specs.Plain.{joined, plain_offer, plain_send, plain_reply, plain_arrival, plain_check}
use Rattle.trunk.specs.declared.Checked.{Checked}
use Rattle.trunk.specs.declared.Checked.TheVariants.{Reply as a_reply, Pdu}
use Rattle.trunk.specs.declared.Near.{Near}
use Rattle.trunk.specs.declared.Far.{Far}
use Rattle.trunk.specs.declared.Offered.{Offered}
use Rattle.trunk.specs.declared.Sending.{Sending}
use Rattle.trunk.specs.declared.Replied.{Replied}
use Rattle.trunk.specs.declared.Arrival.{Arrival}
use Rattle.trunk.specs.declared.Arrival.TheVariants.{Delivered, Repeat, Early}
use Rattle.trunk.specs.declared.Arrived.{Arrived}
use Rattle.std.specs.Prelude.{Result, Ok, Err}
use Rattle.trunk.specs.Refusals.{Refusal, number, named, RefusedBy}
use Rattle.trunk.proofs.RefusalLaws.{one_number, named_broken}
use Rattle.trunk.proofs.KindLaws.{plain_length_lem, reply_says_lem, no-reply_says}
use Rattle.trunk.proofs.BundleLaws.{walked, walked_only, left_only}
use Rattle.trunk.proofs.RuleLaws.{offer-verdict, send-verdict, reply_verdict, arrival_verdict, check-verdict}
use Rattle.trunk.proofs.CallLaws.{check_known, after_is_max, OfferOutcome, offer_refused, offer_taken, offer_outcome, SendOutcome, send_refused}
use Rattle.trunk.proofs.CallLaws.{send_taken, send_outcome, ReplyOutcome, reply_refused, reply_taken, reply_outcome, ArrivalOutcome}
use Rattle.trunk.proofs.CallLaws.{arrival_refused, arrival_delivered, arrival_repeat, arrival_early, arrival_outcome}

-- two statements that never hold
neither_holds : {A B : Type 0} → ¬ A → ¬ B → A ↔ B
neither_holds a b = (λ x. absurd (a x), λ y. absurd (b y))

-- all rules hold, and one is the first that does not
pub clash : {rs : List Rule} (ps : List PlainRule) → Verdict rs ps → (n : ℕ) → FirstBroken n ps → ¬ Met ps
clash ps v n f m = let x = (v.some n).1 f in x.1 (sym x.0 ∙ v.none.1 m)

-- an answer is a refusal or a value, and in one way
no-value : {A : Type 0} (e : Refusal) (x : A) → ◌≢◌ {A = Result A Refusal} (Err e) (Ok x)
no-value e x same = let z : ◌≡◌ {A = ℕ} 0 1 = cc in omega arith

same_value : {A : Type 0} (x y : A) → ◌≡◌ {A = Result A Refusal} (Ok x) (Ok y) → x ≡ y
same_value x y e = cc

-- where one number is the first broken rule's, no other is
refused_as : {rs : List Rule} (ps : List PlainRule) → Verdict rs ps → (m : ℕ) → FirstBroken m ps → (n : ℕ) → (m ≡ n) ↔ FirstBroken n ps
refused_as ps v m f n = (
  (λ same. subst (λ (k : ℕ). FirstBroken k ps) same f),
  (λ g. sym ((v.some _).1 f).0 ∙ ((v.some _).1 g).0),
)

module _ {A : Type 0} {rs : List Rule} (ps : List PlainRule) (v : Verdict rs ps) where
  -- where one is broken, no value is answered
  never_value : (m : Refusal) → FirstBroken (number m) ps → (x : A) {Q : Type 0} → (Q → Met ps) → (Err m ≡ Ok x) ↔ Q
  never_value m f x met = neither_holds (no-value m x) (λ q. clash ps v (number m) f (met q))

  -- where every rule holds, nothing is refused
  never_refused : Met ps → (x : A) (n : ℕ) → RefusedBy n (Ok x) ↔ FirstBroken n ps
  never_refused met x n = neither_holds (λ no. no) (λ f. clash ps v n f met)

-- ---- offering

offer_exactly :
    (near : Near) (store d : List ℕ) {o : Offered} {s : List ℕ}
    → OfferOutcome near store d o s
    → AnswerExactly near store (bundle_stop d) (length (bundle d)) o.answer
offer_exactly near store d (offer_refused m f) =
    let v = offer-verdict near store (bundle_stop d) (length (bundle d)) in
    let rules = plain_offer near store (bundle_stop d) (length (bundle d)) in
    record {
      refused = refused_as rules v (number m) f;
      taken = λ i. never_value rules v m f i (λ x. x.0);
    }
offer_exactly near store d (offer_taken met) =
    let v = offer-verdict near store (bundle_stop d) (length (bundle d)) in
    let rules = plain_offer near store (bundle_stop d) (length (bundle d)) in
    record {
      refused = never_refused rules v met near.accepted;
      taken = λ i. (λ e. (met, sym (same_value near.accepted i e)), λ x. ap Ok (sym x.1));
    }

-- what the definitions say of a slice is what it is in plain numbers, and nothing else is
pub slice_exactly_when : (d : List ℕ) → SliceExactly d (bundle d) (bundle_stop d)
slice_exactly_when d =
    let (left, w) = walked d in
    record {
      left = left;
      walked = w;
      only = λ ps l n v.
          let same = walked_only d ps l n v in
          let parts = w.parts ∙ ap (λ (q : List (List ℕ)). joined q ++ left) (sym same.pdus) in
          (same.pdus, left_only d ps l left v.parts parts, same.stop);
    }

-- an offer's answer, exactly when
pub offer_exactly_when : (near : Near) (store d : List ℕ) → OfferExactly near store d (offered near store d).answer
offer_exactly_when near store d =
    record {
      pdus = bundle d;
      stop = bundle_stop d;
      slice = slice_exactly_when d;
      answer = offer_exactly near store d (offer_outcome near store d);
    }

-- ---- sending

send_exactly :
    (near : Near) (store : List ℕ) (i : ℕ) (out : List ℕ) {o : Sending} {s : List ℕ}
    → SendOutcome near store i out o s
    → SendExactly near store i (length out) o.answer
send_exactly near store i out (send_refused m f) =
    let v = send-verdict near store i (length out) in
    let rules = plain_send near store i (length out) in
    record {
      refused = refused_as rules v (number m) f;
      size = λ n. never_value rules v m f n (λ x. x.0);
    }
send_exactly near store i out (send_taken met) =
    let v = send-verdict near store i (length out) in
    let rules = plain_send near store i (length out) in
    let long = plain_length_lem (row_kind store i) in
    record {
      refused = never_refused rules v met (record_size (row_kind store i));
      size = λ n. (λ e. (met, sym (same_value _ n e) ∙ long), λ x. ap Ok (long ∙ sym x.1));
    }

-- a send's answer, exactly when
pub send_exactly_when :
    (near : Near) (store : List ℕ) (i : ℕ) (out : List ℕ)
    → SendExactly near store i (length out) (sent near store i (length out)).answer
send_exactly_when near store i out = send_exactly near store i out (send_outcome near store i out)

-- ---- taking a reply

reply_exactly : (near : Near) (r : List ℕ) {o : Replied} → ReplyOutcome near r o → ReplyExactly near r o.answer
reply_exactly near r (reply_refused m f) =
    let v = reply_verdict near r in
    record {
      refused = refused_as (plain_reply near r) v (number m) f;
      acknowledged = λ n. never_value (plain_reply near r) v m f n (λ x. x.0);
    }
reply_exactly near r (reply_taken met) =
    let v = reply_verdict near r in
    let count : ℕ = acknowledged_after near.acknowledged (number_in r) in
    let larger = after_is_max near.acknowledged (number_in r) in
    record {
      refused = never_refused (plain_reply near r) v met count;
      acknowledged = λ n. (λ e. (met, sym (same_value count n e) ∙ larger), λ x. ap Ok (larger ∙ sym x.1));
    }

-- a reply's answer, exactly when
pub reply_exactly_when : (near : Near) (r : List ℕ) → ReplyExactly near r (replied near r).answer
reply_exactly_when near r = reply_exactly near r (reply_outcome near r)

-- ---- a record at the far end

-- arrivals of two kinds differ
which : Arrival → ℕ
which (Delivered size answer) = 1
which Repeat = 2
which Early = 3

differ : (a b : Arrival) → which a ≢ which b → ◌≢◌ {A = Result Arrival Refusal} (Ok a) (Ok b)
differ a b h e = h (ap which (same_value a b e))

same_delivered : (s t : ℕ) (m n : Answer) → ◌≡◌ {A = Result Arrival Refusal} (Ok (Delivered t n)) (Ok (Delivered s m)) → (s ≡ t) × (m ≡ n)
same_delivered s t m n e = (cc, cc)

arrive_exactly :
    (far : Far) (r reply out : List ℕ)
    → Bytes r
    → {o : Arrived} {s t : List ℕ}
    → ArrivalOutcome far r reply out o s t
    → ArriveExactly far r (length reply) (length out) o.answer
unfolding which
arrive_exactly far r reply out b (arrival_refused m f) =
    let v = arrival_verdict r b (length reply) (length out) in
    let rules = plain_arrival r (length reply) (length out) in
    record {
      refused = refused_as rules v (number m) f;
      delivered = λ size answer. never_value rules v m f (Delivered size answer) (λ x. x.0);
      repeat = never_value rules v m f Repeat (λ x. x.0);
      early = never_value rules v m f Early (λ x. x.0);
    }
arrive_exactly far r reply out b (arrival_delivered met same) =
    let v = arrival_verdict r b (length reply) (length out) in
    let rules = plain_arrival r (length reply) (length out) in
    let this : Arrival = Delivered (length (carried_in r)) (heard far.station (carried_in r)).answer in
    record {
      refused = never_refused rules v met this;
      delivered = λ size answer. (
        (λ e. let x = same_delivered size (length (carried_in r)) answer (heard far.station (carried_in r)).answer e in (met, same, x.0, x.1)),
        (λ x. ap₂ (λ (n : ℕ) (a : Answer). Ok (Delivered n a)) (sym x.2) (sym x.3)),
      );
      repeat = neither_holds (differ this Repeat (λ t. omega arith)) (λ x. omega (arith, x.1));
      early = neither_holds (differ this Early (λ t. omega arith)) (λ x. omega (arith, x.1));
    }
arrive_exactly far r reply out b (arrival_repeat met below) =
    let v = arrival_verdict r b (length reply) (length out) in
    let rules = plain_arrival r (length reply) (length out) in
    record {
      refused = never_refused rules v met Repeat;
      delivered = λ size answer. neither_holds (differ Repeat (Delivered size answer) (λ t. omega arith)) (λ x. omega (arith, x.1));
      repeat = (λ e. (met, below), λ x. refl);
      early = neither_holds (differ Repeat Early (λ t. omega arith)) (λ x. omega (arith, x.1));
    }
arrive_exactly far r reply out b (arrival_early met above) =
    let v = arrival_verdict r b (length reply) (length out) in
    let rules = plain_arrival r (length reply) (length out) in
    record {
      refused = never_refused rules v met Early;
      delivered = λ size answer. neither_holds (differ Early (Delivered size answer) (λ t. omega arith)) (λ x. omega (arith, x.1));
      repeat = neither_holds (differ Early Repeat (λ t. omega arith)) (λ x. omega (arith, x.1));
      early = (λ e. (met, above), λ x. refl);
    }

-- an arrival's answer, exactly when, for every list of bytes
pub arrive_exactly_when :
    (far : Far) (r reply out : List ℕ)
    → Bytes r
    → ArriveExactly far r (length reply) (length out) (arrived far r (length reply) (length out)).answer
arrive_exactly_when far r reply out b = arrive_exactly far r reply out b (arrival_outcome far r reply out b)

-- ---- the check of a record

reply_no_pdu : (a b kind number size : ℕ) → ◌≢◌ {A = Result Checked Refusal} (Ok (a_reply a b)) (Ok (Pdu kind number size))
reply_no_pdu a b kind number size e = let z : ◌≡◌ {A = ℕ} 0 1 = cc in omega arith

same_reply : (a b number size : ℕ) → ◌≡◌ {A = Result Checked Refusal} (Ok (a_reply a b)) (Ok (a_reply number size)) → (number ≡ a) × (size ≡ b)
same_reply a b number size e = (cc, cc)

same_pdu : (a b c kind number size : ℕ) → ◌≡◌ {A = Result Checked Refusal} (Ok (Pdu a b c)) (Ok (Pdu kind number size)) → (kind ≡ a) × (number ≡ b) × (size ≡ c)
same_pdu a b c kind number size e = (cc, cc, cc)

-- a check's answer, exactly when
pub check_exactly_when : (r : List ℕ) → Bytes r → CheckExactly r (checked r)
unfolding checked is_reply
check_exactly_when r b = by (eqb (first (check_rules r)) 0) refl (is_reply_load (load (kind_in r))) refl
  where
    v : Verdict (check_rules r) (plain_check r)
    v = check-verdict r b

    met : first (check_rules r) ≡ 0 → Met (plain_check r)
    met e = v.none.0 e

    by : (t : Bool) → eqb (first (check_rules r)) 0 ≡ t → (u : Bool) → is_reply_load (load (kind_in r)) ≡ u → CheckExactly r (checked r)
    by true none true reply =
        let all = met (eqb-true _ _ none) in
        let kind : num 1 0 r ≡ 32 = (reply_says_lem (num 1 0 r)).0 reply in
        subst (CheckExactly r) (sym (rw (none, reply)))
        record {
          refused = never_refused (plain_check r) v all (a_reply (number_in r) (length r));
          reply = λ number size. (
            (λ e. let s = same_reply _ _ number size e in (all, kind, s.0, s.1)),
            (λ x. ap₂ (λ (n k : ℕ). Ok (a_reply n k)) (sym x.2) (sym x.3)),
          );
          pdu = λ k number size. neither_holds (reply_no_pdu _ _ k number size) (λ x. x.1 kind);
        }
    by true none false pdu =
        let all = met (eqb-true _ _ none) in
        let kind : num 1 0 r ≢ 32 = (no-reply_says (num 1 0 r)).0 pdu in
        subst (CheckExactly r) (sym (rw (none, pdu)))
        record {
          refused = never_refused (plain_check r) v all (Pdu (kind_in r) (number_in r) (length r));
          reply = λ number size. neither_holds (λ e. reply_no_pdu number size _ _ _ (sym e)) (λ x. kind x.1);
          pdu = λ k number size. (
            (λ e. let s = same_pdu _ _ _ k number size e in (all, kind, s.0, s.1, s.2)),
            (λ x i. Ok (Pdu (sym x.2 i) (sym x.3 i) (sym x.4 i))),
          );
        }
    by false some u reply =
        let m : Refusal = named (first (check_rules r)) in
        let f : FirstBroken (number m) (plain_check r) = named_broken (plain_check r) v (check_known r) (eqb-false _ _ some) in
        subst (CheckExactly r) (sym (rw some))
        record {
          refused = refused_as (plain_check r) v (number m) f;
          reply = λ number size. never_value (plain_check r) v m f (a_reply number size) (λ x. x.0);
          pdu = λ k number size. never_value (plain_check r) v m f (Pdu k number size) (λ x. x.0);
        }

-- ---- what each case of each answer says

pub answers-say : AnswersSay
answers-say =
    record {
      own_number = one_number;
      offer_refused = λ e. refl;
      offer_taken = λ number. refl;
      send_refused = λ e. refl;
      send_size = λ size. refl;
      reply_refused = λ e. refl;
      reply_acknowledged = λ count. refl;
      arrival_refused = λ e. refl;
      arrival_delivered = λ size answer. refl;
      arrival_repeat = refl;
      arrival_early = refl;
      check_refused = λ e. refl;
      check_reply = λ number size. refl;
      check_pdu = λ kind number size. refl;
      number_refused = λ e. refl;
      number_reply = λ number size. refl;
      number_pdu = λ kind number size. refl;
      size_refused = λ e. refl;
      size_reply = λ number size. refl;
      size_pdu = λ kind number size. refl;
    }
