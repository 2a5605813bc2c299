-- Each call's tests say the same as the plain rules in their place, so its refusal number is 0 exactly where every rule holds, and is n exactly
-- where n is the number of the first that does not. By the laws of tests and of rules in order.
-- Assumes nothing.
use Prim.Native.Nat.{ℕ, ◌+◌, ◌≤◌, ◌<◌}
use mathlib.Core.Path.{◌≡◌, refl, sym, ap, ◌∙◌}
use mathlib.Core.Logic.Iff
use mathlib.Core.Logic.{◌↔◌, ◌≢◌, inl, inr}
use mathlib.Core.Bool.{Bool, true, false, cond, not, true≢false}
use mathlib.Core.List.{List, [], ◌∷◌}
use lib.ListN.{length}
use lib.Dec.{eqb}
use native.Mathlib.Omega.{arith}
use borrow.Author.Tests.{le-ltb, not-true, eqb-false, ne_eqb, ltb-true, ltb-false, lt-ltb}
use Rattle.wire.specs.Bytes.{num, Bytes}
use Rattle.wire.specs.First.{Refusal, ◌given_when◌, first}
use Rattle.wire.proofs.FitLaws.{bytes_drop}
use Rattle.wire.specs.Rules.{Rule, ◌unless◌, Met}
use Rattle.wire.proofs.RuleLaws.{equal, at_most, not_below, negated, both, neither, if_so, done, ◌then◌, verdict}
use Rattle.wire.specs.Rules.{Verdict}
use Rattle.trunk.specs.Head.{head_size}
use Rattle.trunk.specs.Kinds.{longest_pdu, reply_kind}
use Rattle.std.specs.Prelude.{Ok}
use Rattle.trunk.specs.declared.Checked.TheVariants.{Reply, Pdu}
use Rattle.trunk.specs.Record.{number_in, taken, checked_says}
use Rattle.trunk.specs.Record.{kind_in, carried_in, unknown_kind, wrong_size, is_reply, last_of_all, wrong_carried, form_rules, pdu_rules, check_rules}
use Rattle.trunk.specs.Near.{wrong_store, no_rows, offer_rules_of, is_held, send_rules, reply_rules}
use Rattle.trunk.specs.Far.{lacks_room, arrival_rules}
use Rattle.trunk.specs.Plain.{StoreRule, NumberRule, RoomRule, ReplyKind, KindRule, LengthRule, CarriedRule}
use Rattle.trunk.specs.Plain.{plain_offer, plain_send, plain_reply, plain_arrival, plain_check}
use Rattle.trunk.specs.declared.Near.{Near}
use Rattle.trunk.proofs.KindLaws.{known_says, reply_says_lem, no-reply_says, plain_length_lem}
use Rattle.trunk.proofs.RecordLaws.{carried_says_lem, Sound, SoundReply}

-- ---- each test says the same as its plain rule

-- a number that differs
differs : (m n : ℕ) → (eqb m n ≡ false) ↔ (m ≢ n)
differs m n = (eqb-false m n, ne_eqb m n)

store_says : (store : List ℕ) → (wrong_store (length store) ≡ false) ↔ StoreRule store
store_says store = negated _ (equal _ _)

kind_says : (r : List ℕ) → (unknown_kind r ≡ false) ↔ KindRule r
unfolding unknown_kind
kind_says r = if_so _ _ (ltb-true _ _, lt-ltb _ _) (known_says _)

length_says : (r : List ℕ) → (wrong_size r ≡ false) ↔ LengthRule r
unfolding wrong_size
length_says r =
    negated _ (Iff.trans (equal _ _) (λ e. (omega arith, e ∙ plain_length_lem (num 1 0 r)), λ h. h.1 ∙ sym (plain_length_lem (num 1 0 r))))

is_reply_says : (r : List ℕ) → (not (is_reply r) ≡ false) ↔ ReplyKind (num 1 0 r)
unfolding is_reply
is_reply_says r = negated _ (reply_says_lem (num 1 0 r))

pub reply_kind_lem : (r : List ℕ) → is_reply r ≡ true → kind_in r ≡ reply_kind
unfolding is_reply
reply_kind_lem r = (reply_says_lem (num 1 0 r)).0

-- what a record says that is taken
pub taken_says : (r : List ℕ) → checked_says (Ok (taken r)) ≡ 0 ∷ kind_in r ∷ number_in r ∷ length r ∷ []
taken_says r = by (is_reply r) refl
  where
    by :
        (b : Bool)
        → is_reply r ≡ b
        → checked_says (Ok (cond b (Reply (number_in r) (length r)) (Pdu (kind_in r) (number_in r) (length r))))
        ≡ 0 ∷ kind_in r ∷ number_in r ∷ length r ∷ []
    by true e = ap (λ (k : ℕ). 0 ∷ k ∷ number_in r ∷ length r ∷ []) (sym (reply_kind_lem r e))
    by false e = refl

is_pdu_says : (r : List ℕ) → (is_reply r ≡ false) ↔ ¬ ReplyKind (num 1 0 r)
unfolding is_reply
is_pdu_says r = no-reply_says (num 1 0 r)

-- 25 and 22, of a record that is no reply
last_says : (r : List ℕ) → ¬ ReplyKind (num 1 0 r) → (last_of_all r ≡ false) ↔ NumberRule (num 4 1 r)
unfolding last_of_all
last_says r h = rw ((is_pdu_says r).1 h) (differs _ _)

wrong_says : (r : List ℕ) → Bytes r → ¬ ReplyKind (num 1 0 r) → (wrong_carried r ≡ false) ↔ CarriedRule r
unfolding wrong_carried
wrong_says r b h =
    rw ((is_pdu_says r).1 h) (carried_says_lem (carried_in r) (num 1 0 r) (bytes_drop head_size r b))

held_says : (near : Near) (i : ℕ) → (not (is_held near i) ≡ false) ↔ ((near.acknowledged ≤ i) × (i < near.accepted))
held_says near i = negated _ (both _ _ (at_most _ _) (ltb-true _ _, lt-ltb _ _))

-- the rows that are free, for eight PDUs at most
rows-say :
    (near : Near) (pdus : ℕ)
    → pdus ≤ 8
    → (no_rows near pdus ≡ false) ↔ (near.accepted + pdus ≤ near.acknowledged + 8)
rows-say near pdus few = by (no_rows near pdus) refl
  where
    by : (b : Bool) → no_rows near pdus ≡ b → (b ≡ false) ↔ (near.accepted + pdus ≤ near.acknowledged + 8)
    by true e = (λ z. absurd (true≢false z), λ free. absurd (omega (arith, ltb-true)))
    by false e = (λ z. omega (arith, ltb-false), λ free. refl)

room_says : (reply_room room : ℕ) → (lacks_room reply_room room ≡ false) ↔ RoomRule reply_room room
room_says reply_room room = neither _ _ (not_below _ _) (not_below _ _)

-- ---- the calls

-- one more rule in front, its number one that only a broken rule has
one_more :
    {n : ℕ} {broken : Bool} {holds : Type 0} {rs : List Refusal} {ps : List Rule}
    → (broken ≡ true → n ≢ 0)
    → (broken ≡ false) ↔ holds
    → (holds → Verdict rs ps)
    → Verdict ((n given_when broken) ∷ rs) ((n unless holds) ∷ ps)
one_more {broken = true} z h v =
    record {
      none = (λ e. absurd (z refl e), λ m. absurd (true≢false (h.1 m.0)));
      some = λ k. (
        (λ x. inl (sym x.0, λ p. true≢false (h.1 p))),
        elim [ inl f ↦ (sym f.0, λ e. z refl (sym f.0 ∙ e)) | inr f ↦ absurd (true≢false (h.1 f.0)) ],
      );
    }
one_more {broken = false} z h v =
    let rest = v (h.0 refl) in
    record {
      none = (λ e. (h.0 refl, rest.none.0 e), λ m. rest.none.1 m.1);
      some = λ k. (
        (λ x. inr (h.0 refl, (rest.some k).0 x)),
        elim [ inl f ↦ absurd (f.1 (h.0 refl)) | inr f ↦ (rest.some k).1 f.1 ],
      );
    }

pub offer-verdict :
    (near : Near) (store : List ℕ) (stop pdus : ℕ)
    → Verdict (offer_rules_of near (length store) stop pdus) (plain_offer near store stop pdus)
unfolding offer_rules_of
offer-verdict near store stop pdus =
    one_more (λ b e. omega arith) (store_says store)
    (λ whole. one_more (λ b. eqb-false _ _ (not-true _ b)) (negated _ (equal _ _))
    (λ none. verdict
    (not_below _ _
    then λ few. not_below _ _
    then λ numbers. rows-say near pdus few
    then λ free. done)))

pub send-verdict : (near : Near) (store : List ℕ) (i room : ℕ) → Verdict (send_rules near store i room) (plain_send near store i room)
unfolding send_rules
send-verdict near store i room =
    verdict
    (store_says store
    then λ whole. held_says near i
    then λ held. known_says _
    then λ known. no-reply_says _
    then λ pdu. rw (plain_length_lem _) (not_below _ _)
    then λ room. done)

pub reply_verdict : (near : Near) (r : List ℕ) → Verdict (reply_rules near r) (plain_reply near r)
unfolding reply_rules form_rules
reply_verdict near r =
    verdict
    (kind_says r
    then λ kind. length_says r
    then λ size. is_reply_says r
    then λ reply. not_below _ _
    then λ few. done)

-- 25 and 22 of a check, where the record is no reply
pdu_says : (r : List ℕ) → (not (is_reply r) ≡ true) ↔ ¬ ReplyKind (num 1 0 r)
pdu_says r = (λ e. (is_pdu_says r).0 (not-true _ e), λ h. ap not ((is_pdu_says r).1 h))

pub check-verdict : (r : List ℕ) → Bytes r → Verdict (check_rules r) (plain_check r)
unfolding form_rules pdu_rules last_of_all wrong_carried
check-verdict r b =
    verdict
    (kind_says r
    then λ kind. length_says r
    then λ size. if_so _ _ (pdu_says r) (differs _ _)
    then λ last. if_so _ _ (pdu_says r) (carried_says_lem (carried_in r) (num 1 0 r) (bytes_drop head_size r b))
    then λ carried. done)

pub arrival_verdict :
    (r : List ℕ)
    → Bytes r
    → (reply_room room : ℕ)
    → Verdict (arrival_rules r reply_room room) (plain_arrival r reply_room room)
unfolding arrival_rules form_rules pdu_rules
arrival_verdict r b reply_room room =
    verdict
    (kind_says r
    then λ kind. length_says r
    then λ size. is_pdu_says r
    then λ pdu. last_says r pdu
    then λ last. wrong_says r b pdu
    then λ carried. room_says reply_room room
    then λ fits. done)

-- ---- what is known where all rules of a call are met

pub record OfferMet (near : Near) (store : List ℕ) (stop pdus : ℕ) : Type 0 where
  pub whole : StoreRule store
  pub none : stop ≡ 0
  pub few : pdus ≤ 8
  pub numbers : near.accepted + pdus ≤ 4294967295
  pub free : near.accepted + pdus ≤ near.acknowledged + 8

pub offer_met : (near : Near) (store : List ℕ) (stop pdus : ℕ) → Met (plain_offer near store stop pdus) → OfferMet near store stop pdus
offer_met near store stop pdus (whole, (none, (few, (numbers, (free, _))))) =
    record { whole = whole; none = none; few = few; numbers = numbers; free = free }

pub held_met : (near : Near) (store : List ℕ) (i room : ℕ) → Met (plain_send near store i room) → (near.acknowledged ≤ i) × (i < near.accepted)
held_met near store i room (whole, (held, rest)) = held

pub reply_met : (near : Near) (r : List ℕ) → Met (plain_reply near r) → ReplyKind (num 1 0 r)
reply_met near r (kind, (size, (reply, rest))) = reply

pub pdu_met : (r : List ℕ) (reply_room room : ℕ) → Met (plain_arrival r reply_room room) → ¬ ReplyKind (num 1 0 r)
pdu_met r reply_room room (kind, (size, (pdu, rest))) = pdu

-- ---- records that break no rule

-- the record of a carried PDU, where there is room
pub arrival_passes :
    (r : List ℕ) (reply_room room : ℕ)
    → Sound r
    → head_size ≤ reply_room
    → longest_pdu ≤ room
    → first (arrival_rules r reply_room room) ≡ 0
unfolding arrival_rules form_rules pdu_rules
arrival_passes r reply_room room s h k =
    rw (s.known, s.sized, s.no_reply, s.not_last, s.right, (room_says reply_room room).1 (h, k))

-- a reply with a number up to the accepted count
pub reply_passes : (near : Near) (r : List ℕ) (n : ℕ) → SoundReply r n → n ≤ near.accepted → first (reply_rules near r) ≡ 0
unfolding reply_rules form_rules
reply_passes near r n s h = rw (s.known, s.sized, s.reply, s.number_is, le-ltb near.accepted n h)
