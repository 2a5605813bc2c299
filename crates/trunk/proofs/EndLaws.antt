-- What the rules of a call say, for the proofs of the code: of each call that begins with the rules on the form, which rule answers; and of a call that has
-- passed its rules, the size of the store, the room, the numbers. Each is read off the first broken rule of the call.
-- Assumes nothing.
use Prim.Native.Nat.{ℕ, ◌+◌, ◌-◌, ◌≤◌, ◌<◌}
use mathlib.Core.Path.{◌≡◌, refl, sym, ap, ◌∙◌}
use mathlib.Core.Logic.{◌≢◌}
use mathlib.Core.Bool.{Bool, true, false, cond, not, ◌&&◌}
use mathlib.Core.List.{List, [], ◌∷◌, ◌++◌}
use lib.ListN.{length, take, drop, length-take, length-drop}
use lib.Dec.{eqb}
use native.Mathlib.Nat.{add-sub_cancel_left}
use native.Mathlib.Omega.{arith}
use borrow.Author.Tests.{eqb-true, eqb-false, ltb-false, not-false}
use Rattle.wire.specs.Bytes.{splice}
use Rattle.wire.specs.First.{Refusal, ◌given_when◌, first}
use Rattle.wire.proofs.ByteLaws.{splice-start}
use Rattle.wire.proofs.FirstLaws.{unbroken, none_of}
use Rattle.wire.proofs.RuleLaws.{not_below, neither}
use Rattle.trunk.specs.Head.{head_size}
use Rattle.trunk.specs.Kinds.{record_size, longest_pdu, longest_record}
use Rattle.trunk.specs.Record.{number_in, last_number, is_reply, last_of_all, form_rules, pdu_rules, check_rules}
use Rattle.trunk.specs.Near.{store_size, most_pdus, wrong_store, row_start, row_kind, row_record, offer_rest, offer_rules_of, send_rules, reply_rest}
use Rattle.trunk.specs.Near.{reply_rules}
use Rattle.trunk.specs.Far.{room_rules, arrival_rest, arrival_rules, is_next}
use Rattle.trunk.specs.declared.Near.{Near}
use Rattle.pdu.proofs.RefusalLaws.{first_then}
use Rattle.trunk.proofs.KindLaws.{record_small}

-- ---- rules in order

-- the number that stops a slice, where it is the refusal
stop_passes : (n : ℕ) (rest : List Refusal) → first ((n given_when not (eqb n 0)) ∷ rest) ≡ 0 → (n ≡ 0) × (first rest ≡ 0)
stop_passes n rest e = go (eqb n 0) refl e
  where
    go : (b : Bool) → eqb n 0 ≡ b → cond (not b) n (first rest) ≡ 0 → (n ≡ 0) × (first rest ≡ 0)
    go true z r = (eqb-true n 0 z, r)
    go false z r = absurd (eqb-false n 0 z r)

-- the rules of each call that begins with those on the form: a broken one of these is the first; where there is none, the rules behind them answer
pub check_then : (r : List ℕ) → first (check_rules r) ≡ cond (eqb (first (form_rules r)) 0) (first (pdu_rules r)) (first (form_rules r))
unfolding form_rules
check_then r = first_then (form_rules r) (pdu_rules r) refl

pub reply_then :
    (near : Near) (r : List ℕ)
    → first (reply_rules near r) ≡ cond (eqb (first (form_rules r)) 0) (first (reply_rest near r)) (first (form_rules r))
unfolding form_rules reply_rules
reply_then near r = first_then (form_rules r) (reply_rest near r) refl

pub arrival_then :
    (r : List ℕ) (reply_room room : ℕ)
    → first (arrival_rules r reply_room room)
    ≡ cond (eqb (first (form_rules r)) 0)
    (cond (is_reply r) 29 (cond (eqb (first (pdu_rules r)) 0) (first (room_rules reply_room room)) (first (pdu_rules r))))
    (first (form_rules r))
unfolding form_rules pdu_rules arrival_rules
arrival_then r reply_room room =
    first_then (form_rules r) (arrival_rest r reply_room room) refl
    ∙ ap (λ (n : ℕ). cond (eqb (first (form_rules r)) 0) (cond (is_reply r) 29 n) (first (form_rules r)))
    (first_then (pdu_rules r) (room_rules reply_room room) refl)

-- where no rule is broken, neither one on the form, or on the PDU, nor one behind them is
pub form_none : (r : List ℕ) (rest : List Refusal) → first (form_rules r ++ rest) ≡ 0 → (first (form_rules r) ≡ 0) × (first rest ≡ 0)
unfolding form_rules
form_none r rest e = none_of (form_rules r) rest refl e

pub pdu_none : (r : List ℕ) (rest : List Refusal) → first (pdu_rules r ++ rest) ≡ 0 → (first (pdu_rules r) ≡ 0) × (first rest ≡ 0)
unfolding pdu_rules
pdu_none r rest e = none_of (pdu_rules r) rest refl e

-- ---- what each call's rules say

-- an offer that is taken: the store has its size, nothing stops the slice, and its PDUs are few enough for the numbers
pub record OfferFits (near : Near) (size stop pdus : ℕ) : Type 0 where
  pub store : size ≡ store_size
  pub none : stop ≡ 0
  pub few : pdus ≤ most_pdus
  pub numbers : near.accepted + pdus ≤ last_number

pub offer-fits : (near : Near) (size stop pdus : ℕ) → first (offer_rules_of near size stop pdus) ≡ 0 → OfferFits near size stop pdus
unfolding offer_rules_of
offer-fits near size stop pdus e =
    let store_rule = (28 given_when wrong_store size) ∷ [] in
    let (store, behind) = none_of store_rule ((stop given_when not (eqb stop 0)) ∷ offer_rest near pdus) refl e in
    let (full, end) = unbroken store_rule refl store in
    let (none, rest) = stop_passes stop (offer_rest near pdus) behind in
    let (few, (numbers, window)) = unbroken (offer_rest near pdus) refl rest in
    record { store = eqb-true _ _ (not-false _ full); none = none; few = ltb-false _ _ few; numbers = ltb-false _ _ numbers }

-- a send that is taken: the store has its size, and the buffer has room for the record
pub record SendFits (store : List ℕ) (i room : ℕ) : Type 0 where
  pub full : length store ≡ store_size
  pub space : record_size (row_kind store i) ≤ room

pub send-fits : (near : Near) (store : List ℕ) (i room : ℕ) → first (send_rules near store i room) ≡ 0 → SendFits store i room
unfolding send_rules
send-fits near store i room e =
    let (full, (held, (known, (no_reply, (space, end))))) = unbroken (send_rules near store i room) refl e in
    record { full = eqb-true _ _ (not-false _ full); space = ltb-false _ _ space }

-- a row's record, copied to a buffer's start
pub row_copied :
    (store out : List ℕ) (i : ℕ)
    → length store ≡ store_size
    → record_size (row_kind store i) ≤ length out
    → splice 0 (take (row_start i + record_size (row_kind store i) - row_start i) (drop (row_start i) store)) out
    ≡ row_record store i ++ drop (record_size (row_kind store i)) out
row_copied store out i size room =
    let n = record_size (row_kind store i) in
    let part : take (row_start i + n - row_start i) (drop (row_start i) store) ≡ row_record store i =
    ap (λ (m : ℕ). take m (drop (row_start i) store)) (add-sub_cancel_left (row_start i) n) in
    let small : n ≤ longest_record = record_small (row_kind store i) in
    let long : length (row_record store i) ≡ n = simp (length-take, length-drop) (omega arith) in
    ap (λ (b : List ℕ). splice 0 b out) part
    ∙ splice-start (row_record store i) out (rw long room)
    ∙ ap (λ (m : ℕ). row_record store i ++ drop m out) long

-- an arrival that is not refused: room for the reply and for the longest PDU; and the number is not the last
pub record ArrivalFits (r : List ℕ) (reply_room room : ℕ) : Type 0 where
  pub reply : head_size ≤ reply_room
  pub output : longest_pdu ≤ room
  pub number : number_in r ≢ last_number

-- a PDU record that 25 does not stop
last-not : (r : List ℕ) → is_reply r ≡ false → first (pdu_rules r) ≡ 0 → number_in r ≢ last_number
unfolding pdu_rules last_of_all
last-not r pdu e =
    let (last, carried) = unbroken (pdu_rules r) refl e in
    eqb-false _ _ (sym (ap (λ (b : Bool). not b && eqb (number_in r) last_number) pdu) ∙ last)

pub arrival_fits : (r : List ℕ) (reply_room room : ℕ) → first (arrival_rules r reply_room room) ≡ 0 → ArrivalFits r reply_room room
unfolding arrival_rules
arrival_fits r reply_room room e =
    let form = form_none r (arrival_rest r reply_room room) e in
    let reply_rule = (29 given_when is_reply r) ∷ [] in
    let (reply, behind) = none_of reply_rule (pdu_rules r ++ room_rules reply_room room) refl form.1 in
    let (no_reply, end) = unbroken reply_rule refl reply in
    let pdu = pdu_none r (room_rules reply_room room) behind in
    let (roomy, end') = unbroken (room_rules reply_room room) refl pdu.1 in
    let space = (neither _ _ (not_below reply_room _) (not_below room _)).0 roomy in
    record {
      reply = space.0;
      output = space.1;
      number = last-not r no_reply pdu.0;
    }

-- the next number is the count, so the count is below the last of all
pub next_below : (k number : ℕ) → is_next k number ≡ true → number < last_number → k < last_number
unfolding is_next
next_below k number e l = omega (arith, eqb-true number _ e)
