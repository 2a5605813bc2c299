-- `arrive` meets its contract: refused, it leaves the far end and both buffers as they were; else the reply is written with the count after
-- the record, and the record is the next number, a repeat or early. The rules passed give room for both (`arrival_fits`).
use Prim.Native.Nat.{ℕ, ◌≤◌}
use mathlib.Core.List.{List, [], ◌∷◌, ◌++◌}
use mathlib.Core.Path.{◌≡◌, refl, sym, ap, ap₂, ◌∙◌}
use mathlib.Core.Bool.{Bool, true, false, cond}
use lib.ListN.{length, drop, length-drop}
use native.Mathlib.Omega.{arith}
use borrow.Author.Tests.{lt-ltb, le-ltb}
use Rattle.std.specs.Prelude.{Ok, Err, ltb}
use Rattle.wire.specs.First.{first}
use Rattle.wire.proofs.ByteLaws.{splice-start}
use Rattle.wire.specs.Bytes.{splice}
use Rattle.station.specs.Answers.{number as station_number}
use Rattle.station.specs.Hearing.{heard}
use Rattle.trunk.specs.Refusals.{Refusal}
use Rattle.trunk.specs.Head.{head_size}
use Rattle.trunk.specs.Record.{reply_of, number_in, carried_in}
use Rattle.trunk.specs.Far.{arrival_rules, is_next, count_after, delivered, arrived, arrival_says, reply_after, output_after, ArrivalGives}
use Rattle.trunk.specs.declared.Far.{Far}
use Rattle.trunk.specs.declared.Arrival.{Arrival}
use Rattle.trunk.specs.declared.Arrival.TheVariants.{Repeat, Early}
use Rattle.trunk.specs.declared.Arrived.{Arrived}
use Rattle.trunk.proofs.RefusalLaws.{refuses, passes}
use Rattle.trunk.proofs.RecordLaws.{length_reply}
use Rattle.trunk.proofs.EndLaws.{ArrivalFits, arrival_fits}
use Rattle.trunk.proofs.far_end.arrive.Goals as goal
use Rattle.trunk.proofs.far_end.arrive.Goals.{After-number-number, In-Ok}

-- what the rules say that a record passed
fits : (c : In-Ok) → ArrivalFits c.args.received.now (length c.args.reply.now) (length c.args.out.now)
fits c = arrival_fits _ _ _ (sym c.in-Ok.ensures.first)

-- the number that was read is the record's; so are whether it is next, and the count after it
number : (c : After-number-number) → c.number-number.result ≡ number_in c.args.received.now
number c = c.number-number.ensures ∙ ap number_in c.in-Ok.ensures.bytes

next : (k n m : ℕ) (b : Bool) → n ≡ m → b ≡ is_next k n → is_next k m ≡ b
next k n m b e said = ap (is_next k) (sym e) ∙ sym said

counted : (k n m after : ℕ) → n ≡ m → after ≡ count_after k n → after ≡ count_after k m
counted k n m after e said = said ∙ ap (count_after k) e

-- the reply stands at the buffer's start, with what was behind it
replied : (after count : ℕ) (buffer written : List ℕ)
    → head_size ≤ length buffer
    → after ≡ count
    → written ≡ splice 0 (reply_of after) buffer
    → written ≡ reply_of count ++ drop head_size buffer
replied after count buffer written room same put =
    put
    ∙ splice-start (reply_of after) buffer (rw (length_reply after) room)
    ∙ ap₂ (λ (m n : ℕ). reply_of n ++ drop m buffer) (length_reply after) same

-- the far end as it was, with this answer
abbrev kept : Far → Arrival → Arrived
kept far answer = record { far = far; answer = Ok answer }

-- a record whose number n is not the next leaves far end and output as they were: it is a repeat or early, and the reply is written
stays :
    (far : Far) (r reply out : List ℕ) (n after : ℕ) (answer : Arrival) (written : List ℕ)
    → head_size ≤ length reply
    → 0 ≡ first (arrival_rules r (length reply) (length out))
    → n ≡ number_in r
    → after ≡ count_after far.count n
    → is_next far.count n ≡ false
    → written ≡ splice 0 (reply_of after) reply
    → cond (ltb n far.count) Repeat Early ≡ answer
    → arrival_says (Ok answer) ≡ 0 ∷ []
    → ArrivalGives far r reply out (kept far answer) written out
unfolding arrived reply_after output_after
stays far r reply out n after answer written room none same count other put placed says =
    let yes = passes _ none in
    let away : is_next far.count (number_in r) ≡ false = ap (is_next far.count) (sym same) ∙ other in
    record {
      answer = rw (yes, away) (by (ltb (number_in r) far.count) (rw same at placed));
      says = rw (yes, away) says;
      reply_is = rw yes (replied _ _ _ _ room (counted _ _ _ _ same count) put);
      output = rw (yes, away);
    }
  where
    by : (b : Bool) → cond b Repeat Early ≡ answer → kept far answer ≡ cond b (kept far Repeat) (kept far Early)
    by true is = sym (ap (kept far) is)
    by false is = sym (ap (kept far) is)

pub returns-in-Err : goal.returns-in-Err
unfolding arrived reply_after output_after
returns-in-Err c =
    let same = c.in-Err.ensures.first in
    let (broken, is) = refuses c.in-Err.refusal _ same in
    record {
      answer = rw broken (ap (λ (e : Refusal). record { far = c.args.far; answer = Err e }) is);
      says = rw broken (ap (λ (n : ℕ). n ∷ []) same);
      reply_is = rw broken;
      output = rw broken;
    }

pub count_after-after-requires : goal.count_after-after-requires
count_after-after-requires c =
    let past = (goal.at.count_after-after-requires c).In-Ok in
    let other = (fits past).number in
    omega (arith, number c, c.number-number.type_inv)

pub put_reply-requires : goal.put_reply-requires
put_reply-requires c =
    let past = (goal.at.put_reply-requires c).In-Ok in
    (fits past).reply

pub deliver-requires : goal.deliver-requires
deliver-requires c =
    let past = (goal.at.deliver-requires c).In-Ok in
    let f = fits past in
    let pdu = ap length (c.pdu.ensures ∙ ap carried_in c.in-Ok.ensures.bytes) in
    omega (arith, pdu, length-drop head_size c.args.received.now, ap length c.in-Ok.ensures.bytes, c.in-Ok.record.short, f.output)

pub returns-then-is_next : goal.returns-then-is_next
unfolding arrived reply_after output_after
returns-then-is_next c =
    let past = (goal.at.returns-then-is_next c).In-Ok in
    let read = (goal.at.returns-then-is_next c).After-number-number in
    let yes = passes _ c.in-Ok.ensures.first in
    let count = counted _ _ _ _ (number read) c.count_after-after.ensures in
    let reply = replied _ _ _ _ (fits past).reply count c.put_reply.ensures in
    let here = next _ _ _ _ (number read) c.is_next.ensures ∙ c.if-is_next.true in
    let pdu = c.pdu.ensures ∙ ap carried_in c.in-Ok.ensures.bytes in
    let fit : length (carried_in c.args.received.now) ≤ length c.args.out.now =
    simp length-drop (omega (arith, ap length c.in-Ok.ensures.bytes, c.in-Ok.record.short, (fits past).output)) in
    let said : List ℕ → List ℕ = λ p. 0 ∷ length p ∷ station_number (heard c.args.far.station p).answer ∷ [] in
    record {
      answer = rw (yes, here) (c.deliver.ensures.answer ∙ ap₂ (λ (n : ℕ) (p : List ℕ). delivered n c.args.far.station p) count pdu);
      says = rw (yes, here) (ap (λ (a : Arrived). arrival_says a.answer) c.deliver.ensures.answer ∙ ap said pdu);
      reply_is = rw yes reply;
      output =
          rw (yes, here)
          (c.deliver.ensures.output
          ∙ ap (λ (b : List ℕ). splice 0 b c.args.out.now) pdu
          ∙ splice-start (carried_in c.args.received.now) c.args.out.now fit);
    }

pub returns-then-number-count : goal.returns-then-number-count
returns-then-number-count c =
    let past = (goal.at.returns-then-number-count c).In-Ok in
    let read = (goal.at.returns-then-number-count c).After-number-number in
    let other = sym c.is_next.ensures ∙ c.if-is_next.false in
    let none = c.in-Ok.ensures.first in
    let after = c.count_after-after.ensures in
    let put = c.put_reply.ensures in
    stays _ _ _ _ _ _ Repeat _ (fits past).reply none (number read) after other put (rw (lt-ltb _ _ c.if-number-count.true)) refl

pub returns-else-number-count : goal.returns-else-number-count
returns-else-number-count c =
    let past = (goal.at.returns-else-number-count c).In-Ok in
    let read = (goal.at.returns-else-number-count c).After-number-number in
    let other = sym c.is_next.ensures ∙ c.if-is_next.false in
    let none = c.in-Ok.ensures.first in
    let after = c.count_after-after.ensures in
    let put = c.put_reply.ensures in
    stays _ _ _ _ _ _ Early _ (fits past).reply none (number read) after other put (rw (le-ltb _ _ c.if-number-count.false)) refl
