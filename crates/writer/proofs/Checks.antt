-- The rules of a record, one check behind the other, and then the room.
-- Assumes nothing.
use Prim.Native.Nat.{ℕ, ◌-◌, ◌<◌, ◌≤◌}
use mathlib.Core.Path.{◌≡◌, refl, sym, ap, ◌∙◌}
use mathlib.Core.Bool.{cond}
use mathlib.Core.List.{List, [], ◌∷◌}
use lib.ListN.{length}
use lib.Dec.{eqb, ltb}
use borrow.Author.Tests.{eq-eqb, lt-ltb}
use native.Mathlib.Omega.{arith}
use Rattle.std.specs.Prelude.{Result, Ok, Err}
use Rattle.wire.specs.Bytes.{splice}
use Rattle.wire.specs.First.{◌given_when◌, first}
use Rattle.wire.proofs.ByteLaws.{splice-start}
use Rattle.pdu.specs.Numbers
use Rattle.pdu.specs.Refusals.{number}
use Rattle.pdu.specs.Rules.{wrong_sync, inner_rules}
use Rattle.pdu.specs.Forms.{bytes_of, size_of}
use Rattle.pdu.specs.Writing.{head_rules, record_rules, writing_rules, writing_refusal, written, written_says, writing_says, output_after}
use Rattle.pdu.specs.declared.refusals.Refusal.{Refusal}
use Rattle.pdu.specs.declared.refusals.Refusal.TheVariants.{NoRoom}
use Rattle.pdu.specs.declared.Signal.{Signal}
use Rattle.pdu.specs.declared.Transmitter.{Transmitter}
use Rattle.pdu.specs.declared.Reading.{Reading}
use Rattle.pdu.specs.declared.Reading.TheVariants.{Transmitter as a_transmitter, Signal as a_signal}
use Rattle.pdu.proofs.RefusalLaws.{first_then, refused_here, number_apart}
use Rattle.pdu.proofs.Answers.{writing_refused, writing_taken, writing_says_lem}
use Rattle.pdu.proofs.RoundTrip.{writes, room_next, length_form}

pub transmitter_then : (t : Transmitter)
    → first (record_rules (a_transmitter t))
    ≡ cond (eqb (first (head_rules t.header)) 0) (first ((9 given_when wrong_sync t.sync) ∷ [])) (first (head_rules t.header))
unfolding record_rules inner_rules
transmitter_then t = first_then (head_rules t.header) ((9 given_when wrong_sync t.sync) ∷ []) refl

pub signal_then : (s : Signal) (n : ℕ)
    → first (record_rules (a_signal s n))
    ≡ cond (eqb (first (head_rules s.header)) 0)
    (cond (ltb (Numbers.encoding_kept - 1) s.encoding) 10 (first (inner_rules (a_signal s n))))
    (first (head_rules s.header))
unfolding record_rules
signal_then s n =
    first_then (head_rules s.header) ((10 given_when ltb (Numbers.encoding_kept - 1) s.encoding) ∷ inner_rules (a_signal s n)) refl

-- ---- what a writing answers, says and leaves in the output

pub record Writes (given : Result ℕ Refusal) (r : Reading) (body before after : List ℕ) : Type 0 where
  pub answer : given ≡ written r (length before)
  pub says : written_says given ≡ writing_says r (length before)
  pub output : after ≡ output_after r body before

-- refused, it has written nothing
refused_writes : (given : Result ℕ Refusal) (r : Reading) (body out : List ℕ) (e : Refusal)
    → given ≡ Err e
    → number e ≡ writing_refusal r (length out)
    → Writes given r body out out
refused_writes given r body out e same number_given =
    let answer : given ≡ written r (length out) = same ∙ writing_refused r (length out) e number_given in
    record {
      answer = answer;
      says = ap written_says answer ∙ writing_says_lem r (length out);
      output = rw (← number_given, number_apart e) refl;
    }

-- by a rule of the record
pub record_writes : (given : Result ℕ Refusal) (r : Reading) (body out : List ℕ) (e : Refusal)
    → given ≡ Err e
    → number e ≡ first (record_rules r)
    → Writes given r body out out
unfolding writing_rules
record_writes given r body out e same rule = refused_writes given r body out e same (refused_here (record_rules r) _ e rule)

-- for want of room
pub room_writes : (r : Reading) (body out : List ℕ) → 0 ≡ first (record_rules r) → length out < size_of r → Writes (Err NoRoom) r body out out
room_writes r body out none small =
    refused_writes (Err NoRoom) r body out NoRoom refl
    (sym (room_next r (length out) (sym none) ∙ rw (lt-ltb (length out) (size_of r) small) refl))

-- not refused: the PDU stands at the output's start, with what was behind it (`splice-start`)
pub taken_writes : (size : ℕ) (r : Reading) (body out after : List ℕ)
    → size ≡ size_of r
    → 0 ≡ first (record_rules r)
    → size ≤ length out
    → after ≡ splice 0 (bytes_of r body) out
    → Writes (Ok size) r body out after
taken_writes size r body out after same none enough put =
    let taken : writing_refusal r (length out) ≡ 0 = writes r (length out) (sym none) (omega arith) in
    let answer : ◌≡◌ {A = Result ℕ Refusal} (Ok size) (written r (length out)) =
    ap (λ (n : ℕ). Ok n) same ∙ writing_taken r (length out) (sym taken) in
    let fits : length (bytes_of r body) ≤ length out = omega (arith, length_form r body) in
    record {
      answer = answer;
      says = ap written_says answer ∙ writing_says_lem r (length out);
      output = put ∙ rw (eq-eqb _ _ taken) (splice-start (bytes_of r body) out fits);
    }
