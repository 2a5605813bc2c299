-- The written form of a datagram that the trunk carries is no longer than the longest PDU, and its record no longer than the longest record.
-- Assumes nothing.
use Prim.Native.Nat.{ℕ, ◌≤◌}
use mathlib.Core.Path.{◌≡◌, refl, sym, ap, ◌∙◌}
use mathlib.Core.Logic.{inl, inr}
use mathlib.Core.List.{List}
use lib.ListN.{length}
use native.Mathlib.Omega.{arith}
use Rattle.wire.specs.Bytes.{splice}
use Rattle.wire.proofs.ByteLaws.{splice-append}
use Rattle.pdu.specs.Tables.{signal_size}
use Rattle.pdu.specs.Reading.{reading}
use Rattle.pdu.specs.Writing.{written_form}
use Rattle.pdu.specs.declared.Signal.{Signal}
use Rattle.pdu.specs.declared.Reading.{Reading}
use Rattle.pdu.proofs.ReadLaws.{taken-words, taken-timing, written_size}
use Rattle.trunk.specs.Head.{head_size, head_bytes}
use Rattle.std.specs.Prelude.{IsSome, is_some}
use mathlib.Core.Bool.{false≢true}
use Rattle.trunk.specs.Kinds.{kind_of, longest_pdu, longest_record}
use Rattle.trunk.specs.Record.{record_of}
use Rattle.trunk.specs.declared.Head.{Head}
use Rattle.trunk.proofs.RecordLaws.{TypeCarried, words_type, ask_type, answer_type, carried_type, length_record}

-- ---- how long it is

-- a carried Signal's size
pub carried-size :
    (d : List ℕ) (s : Signal) (n : ℕ)
    → reading d ≡ Reading.Signal s n
    → IsSome (kind_of (reading d))
    → signal_size n ≤ longest_pdu
carried-size d s n e h = typed (carried_type s.network.message_type n (ap (λ (r : Reading). is_some (kind_of r)) (sym e) ∙ h))
  where
    typed : TypeCarried s.network.message_type → signal_size n ≤ longest_pdu
    typed (words_type type) = let w = taken-words d s n e type in omega (arith, w.0, w.1)
    typed (ask_type type) = omega (arith, taken-timing d s n e (inl type))
    typed (answer_type type) = omega (arith, taken-timing d s n e (inr type))

-- the written form of what the trunk carries is no longer than the longest PDU
pub carried_short : (d : List ℕ) → IsSome (kind_of (reading d)) → length (written_form d) ≤ longest_pdu
carried_short d h = go (reading d) refl
  where
    go : (r : Reading) → reading d ≡ r → length (written_form d) ≤ longest_pdu
    go (Reading.Refused n) e = absurd (false≢true (ap (λ (r : Reading). is_some (kind_of r)) (sym e) ∙ h))
    go (Reading.Transmitter t) e = omega (arith, written_size d (Reading.Transmitter t) tt e)
    go (Reading.Signal s n) e = rw (written_size d (Reading.Signal s n) tt e) (carried-size d s n e h)

-- ---- the record

-- head and PDU, spliced one behind the other, are the record
pub record_splice :
    (head : Head) (pdu row : List ℕ)
    → splice head_size pdu (splice 0 (head_bytes head) row) ≡ splice 0 (record_of head pdu) row
unfolding record_of
record_splice head pdu row = splice-append 0 (head_bytes head) pdu row

-- a carried datagram's record is no longer than the longest record
pub record_short : (head : Head) (d : List ℕ) → IsSome (kind_of (reading d)) → length (record_of head (written_form d)) ≤ longest_record
record_short head d h = rw (length_record head (written_form d)) (omega (arith, carried_short d h))
