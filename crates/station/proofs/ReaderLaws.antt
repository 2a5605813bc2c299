-- What the station needs to know of reading and of tests: all that these proofs cite of pdu's and wire's laws goes through here.
-- The law proved here: reading gives no number from 16 to 49, so a refusal is never taken for an answer of the station's.
-- Assumes nothing.
use Prim.Native.Nat.{ℕ, ◌≤◌}
use mathlib.Core.Path.{◌≡◌, ◌∙◌}
use mathlib.Core.List.{List}
use Rattle.pdu.specs.Refusals.{number}
use Rattle.pdu.specs.declared.refusals.Refusal.{Refusal}
use Rattle.pdu.specs.Reading.{reading}
use Rattle.pdu.specs.declared.Reading.TheVariants.{Refused}
use Rattle.pdu.proofs.Answers.{refuses_as}
use Rattle.pdu.proofs.ReadLaws.{refusal_apart}
-- two tests joined, and a test of two numbers, opened; where a taken PDU's fields, a Signal's body and a number in it stand
pub use Rattle.wire.proofs.TableLaws.{both_true}
pub use Rattle.wire.proofs.RuleLaws.{differs, agrees}
pub use Rattle.wire.proofs.PartLaws.{num-part}
pub use Rattle.pdu.proofs.FieldLaws.{transmitter-fields, signal-fields, word_parts}
pub use Rattle.pdu.proofs.ReadLaws.{body_there}

-- a datagram that reading refuses is refused with no number from 16 to 49
pub refused-not : (d : List ℕ) (refusal : Refusal) (k : ℕ) → reading d ≡ Refused refusal → 16 ≤ k → k ≤ 49 → number refusal ≡ k → ⊥
refused-not d refusal k e low high q = refusal_apart d k low high (((refuses_as d refusal).0 e).0 ∙ q)
