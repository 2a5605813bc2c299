-- `content` meets its contract: a datagram with its layout has the facts that its form keeps, by its PDU type.
use Prim.Native.Nat.{ℕ}
use mathlib.Core.Path.{◌≡◌, sym, ap, ap₂, subst, ◌∙◌}
use mathlib.Core.List.{List}
use mathlib.Core.Logic.{◌≢◌}
use native.Mathlib.Omega.{arith}
use Rattle.wire.specs.Bytes.{num}
use Rattle.wire.specs.First.{first}
use Rattle.pdu.specs.Reading.{Laid, layout_rules, transmitter_layout}
use Rattle.pdu.specs.declared.Reading.{Reading}
use Rattle.pdu.specs.declared.Reading.TheVariants.{Transmitter as a_transmitter, Signal as a_signal}
use Rattle.pdu.proofs.Agreement.{content-transmitter, content-signal}
use Rattle.pdu.proofs.ReadLaws.{laid_long, laid_signal}
use Rattle.reader.proofs.Checks.{transmitter_kept, signal_kept}
use Rattle.reader.proofs.content.Goals as goal
use Rattle.reader.proofs.content.Goals.{Else-number_at-eq-TRANSMITTER_TYPE, Then-number_at-eq-TRANSMITTER_TYPE}

laid_layout : (d : List ℕ) → Laid d → num 1 2 d ≡ 25 → first (transmitter_layout d) ≡ 0
laid_layout d h type = subst (λ (r : Reading). first (layout_rules r d) ≡ 0) (content-transmitter d type) h.1

transmitter : (c : Then-number_at-eq-TRANSMITTER_TYPE) → num 1 2 c.args.d.now ≡ 25
transmitter c = sym c.number_at.ensures ∙ c.if-number_at-eq-TRANSMITTER_TYPE.true

signal : (c : Else-number_at-eq-TRANSMITTER_TYPE) → num 1 2 c.args.d.now ≢ 25
signal c e = c.if-number_at-eq-TRANSMITTER_TYPE.false (c.number_at.ensures ∙ e)

pub number_at-requires : goal.number_at-requires
number_at-requires c = omega (arith, laid_long _ c.requires)

pub invariant_of-transmitter : goal.invariant_of-transmitter
invariant_of-transmitter c =
    transmitter_kept _ (laid_layout c.args.d.now c.requires (transmitter c)) (λ i. omega (arith, c.type_inv.d i))

pub invariant_of-signal : goal.invariant_of-signal
invariant_of-signal c =
    signal_kept _ (laid_signal c.args.d.now c.requires (signal c)) (λ i. omega (arith, c.type_inv.d i))

pub returns-then-number_at-eq-TRANSMITTER_TYPE : goal.returns-then-number_at-eq-TRANSMITTER_TYPE
returns-then-number_at-eq-TRANSMITTER_TYPE c =
    let past = (goal.at.returns-then-number_at-eq-TRANSMITTER_TYPE c).Then-number_at-eq-TRANSMITTER_TYPE in
    ap a_transmitter c.fields.ensures ∙ sym (content-transmitter c.args.d.now (transmitter past))

pub returns-else-number_at-eq-TRANSMITTER_TYPE : goal.returns-else-number_at-eq-TRANSMITTER_TYPE
returns-else-number_at-eq-TRANSMITTER_TYPE c =
    let past = (goal.at.returns-else-number_at-eq-TRANSMITTER_TYPE c).Else-number_at-eq-TRANSMITTER_TYPE in
    ap₂ a_signal c.fields-else-number_at-eq-TRANSMITTER_TYPE.ensures c.body_size-size.ensures.size ∙ sym (content-signal c.args.d.now (signal past))
