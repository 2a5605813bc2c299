-- `is_body_blank` meets its contract: the padding of round-trip timing lies in its first two bytes (`timing-blank`), and all else has none.
use Prim.Native.Nat.{ℕ, ◌/◌}
use mathlib.Core.Bool.{not}
use mathlib.Core.List.{List}
use mathlib.Core.Path.{sym, ap, subst, ◌∙◌}
use lib.Dec.{eqb}
use native.Mathlib.Omega.{arith}
use Rattle.wire.specs.Bytes.{num, Bytes}
use Rattle.wire.proofs.RuleLaws.{equal, one_of}
use Rattle.pdu.specs.Numbers.{body_start}
use Rattle.pdu.specs.Tables.{is_timing}
use Rattle.pdu.specs.Reading.{signal_of, body_size}
use Rattle.pdu.proofs.BodyLaws.{timing-blank, unread_blank}
use Rattle.pdu.proofs.ReadLaws.{timing-size}
use Rattle.reader.proofs.signal.LaidSignal.is_body_blank.Goals as goal

pub number_at-requires : goal.number_at-requires
number_at-requires c =
    let d : List ℕ = c.args.self.now in
    let message : ℕ = (signal_of d).network.message_type in
    let found = sym (sym c.if-not-is_timing.false ∙ c.is_timing.ensures ∙ ap is_timing c.message_type.ensures) in
    let six = timing-size (signal_of d) (body_size d) c.requires ((one_of _ _ (equal message _) (equal message _)).0 found) in
    omega (arith, six, ap body_size c.self.view_is)

pub returns-else-not-is_timing : goal.returns-else-not-is_timing
returns-else-not-is_timing c =
    let d : List ℕ = c.args.self.now in
    let found = sym (sym c.if-not-is_timing.false ∙ c.is_timing.ensures ∙ ap is_timing c.message_type.ensures) in
    let bytes : Bytes d = subst Bytes c.self.view_is c.self.invariant.bytes in
    let six = timing-size (signal_of d) (body_size d) c.requires in
    ap (λ (v : ℕ). eqb (v / 8) 0) (c.number_at.ensures ∙ ap (λ (l : List ℕ). num 2 52 l) c.self.view_is) ∙ sym (timing-blank _ _ body_start d found six bytes)

pub returns-then-not-is_timing : goal.returns-then-not-is_timing
returns-then-not-is_timing c =
    ap not c.if-not-is_timing.true
    ∙ sym (unread_blank _ _ body_start c.args.self.now (sym (sym c.if-not-is_timing.true ∙ c.is_timing.ensures ∙ ap is_timing c.message_type.ensures)))
