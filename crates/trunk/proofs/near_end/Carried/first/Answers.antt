-- `first` meets its contract: the kind of what the trunk carries is a byte (`carried_kind`).
use Prim.Native.Nat.{ℕ}
use mathlib.Core.Path.{◌≡◌, sym, ap, ◌∙◌}
use native.Mathlib.Omega.{arith}
use Rattle.std.specs.Prelude.{Option, Some, is_some, unwrap_or}
use Rattle.pdu.specs.Reading.{reading}
use Rattle.trunk.specs.Kinds.{kind_of}
use Rattle.trunk.proofs.RecordLaws.{carried_kind}
use Rattle.trunk.proofs.near_end.Carried.first.Goals as goal

pub overflow_cast-kind : goal.overflow_cast-kind
overflow_cast-kind c =
    let d = c.args.datagram.now in
    let same : kind_of (reading d) ≡ Some c.in-Some.kind = sym (c.kind_of.ensures ∙ ap kind_of c.read-answer.ensures.answer) ∙ c.in-Some.is in
    omega (arith, (carried_kind d (ap is_some same)).byte, ap (λ (o : Option ℕ). unwrap_or o 0) same)
