-- A Signal whose layout is right keeps what the type asks (`signal_kept`).
use mathlib.Core.Path.{◌≡◌, sym}
use Rattle.std.proofs.Common.{rules}
use Rattle.wire.specs.First.{first}
use Rattle.pdu.specs.Reading.{signal_layout}
use Rattle.reader.proofs.Checks.{signal_kept}
use Rattle.reader.proofs.signal.LaidSignal.check.Goals as goal

pub invariant_of-result : goal.invariant_of-result
unfolding signal_layout
invariant_of-result c =
    let none : 0 ≡ first (signal_layout c.start.inside.bytes.now) = search rules in
    signal_kept _ (sym none) c.start.invariant.bytes
