-- A Transmitter whose layout is right keeps what the type asks (`transmitter_kept`).
use mathlib.Core.Path.{◌≡◌, sym}
use Rattle.std.proofs.Common.{rules}
use Rattle.wire.specs.First.{first}
use Rattle.pdu.specs.Reading.{transmitter_layout}
use Rattle.reader.proofs.Checks.{transmitter_kept}
use Rattle.reader.proofs.transmitter.LaidTransmitter.check.Goals as goal

pub invariant_of-result : goal.invariant_of-result
unfolding transmitter_layout
invariant_of-result c =
    let none : 0 ≡ first (transmitter_layout c.start.inside.bytes.now) = search rules in
    transmitter_kept _ (sym none) c.start.invariant.bytes
