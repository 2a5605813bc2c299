-- The call on a datagram answers and leaves what the rules say. A Signal's body lies within the datagram, and its first word is the one that the
-- rule asks for.
use Rattle.std.proofs.Common.{sym, arith}
use Rattle.station.proofs.ReaderLaws.{body_there}
use Rattle.station.proofs.hear.Goals as goal

pub slice_bounds-at-end : goal.slice_bounds-at-end
slice_bounds-at-end c =
    let there = body_there c.args.datagram.now c.in-Signal.g c.in-Signal.size (sym c.in-Signal.ensures.answer) in
    omega (arith, there.0)
