-- The numbers passed are spliced in.
use Rattle.std.proofs.Common.{◌≡◌, take, map}
use Rattle.wire.specs.Bytes.{row, splice}
use Rattle.wire.proofs.put_row.Given as goal

abbrev pub invariant-loop-i : goal.invariant-loop-i
invariant-loop-i g l =
    let t = g.T.BigEndian in
    l.out ≡ splice l.at (row t.WIDTH (map t.number (take l.i l.numbers))) l.initial.out
