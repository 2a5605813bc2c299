-- One turn splices one more number in (`row_more`).
use Rattle.std.proofs.Common.{ap, ◌+◌, ◌*◌}
use Rattle.wire.proofs.RowLaws.{row_more}
use Rattle.wire.proofs.put_row.Goals as goal

pub loop-i-preserved : goal.loop-i-preserved
loop-i-preserved g c =
    let l = c.loop-i in
    let behind = ap (λ w. c.args.at + w * l.i) c.WIDTH.ensures in
    row_more _ c.args.at l.i _ _ _ _ _ c.loop-i-test.true c.index-numbers-i.is behind c.write.ensures l.invariant
