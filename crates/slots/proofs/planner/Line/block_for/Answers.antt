-- A start is on the line, since every block ends within what is wanted (`start_below`).
use Rattle.std.proofs.Common.{arith}
use Rattle.slots.proofs.LineLaws.{start_below}
use Rattle.slots.proofs.planner.Line.block_for.Goals as goal

pub block_from-requires : goal.block_from-requires
block_from-requires c =
    let pass = c.args.self.rates.pass in
    (pass.low c.args.i c.requires, omega (arith, start_below c.args.self.rates.list.now pass c.args.i c.requires c.args.self.room))
