-- The sum stays small.
use Rattle.std.proofs.Common.{◌<◌}
use Rattle.planbench.proofs.run.Given as goal

abbrev pub invariant-loop-n : goal.invariant-loop-n
invariant-loop-n g l = l.sum < 1000003
