-- The blocks written so far stand at the start of the output.
use Rattle.std.proofs.Common.{◌≡◌}
use Rattle.wire.specs.Bytes.{splice}
use Rattle.slots.specs.Planning.{plan_up_to}
use Rattle.slots.proofs.planner.Line.put.Given as goal

abbrev pub invariant-loop-i : goal.invariant-loop-i
invariant-loop-i l = l.out ≡ splice 0 (plan_up_to l.self.rates.list.now l.i) l.initial.out
