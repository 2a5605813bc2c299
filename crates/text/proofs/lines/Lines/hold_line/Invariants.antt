-- Each turn reads a byte at least, and no more are held than the buffer has.
use Rattle.std.proofs.Common.{◌≡◌, ◌-◌, length}
use Rattle.std.specs.Prelude.{position}
use Rattle.text.specs.Lines.{is_line_end}
use Rattle.text.specs.declared.lines.TheConstants.{INPUT}
use Rattle.text.proofs.lines.Lines.hold_line.Given as goal

abbrev pub invariant-loop-self : goal.invariant-loop-self
invariant-loop-self l = l.length ≡ position is_line_end l.self

abbrev pub decreases-loop-self : goal.decreases-loop-self
decreases-loop-self l = INPUT - length l.self
