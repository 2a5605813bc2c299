-- The digits of the bytes so far stand at the start of `room`.
use Rattle.std.proofs.Common.{◌≡◌, ◌*◌, take}
use Rattle.text.specs.Hex.{digits_of}
use Rattle.text.proofs.hex.spell.Given as goal

abbrev pub invariant-loop-i : goal.invariant-loop-i
invariant-loop-i l = take (2 * l.i) l.room ≡ digits_of (take l.i l.chunk)
