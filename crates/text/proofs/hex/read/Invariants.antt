-- The digits so far are hexadecimal, and their bytes stand at the start of `out`, before those of the other digits.
use Rattle.std.proofs.Common.{◌≡◌, ℕ, ◌*◌, ◌++◌, ◌<◌, get_or, take, drop}
use Rattle.text.specs.Hex.{IsHexDigit, bytes_of}
use Rattle.text.proofs.hex.read.Given as goal

abbrev pub invariant-loop-i : goal.invariant-loop-i
invariant-loop-i l = record {
  digits : (k : ℕ) → k < 2 * l.i → IsHexDigit (get_or l.text k 0);
  bytes : take l.i l.out ++ bytes_of (drop (2 * l.i) l.text) ≡ bytes_of l.text;
}
