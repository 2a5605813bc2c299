-- At the loop's end all digits are read.
use Rattle.std.proofs.Common.{◌≡◌, ◌*◌, ◌/◌, ◌≤◌, length, arith, inr}
use Rattle.std.proofs.lemmas.List.Elements.{All-from_get_or}
use Rattle.text.specs.Hex.{IsHexDigit}
use Rattle.text.proofs.Digits.{bytes_whole}
use Rattle.text.proofs.hex.read.Goals as goal

pub returns : goal.returns
returns c =
    let text = c.args.text.now in
    let last : c.loop-i.i ≡ length text / 2 = omega arith in
    let end : length text ≤ 2 * (length text / 2) = omega arith in
    let digits = All-from_get_or IsHexDigit text 0 (λ k h. c.loop-i.invariant.digits k (omega arith)) in
    (inr (omega arith, omega arith, omega arith, digits), bytes_whole (length text / 2) c.loop-i.out text end (rw last at c.loop-i.invariant.bytes))
