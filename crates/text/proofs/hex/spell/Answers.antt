-- At the loop's end the digits of the whole chunk are spelled, and they are text.
use Rattle.std.proofs.Common.{◌≡◌, ◌*◌, length, take, arith}
use Rattle.std.proofs.lemmas.List.{take_all}
use Rattle.text.specs.Hex.{digits_of}
use Rattle.text.proofs.Digits.{digits_utf8}
use Rattle.text.proofs.hex.spell.Goals as goal

pub unreachable-requires : goal.unreachable-requires
unreachable-requires c =
    let chunk = c.args.chunk.now in
    let last : c.loop-i.i ≡ length chunk = omega arith in
    let spelled : take (2 * length chunk) c.loop-i.room ≡ digits_of chunk = rw (last, take_all (length chunk) chunk (omega arith)) at c.loop-i.invariant in
    c.in_default.ensures.cases.0 (rw spelled (digits_utf8 chunk (λ k. omega (arith, c.type_inv.chunk k))))
