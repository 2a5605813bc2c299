-- Taking a free place adds its power of two, since its bit is 0, and the sum is still a word of sixteen places.
use Rattle.std.proofs.Common.{ℕ, ◌≡◌, ◌∙◌, ◌+◌, ◌%◌, ◌*◌, ◌^◌, false, bit_or, ap, arith, rules}
use Rattle.std.proofs.lemmas.Nat.{or_disjoint}
use Rattle.std.proofs.lemmas.Nat.Bits.{and_pow, bit_at-lt}
use Rattle.std.specs.Int.{bit_at}
use borrow.Author.Tests.{eqb-false}
use Rattle.occupancy.proofs.WordLaws.{taken-fits}
use Rattle.occupancy.specs.Places.{places, held}
use Rattle.occupancy.proofs.with_place.Goals as goal

-- to set a bit that is 0 adds its power of two
set_free : (word i : ℕ) → held word i ≡ false → bit_or word (2 ^ i) ≡ word + 2 ^ i
set_free word i free =
    let bit : bit_at word i ≡ 0 = omega (arith, eqb-false _ _ free, bit_at-lt word i) in
    or_disjoint word (2 ^ i) (and_pow word i ∙ rw bit (omega arith))

pub returns : goal.returns
returns c =
    let word = c.args.word in
    let i = c.args.i in
    let fits = taken-fits places word i (search rules) c.requires.0 c.requires.1 in
    let shifted : 1 * 2 ^ i % 65536 ≡ 2 ^ i = omega arith in
    ap (bit_or word) shifted ∙ set_free word i c.requires.1
