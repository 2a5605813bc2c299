-- The place found is the lowest free one. The zeros below the lowest one of the complement are the held places below the lowest free one.
use Rattle.std.proofs.Common.{ℕ, ◌≡◌, ◌-◌, ◌<◌, ◌≤◌, arith, rules}
use Rattle.std.proofs.lemmas.Nat.{trailing_le}
use lib.Count.{count_trailing_zeros}
use Rattle.occupancy.proofs.WordLaws.{trailing_free}
use Rattle.occupancy.specs.Places.{places, free_place}
use Rattle.occupancy.proofs.free_place.Goals as goal

lowest : (word : ℕ) → word < 65536 → count_trailing_zeros places (65535 - word) ≡ free_place word
lowest = trailing_free places

at_most : (word : ℕ) → word < 65536 → count_trailing_zeros places (65535 - word) ≤ places
at_most word _ = trailing_le places (65535 - word)

pub returns-then-place-lt-PLACES : goal.returns-then-place-lt-PLACES
returns-then-place-lt-PLACES c = (lowest c.args.word (search rules), c.if-place-lt-PLACES.true)

pub returns-else-place-lt-PLACES : goal.returns-else-place-lt-PLACES
returns-else-place-lt-PLACES c =
    let fits : c.args.word < 65536 = search rules in
    omega (arith, lowest c.args.word fits, at_most c.args.word fits, c.if-place-lt-PLACES.false)
