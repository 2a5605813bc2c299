-- A first Transmitter is answered 40 with its entry made, or 30. The place found is the lowest free one, so it is free, and the new entry goes there.
use Rattle.std.proofs.Common.{ℕ, ◌≡◌, ◌<◌, false}
use Rattle.occupancy.specs.Places.{places, held, free_place}
use Rattle.occupancy.proofs.WordLaws.{lowest_is_free}
use Rattle.station.proofs.hear_transmitter.enter_unit.Goals as goal

found_free : (word i : ℕ) → i ≡ free_place word → i < places → held word i ≡ false
found_free word i same below = rw same (lowest_is_free word (rw (← same) below))

pub with_place-station-requires : goal.with_place-station-requires
with_place-station-requires c =
    let (same, below) = c.in-Some.ensures in
    (below, found_free c.args.station.now.used c.in-Some.i same below)
