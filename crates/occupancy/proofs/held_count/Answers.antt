-- The count is that of the held places. The ones of the word are its held places.
use Rattle.std.proofs.Common.{rules}
use Rattle.occupancy.proofs.WordLaws.{ones_held}
use Rattle.occupancy.specs.Places.{places}
use Rattle.occupancy.proofs.held_count.Goals as goal

pub returns : goal.returns
returns c = ones_held places c.args.word (search rules)
