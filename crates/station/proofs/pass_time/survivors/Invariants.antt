-- The word built is that of the places that stay. The loop builds the word upward: after i turns it holds exactly the places below i that stay.
use Rattle.std.proofs.Common.{◌≡◌}
use Rattle.occupancy.specs.Places.{word_of}
use Rattle.station.specs.Clock.{stays}
use Rattle.station.proofs.pass_time.survivors.Given as goal

abbrev pub invariant-loop-i : goal.invariant-loop-i
invariant-loop-i l = l.word ≡ word_of (stays l.station l.t) l.i
