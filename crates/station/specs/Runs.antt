-- A list of calls on one station, each taking the station that the last one left.
use Rattle.std.specs.Prelude.{ℕ, List, [], ◌∷◌}
-- what a run that is computed opens of the places
unfoldable pub use Rattle.occupancy.specs.Places.{least, word_of}
use Rattle.station.specs.Answers.{number}
use Rattle.station.specs.Hearing.{heard}
use Rattle.station.specs.Clock.{clocked}
use Rattle.station.specs.declared.Station.{Station}
use Rattle.station.specs.declared.Heard.{Heard}

-- "A call takes a datagram or a clock"
pub data Call : Type 0 where
  datagram : List ℕ → Call
  time : ℕ → Call

-- what a call answers and leaves
abbrev pub called : Station → Call → Heard
called s (datagram d) = heard s d
called s (time t) = clocked s t

-- document 01's number of what a call answers
abbrev pub answered : Station → Call → ℕ
answered s c = number (called s c).answer

-- the station after the calls, first call first
abbrev pub after : Station → List Call → Station
after s [] = s
after s (c ∷ cs) = after (called s c).station cs

-- the numbers of the answers to the calls
abbrev pub answers : Station → List Call → List ℕ
answers s [] = []
answers s (c ∷ cs) = answered s c ∷ answers (called s c).station cs
