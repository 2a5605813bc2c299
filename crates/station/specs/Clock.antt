-- What a clock does to a station: 36, or 46 and the silent entries removed.
use Rattle.std.specs.Prelude.{ℕ, ◌-◌, Bool, not, ◌&&◌, [], ◌∷◌, leb, ltb}
use Rattle.wire.specs.First.{◌given_when◌}
use Rattle.occupancy.specs.Places.{places, held, word_of}
use Rattle.station.specs.Units.{limit_of, clock_of, with_clock, unit_at}
use Rattle.station.specs.Hearing.{answering, unless}
use Rattle.station.specs.declared.Station.{Station}
use Rattle.station.specs.declared.Heard.{Heard}

-- whether a unit last heard at this second is absent at t, by this limit: "t − last of 60 or more", and 02, R-12: "The limit replaces 60"
abbrev pub silent : ℕ → ℕ → ℕ → Bool
silent limit t last = leb limit (t - last)

-- whether place i is held and stays held at t, by the station's own limit
abbrev pub stays : Station → ℕ → ℕ → Bool
stays s t i = held s.used i && not (silent (limit_of s) t (unit_at s i).last)

-- "now = t, and every entry with t − last of" the limit "or more is removed": the places are freed, and what stands in them is left
unfoldable pub at_time : Station → ℕ → Station
at_time s t = record { units = s.units; own = with_clock s.own t; used = word_of (stays s t) places }

-- "Clock t: 36 if t is less than now. Else .. answer 46"
unfoldable pub clocked : Station → ℕ → Heard
clocked s t = unless s ((36 given_when ltb t (clock_of s)) ∷ []) (answering 46 (at_time s t))
