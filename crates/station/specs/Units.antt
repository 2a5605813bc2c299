-- What a station is: its own fields, its sixteen places, and what stands in them.
use Rattle.std.specs.Prelude.{ℕ, ◌+◌, ◌*◌, Bool, false, cond, ◌&&◌, ◌||◌, Option, Some, None, Ok, Err, get_or, set, replicate, eqb, ltb}
use Rattle.occupancy.specs.Places.{places, held, least, held_count, with_place}
use Rattle.pdu.specs.Numbers.{coarse, fine}
use Rattle.pdu.specs.declared.Header.{Header}
use Rattle.station.specs.Numbers.{last_level, last_net, fewest_exchanges, most_exchanges, shortest_limit, longest_limit, usual_limit, key_part}
use Rattle.station.specs.declared.State.{State}
use Rattle.station.specs.declared.State.TheVariants.{Waiting, Coarse, Fine}
use Rattle.station.specs.declared.Settings.{Settings}
use Rattle.station.specs.declared.Standing.{Standing}
use Rattle.station.specs.declared.Own.{Own}
use Rattle.station.specs.declared.Unit.{Unit}
use Rattle.station.specs.declared.Station.{Station}
use Rattle.station.specs.declared.Made.{Made}
use Rattle.station.specs.declared.Seen.{Seen}

-- ---- the station's own fields

-- 01: "It has a level, a net, an ID, a state, a 64-bit clock"
abbrev pub level_of : Station → ℕ
level_of s = s.own.settings.level

abbrev pub net_of : Station → ℕ
net_of s = s.own.settings.net

-- 02, R-1: "A station is made with a number of exchanges", and counts them
abbrev pub exchanges_of : Station → ℕ
exchanges_of s = s.own.settings.exchanges

abbrev pub count_of : Station → ℕ
count_of s = s.own.standing.count

-- 02, R-12: "A station is now made with an absence limit"
abbrev pub limit_of : Station → ℕ
limit_of s = s.own.settings.limit

abbrev pub id_of : Station → ℕ
id_of s = s.own.standing.id

abbrev pub state_of : Station → State
state_of s = s.own.standing.state

abbrev pub clock_of : Station → ℕ
clock_of s = s.own.clock

-- own fields with another standing, and at another second; their settings stay
abbrev pub with_standing : Own → Standing → Own
with_standing own standing = record { clock = own.clock; standing = standing; settings = own.settings }

abbrev pub with_clock : Own → ℕ → Own
with_clock own t = record { clock = t; standing = own.standing; settings = own.settings }

-- 01: "an ID (first 0), a state (first Waiting), a clock (first 0)"; 02, R-1: the count of exchanges, first 0
abbrev pub fresh_own : Settings → Own
fresh_own settings =
    record { clock = 0; standing = record { id = 0; count = 0; state = Waiting }; settings = settings }

-- a number for each state: 01's synchronization states 2 and 3, and 0 for Waiting
abbrev pub state_number : State → ℕ
state_number Waiting = 0
state_number Coarse = coarse
state_number Fine = fine

-- ---- a station as it is made

-- what a place of a fresh station holds
abbrev pub blank : Unit
blank = record { key = 0; last = 0; id = 0; level = 0; state = 0; inside = false }

-- a fresh station: its own fields, and 16 places, all free
unfoldable pub fresh : Settings → Station
fresh settings = record { units = replicate places blank; own = fresh_own settings; used = 0 }

-- what the maker with a limit is asked for
abbrev pub settings_of : ℕ → ℕ → ℕ → ℕ → Settings
settings_of level net exchanges limit = record { level = level; net = net; exchanges = exchanges; limit = limit }

-- what the maker without one is asked for: it "gives 96" (02, R-12)
abbrev pub usual_settings : ℕ → ℕ → ℕ → Settings
usual_settings level net exchanges = settings_of level net exchanges usual_limit

-- 37: level, net, the number of exchanges (02, R-1), and the absence limit (02, R-12)
abbrev pub wrong_settings : Settings → Bool
wrong_settings settings =
    ltb last_level settings.level
    || ltb last_net settings.net
    || (ltb settings.exchanges fewest_exchanges || ltb most_exchanges settings.exchanges)
    || (ltb settings.limit shortest_limit || ltb longest_limit settings.limit)

-- the settings of the station that a refusal holds: "level 0, net 0", 1 exchange, and the usual limit
abbrev pub least_settings : Settings
least_settings = settings_of 0 0 1 usual_limit

-- what a maker gives: 37 with a station of the least settings, or the station asked for
abbrev pub refusing : Made
refusing = record { station = fresh least_settings; answer = Err (record {}) }

abbrev pub making : Settings → Made
making settings = record { station = fresh settings; answer = Ok tt }

unfoldable pub made : Settings → Made
made settings = cond (wrong_settings settings) refusing (making settings)

-- ---- places

-- the key of a PDU's unit: bytes 12 to 19 as one number (01: site, application, entity and radio "together are the unit's key")
abbrev pub key_of : Header → ℕ
key_of h = ((h.site * key_part + h.application) * key_part + h.entity) * key_part + h.radio

-- what stands in place i, whether or not the place is held
abbrev pub unit_at : Station → ℕ → Unit
unit_at s i = get_or s.units i blank

-- whether place i is held by the unit with this key
abbrev pub holds : Station → ℕ → ℕ → Bool
holds s key i = held s.used i && eqb (unit_at s i).key key

-- the place of a key: the least that is held with it, 16 where the key is unknown
unfoldable pub place_of : Station → ℕ → ℕ
place_of s key = least (holds s key) places

-- whether a key is known
abbrev pub known : Station → ℕ → Bool
known s key = ltb (place_of s key) places

-- the station with other own fields
abbrev pub with_own : Station → Own → Station
with_own s own = record { units = s.units; own = own; used = s.used }

-- the station with the entry u in place i
abbrev pub with_unit : Station → ℕ → Unit → Station
with_unit s i u = record { units = set s.units i u; own = s.own; used = s.used }

-- the station with the entry u in place i, which was free
abbrev pub with_new : Station → ℕ → Unit → Station
with_new s i u = record { units = set s.units i u; own = s.own; used = with_place s.used i }

-- ---- what others see of it

-- how many units a station holds
abbrev pub units_held : Station → ℕ
units_held s = held_count s.used

-- what a station knows of a key: whether the unit is In, and when it was last heard
unfoldable pub seen_of : Station → ℕ → Option Seen
seen_of s key =
    let u = unit_at s (place_of s key) in
    cond (known s key) (Some (record { inside = u.inside; last = u.last })) None

-- what place i holds
unfoldable pub place_at : Station → ℕ → Option Unit
place_at s i = cond (ltb i places && held s.used i) (Some (unit_at s i)) None
