-- The numbers of document 01 that the station's own rules use, each named once. The places stand in occupancy, the synchronization states in pdu.
use Rattle.std.specs.Prelude.{ℕ}

-- 37: the highest level and net of a station
abbrev pub last_level : ℕ
last_level = 4

abbrev pub last_net : ℕ
last_net = 127

-- 37: the fewest and the most exchanges of round-trip timing (02, R-1)
abbrev pub fewest_exchanges : ℕ
fewest_exchanges = 1

abbrev pub most_exchanges : ℕ
most_exchanges = 16

-- 37: the shortest and the longest absence limit, in seconds; and the limit of a station that is made without one (02, R-12)
abbrev pub shortest_limit : ℕ
shortest_limit = 24

abbrev pub longest_limit : ℕ
longest_limit = 600

abbrev pub usual_limit : ℕ
usual_limit = 96

-- one more than the most that each of the four numbers of a key can be: they have two bytes each
abbrev pub key_part : ℕ
key_part = 65536

-- the ID that matches all (01: "zero ID matches all")
abbrev pub any_id : ℕ
any_id = 0

-- the level at which a J0.0 gives Coarse only, where both sides have it
abbrev pub coarse_level : ℕ
coarse_level = 4

-- the label of a PPLI
abbrev pub ppli_label : ℕ
ppli_label = 2
