-- The station's rules as one table of cases, in plain terms: for every station and every call, which row applies, what is answered, and
-- everything that changes. The rows speak of places, keys, nets, IDs, levels and seconds only.
use Rattle.std.specs.Prelude.{ℕ, ◌+◌, ◌-◌, ◌<◌, ◌≤◌, ◌≡◌, true, false, List, ◌⊎◌, ◌↔◌, length}
use Rattle.occupancy.specs.Places.{held}
use Rattle.pdu.specs.Refusals.{number}
use Rattle.pdu.specs.declared.refusals.Refusal.{Refusal}
use Rattle.pdu.specs.Reading.{reading}
use Rattle.pdu.specs.declared.Transmitter.{Transmitter}
use Rattle.pdu.specs.declared.Signal.{Signal}
use Rattle.pdu.specs.declared.Reading.TheVariants.{Refused, Transmitter as a_transmitter, Signal as a_signal}
use Rattle.station.specs.Units.{level_of, net_of, exchanges_of, limit_of, count_of, id_of, state_of, clock_of, key_of, unit_at}
use Rattle.station.specs.Plain.{NoneBeyond, Sender, Stranger, LowestFree, Full, Agree, Clash, IsJ00, IsPpli, IsOther}
use Rattle.station.specs.Hearing.{first_word}
use Rattle.station.specs.Runs.{Call, datagram, time}
use Rattle.station.specs.declared.State.TheVariants.{Waiting, Coarse, Fine}
use Rattle.station.specs.declared.Unit.{Unit}
use Rattle.station.specs.declared.Station.{Station}

-- ---- what a datagram is to a station

-- The datagram is read as the Signal g.
abbrev pub IsSignal : List ℕ → Signal → Type 0
IsSignal d g = (n : ℕ) × (reading d ≡ a_signal g n)

-- A Signal that passes 31, 32 and 33: its sender stands in place i, its net is the station's, and the IDs are the same or one is zero.
pub record Passed (s : Station) (g : Signal) (i : ℕ) : Type 0 where
  pub sender : Sender s (key_of g.header) i
  pub net : g.network.net ≡ net_of s
  pub ids : Agree (id_of s) (unit_at s i).id

-- Its first word is a J0.0, a PPLI, or neither.
abbrev pub SaysJ00 : List ℕ → Signal → Type 0
SaysJ00 d g = IsJ00 g.network.message_type (first_word d)

abbrev pub SaysPpli : List ℕ → Signal → Type 0
SaysPpli d g = IsPpli g.network.message_type (first_word d)

abbrev pub SaysOther : List ℕ → Signal → Type 0
SaysOther d g = IsOther g.network.message_type (first_word d)

-- It is round-trip timing: an interrogation (type 1), or a reply (type 2).
abbrev pub SaysAsk : Signal → Type 0
SaysAsk g = g.network.message_type ≡ 1

abbrev pub SaysReply : Signal → Type 0
SaysReply g = g.network.message_type ≡ 2

-- Such a reply counts where the station is Coarse and both levels are 4.
pub record Counting (s : Station) (u : Unit) : Type 0 where
  pub state : state_of s ≡ Coarse
  pub own : level_of s ≡ 4
  pub sender : u.level ≡ 4

-- ---- what a row says has changed

-- There are as many places as before, and every place but i is held or free as it was, and what stands in it is as it was.
pub record SameElse (i : ℕ) (s s' : Station) : Type 0 where
  pub size : length s'.units ≡ length s.units
  pub word : (j : ℕ) → (j ≡ i → ⊥) → held s'.used j ≡ held s.used j
  pub entry : (j : ℕ) → (j ≡ i → ⊥) → unit_at s' j ≡ unit_at s j

-- A unit heard for the first time: place i is now held with the Transmitter's key, level, synchronization state and ID, not In, last heard now.
pub record Entered (s : Station) (i : ℕ) (t : Transmitter) (s' : Station) : Type 0 where
  pub own : s'.own ≡ s.own
  pub others : SameElse i s s'
  pub taken : held s'.used i ≡ true
  pub word_fits : NoneBeyond s → NoneBeyond s'
  pub key : (unit_at s' i).key ≡ key_of t.header
  pub level : (unit_at s' i).level ≡ t.sync.level
  pub state : (unit_at s' i).state ≡ t.sync.state
  pub id : (unit_at s' i).id ≡ t.sync.id
  pub outside : (unit_at s' i).inside ≡ false
  pub last : (unit_at s' i).last ≡ clock_of s

-- A unit heard again by a Transmitter: level, synchronization state and ID are replaced; it is In afterwards exactly if it was In, the new
-- synchronization state is 3 and the ID is unchanged; the second when last heard is kept.
pub record Renewed (s : Station) (i : ℕ) (t : Transmitter) (s' : Station) : Type 0 where
  pub own : s'.own ≡ s.own
  pub word : s'.used ≡ s.used
  pub others : SameElse i s s'
  pub key : (unit_at s' i).key ≡ (unit_at s i).key
  pub level : (unit_at s' i).level ≡ t.sync.level
  pub state : (unit_at s' i).state ≡ t.sync.state
  pub id : (unit_at s' i).id ≡ t.sync.id
  pub inside : ((unit_at s' i).inside ≡ true) ↔ (((unit_at s i).inside ≡ true) × (t.sync.state ≡ 3) × (t.sync.id ≡ (unit_at s i).id))
  pub last : (unit_at s' i).last ≡ (unit_at s i).last

-- After a J0.0 from the sender u: a zero ID becomes the sender's; the state becomes Fine unless both levels are 4, where Waiting becomes
-- Coarse and other states stay; the count is zero where Waiting became Coarse. Nothing else changes.
pub record Joined (s : Station) (u : Unit) (s' : Station) : Type 0 where
  pub settings : s'.own.settings ≡ s.own.settings
  pub clock : clock_of s' ≡ clock_of s
  pub word : s'.used ≡ s.used
  pub entries : s'.units ≡ s.units
  pub id_taken : id_of s ≡ 0 → id_of s' ≡ u.id
  pub id_kept : (id_of s ≡ 0 → ⊥) → id_of s' ≡ id_of s
  pub coarse : level_of s ≡ 4 → u.level ≡ 4 → state_of s ≡ Waiting → state_of s' ≡ Coarse
  pub stays : level_of s ≡ 4 → u.level ≡ 4 → (state_of s ≡ Waiting → ⊥) → state_of s' ≡ state_of s
  pub fine : (level_of s ≡ 4 → u.level ≡ 4 → ⊥) → state_of s' ≡ Fine
  pub count_zero : level_of s ≡ 4 → u.level ≡ 4 → state_of s ≡ Waiting → count_of s' ≡ 0
  pub count_kept : (level_of s ≡ 4 → u.level ≡ 4 → state_of s ≡ Waiting → ⊥) → count_of s' ≡ count_of s

-- After a reply that counts: the count is one more; where it reaches the number of exchanges the state becomes Fine, and below it the station
-- stays Coarse. A count that is not below that number, which no call leaves while Coarse, becomes it. Nothing else changes.
pub record Counted (s s' : Station) : Type 0 where
  pub settings : s'.own.settings ≡ s.own.settings
  pub clock : clock_of s' ≡ clock_of s
  pub word : s'.used ≡ s.used
  pub entries : s'.units ≡ s.units
  pub id : id_of s' ≡ id_of s
  pub one_more : count_of s < exchanges_of s → count_of s' ≡ count_of s + 1
  pub at_most : exchanges_of s ≤ count_of s → count_of s' ≡ exchanges_of s
  pub fine : exchanges_of s ≤ count_of s + 1 → state_of s' ≡ Fine
  pub coarse : count_of s + 1 < exchanges_of s → state_of s' ≡ Coarse

-- After a PPLI from the unit in place i: it is In and last heard now. Nothing else changes.
pub record Positioned (s : Station) (i : ℕ) (s' : Station) : Type 0 where
  pub own : s'.own ≡ s.own
  pub word : s'.used ≡ s.used
  pub others : SameElse i s s'
  pub key : (unit_at s' i).key ≡ (unit_at s i).key
  pub level : (unit_at s' i).level ≡ (unit_at s i).level
  pub state : (unit_at s' i).state ≡ (unit_at s i).state
  pub id : (unit_at s' i).id ≡ (unit_at s i).id
  pub inside : (unit_at s' i).inside ≡ true
  pub last : (unit_at s' i).last ≡ clock_of s

-- After a clock t: the time is t, and a place is held exactly if it was and its unit was last heard less than the station's limit before t.
-- Nothing else changes.
pub record Ticked (s : Station) (t : ℕ) (s' : Station) : Type 0 where
  pub settings : s'.own.settings ≡ s.own.settings
  pub standing : s'.own.standing ≡ s.own.standing
  pub clock : clock_of s' ≡ t
  pub entries : s'.units ≡ s.units
  pub word_fits : NoneBeyond s'
  pub stays : (i : ℕ) → i < 16 → (held s'.used i ≡ true) ↔ ((held s.used i ≡ true) × (t - (unit_at s i).last < limit_of s))

-- ---- the table

-- The rows in which nothing changes: a station, a call, and the answer.
pub data Unchanged (s : Station) : Call → ℕ → Type 0 where
  -- a datagram that the reader refuses: the reader's number
  unread : {d : List ℕ} (refusal : Refusal) → reading d ≡ Refused refusal → Unchanged s (datagram d) (number refusal)
  -- a Transmitter with an unknown key, and no place is free: 30
  no_room_row : {d : List ℕ} (t : Transmitter)
      → reading d ≡ a_transmitter t
      → Stranger s (key_of t.header)
      → Full s
      → Unchanged s (datagram d) 30
  -- a Signal with an unknown key: 31
  stranger : {d : List ℕ} (g : Signal)
      → IsSignal d g
      → Stranger s (key_of g.header)
      → Unchanged s (datagram d) 31
  -- a Signal on another net: 32
  other_net : {d : List ℕ} (g : Signal) (i : ℕ)
      → IsSignal d g
      → Sender s (key_of g.header) i
      → (g.network.net ≡ net_of s → ⊥)
      → Unchanged s (datagram d) 32
  -- a Signal whose sender's ID differs from the station's, neither being zero: 33
  other_id_row : {d : List ℕ} (g : Signal) (i : ℕ)
      → IsSignal d g
      → Sender s (key_of g.header) i
      → g.network.net ≡ net_of s
      → Clash (id_of s) (unit_at s i).id
      → Unchanged s (datagram d) 33
  -- a J0.0, a PPLI or a timing reply from a sender that is not fine: 34
  not_fine_row : {d : List ℕ} (g : Signal) (i : ℕ)
      → IsSignal d g
      → Passed s g i
      → SaysJ00 d g ⊎ (SaysPpli d g ⊎ SaysReply g)
      → ((unit_at s i).state ≡ 3 → ⊥)
      → Unchanged s (datagram d) 34
  -- all else from a sender that is not In, or to a station that is not Fine: 35
  not_in_row : {d : List ℕ} (g : Signal) (i : ℕ)
      → IsSignal d g
      → Passed s g i
      → SaysOther d g
      → ((unit_at s i).inside ≡ true → state_of s ≡ Fine → ⊥)
      → Unchanged s (datagram d) 35
  -- all else from a sender that is In, to a station that is Fine: 44
  passed : {d : List ℕ} (g : Signal) (i : ℕ)
      → IsSignal d g
      → Passed s g i
      → SaysOther d g
      → (unit_at s i).inside ≡ true
      → state_of s ≡ Fine
      → Unchanged s (datagram d) 44
  -- a timing reply from a sender that is fine, which does not count: 44
  uncounted : {d : List ℕ} (g : Signal) (i : ℕ)
      → IsSignal d g
      → Passed s g i
      → SaysReply g
      → (unit_at s i).state ≡ 3
      → (Counting s (unit_at s i) → ⊥)
      → Unchanged s (datagram d) 44
  -- an interrogation: 44
  asked : {d : List ℕ} (g : Signal) (i : ℕ)
      → IsSignal d g
      → Passed s g i
      → SaysAsk g
      → Unchanged s (datagram d) 44
  -- a clock that would go back: 36
  back : {t : ℕ} → t < clock_of s → Unchanged s (time t) 36

-- The whole table: a station, a call, the answer, and the station after it.
pub data Table (s : Station) : Call → ℕ → Station → Type 0 where
  -- a row in which nothing changes
  nothing : {c : Call} {n : ℕ} → Unchanged s c n → Table s c n s
  -- a Transmitter with an unknown key: 40, and its entry is made in the lowest free place
  entered : {d : List ℕ} {s' : Station} (t : Transmitter) (i : ℕ)
      → reading d ≡ a_transmitter t
      → Stranger s (key_of t.header)
      → LowestFree s i
      → Entered s i t s'
      → Table s (datagram d) 40 s'
  -- a Transmitter with a known key: 41, and its entry is renewed
  again : {d : List ℕ} {s' : Station} (t : Transmitter) (i : ℕ)
      → reading d ≡ a_transmitter t
      → Sender s (key_of t.header) i
      → Renewed s i t s'
      → Table s (datagram d) 41 s'
  -- a J0.0 from a sender that is fine: 42, and the station joins
  joined : {d : List ℕ} {s' : Station} (g : Signal) (i : ℕ)
      → IsSignal d g
      → Passed s g i
      → SaysJ00 d g
      → (unit_at s i).state ≡ 3
      → Joined s (unit_at s i) s'
      → Table s (datagram d) 42 s'
  -- a PPLI from a sender that is fine: 43, and the sender is In
  positioned : {d : List ℕ} {s' : Station} (g : Signal) (i : ℕ)
      → IsSignal d g
      → Passed s g i
      → SaysPpli d g
      → (unit_at s i).state ≡ 3
      → Positioned s i s'
      → Table s (datagram d) 43 s'
  -- a timing reply that counts, from a sender that is fine: 47
  counted : {d : List ℕ} {s' : Station} (g : Signal) (i : ℕ)
      → IsSignal d g
      → Passed s g i
      → SaysReply g
      → (unit_at s i).state ≡ 3
      → Counting s (unit_at s i)
      → Counted s s'
      → Table s (datagram d) 47 s'
  -- a clock: 46, and the silent units are removed
  ticked : {t : ℕ} {s' : Station} → clock_of s ≤ t → Ticked s t s' → Table s (time t) 46 s'
