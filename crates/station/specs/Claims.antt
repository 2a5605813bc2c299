-- What the station's theorems claim. Each is proved under its own name in small letters: OnlyByRules by only_by_rules, and so on.
use Rattle.std.specs.Prelude.{ℕ, ◌+◌, ◌-◌, ◌/◌, ◌%◌, ◌<◌, ◌≤◌, ◌≡◌, true, cond, Some as some, None, List, [], ◌∷◌, eqb, ◌⊎◌, ◌↔◌, ◌≢◌}
use Rattle.wire.specs.Bytes.{num}
use Rattle.occupancy.specs.Places.{held}
use Rattle.pdu.specs.declared.refusals.Refusal.{Refusal}
use Rattle.pdu.specs.Reading.{reading}
use Rattle.pdu.specs.declared.Header.{Header}
use Rattle.pdu.specs.declared.Transmitter.{Transmitter}
use Rattle.pdu.specs.declared.Signal.{Signal}
use Rattle.pdu.specs.declared.Reading.TheVariants.{Refused, Transmitter as a_transmitter}
use Rattle.station.specs.Answers.{Unread, made_number}
use Rattle.station.specs.Units.{level_of, net_of, exchanges_of, limit_of, count_of, id_of, state_of, clock_of, settings_of, usual_settings, made}
use Rattle.station.specs.Units.{key_of, state_number, unit_at, units_held, seen_of, place_at}
use Rattle.station.specs.Plain.{Sized, NoneBeyond, HeldAt, one_at, Sender, Stranger, Clash}
use Rattle.station.specs.Hearing.{leaving, first_word, heard}
use Rattle.station.specs.Runs.{Call, datagram, called, answered, after}
use Rattle.station.specs.Table.{IsSignal, Passed, SaysJ00, SaysReply, Counting, Table}
use Rattle.station.specs.declared.State.TheVariants.{Waiting, Coarse, Fine}
use Rattle.station.specs.declared.Settings.{Settings}
use Rattle.station.specs.declared.Unit.{Unit}
use Rattle.station.specs.declared.Station.{Station}

-- ---- the maker, and keys

-- A station before its first call: ID 0, count 0, Waiting, clock 0, and sixteen places of which none is held.
pub record Fresh (l n e a : ℕ) (s : Station) : Type 0 where
  pub level : level_of s ≡ l
  pub net : net_of s ≡ n
  pub exchanges : exchanges_of s ≡ e
  pub limit : limit_of s ≡ a
  pub count : count_of s ≡ 0
  pub id : id_of s ≡ 0
  pub state : state_of s ≡ Waiting
  pub clock : clock_of s ≡ 0
  pub sized : Sized s
  pub empty : (i : ℕ) → HeldAt s i → ⊥

-- What a maker answers and gives: 37 and a station of level 0, net 0, 1 exchange and a limit of 96 seconds, or 0 and the station asked for.
pub data MakerTable (level net exchanges limit : ℕ) : ℕ → Station → Type 0 where
  refused : {s : Station}
      → (4 < level) ⊎ ((127 < net) ⊎ ((exchanges < 1) ⊎ ((16 < exchanges) ⊎ ((limit < 24) ⊎ (600 < limit)))))
      → Fresh 0 0 1 96 s
      → MakerTable level net exchanges limit 37 s
  taken : {s : Station}
      → level ≤ 4
      → net ≤ 127
      → 1 ≤ exchanges
      → exchanges ≤ 16
      → 24 ≤ limit
      → limit ≤ 600
      → Fresh level net exchanges limit s
      → MakerTable level net exchanges limit 0 s

-- The maker with a limit, by the four numbers that its caller gives.
abbrev pub MadeByRules : ℕ → ℕ → ℕ → ℕ → Type 0
MadeByRules level net exchanges limit =
    let m = made (settings_of level net exchanges limit) in
    MakerTable level net exchanges limit (made_number m.answer) m.station

-- The maker without one: it gives the limit 96.
abbrev pub UsualByRules : ℕ → ℕ → ℕ → Type 0
UsualByRules level net exchanges =
    let m = made (usual_settings level net exchanges) in
    MakerTable level net exchanges 96 (made_number m.answer) m.station

-- The four numbers of a key have two bytes each: so it is of every header that a program can hold.
pub record TwoBytes (h : Header) : Type 0 where
  pub site : h.site < 65536
  pub application : h.application < 65536
  pub entity : h.entity < 65536
  pub radio : h.radio < 65536

-- Two PDUs have the same key exactly if site, application, entity and radio are the same.
pub record SameKey (h h' : Header) : Type 0 where
  pub same : h.site ≡ h'.site
      → h.application ≡ h'.application
      → h.entity ≡ h'.entity
      → h.radio ≡ h'.radio
      → key_of h ≡ key_of h'
  pub site : key_of h ≡ key_of h' → h.site ≡ h'.site
  pub application : key_of h ≡ key_of h' → h.application ≡ h'.application
  pub entity : key_of h ≡ key_of h' → h.entity ≡ h'.entity
  pub radio : key_of h ≡ key_of h' → h.radio ≡ h'.radio

-- ---- where a datagram holds what the station goes by

-- The key of a PDU that was read is the number in bytes 12 to 19 of its datagram (01: site, application, entity and radio "together are the
-- unit's key").
pub record KeyInBytes (d : List ℕ) : Type 0 where
  pub of_transmitter : (t : Transmitter) → reading d ≡ a_transmitter t → key_of t.header ≡ num 8 12 d
  pub of_signal : (g : Signal) → IsSignal d g → key_of g.header ≡ num 8 12 d

-- The first word of a Signal with a body of n bytes stands in bytes 58 to 67 of its datagram, behind 52 bytes and the body's 6 header bytes:
-- bits 0 and 1 are its format, 2 to 6 its label, 7 to 9 its sublabel. There is none where the body has fewer than 16 bytes.
pub record FirstWordInBytes (d : List ℕ) (n : ℕ) : Type 0 where
  pub here : 16 ≤ n → first_word d ≡ some (record { format = num 10 58 d % 4; label = num 10 58 d / 4 % 32; sublabel = num 10 58 d / 128 % 8 })
  pub absent : n < 16 → first_word d ≡ None

-- ---- what others see of a station

-- A key is shown with its unit's entry exactly where it is known, and a place with its entry exactly where it is held; the number of units is
-- that of the held places; each state has its number.
pub record Shown (s : Station) : Type 0 where
  pub key_known : (key i : ℕ) → Sender s key i → seen_of s key ≡ some (record { inside = (unit_at s i).inside; last = (unit_at s i).last })
  pub key_unknown : (key : ℕ) → Stranger s key → seen_of s key ≡ None
  pub place_held : (i : ℕ) → HeldAt s i → place_at s i ≡ some (unit_at s i)
  pub place_free : (i : ℕ) → (HeldAt s i → ⊥) → place_at s i ≡ None
  pub number :
      units_held s
      ≡ one_at s 0 + one_at s 1 + one_at s 2 + one_at s 3 + one_at s 4 + one_at s 5 + one_at s 6 + one_at s 7
      + one_at s 8 + one_at s 9 + one_at s 10 + one_at s 11 + one_at s 12 + one_at s 13 + one_at s 14 + one_at s 15
  pub states : (state_number Waiting ≡ 0) × (state_number Coarse ≡ 2) × (state_number Fine ≡ 3)

-- ---- one call

-- Whatever the call, what it answers and leaves is a row of the table.
abbrev pub OnlyByRules : Station → Call → Type 0
OnlyByRules s c = Table s c (answered s c) (called s c).station

-- A datagram that the reader refuses is answered with the reader's number, and leaves the whole station as it was.
abbrev pub UnreadChangesNothing : Station → List ℕ → Type 0
UnreadChangesNothing s d = (refusal : Refusal) → reading d ≡ Refused refusal → heard s d ≡ leaving (Unread refusal) s

-- An answer that is none of the six by which a station changes: the reader's numbers, 30 to 36 and 44 are left.
pub record Quiet (n : ℕ) : Type 0 where
  pub not_entered : n ≢ 40
  pub not_renewed : n ≢ 41
  pub not_joined : n ≢ 42
  pub not_positioned : n ≢ 43
  pub not_ticked : n ≢ 46
  pub not_counted : n ≢ 47

-- Every such answer leaves the whole station as it was.
abbrev pub RefusalsChangeNothing : Station → Call → Type 0
RefusalsChangeNothing s c = Quiet (answered s c) → (called s c).station ≡ s

-- Why a Signal's sender is an outsider: its key is unknown, it is on another net, its ID differs from the station's and neither is zero, or it
-- is not fine.
pub data Outsider (s : Station) (g : Signal) : Type 0 where
  unknown : Stranger s (key_of g.header) → Outsider s g
  elsewhere : (g.network.net ≡ net_of s → ⊥) → Outsider s g
  another : (i : ℕ) → Sender s (key_of g.header) i → Clash (id_of s) (unit_at s i).id → Outsider s g
  coarse : (i : ℕ) → Sender s (key_of g.header) i → ((unit_at s i).state ≡ 3 → ⊥) → Outsider s g

-- A Signal from an outsider changes nothing at all: not the state, not the ID, no entry.
abbrev pub OutsidersChangeNothing : Station → List ℕ → Type 0
OutsidersChangeNothing s d = (g : Signal) → IsSignal d g → Outsider s g → (called s (datagram d)).station ≡ s

-- The station's own fields are as they were, and whoever is In was In before.
pub record AdmitsNoOne (s s' : Station) : Type 0 where
  pub own : s'.own ≡ s.own
  pub inside : (j : ℕ)
      → held s'.used j ≡ true
      → (unit_at s' j).inside ≡ true
      → (held s.used j ≡ true) × ((unit_at s j).inside ≡ true)

-- A Transmitter never changes the station's own level, net, ID, state or clock, and never lets a unit in.
abbrev pub TransmittersAdmitNoOne : Station → List ℕ → Type 0
TransmittersAdmitNoOne s d = (t : Transmitter) → reading d ≡ a_transmitter t → AdmitsNoOne s (called s (datagram d)).station

-- The clock never goes back.
abbrev pub ClockNeverBack : Station → Call → Type 0
ClockNeverBack s c = clock_of s ≤ clock_of (called s c).station

-- The call is a J0.0 that the station takes: a Signal whose sender stands in a held place (it was heard before by a Transmitter), on the
-- station's net, its ID the station's or one of the two zero, its first word J0.0, and its sender fine.
pub record Joins (s : Station) (c : Call) : Type 0 where
  pub bytes : List ℕ
  pub signal : Signal
  pub place : ℕ
  pub call : c ≡ datagram bytes
  pub read : IsSignal bytes signal
  pub passed : Passed s signal place
  pub says : SaysJ00 bytes signal
  pub fine : (unit_at s place).state ≡ 3

-- The station answers 42 exactly to such a J0.0.
abbrev pub Answered42 : Station → Call → Type 0
Answered42 s c = (answered s c ≡ 42) ↔ Joins s c

-- ---- a list of calls

-- Some call of the list, on the station as the calls before it left it, is such a call.
pub data Some (P : Station → Call → Type 0) : Station → List Call → Type 0 where
  here : {s : Station} {c : Call} {cs : List Call} → P s c → Some P s (c ∷ cs)
  later : {s : Station} {c : Call} {cs : List Call} → Some P (called s c).station cs → Some P s (c ∷ cs)

-- A J0.0 that the station takes, where the station's level or the sender's is not 4.
pub record JoinsFine (s : Station) (c : Call) : Type 0 where
  pub joins : Joins s c
  pub levels : level_of s ≡ 4 → (unit_at s joins.place).level ≡ 4 → ⊥

-- The station answers the call with this number.
abbrev pub Answered : ℕ → Station → Call → Type 0
Answered n s c = answered s c ≡ n

-- The call is a timing reply that counts: a Signal of type 2 whose sender stands in a held place and is fine, on the station's net, its ID the
-- station's or one of the two zero, while the station is Coarse and both levels are 4.
pub record Counts (s : Station) (c : Call) : Type 0 where
  pub bytes : List ℕ
  pub signal : Signal
  pub place : ℕ
  pub call : c ≡ datagram bytes
  pub read : IsSignal bytes signal
  pub passed : Passed s signal place
  pub says : SaysReply signal
  pub fine : (unit_at s place).state ≡ 3
  pub counting : Counting s (unit_at s place)

-- The station answers 47 exactly to such a reply.
abbrev pub Answered47 : Station → Call → Type 0
Answered47 s c = (answered s c ≡ 47) ↔ Counts s c

-- How many calls of the list the station answers with this number.
abbrev pub times : ℕ → Station → List Call → ℕ
times n s [] = 0
times n s (c ∷ cs) = cond (eqb (answered s c) n) 1 0 + times n (called s c).station cs

-- The station is Coarse or Fine exactly if some call was a J0.0 that it took, which is exactly if some call was answered 42. It is Fine
-- exactly if some such J0.0 met not both levels at 4, or if as many calls counted as the station has exchanges: all of them since it became
-- Coarse, as it counts in no other state and becomes Coarse once. Proved by in_net_exactly_when of every station that the maker gives.
pub record InNet (s : Station) (calls : List Call) : Type 0 where
  pub in_net : (state_of (after s calls) ≡ Waiting → ⊥) ↔ Some Joins s calls
  pub answered : (state_of (after s calls) ≡ Waiting → ⊥) ↔ Some (Answered 42) s calls
  pub fine : (state_of (after s calls) ≡ Fine) ↔ (Some JoinsFine s calls ⊎ (times 47 s calls ≡ exchanges_of s))
  pub count : count_of (after s calls) ≡ times 47 s calls

-- The call is a Transmitter with this key.
pub record Announces (key : ℕ) (s : Station) (c : Call) : Type 0 where
  pub bytes : List ℕ
  pub transmitter : Transmitter
  pub call : c ≡ datagram bytes
  pub read : reading bytes ≡ a_transmitter transmitter
  pub keyed : key_of transmitter.header ≡ key

-- Whoever the station holds, it has heard a Transmitter from: each held place's key was announced by some call of the list.
abbrev pub HeardFirst : Station → List Call → Type 0
HeardFirst s calls = (i : ℕ) → HeldAt (after s calls) i → Some (Announces (unit_at (after s calls) i).key) s calls

-- A unit that is held: it was not last heard after the present second, it has not been silent for as long as the limit, and if it is In it is
-- fine.
pub record Present (limit now : ℕ) (u : Unit) : Type 0 where
  pub heard : u.last ≤ now
  pub present : now - u.last < limit
  pub inside : u.inside ≡ true → u.state ≡ 3

-- Settings that a maker takes.
pub record InRange (settings : Settings) : Type 0 where
  pub level : settings.level ≤ 4
  pub net : settings.net ≤ 127
  pub one_exchange : 1 ≤ settings.exchanges
  pub exchanges : settings.exchanges ≤ 16
  pub shortest : 24 ≤ settings.limit
  pub longest : settings.limit ≤ 600

-- What is true of every station that calls can reach: its settings are such as a maker takes, there are sixteen places and no place beyond them
-- is held, no two held places have the same key, every unit that is held is as above, by the station's own limit, and while it is Coarse the
-- count is below the number of exchanges. Proved by always_sound.
pub record Sound (s : Station) : Type 0 where
  pub settings : InRange s.own.settings
  pub sized : Sized s
  pub word : NoneBeyond s
  pub distinct : (i j : ℕ) → HeldAt s i → HeldAt s j → (unit_at s i).key ≡ (unit_at s j).key → i ≡ j
  pub units : (i : ℕ) → HeldAt s i → Present (limit_of s) (clock_of s) (unit_at s i)
  pub counting : state_of s ≡ Coarse → count_of s < exchanges_of s
