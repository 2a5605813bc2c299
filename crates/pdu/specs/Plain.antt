-- Document 01's rules, in its order and in plain numbers at byte places, beside the tests of Rules, Reading and Writing: what a datagram must
-- meet to be taken, and a record to be written. `num w o d` is the number in the w bytes of d from byte o on.
use Rattle.std.specs.Prelude.{ℕ, ◌+◌, ◌-◌, ◌*◌, ◌/◌, ◌%◌, ◌^◌, ◌≤◌, ◌<◌, ◌≡◌, ◌↔◌, ◌⊎◌, ◌≢◌, Ok, Err, List, [], ◌∷◌, ◌++◌, length}
use Rattle.wire.specs.Bytes.{num}
use Rattle.wire.specs.Rules.{Rule, ◌unless◌, Met, FirstBroken}
use Rattle.pdu.specs.Forms.{size_of}
use Rattle.pdu.specs.Writing.{written}
use Rattle.pdu.specs.Refusals.{Refusal, number, RefusedBy}
use Rattle.pdu.specs.Reading.{transmitter_of, signal_of, body_size, reading, archive_reading, RefusedAs}
use Rattle.pdu.specs.declared.Transmitter.{Transmitter}
use Rattle.pdu.specs.declared.Signal.{Signal}
use Rattle.pdu.specs.declared.Network.{Network}
use Rattle.pdu.specs.declared.Reading.{Reading}
use Rattle.pdu.specs.declared.Reading.TheVariants.{Refused, Transmitter as a_transmitter, Signal as a_signal}

-- 2: "Versions 5 and 6 are taken", and 7 (02, R-9)
abbrev pub VersionRule : ℕ → Type 0
VersionRule v = (v ≡ 5) ⊎ ((v ≡ 6) ⊎ (v ≡ 7))

-- 52 in writing (02, R-9): "a status other than 0 with version 5 or 6"
abbrev pub StatusRule : ℕ → ℕ → Type 0
StatusRule v status = (v ≡ 5) ⊎ (v ≡ 6) → status ≡ 0

-- 64 (02, R-9): "In version 7 bytes 30 and 31 of a Transmitter count variable parameter records; we take only 0"
abbrev pub RecordsRule : List ℕ → Type 0
RecordsRule d = num 1 0 d ≡ 7 → num 2 30 d ≡ 0

-- 1, 2, 3, for what is asked of the PDU type (01: "Bytes 0 to 19, both PDUs")
abbrev pub plain_start : Type 0 → List ℕ → List Rule
plain_start type d =
    (1 unless (12 ≤ length d))
    ∷ (2 unless VersionRule (num 1 0 d))
    ∷ (3 unless (type × (num 1 3 d ≡ 4)))
    ∷ []

-- 4, for the least length given: the first PDU lies in the slice (02, R-5)
abbrev pub LengthRule : ℕ → List ℕ → Type 0
LengthRule least d = (num 2 8 d ≤ length d) × (least ≤ num 2 8 d)

-- 5: "24 category = 21", "29 input source = 8", "90 major = 7; 92 detail = 0; 94 system = 8"
abbrev pub FixedRule : List ℕ → Type 0
FixedRule d =
    (num 1 24 d ≡ 21)
    × (num 1 29 d ≡ 8)
    × (num 2 90 d ≡ 7)
    × (num 2 92 d ≡ 0)
    × (num 2 94 d ≡ 8)

-- 9: "TSA level 0 to 4", "primary mode 1 or 2", "secondary mode 0 to 3", "synchronization state 2 .. or 3", "ID .. zero at levels 0 to 2"
abbrev pub SyncRule : ℕ → ℕ → ℕ → ℕ → ℕ → Type 0
SyncRule level primary secondary state id =
    (level ≤ 4)
    × ((primary ≡ 1) ⊎ (primary ≡ 2))
    × (secondary ≤ 3)
    × ((state ≡ 2) ⊎ (state ≡ 3))
    × (level < 3 → id ≡ 0)

-- 4, 5, 6, 7, 64, 8 of a Transmitter
abbrev pub plain_transmitter_layout : List ℕ → List Rule
plain_transmitter_layout d =
    (4 unless LengthRule 104 d)
    ∷ (5 unless FixedRule d)
    ∷ (6 unless (num 1 100 d ≡ 8))
    ∷ (7 unless (num 2 70 d ≡ 0))
    ∷ (64 unless RecordsRule d)
    ∷ (8 unless (num 2 8 d ≡ 112))
    ∷ []

-- Transmitter: 1, 2, 3, 4, 5, 6, 7, 64, 8, 9 (01: "Transmitter, 112 bytes")
abbrev pub plain_transmitter : List ℕ → List Rule
plain_transmitter d =
    plain_start (num 1 2 d ≡ 25) d
    ++ (plain_transmitter_layout d
    ++ ((9 unless SyncRule (num 1 104 d) (num 1 105 d) (num 1 106 d) (num 1 107 d) (num 4 108 d)) ∷ []))

-- 8: size is the least multiple of 4 that is not below n ("filled to a multiple of 4")
abbrev pub FilledTo : ℕ → ℕ → Type 0
FilledTo n size = (n ≤ size) × (size < n + 4) × (size % 4 ≡ 0)

-- 133 and 134, TSEC and MSEC: "each 0 to 127 or 255"
abbrev pub SecurityRule : ℕ → Type 0
SecurityRule k = (k ≤ 127) ⊎ (k ≡ 255)

-- 14, for the message type and the body's size: "Type 0 body: 6 header bytes, then n words of 10 bytes"
abbrev pub WordsRule : ℕ → ℕ → Type 0
WordsRule type size = type ≡ 0 → (words : ℕ) × (size ≡ 6 + 10 * words)

-- 14 for round-trip timing (02, R-1): "a wrong body size of types 1 and 2"
abbrev pub TimingRule : ℕ → ℕ → Type 0
TimingRule type size = (type ≡ 1) ⊎ (type ≡ 2) → size ≡ 6

-- 15: at most 12 words; "Types 1 to 7: 0 to 256 bytes"
abbrev pub SizeRule : ℕ → ℕ → Type 0
SizeRule type size = (type ≡ 0 → size ≤ 126) × (type ≢ 0 → size ≤ 256)

-- 50 (02, R-4): not a message of the types 3 to 5
abbrev pub LiveRule : ℕ → Type 0
LiveRule type = (type ≢ 3) × (type ≢ 4) × (type ≢ 5)

-- 131 to 138, for NPG, net, TSEC, MSEC, message type, slot and epoch (01: "32 NPG" to "Slot ID"; the numbers: 02, R-3)
abbrev pub plain_network : ℕ → ℕ → ℕ → ℕ → ℕ → ℕ → ℕ → List Rule
plain_network npg net tsec msec type slot epoch =
    (131 unless (npg ≤ 511))
    ∷ (132 unless (net ≤ 127))
    ∷ (133 unless SecurityRule tsec)
    ∷ (134 unless SecurityRule msec)
    ∷ (135 unless (type ≤ 7))
    ∷ (136 unless (slot ≤ 98303))
    ∷ (137 unless (epoch ≤ 112))
    ∷ (138 unless (epoch ≡ 112 → slot ≤ 49151))
    ∷ []

-- 14, 15, for the message type and the body's size (01: "Type 0 body")
abbrev pub plain_body : ℕ → ℕ → List Rule
plain_body type size =
    (14 unless (WordsRule type size × TimingRule type size))
    ∷ (15 unless SizeRule type size)
    ∷ []

-- "Slot ID: bits 0 to 16 slot", "bits 24 to 31 epoch"
abbrev pub slot_of : List ℕ → ℕ
slot_of d = num 4 40 d % 2 ^ 17

abbrev pub epoch_of : List ℕ → ℕ
epoch_of d = num 4 40 d / 2 ^ 24 % 2 ^ 8

-- 131 to 138 of a datagram
abbrev pub plain_network_at : List ℕ → List Rule
plain_network_at d = plain_network (num 2 32 d) (num 1 34 d) (num 1 35 d) (num 1 36 d) (num 1 37 d) (slot_of d) (epoch_of d)

-- 14, 15 of a datagram; the data length counts the network header's 20 bytes
abbrev pub plain_body_at : List ℕ → List Rule
plain_body_at d = plain_body (num 1 37 d) (num 2 28 d / 8 - 20)

-- 131 to 138, 50, 14, 15 of a datagram
abbrev pub plain_inner : List ℕ → List Rule
plain_inner d = plain_network_at d ++ ((50 unless LiveRule (num 1 37 d)) ∷ plain_body_at d)

-- 4, 10, 11, 12, 8 of a Signal
abbrev pub plain_signal_layout : List ℕ → List Rule
plain_signal_layout d =
    (4 unless LengthRule 32 d)
    ∷ (10 unless (num 2 20 d / 16384 ≡ 1))
    ∷ (11 unless (num 2 22 d ≡ 100))
    ∷ (12 unless ((num 2 28 d % 8 ≡ 0) × (160 ≤ num 2 28 d)))
    ∷ (8 unless FilledTo (32 + num 2 28 d / 8) (num 2 8 d))
    ∷ []

-- Signal: 1, 2, 3, 4, 10, 11, 12, 8, 131 to 138, 50, 14, 15 (01: "Signal"; 02, R-3 and R-4)
abbrev pub plain_signal : List ℕ → List Rule
plain_signal d = plain_start (num 1 2 d ≡ 26) d ++ (plain_signal_layout d ++ plain_inner d)

-- a Signal in an old capture: 1, 2, 3, 4, 10, 11, 12, 8, 131 to 138, 14, 15, as before 02, R-4
abbrev pub plain_archive : List ℕ → List Rule
plain_archive d = plain_start (num 1 2 d ≡ 26) d ++ (plain_signal_layout d ++ (plain_network_at d ++ plain_body_at d))

-- the rules of a Transmitter to be written: 2, 52, 9
abbrev pub plain_transmitter_record : Transmitter → List Rule
plain_transmitter_record t =
    (2 unless VersionRule t.header.version)
    ∷ (52 unless StatusRule t.header.version t.header.status)
    ∷ (9 unless SyncRule t.sync.level t.sync.primary t.sync.secondary t.sync.state t.sync.id)
    ∷ []

-- 131 to 138, 50, 14, 15 of a network header and a body of n bytes
abbrev pub plain_inner_of : Network → ℕ → List Rule
plain_inner_of k n =
    plain_network k.npg k.net k.tsec k.msec k.message_type k.slot k.epoch
    ++ ((50 unless LiveRule k.message_type) ∷ plain_body k.message_type n)

-- the rules of a Signal to be written, with a body of n bytes: 2, 52, 10, 131 to 138, 50, 14, 15
abbrev pub plain_signal_record : Signal → ℕ → List Rule
plain_signal_record s n =
    (2 unless VersionRule s.header.version)
    ∷ (52 unless StatusRule s.header.version s.header.status)
    ∷ (10 unless (s.encoding ≤ 16383))
    ∷ plain_inner_of s.network n

-- Writing: 2, 52, 9, 16 for a Transmitter
abbrev pub plain_transmitter_writing : Transmitter → ℕ → List Rule
plain_transmitter_writing t room = plain_transmitter_record t ++ ((16 unless (112 ≤ room)) ∷ [])

-- 2, 52, 10, 131 to 138, 50, 14, 15, 16 for a Signal: the room is at least each filled size, of which there is one
abbrev pub plain_signal_writing : Signal → ℕ → ℕ → List Rule
plain_signal_writing s n room =
    plain_signal_record s n ++ ((16 unless ((size : ℕ) → FilledTo (52 + n) size → size ≤ room)) ∷ [])

-- what an answer says of a datagram, by the plain rules of a Signal: taken exactly when every plain rule of its layout holds; refused by the first
-- that does not; and what is taken is what the table gives
pub record TakenBy (answer : Reading) (signal : List Rule) (d : List ℕ) : Type 0 where
  pub transmitter_taken : ((t : Transmitter) × (answer ≡ a_transmitter t)) ↔ Met (plain_transmitter d)
  pub signal_taken : ((s : Signal) × (n : ℕ) × (answer ≡ a_signal s n)) ↔ Met signal
  pub transmitter_refused : num 1 2 d ≡ 25 → (n : ℕ) → RefusedAs n answer ↔ FirstBroken n (plain_transmitter d)
  pub signal_refused : num 1 2 d ≢ 25 → (n : ℕ) → RefusedAs n answer ↔ FirstBroken n signal
  pub transmitter_content : (t : Transmitter) → answer ≡ a_transmitter t → t ≡ transmitter_of d
  pub signal_content : (s : Signal) (n : ℕ) → answer ≡ a_signal s n → (s ≡ signal_of d) × (n ≡ body_size d)

-- what reading says of every datagram
abbrev pub TakenExactly : List ℕ → Type 0
TakenExactly d = TakenBy (reading d) (plain_signal d) d

-- and archive reading (02, R-4): "takes them exactly as live reading did till now"
abbrev pub ArchivedExactly : List ℕ → Type 0
ArchivedExactly d = TakenBy (archive_reading d) (plain_archive d) d

-- 02, R-4: archive reading beside live reading. It "differs from it on nothing else" than 50, and where live reading gives that, 14 and 15 decide
pub record ArchiveBeside (d : List ℕ) : Type 0 where
  pub elsewhere : (RefusedAs 50 (reading d) → ⊥) → archive_reading d ≡ reading d
  pub taken_there : RefusedAs 50 (reading d) → (archive_reading d ≡ a_signal (signal_of d) (body_size d)) ↔ Met (plain_body_at d)
  pub refused_there : RefusedAs 50 (reading d) → (n : ℕ) → RefusedAs n (archive_reading d) ↔ FirstBroken n (plain_body_at d)
  pub never_50 : RefusedAs 50 (archive_reading d) → ⊥

-- what writing says of every record: written, with its size, exactly when every plain rule holds and there is room; else the first that does not
pub record WrittenExactly (r : Reading) (plain : List Rule) (room : ℕ) : Type 0 where
  pub written_size : (written r room ≡ Ok (size_of r)) ↔ Met plain
  pub refused : (n : ℕ) → RefusedBy n (written r room) ↔ FirstBroken n plain

-- 02, R-3: each of the eight rules has a number of its own "in place of 13", which neither reading, archive reading too, nor writing gives any more
pub record NoThirteen : Type 0 where
  pub reading_gives : (d : List ℕ) (e : Refusal) → reading d ≡ Refused e → number e ≢ 13
  pub archive_gives : (d : List ℕ) (e : Refusal) → archive_reading d ≡ Refused e → number e ≢ 13
  pub writing_gives : (r : Reading) (room : ℕ) (e : Refusal) → written r room ≡ Err e → number e ≢ 13
