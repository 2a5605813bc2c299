-- The kinds of record (01, "The trunk"): one table of rows, from which what a record carries, its length, whether its kind is known, and the
-- kind under which a PDU is offered follow.
use Rattle.std.specs.Prelude.{ℕ, ◌+◌, ◌-◌, ◌*◌, Bool, true, false, cond, ◌&&◌, List, [], ◌∷◌, eqb, leb}
use Rattle.std.specs.Prelude.{Option, None, Some, option_map, option_and_then, unwrap_or}
use Rattle.pdu.specs.Numbers.{transmitter_size, body_header, word_bytes, most_words, interrogation, timing_reply, timing_bytes}
use Rattle.pdu.specs.Tables.{signal_size}
use Rattle.pdu.specs.Words.{words_in}
use Rattle.pdu.specs.declared.Reading.{Reading}
use Rattle.pdu.specs.declared.Reading.TheVariants.{Refused, Transmitter as a_transmitter, Signal as a_signal}
use Rattle.trunk.specs.Head.{head_size}
use Rattle.trunk.specs.declared.Load.{Load}
use Rattle.trunk.specs.declared.Load.TheVariants.{Words, Transmitter, Interrogation, TimingReply, Nothing}

-- ---- the table

-- a row: its first and last kind, and what a kind of it carries, by its place in the row
pub record KindRow : Type 0 where
  pub first : ℕ
  pub last : ℕ
  pub load : ℕ → Load

-- "Kind n from 0 to 12: a type 0 Signal of n words"
abbrev pub signals : KindRow
signals = record { first = 0; last = most_words; load = Words }

-- "Kind 16: a Transmitter"
abbrev pub transmitters : KindRow
transmitters = record { first = 16; last = 16; load = λ n. Transmitter }

-- 02, R-1: "The trunk carries them as kinds 17 and 18", types 1 and 2 of round-trip timing
abbrev pub interrogations : KindRow
interrogations = record { first = 17; last = 17; load = λ n. Interrogation }

abbrev pub timing_replies : KindRow
timing_replies = record { first = 18; last = 18; load = λ n. TimingReply }

-- "Kind 32: a reply, the number alone"
abbrev pub replies : KindRow
replies = record { first = 32; last = 32; load = λ n. Nothing }

abbrev pub kinds : List KindRow
kinds = signals ∷ transmitters ∷ interrogations ∷ timing_replies ∷ replies ∷ []

-- ---- what a kind carries

-- whether a kind is in a row
abbrev pub in_row : KindRow → ℕ → Bool
in_row row kind = leb row.first kind && leb kind row.last

-- what it carries by the first row that it is in, if it is in one
abbrev pub load_in : List KindRow → ℕ → Option Load
load_in [] kind = None
load_in (row ∷ rest) kind = cond (in_row row kind) (Some (row.load (kind - row.first))) (load_in rest kind)

unfoldable pub load : ℕ → Option Load
load kind = load_in kinds kind

-- how many bytes a load takes
abbrev pub load_size : Load → ℕ
load_size (Words n) = signal_size (body_header + word_bytes * n)
load_size Transmitter = transmitter_size
load_size Interrogation = signal_size timing_bytes
load_size TimingReply = signal_size timing_bytes
load_size Nothing = 0

-- the longest PDU that the trunk carries: one of 12 words
abbrev pub longest_pdu : ℕ
longest_pdu = 180

-- how many bytes a record of this kind carries, none where the kind is unknown; its length, and that of the longest record
abbrev pub carried_size : ℕ → ℕ
carried_size kind = unwrap_or (option_map load_size (load kind)) 0

abbrev pub record_size : ℕ → ℕ
record_size kind = head_size + carried_size kind

abbrev pub longest_record : ℕ
longest_record = head_size + longest_pdu

-- whether a load is that of a reply
abbrev pub is_nothing : Load → Bool
is_nothing (Words n) = false
is_nothing Transmitter = false
is_nothing Interrogation = false
is_nothing TimingReply = false
is_nothing Nothing = true

abbrev pub is_reply_load : Option Load → Bool
is_reply_load None = false
is_reply_load (Some l) = is_nothing l

-- ---- the kind of what is carried

-- the kind of a load: that of its row
abbrev pub kind_for : Load → ℕ
kind_for (Words n) = signals.first + n
kind_for Transmitter = transmitters.first
kind_for Interrogation = interrogations.first
kind_for TimingReply = timing_replies.first
kind_for Nothing = replies.first

abbrev pub reply_kind : ℕ
reply_kind = kind_for Nothing

-- what carries a message of this type that has no words: the others are not carried
abbrev pub load_of_type : ℕ → Option Load
load_of_type type = cond (eqb type interrogation) (Some Interrogation) (cond (eqb type timing_reply) (Some TimingReply) None)

-- what carries a Signal of this message type with a body of n bytes
abbrev pub load_of_signal : ℕ → ℕ → Option Load
load_of_signal type n = cond (eqb type 0) (Some (Words (words_in n))) (load_of_type type)

-- what carries what reading answered, and its kind; nothing carries a refusal
abbrev pub load_of : Reading → Option Load
load_of (Refused e) = None
load_of (a_transmitter t) = Some Transmitter
load_of (a_signal s n) = load_of_signal s.network.message_type n

abbrev pub kind_of : Reading → Option ℕ
kind_of answer = option_map kind_for (load_of answer)

-- whether this is the kind
abbrev pub is_kind : Option ℕ → ℕ → Bool
is_kind None kind = false
is_kind (Some k) kind = eqb k kind

-- the kind under which what was read is offered: what has none is not offered, and 0 fills its place
abbrev pub offered_kind : Reading → ℕ
offered_kind answer = unwrap_or (kind_of answer) 0

-- the kind of what bytes hold that should be in written form
abbrev pub kind_carried : Option Reading → Option ℕ
kind_carried carried = option_and_then kind_of carried
