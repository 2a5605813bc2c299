-- What the station's calls answer, and document 01's number of each ("The numbers").
use Rattle.std.specs.Prelude.{ℕ, ◌≡◌, eqb, List, [], ◌∷◌, Result, Ok, Err, find, unwrap_or}
use Rattle.pdu.specs.Refusals.{number as read_number, named as read_named}
pub use Rattle.station.specs.declared.answers.Answer.{Answer}
pub use Rattle.station.specs.declared.answers.Answer.TheVariants.{Unread, NoRoom, UnknownKey, OtherNet, OtherId, NotFine, NotIn, ClockBack}
pub use Rattle.station.specs.declared.answers.Answer.TheVariants.{Entered, Renewed, Joined, Positioned, Passed, TimePassed, Counted}
pub use Rattle.station.specs.declared.answers.BadSettings.{BadSettings}

-- document 01's number of each answer: the reader's number, or the station's own
abbrev pub number : Answer → ℕ
number (Unread refusal) = read_number refusal
number NoRoom = 30
number UnknownKey = 31
number OtherNet = 32
number OtherId = 33
number NotFine = 34
number NotIn = 35
number ClockBack = 36
number Entered = 40
number Renewed = 41
number Joined = 42
number Positioned = 43
number Passed = 44
number TimePassed = 46
number Counted = 47

-- all answers of the station's own
abbrev pub table : List Answer
table =
    NoRoom
    ∷ UnknownKey
    ∷ OtherNet
    ∷ OtherId
    ∷ NotFine
    ∷ NotIn
    ∷ ClockBack
    ∷ Entered
    ∷ Renewed
    ∷ Joined
    ∷ Positioned
    ∷ Passed
    ∷ TimePassed
    ∷ Counted
    ∷ []

-- the answer that has this number: one of the station's own, or else the reader's
abbrev pub named : ℕ → Answer
named n = unwrap_or (find (λ a. eqb (number a) n) table) (Unread (read_named n))

-- Each answer has a number of its own, which names it. Proved by own_number (proofs/OwnNumber).
abbrev pub OwnNumber : Answer → Type 0
OwnNumber a = named (number a) ≡ a

-- document 01's number of what a maker answers: 0, or 37
abbrev pub made_number : {A : Type 0} → Result A BadSettings → ℕ
made_number (Ok x) = 0
made_number (Err e) = 37
