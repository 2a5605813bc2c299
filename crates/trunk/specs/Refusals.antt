-- The refusals of the trunk, and document 01's number of each ("The numbers").
use Rattle.std.specs.Prelude.{ℕ, ◌≡◌, cond, eqb, List, [], ◌∷◌, Result, Ok, Err, IsErrAnd, find, unwrap_or}
use Rattle.pdu.specs.Refusals.{number as number_of_pdu, named as pdu_named}
pub use Rattle.trunk.specs.declared.refusals.Refusal.{Refusal}
pub use Rattle.trunk.specs.declared.refusals.Refusal.TheVariants.{Pdu, RecordKind, RecordLength, RecordPdu, NotCarried, WindowFull, RecordNumber}
pub use Rattle.trunk.specs.declared.refusals.Refusal.TheVariants.{NotHeld, AboveAccepted, StoreSize, WrongDirection, ManyPdus}

-- document 01's number of each refusal
abbrev pub number : Refusal → ℕ
number (Pdu e) = number_of_pdu e
number RecordKind = 20
number RecordLength = 21
number RecordPdu = 22
number NotCarried = 23
number WindowFull = 24
number RecordNumber = 25
number NotHeld = 26
number AboveAccepted = 27
number StoreSize = 28
number WrongDirection = 29
number ManyPdus = 51

-- the trunk's own refusals
abbrev pub own : List Refusal
own =
    RecordKind
    ∷ RecordLength
    ∷ RecordPdu
    ∷ NotCarried
    ∷ WindowFull
    ∷ RecordNumber
    ∷ NotHeld
    ∷ AboveAccepted
    ∷ StoreSize
    ∷ WrongDirection
    ∷ ManyPdus
    ∷ []

-- the refusal that has this number; of a number that none has nothing is asked
unfoldable pub named : ℕ → Refusal
named n = unwrap_or (find (λ e. eqb (number e) n) own) (Pdu (pdu_named n))

-- what is answered where this is the number of the first broken rule: the value, where it is 0, or else the refusal
abbrev pub answered : {A : Type 0} → ℕ → A → Result A Refusal
answered n value = cond (eqb n 0) (Ok value) (Err (named n))

-- whether an answer is a refusal, with this number
abbrev pub RefusedBy : {A : Type 0} → ℕ → Result A Refusal → Type 0
RefusedBy n a = IsErrAnd a (λ e. number e ≡ n)

-- document 01's number and value of an answer: a refusal its number alone, any other 0 and its value
abbrev pub number_says : Result ℕ Refusal → List ℕ
number_says (Err e) = number e ∷ []
number_says (Ok n) = 0 ∷ n ∷ []

-- document 01's number of what a test or a call answered: 0 where it refuses nothing
abbrev pub refused : {A : Type 0} → Result A Refusal → ℕ
refused (Ok x) = 0
refused (Err e) = number e
