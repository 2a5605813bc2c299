-- The refusals of reading and writing, and document 01's number of each ("The numbers").
use Rattle.std.specs.Prelude.{ℕ, ◌≡◌, Bool, not, eqb, List, [], ◌∷◌, Result, Ok, Err, IsErrAnd, find, unwrap_or}
use Rattle.wire.specs.First.{Refusal as Test, lacks}
pub use Rattle.pdu.specs.declared.refusals.Refusal.{Refusal}
pub use Rattle.pdu.specs.declared.refusals.Refusal.TheVariants.{Short, Version, Status, PduType, Length, Radio, ModulationLength, PatternLength}
pub use Rattle.pdu.specs.declared.refusals.Refusal.TheVariants.{ParameterRecords, PduSize, Modulation, Encoding, TdlType, DataLength, Npg, Net, Tsec}
pub use Rattle.pdu.specs.declared.refusals.Refusal.TheVariants.{Msec, MessageType, Slot, Epoch, LateSlot, Retired, BodySize, BodyLimit, NoRoom}

-- document 01's number of each refusal
abbrev pub number : Refusal → ℕ
number Short = 1
number Version = 2
number Status = 52
number PduType = 3
number Length = 4
number Radio = 5
number ModulationLength = 6
number PatternLength = 7
number ParameterRecords = 64
number PduSize = 8
number Modulation = 9
number Encoding = 10
number TdlType = 11
number DataLength = 12
number Npg = 131
number Net = 132
number Tsec = 133
number Msec = 134
number MessageType = 135
number Slot = 136
number Epoch = 137
number LateSlot = 138
number Retired = 50
number BodySize = 14
number BodyLimit = 15
number NoRoom = 16

-- all refusals
abbrev pub table : List Refusal
table =
    Short
    ∷ Version
    ∷ Status
    ∷ PduType
    ∷ Length
    ∷ Radio
    ∷ ModulationLength
    ∷ PatternLength
    ∷ ParameterRecords
    ∷ PduSize
    ∷ Modulation
    ∷ Encoding
    ∷ TdlType
    ∷ DataLength
    ∷ Npg
    ∷ Net
    ∷ Tsec
    ∷ Msec
    ∷ MessageType
    ∷ Slot
    ∷ Epoch
    ∷ LateSlot
    ∷ Retired
    ∷ BodySize
    ∷ BodyLimit
    ∷ NoRoom
    ∷ []

-- the refusal that has this number; of a number that none has nothing is asked
unfoldable pub named : ℕ → Refusal
named n = unwrap_or (find (λ e. eqb (number e) n) table) NoRoom

-- whether a refusal has this number, and whether each rule of a list gives the number of one
unfoldable pub is_number : ℕ → Bool
is_number n = eqb (number (named n)) n

abbrev pub all_numbers : List Test → Bool
all_numbers rules = lacks (λ n. not (is_number n)) rules

-- document 01's number of what a test or a call answered: 0 where it refuses nothing
abbrev pub refused : {A : Type 0} → Result A Refusal → ℕ
refused (Ok x) = 0
refused (Err e) = number e

-- that a call answered the refusal of this number
abbrev pub RefusedBy : {A : Type 0} → ℕ → Result A Refusal → Type 0
RefusedBy n a = IsErrAnd a (λ e. number e ≡ n)
