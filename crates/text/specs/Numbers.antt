-- The numbers of a line, in decimal digits.
use Rattle.std.specs.Prelude.{◌≢◌, ℕ, ◌+◌, ◌-◌, ◌*◌, ◌≤◌, ◌<◌, ◌^◌, List, [], All, fold, Option, Some, None, Result, Ok, Err, MatchOption, IsNone, ◌⊎◌}

-- a decimal digit
abbrev pub IsDigit : ℕ → Type 0
IsDigit c = (48 ≤ c) × (c ≤ 57)

-- a number with one digit more
abbrev pub with_digit : ℕ → ℕ → ℕ
with_digit n c = n * 10 + (c - 48)

-- digits, and one at least
abbrev pub IsNumber : List ℕ → Type 0
IsNumber text = (text ≢ []) × All IsDigit text

-- the number that digits write
abbrev pub number : List ℕ → ℕ
number text = fold with_digit 0 text

-- a number that 64 bits hold
abbrev pub IsReadable : List ℕ → Type 0
IsReadable text = IsNumber text × (number text < 2 ^ 64)

-- what a word gives as a number of a type: none where it is not readable or the type refuses it, and else what the type makes of it
abbrev pub ReadsNumber : {T E : Type 0} → (ℕ → Result T E → Type 0) → Option (List ℕ) → Option T → Type 0
ReadsNumber converts None r = IsNone r
ReadsNumber {T} {E} converts (Some word) r =
    MatchOption r
    (¬ IsReadable word ⊎ ((e : E) × converts (number word) (Err e)))
    (λ n. IsReadable word × converts (number word) (Ok n))
