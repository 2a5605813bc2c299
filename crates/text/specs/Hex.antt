-- Bytes in lower-case hexadecimal, two digits each; `-` is no bytes.
use Rattle.text.specs.declared.TheConstants.{ROOM}
use Rattle.std.specs.Prelude.{◌≡◌, ℕ, ◌+◌, ◌-◌, ◌*◌, ◌≤◌, ◌⊎◌, ◌<◌, ◌%◌, List, [], ◌∷◌, All, if◌then◌else◌, nat_lt, length, codes, ◌/◌, false}
use Rattle.std.specs.Fmt.{digit_glyph}

-- a hexadecimal digit, and none of its letters in upper case
abbrev pub IsHexDigit : ℕ → Type 0
IsHexDigit c = ((48 ≤ c) × (c ≤ 57)) ⊎ ((97 ≤ c) × (c ≤ 102))

-- a digit's value
abbrev pub hex_value : ℕ → ℕ
hex_value c = if nat_lt c 97 then c - 48 else c - 87

-- a text of bytes for which a lent buffer has room: `-`, or digits, two for each byte and one byte at least
abbrev pub IsHex : List ℕ → Type 0
IsHex text = (text ≡ codes "-") ⊎ ((0 < length text) × (length text ≤ 2 * ROOM) × (length text % 2 ≡ 0) × All IsHexDigit text)

-- the bytes that digits write
abbrev pub bytes_of : List ℕ → List ℕ
bytes_of [] = []
bytes_of (high ∷ []) = []
bytes_of (high ∷ low ∷ rest) = (16 * hex_value high + hex_value low) ∷ bytes_of rest

-- the digits of bytes, two for each
abbrev pub digits_of : List ℕ → List ℕ
digits_of [] = []
digits_of (b ∷ rest) = digit_glyph false (b / 16) ∷ digit_glyph false (b % 16) ∷ digits_of rest

-- bytes as they are printed
abbrev pub written : List ℕ → List ℕ
written [] = codes "-"
written (b ∷ rest) = digits_of (b ∷ rest)
