-- Numbers, splices, refusals in order and tables once more in literal numbers, at byte places: the plain twins of Bytes, First and Table.
-- Each is proved in proofs/PlainLaws under its own name in small letters: Numbers by numbers, ZeroTest by zero_test, and so on.
use Rattle.std.specs.Prelude.{ℕ, ◌+◌, ◌*◌, ◌/◌, ◌%◌, ◌≤◌, ◌<◌, ◌≡◌, true, false, ◌↔◌, ◌≢◌, List, [], ◌∷◌, ◌++◌, length, get_or}
use Rattle.wire.specs.Bytes.{num, big, row, splice, all_zero}
use Rattle.wire.specs.First.{Refusal, ◌given_when◌, first, numbered, without, told}
use Rattle.wire.specs.Table.{Slot, keep, only, skip, kept, padding, one, parts, width, counts, read, fill, clear, all_fixed, all_blank, sound, Fit}

-- ---- bytes

-- byte i of d
abbrev pub byte : List ℕ → ℕ → ℕ
byte d i = get_or d i 0

-- 01: "Numbers are big-endian". The numbers that start at byte o of d.
pub record Numbers (o : ℕ) (d : List ℕ) : Type 0 where
  pub of_one : num 1 o d ≡ byte d o
  pub of_two : num 2 o d ≡ byte d o * 256 + byte d (o + 1)
  pub of_three : num 3 o d ≡ byte d o * 65536 + byte d (o + 1) * 256 + byte d (o + 2)
  pub of_four : num 4 o d ≡ byte d o * 16777216 + byte d (o + 1) * 65536 + byte d (o + 2) * 256 + byte d (o + 3)
  pub of_eight : num 8 o d ≡ num 4 o d * 4294967296 + num 4 (o + 4) d

-- The bytes that v is written as, and v beside another number.
pub record Written (v : ℕ) : Type 0 where
  pub as_one : big 1 v ≡ v % 256 ∷ []
  pub as_two : big 2 v ≡ v / 256 % 256 ∷ v % 256 ∷ []
  pub as_four : big 4 v ≡ v / 16777216 % 256 ∷ v / 65536 % 256 ∷ v / 256 % 256 ∷ v % 256 ∷ []
  pub as_eight : big 8 v ≡ big 4 (v / 4294967296) ++ big 4 (v % 4294967296)
  pub beside : (w : ℕ) → row 2 (v ∷ w ∷ []) ≡ v / 256 % 256 ∷ v % 256 ∷ w / 256 % 256 ∷ w % 256 ∷ []

-- 01: "A success changes only the bytes it names". A buffer written over is as long as it was; it has the bytes written in their places, as
-- far as it reaches, and every other byte as it was.
pub record Spliced (at : ℕ) (bytes buffer : List ℕ) : Type 0 where
  pub size : length (splice at bytes buffer) ≡ length buffer
  pub before : (i : ℕ) → i < at → byte (splice at bytes buffer) i ≡ byte buffer i
  pub inside : (i : ℕ) → i < length bytes → at + i < length buffer → byte (splice at bytes buffer) (at + i) ≡ byte bytes i
  pub behind : (i : ℕ) → at + length bytes ≤ i → byte (splice at bytes buffer) i ≡ byte buffer i

-- The test of zero bytes says yes exactly if every byte is zero.
abbrev pub ZeroTest : List ℕ → Type 0
ZeroTest d = (all_zero d ≡ true) ↔ ((i : ℕ) → i < length d → byte d i ≡ 0)

-- ---- refusals in order

-- No rule of these is broken.
abbrev pub Unbroken : List Refusal → Type 0
Unbroken [] = Unit {0}
Unbroken ((n given_when broken) ∷ rest) = (broken ≡ false) × Unbroken rest

-- 01: "The first that applies is given": 0 where no rule is broken, else the number of the broken rule that unbroken ones alone stand before.
pub record FirstGiven (rules : List Refusal) : Type 0 where
  pub none : Unbroken rules → first rules ≡ 0
  pub some : (n : ℕ) (rest : List Refusal) → Unbroken rules → first (rules ++ ((n given_when true) ∷ rest)) ≡ n

-- What a call says: 0 and its values, or a refusal's number alone.
pub record Said (values : List ℕ) : Type 0 where
  pub taken : told 0 values ≡ 0 ∷ values
  pub refused : (n : ℕ) → n ≢ 0 → told n values ≡ n ∷ []

-- ---- a table, computed

-- A slot of each kind: two bytes kept; one of padding; one that must be 7; and two bytes of two bits that must be 1, five bits kept, four of
-- padding and five kept.
abbrev pub sample : List Slot
sample = kept 2 ∷ padding 1 ∷ one 1 7 ∷ parts 2 (only 2 1 ∷ keep 5 ∷ skip 4 ∷ keep 5 ∷ []) ∷ []

-- It has six bytes and keeps three values. 71, 241 is the number 18417 = 1 · 16384 + 3 · 512 + 15 · 32 + 17; without its padding it is
-- 17937, in bytes 70, 17.
pub record Sampled : Type 0 where
  pub wide : width sample ≡ 6
  pub keeps : counts sample ≡ 3
  pub reads : read 1 sample (99 ∷ 1 ∷ 2 ∷ 5 ∷ 7 ∷ 71 ∷ 241 ∷ []) ≡ 258 ∷ 3 ∷ 17 ∷ []
  pub fills : fill sample (258 ∷ 3 ∷ 17 ∷ []) ≡ 1 ∷ 2 ∷ 0 ∷ 7 ∷ 70 ∷ 17 ∷ []
  pub clears : clear 1 sample (99 ∷ 1 ∷ 2 ∷ 5 ∷ 7 ∷ 71 ∷ 241 ∷ []) ≡ 1 ∷ 2 ∷ 0 ∷ 7 ∷ 70 ∷ 17 ∷ []
  -- the fixed places: right; 8 for 7; and 2 for 1 in the top two bits
  pub right : all_fixed 1 sample (99 ∷ 1 ∷ 2 ∷ 5 ∷ 7 ∷ 71 ∷ 241 ∷ []) ≡ true
  pub wrong_byte : all_fixed 1 sample (99 ∷ 1 ∷ 2 ∷ 5 ∷ 8 ∷ 71 ∷ 241 ∷ []) ≡ false
  pub wrong_bits : all_fixed 1 sample (99 ∷ 1 ∷ 2 ∷ 5 ∷ 7 ∷ 135 ∷ 241 ∷ []) ≡ false
  -- the padding: zero; a byte that is not; and four bits that are not
  pub blank : all_blank 1 sample (99 ∷ 1 ∷ 2 ∷ 0 ∷ 7 ∷ 70 ∷ 17 ∷ []) ≡ true
  pub padded_byte : all_blank 1 sample (99 ∷ 1 ∷ 2 ∷ 5 ∷ 7 ∷ 70 ∷ 17 ∷ []) ≡ false
  pub padded_bits : all_blank 1 sample (99 ∷ 1 ∷ 2 ∷ 0 ∷ 7 ∷ 71 ∷ 241 ∷ []) ≡ false
  -- values that fit; one that needs three bytes; one that needs six bits; and one too few
  pub fits : Fit sample (65535 ∷ 31 ∷ 31 ∷ [])
  pub too_wide : Fit sample (65536 ∷ 31 ∷ 31 ∷ []) → ⊥
  pub too_many_bits : Fit sample (65535 ∷ 32 ∷ 31 ∷ []) → ⊥
  pub too_few : Fit sample (65535 ∷ 31 ∷ []) → ⊥
  -- sound; a fixed value that its byte, its bits have no room for; parts that leave a bit over
  pub whole : sound sample ≡ true
  pub no_byte : sound (one 1 256 ∷ []) ≡ false
  pub no_bits : sound (parts 1 (only 1 2 ∷ keep 7 ∷ []) ∷ []) ≡ false
  pub bit_over : sound (parts 1 (keep 7 ∷ []) ∷ []) ≡ false
  -- refusals of which none, and one, has the number 0
  pub named : numbered ((1 given_when false) ∷ (2 given_when true) ∷ []) ≡ true
  pub unnamed : numbered ((1 given_when false) ∷ (0 given_when true) ∷ []) ≡ false
  -- refusals of which one is left out
  pub left_out :
      without 2 ((1 given_when false) ∷ (2 given_when true) ∷ (3 given_when true) ∷ []) ≡ ((1 given_when false) ∷ (3 given_when true) ∷ [])
