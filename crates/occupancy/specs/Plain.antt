-- The word of places once more in literal numbers: the plain twin of Places. Proved by word_of-places and built_word (proofs/PlainLaws).
use Rattle.std.specs.Prelude.{ℕ, ◌+◌, ◌/◌, ◌%◌, ◌^◌, ◌<◌, ◌≡◌, Bool, true, false, ◌⊎◌, ◌↔◌}
use Rattle.occupancy.specs.Places.{held, free_place, held_count, with_place, word_of}

-- 01: "16 places for units", "A 16-bit occupancy word; trailing zeros of its complement give the place, its count of ones the number of units held"
pub record WordOfPlaces (w : ℕ) : Type 0 where
  -- place i is held exactly where bit i is 1
  pub bit : (i : ℕ) → (held w i ≡ true) ↔ (w / 2 ^ i % 2 ≡ 1)
  -- the number of units held is the sum of the sixteen bits
  pub number :
      held_count w
      ≡ w % 2 + w / 2 % 2 + w / 4 % 2 + w / 8 % 2 + w / 16 % 2 + w / 32 % 2 + w / 64 % 2 + w / 128 % 2
      + (w / 256 % 2 + w / 512 % 2 + w / 1024 % 2 + w / 2048 % 2 + w / 4096 % 2 + w / 8192 % 2 + w / 16384 % 2 + w / 32768 % 2)
  -- the free place is the lowest-numbered, and 16 where none is free
  pub lowest : (i : ℕ) → i < 16 → held w i ≡ false → ((j : ℕ) → j < i → held w j ≡ true) → free_place w ≡ i
  pub full : ((i : ℕ) → i < 16 → held w i ≡ true) → free_place w ≡ 16
  -- with its free place i taken the word holds i, and what it held
  pub taken : (i j : ℕ) → held w i ≡ false → (held (with_place w i) j ≡ true) ↔ ((j ≡ i) ⊎ (held w j ≡ true))

-- A word of sixteen places built by a test holds exactly those that pass.
pub record BuiltWord (p : ℕ → Bool) : Type 0 where
  pub fits : word_of p 16 < 65536
  pub holds : (i : ℕ) → i < 16 → held (word_of p 16) i ≡ p i
