-- The occupancy word: sixteen places, place i held exactly where bit i of the word is 1.
use Rattle.std.specs.Prelude.{ℕ, zero, suc, ◌+◌, ◌/◌, ◌%◌, ◌^◌, Bool, cond, not, Option, MatchOption, ◌<◌, ◌≡◌, eqb}

-- 01, "16 places for units"
abbrev pub places : ℕ
places = 16

-- whether place i is held, by bit i of the word w
abbrev pub held : ℕ → ℕ → Bool
held w i = eqb (w / 2 ^ i % 2) 1

-- the least i below n with p i true, n where there is none
unfoldable pub least : (ℕ → Bool) → ℕ → ℕ
least p zero = zero
least p (suc n) = cond (p zero) zero (suc (least (λ i. p (suc i)) n))

-- how many i below n have p i true
unfoldable pub count : (ℕ → Bool) → ℕ → ℕ
count p zero = zero
count p (suc n) = cond (p zero) 1 0 + count (λ i. p (suc i)) n

-- the lowest-numbered free place, 16 where none is free (01, "A new entry takes the lowest-numbered free place")
abbrev pub free_place : ℕ → ℕ
free_place w = least (λ i. not (held w i)) places

-- what a search for place i answers: the place, or none where that is 16, past them all
abbrev pub Finds : Option ℕ → ℕ → Type 0
Finds answer i = MatchOption answer (i ≡ places) (λ k. (k ≡ i) × (k < places))

-- how many places are held
abbrev pub held_count : ℕ → ℕ
held_count w = count (held w) places

-- the word w with its free place i taken
abbrev pub with_place : ℕ → ℕ → ℕ
with_place w i = w + 2 ^ i

-- the word that holds exactly the places i below n with p i true
unfoldable pub word_of : (ℕ → Bool) → ℕ → ℕ
word_of p zero = zero
word_of p (suc n) = word_of p n + cond (p n) (2 ^ n) 0
