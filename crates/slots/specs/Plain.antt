-- What a plan is, in document 02's numbers: bytes 4i to 4i + 3 of a plan are the set, the rate and the first index of block i.
-- Shares nothing with what the check and the planner do.
use Rattle.std.specs.Prelude.{ℕ, zero, suc, ◌+◌, ◌-◌, ◌*◌, ◌/◌, ◌%◌, ◌^◌, ◌≤◌, ◌<◌, ◌≡◌, Bool, true, cond, ◌&&◌, List, [], ◌∷◌, length, get_or, eqb}

-- "a set A, B or C, a first index, and a rate r ..": whether slot s, set s mod 3 and index s div 3, is in that block
abbrev pub has : ℕ → ℕ → ℕ → ℕ → Bool
has set rate first s = eqb (s % 3) set && eqb (s / 3 % 2 ^ (15 - rate)) first

-- the bytes of block i
abbrev pub set_in : List ℕ → ℕ → ℕ
set_in plan i = get_or plan (4 * i) 0

abbrev pub rate_in : List ℕ → ℕ → ℕ
rate_in plan i = get_or plan (4 * i + 1) 0

abbrev pub first_in : List ℕ → ℕ → ℕ
first_in plan i = get_or plan (4 * i + 2) 0 * 256 + get_or plan (4 * i + 3) 0

abbrev pub has_in : List ℕ → ℕ → ℕ → Bool
has_in plan i s = has (set_in plan i) (rate_in plan i) (first_in plan i) s

-- "the rates pass 61 and 62"
pub record Pass (rates : List ℕ) : Type 0 where
  pub few : length rates ≤ 64
  pub low : (i : ℕ) → i < length rates → get_or rates i 0 ≤ 15

-- "the rates pass 61 and 62 and there is one block for each, in the rates' order and none over, which has that rate,
-- a first index below 2^(15−r), and shares no slot with another"
pub record Plan (rates plan : List ℕ) : Type 0 where
  pub pass : Pass rates
  pub one_each : length plan ≡ 4 * length rates
  pub set : (i : ℕ) → i < length rates → set_in plan i < 3
  pub rate : (i : ℕ) → i < length rates → rate_in plan i ≡ get_or rates i 0
  pub first : (i : ℕ) → i < length rates → first_in plan i < 2 ^ (15 - get_or rates i 0)
  pub apart : (i j s : ℕ)
      → i < length rates
      → j < length rates
      → s < 98304
      → has_in plan i s ≡ true
      → has_in plan j s ≡ true
      → i ≡ j

-- "the wanted slots total"
unfoldable pub total : List ℕ → ℕ
total [] = 0
total (r ∷ rs) = 2 ^ r + total rs

-- how many numbers below n pass
unfoldable pub count : (ℕ → Bool) → ℕ → ℕ
count p zero = 0
count p (suc n) = count p n + cond (p n) 1 0
