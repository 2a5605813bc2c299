-- What the planner does: blocks stand by falling rate one behind the other on a line of three sets, and a block's place within
-- its set, read with its bits reversed, is its first index (02, R-14).
use Rattle.std.specs.Prelude.{ℕ, zero, suc, ◌+◌, ◌-◌, ◌*◌, ◌/◌, ◌%◌, ◌^◌, Bool, cond, List, [], ◌∷◌, ◌++◌, Result, Ok, Err, length, eqb, ltb}
use Rattle.wire.specs.Bytes.{splice}
use Rattle.wire.specs.First.{Refusal as Rule, ◌given_when◌, first}
use Rattle.slots.specs.Blocks.{top_rate, set_size, slot_count, block_size, block_bytes}
use Rattle.slots.specs.Checking.{most_rates, rate_at, rate_rules}
use Rattle.slots.specs.Refusals.{number, named}
use Rattle.slots.specs.declared.Block.{Block}
use Rattle.slots.specs.declared.refusals.Refusal.{Refusal}

-- f 0 + f 1 + .. + f (n − 1)
unfoldable pub sum : (ℕ → ℕ) → ℕ → ℕ
sum f zero = 0
sum f (suc n) = sum f n + f n

-- how many slots block i has
abbrev pub size_at : List ℕ → ℕ → ℕ
size_at rates i = 2 ^ rate_at rates i

-- how many slots are wanted
abbrev pub wanted : List ℕ → ℕ
wanted rates = sum (size_at rates) (length rates)

-- the order on the line: by falling rate, and for one rate as the rates come
abbrev pub rank : List ℕ → ℕ → ℕ
rank rates i = (top_rate - rate_at rates i) * most_rates + i

abbrev pub before : List ℕ → ℕ → ℕ → Bool
before rates i j = ltb (rank rates j) (rank rates i)

-- what block j takes of the line before block i
abbrev pub size_before : List ℕ → ℕ → ℕ → ℕ
size_before rates i j = cond (before rates i j) (size_at rates j) 0

-- where block i starts on the line: behind all blocks before it
abbrev pub start_at : List ℕ → ℕ → ℕ
start_at rates i = sum (size_before rates i) (length rates)

-- the number whose k bits are the lowest k bits of q in the other order
unfoldable pub reversed : ℕ → ℕ → ℕ
reversed zero q = 0
reversed (suc k) q = q % 2 * 2 ^ k + reversed k (q / 2)

-- the block of a rate that starts at a place of the line
abbrev pub block_from : ℕ → ℕ → Block
block_from rate start =
    record { set = start / set_size; rate = rate; first = reversed (top_rate - rate) (start % set_size / 2 ^ rate) }

abbrev pub block_for : List ℕ → ℕ → Block
block_for rates i = block_from (rate_at rates i) (start_at rates i)

-- the block at place i of our plan: the one for rate i, "in the rates' order"
abbrev pub block_in_place : List ℕ → ℕ → Block
block_in_place rates i = block_for rates i

-- the bytes of the first n blocks, and of all
unfoldable pub plan_up_to : List ℕ → ℕ → List ℕ
plan_up_to rates zero = []
plan_up_to rates (suc n) = plan_up_to rates n ++ block_bytes (block_in_place rates n)

abbrev pub plan_of : List ℕ → List ℕ
plan_of rates = plan_up_to rates (length rates)

-- 63 "when the wanted slots total more than 98,304"
abbrev pub overfull_by : ℕ → Bool
overfull_by total = ltb slot_count total

abbrev pub overfull : List ℕ → Bool
overfull rates = overfull_by (wanted rates)

-- 16: "a lent output shorter than what the call would write there"
abbrev pub too_short : List ℕ → ℕ → Bool
too_short rates room = ltb room (block_size * length rates)

abbrev pub late_rules : List ℕ → ℕ → List Rule
late_rules rates room =
    (63 given_when overfull rates)
    ∷ (16 given_when too_short rates room)
    ∷ []

-- 61, 62, 63, 16
unfoldable pub plan_rules : List ℕ → ℕ → List Rule
plan_rules rates room = rate_rules rates ++ late_rules rates room

abbrev pub planned_by : ℕ → ℕ → Result ℕ Refusal
planned_by n size = cond (eqb n 0) (Ok size) (Err (named n))

-- what the planner answers for an output of so many bytes, and what it leaves in the output
abbrev pub planned : List ℕ → ℕ → Result ℕ Refusal
planned rates room = planned_by (first (plan_rules rates room)) (block_size * length rates)

abbrev pub plan_left : List ℕ → List ℕ → List ℕ
plan_left rates out = cond (eqb (first (plan_rules rates (length out))) 0) (splice 0 (plan_of rates) out) out

-- document 02's number for each answer, and the size written
abbrev pub planned_says : Result ℕ Refusal → List ℕ
planned_says (Ok size) = 0 ∷ size ∷ []
planned_says (Err refusal) = number refusal ∷ []
