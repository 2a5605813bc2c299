-- What the check does: the rates' own rules, then a plan's size, each block by itself, and each pair of blocks (02, R-14).
use Rattle.std.specs.Prelude.{ℕ, zero, suc, ◌*◌, ◌%◌, max, Bool, true, cond, not, ◌&&◌, List, [], ◌∷◌, Result, Ok, Err, length, get_or, eqb, leb, ltb}
use Rattle.wire.specs.First.{Refusal as Rule, ◌given_when◌, first}
use Rattle.slots.specs.Blocks.{set_count, top_rate, modulus, block_size, block_at}
use Rattle.slots.specs.Refusals.{number, named}
use Rattle.slots.specs.declared.Block.{Block}
use Rattle.slots.specs.declared.Verdict.{Verdict}
use Rattle.slots.specs.declared.Verdict.TheVariants.{Accepted, NotAPlan}
use Rattle.slots.specs.declared.refusals.Refusal.{Refusal}

-- "A planner takes up to 64 rates"
abbrev pub most_rates : ℕ
most_rates = 64

abbrev pub rate_at : List ℕ → ℕ → ℕ
rate_at rates i = get_or rates i 0

-- whether p is true of each number below n
unfoldable pub every : (ℕ → Bool) → ℕ → Bool
every p zero = true
every p (suc n) = every p n && p n

abbrev pub many_rates : List ℕ → Bool
many_rates rates = ltb most_rates (length rates)

abbrev pub all_low : List ℕ → Bool
all_low rates = every (λ i. leb (rate_at rates i) top_rate) (length rates)

-- "61 for more than 64 rates, 62 for a rate above 15"
abbrev pub rate_rules : List ℕ → List Rule
rate_rules rates =
    (61 given_when many_rates rates)
    ∷ (62 given_when not (all_low rates))
    ∷ []

-- "a first index below 2^(15−r)"
abbrev pub first_below : ℕ → ℕ → Bool
first_below rate first = ltb first (modulus rate)

-- a block of one of the sets, "which has that rate", and such a first index
abbrev pub fits : ℕ → Block → Bool
fits rate b = ltb b.set set_count && eqb b.rate rate && first_below b.rate b.first

-- the smaller modulus of two blocks
abbrev pub common : Block → Block → ℕ
common b c = modulus (max b.rate c.rate)

-- whether two blocks share a slot: they are of one set, and their first indices leave one remainder by the smaller modulus
abbrev pub share : Block → Block → Bool
share b c = eqb b.set c.set && eqb (b.first % common b c) (c.first % common b c)

-- block i "shares no slot with" block j, and with no block before it
abbrev pub apart_from : List ℕ → ℕ → ℕ → Bool
apart_from plan i j = not (share (block_at plan j) (block_at plan i))

abbrev pub apart_before : List ℕ → ℕ → Bool
apart_before plan i = every (apart_from plan i) i

abbrev pub good_at : List ℕ → List ℕ → ℕ → Bool
good_at rates plan i = fits (rate_at rates i) (block_at plan i) && apart_before plan i

-- "one block for each, in the rates' order and none over"
abbrev pub is_plan : List ℕ → List ℕ → Bool
is_plan rates plan = eqb (length plan) (block_size * length rates) && every (good_at rates plan) (length rates)

-- what the check answers, by the rates' number and whether the bytes are a plan
abbrev pub verdict_by : ℕ → Bool → Result Verdict Refusal
verdict_by n good = cond (eqb n 0) (Ok (cond good Accepted NotAPlan)) (Err (named n))

unfoldable pub verdict : List ℕ → List ℕ → Result Verdict Refusal
verdict rates plan = verdict_by (first (rate_rules rates)) (is_plan rates plan)

-- document 02's number for each answer: 0 is accepted, and "not a plan" has no number
abbrev pub verdict_says : Result Verdict Refusal → List ℕ
verdict_says (Ok Accepted) = 0 ∷ []
verdict_says (Ok NotAPlan) = []
verdict_says (Err refusal) = number refusal ∷ []
