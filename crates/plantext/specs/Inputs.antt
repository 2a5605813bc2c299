-- What a line that may come does to what was read so far.
use Rattle.std.specs.Prelude.{ℕ, ◌/◌, ◌%◌, Bool, true, false, cond, List, [], ◌∷◌, ◌++◌, length, ltb}
use Rattle.plantext.specs.declared.Phase.{Phase}
use Rattle.plantext.specs.declared.Phase.TheVariants.{Rates, RatesThenDash, Blocks}
use Rattle.plantext.specs.declared.line.Line.{Line}
use Rattle.plantext.specs.declared.line.Line.TheVariants.{Rate, Dash, Block}

-- whether such a line may come
abbrev pub may_come : Phase → Line → Bool
may_come Rates (Rate rate) = true
may_come RatesThenDash (Rate rate) = true
may_come RatesThenDash Dash = true
may_come Blocks (Block set first rate) = true
may_come Rates Dash = false
may_come Rates (Block set first rate) = false
may_come RatesThenDash (Block set first rate) = false
may_come Blocks (Rate rate) = false
may_come Blocks Dash = false

-- which lines may come behind it
abbrev pub phase_after : Phase → Line → Phase
phase_after phase (Rate rate) = phase
phase_after phase Dash = Blocks
phase_after phase (Block set first rate) = phase

-- a list with one byte more, where there is room for it
abbrev pub pushed : List ℕ → ℕ → List ℕ
pushed list byte = cond (ltb (length list) 4096) (list ++ byte ∷ []) list

-- the rates behind it
abbrev pub rates_after : List ℕ → Line → List ℕ
rates_after rates (Rate rate) = pushed rates rate
rates_after rates Dash = rates
rates_after rates (Block set first rate) = rates

-- a plan with one block more: set, rate, and the first index in two bytes
abbrev pub with_block : List ℕ → ℕ → ℕ → ℕ → List ℕ
with_block plan set first rate = pushed (pushed (pushed (pushed plan set) rate) (first / 256)) (first % 256)

-- the plan behind it
abbrev pub plan_after : List ℕ → Line → List ℕ
plan_after plan (Rate rate) = plan
plan_after plan Dash = plan
plan_after plan (Block set first rate) = with_block plan set first rate
