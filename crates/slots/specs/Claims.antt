-- What is proved of the check, of the planner and of a block: document 02's sentences, each said of the plain statement.
use Rattle.std.specs.Prelude.{ℕ, ◌-◌, ◌*◌, ◌^◌, ◌≤◌, ◌<◌, ◌≡◌, ◌↔◌, List, [], ◌∷◌, length, get_or, take, drop}
use Rattle.slots.specs.Checking.{verdict, verdict_says}
use Rattle.slots.specs.Planning.{planned, plan_left, planned_says}
use Rattle.slots.specs.Plain.{Pass, Plan, total, count, has}
use Rattle.slots.specs.Refusals.{number, named}
use Rattle.slots.specs.declared.refusals.Refusal.{Refusal}

-- "a rate above 15"
abbrev pub Above : List ℕ → Type 0
Above rates = (i : ℕ) × (i < length rates) × (15 < get_or rates i 0)

-- the check's answers, each with when it is given: a number, or none for what is not a plan
pub data Checked (rates plan : List ℕ) : List ℕ → Type 0 where
  more_than_64 : 64 < length rates → Checked rates plan (61 ∷ [])
  rate_above_15 : length rates ≤ 64 → Above rates → Checked rates plan (62 ∷ [])
  accepted : Plan rates plan → Checked rates plan (0 ∷ [])
  not_a_plan : Pass rates → ¬ Plan rates plan → Checked rates plan []

-- "A small check, on its own, accepts a plan from any source exactly if .."
pub record CheckIsRight (rates plan : List ℕ) : Type 0 where
  pub accepts : (verdict_says (verdict rates plan) ≡ 0 ∷ []) ↔ Plan rates plan
  pub answers : (v : List ℕ) → (verdict_says (verdict rates plan) ≡ v) ↔ Checked rates plan v

-- "63 exactly if no plan exists"
abbrev pub NoPlan : List ℕ → Type 0
NoPlan rates = (plan : List ℕ) → ¬ Plan rates plan

-- the planner's answers for an output of so many bytes, in the order 61, 62, 63, 16: a number, and behind 0 the size written
pub data Answered (rates : List ℕ) (room : ℕ) : List ℕ → Type 0 where
  more_than_64 : 64 < length rates → Answered rates room (61 ∷ [])
  rate_above_15 : length rates ≤ 64 → Above rates → Answered rates room (62 ∷ [])
  no_plan_exists : Pass rates → NoPlan rates → Answered rates room (63 ∷ [])
  short_output : Pass rates → total rates ≤ 98304 → room < 4 * length rates → Answered rates room (16 ∷ [])
  written : Pass rates → total rates ≤ 98304 → 4 * length rates ≤ room → Answered rates room (0 ∷ 4 * length rates ∷ [])

-- what the planner says of rates and an output, and what it leaves there
abbrev pub Says : List ℕ → List ℕ → List ℕ → Type 0
Says rates out v = planned_says (planned rates (length out)) ≡ v

-- "Every plan of ours passes": the bytes written at the output's start, by the size answered; the rest of the output is kept, and all of
-- it where the planner refuses. "63 exactly if no plan exists, which is when the wanted slots total more than 98,304"
pub record PlannerIsRight (rates out : List ℕ) : Type 0 where
  pub answers : (v : List ℕ) → Says rates out v ↔ Answered rates (length out) v
  pub passes : Says rates out (0 ∷ 4 * length rates ∷ [])
      → verdict_says (verdict rates (take (4 * length rates) (plan_left rates out))) ≡ 0 ∷ []
  pub behind : drop (4 * length rates) (plan_left rates out) ≡ drop (4 * length rates) out
  pub unwritten : (n : ℕ) → Says rates out (n ∷ []) → plan_left rates out ≡ out
  pub refused_63 : Says rates out (63 ∷ []) ↔ (Pass rates × NoPlan rates)
  pub no_plan : Pass rates → NoPlan rates ↔ (98304 < total rates)

-- "meaning the 2^r slots of that set": a block has 2^r of the 98,304 slots
abbrev pub BlockHasItsSlots : Type 0
BlockHasItsSlots =
    (set rate first : ℕ)
    → set < 3
    → rate ≤ 15
    → first < 2 ^ (15 - rate)
    → count (has set rate first) 98304 ≡ 2 ^ rate

-- a refusal is named by its number, and its number by the refusal
pub record RefusalsHaveNumbers : Type 0 where
  pub by_number : (refusal : Refusal) → named (number refusal) ≡ refusal
  pub n_61 : number (named 61) ≡ 61
  pub n_62 : number (named 62) ≡ 62
  pub n_63 : number (named 63) ≡ 63
  pub n_16 : number (named 16) ≡ 16
