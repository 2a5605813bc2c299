-- The refusals and their numbers (02, R-14; 16 is 01's).
use Rattle.std.specs.Prelude.{ℕ, cond, Result, Ok, Err, eqb}
use Rattle.slots.specs.declared.refusals.Refusal.{Refusal}
use Rattle.slots.specs.declared.refusals.Refusal.TheVariants.{ManyRates, HighRate, NoPlan, NoRoom}

-- "61 for more than 64 rates, 62 for a rate above 15", "63 exactly if no plan exists", 16 for an output shorter than the plan
abbrev pub number : Refusal → ℕ
number ManyRates = 61
number HighRate = 62
number NoPlan = 63
number NoRoom = 16

-- the refusal of a number of that table
abbrev pub named : ℕ → Refusal
named n = cond (eqb n 61) ManyRates (cond (eqb n 62) HighRate (cond (eqb n 63) NoPlan NoRoom))

-- the number of an answer: 0 where nothing is refused
abbrev pub refused : {A : Type 0} → Result A Refusal → ℕ
refused (Ok answer) = 0
refused (Err refusal) = number refusal
