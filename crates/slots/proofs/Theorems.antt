-- The theorems of R-14. The check's answers are told apart by the rates' rules and by the plain statement; the planner's too, for with
-- room on the line our plan is one, and where a plan exists there is room.
-- Assumes nothing.
use Prim.Native.Nat.{ℕ, ◌*◌, ◌≤◌, ◌<◌}
use mathlib.Core.Path.{◌≡◌, refl, sym, ap, ap₂, ◌∙◌, subst}
use mathlib.Core.Bool.{Bool, true, false, false≢true}
use mathlib.Core.Logic.{◌⊎◌, inl, inr}
use mathlib.Core.List.{List, [], ◌∷◌, ◌++◌}
use native.Mathlib.Omega.{arith}
use lib.ListN.{length, take, drop}
use lib.Seq.{take_at, drop_at}
use lib.Dec.{eqb}
use borrow.Author.Tests.{lt-ltb, le-ltb, ltb-true, ltb-false, eqb-true, eqb-false}
use Rattle.wire.specs.First.{first}
use Rattle.wire.proofs.ByteLaws.{splice-start}
use Rattle.slots.specs.Blocks.{block_size}
use Rattle.slots.specs.Checking.{rate_rules, is_plan, verdict_by, verdict, verdict_says}
use Rattle.slots.specs.Planning.{wanted, plan_of, overfull, too_short, plan_rules, planned_by, planned, plan_left, planned_says}
use Rattle.slots.specs.Plain.{Pass, Plan, total}
use Rattle.slots.specs.Claims.{Checked, CheckIsRight, NoPlan, Answered, Says, PlannerIsRight, BlockHasItsSlots, RefusalsHaveNumbers}
use Rattle.slots.specs.Claims.Checked.{more_than_64, rate_above_15, accepted, not_a_plan}
use Rattle.slots.specs.Claims.Answered.{more_than_64 as more-rates, rate_above_15 as high-rate, no_plan_exists, short_output, written}
use Rattle.std.proofs.lemmas.Bool.{cases_lt}
use Rattle.slots.proofs.BlockLaws.{block_has}
use Rattle.slots.proofs.CheckLaws.{checked-plan, plan_checked}
use Rattle.slots.proofs.PlanLaws.{length-plan, our_plan}
use Rattle.slots.proofs.CountLaws.{total-wanted, plan-total}
use Rattle.slots.proofs.RuleLaws.{named-number, many_61, high_62, pass_0, Rated, rated, early, late, late_number, unrefused, left-refused, written-plan}
use Rattle.slots.proofs.RuleLaws.Rated.{many, high, pass}

-- ---- a block

pub block_has_its_slots : BlockHasItsSlots
block_has_its_slots = block_has

-- ---- the refusals

pub refusals_have_numbers : RefusalsHaveNumbers
refusals_have_numbers = record { by_number = named-number; n_61 = refl; n_62 = refl; n_63 = refl; n_16 = refl }

-- ---- the check

module _ (rates plan : List ℕ) where
  -- the answer is one of the table
  checked_by : (k : ℕ) → Rated rates k → (good : Bool) → is_plan rates plan ≡ good → Checked rates plan (verdict_says (verdict_by k good))
  checked_by k (many h) good e = more_than_64 h
  checked_by k (high h above) good e = rate_above_15 h above
  checked_by k (pass p) true e = accepted (checked-plan rates plan e p)
  checked_by k (pass p) false e = not_a_plan p (λ q. false≢true (sym e ∙ plan_checked rates plan q))

  checked : Checked rates plan (verdict_says (verdict rates plan))
  unfolding verdict
  checked = checked_by (first (rate_rules rates)) (rated rates) (is_plan rates plan) refl

  -- and no other of the table fits
  not-plan : ¬ Plan rates plan → Pass rates → is_plan rates plan ≡ false
  not-plan none p = go (is_plan rates plan) refl
    where
      go : (b : Bool) → is_plan rates plan ≡ b → b ≡ false
      go true e = absurd (none (checked-plan rates plan e p))
      go false e = refl

  says_by : {k : ℕ} {good : Bool}
      → first (rate_rules rates) ≡ k
      → is_plan rates plan ≡ good
      → verdict_says (verdict rates plan) ≡ verdict_says (verdict_by k good)
  unfolding verdict
  says_by e f = ap₂ (λ (k : ℕ) (b : Bool). verdict_says (verdict_by k b)) e f

  only_checked : (v : List ℕ) → Checked rates plan v → verdict_says (verdict rates plan) ≡ v
  only_checked v (more_than_64 h) = says_by (many_61 rates h) refl
  only_checked v (rate_above_15 h above) = says_by (high_62 rates h above) refl
  only_checked v (accepted p) = says_by (pass_0 rates p.pass) (plan_checked rates plan p)
  only_checked v (not_a_plan p none) = says_by (pass_0 rates p) (not-plan none p)

  is_accepted : Checked rates plan (0 ∷ []) → Plan rates plan
  is_accepted (accepted p) = p

  pub check_is_right : CheckIsRight rates plan
  check_is_right =
      record {
        accepts = (λ e. is_accepted (subst (Checked rates plan) e checked), λ p. only_checked (0 ∷ []) (accepted p));
        answers = λ v. (λ e. subst (Checked rates plan) e checked, only_checked v);
      }

-- ---- the planner

-- rates that pass have a plan exactly if there is room for all
pub room_plan : (rates : List ℕ) → Pass rates → total rates ≤ 98304 → Plan rates (plan_of rates)
room_plan rates p room = our_plan rates p (subst (λ (n : ℕ). n ≤ 98304) (total-wanted rates) room)

pub over_none : (rates : List ℕ) → 98304 < total rates → NoPlan rates
over_none rates over plan p = omega (arith, plan-total rates plan p)

pub none_over : (rates : List ℕ) → Pass rates → NoPlan rates → 98304 < total rates
none_over rates p none = go (cases_lt 98304 (total rates))
  where
    go : (98304 < total rates) ⊎ (total rates ≤ 98304) → 98304 < total rates
    go (inl over) = over
    go (inr room) = absurd (none (plan_of rates) (room_plan rates p room))

module _ (rates : List ℕ) (room : ℕ) where
  -- what is said for a number
  abbrev said : ℕ → List ℕ
  said k = planned_says (planned_by k (4 * length rates))

  says_by_number : {k : ℕ} → first (plan_rules rates room) ≡ k → planned_says (planned rates room) ≡ said k
  says_by_number e = ap said e

  says_own : (k : ℕ) → first (rate_rules rates) ≡ k → (k ≡ 0 → ⊥) → planned_says (planned rates room) ≡ said k
  says_own k e h = says_by_number (sym (early rates room k (sym e) h))

  says_late : {a b : Bool}
      → Pass rates
      → overfull rates ≡ a
      → too_short rates room ≡ b
      → planned_says (planned rates room) ≡ said (late_number a b)
  says_late p e f = says_by_number (sym (late rates room p e f))

  is_over : 98304 < total rates → overfull rates ≡ true
  is_over h = lt-ltb _ (wanted rates) (omega (arith, total-wanted rates))

  not_over : total rates ≤ 98304 → overfull rates ≡ false
  not_over h = le-ltb _ (wanted rates) (omega (arith, total-wanted rates))

  only_answered : (v : List ℕ) → Answered rates room v → planned_says (planned rates room) ≡ v
  only_answered v (more-rates h) = says_own 61 (many_61 rates h) (λ e. omega arith)
  only_answered v (high-rate h above) = says_own 62 (high_62 rates h above) (λ e. omega arith)
  only_answered v (no_plan_exists p none) = says_late p (is_over (none_over rates p none)) refl
  only_answered v (short_output p h s) = says_late p (not_over h) (lt-ltb room (block_size * length rates) s)
  only_answered v (written p h s) = says_late p (not_over h) (le-ltb room (block_size * length rates) s)

  within_all : overfull rates ≡ false → total rates ≤ 98304
  within_all e = omega (arith, total-wanted rates, ltb-false _ (wanted rates) e)

  past_all : overfull rates ≡ true → 98304 < total rates
  past_all e = omega (arith, total-wanted rates, ltb-true _ (wanted rates) e)

  -- what rates that pass are answered, by the two tests left
  answered_late : Pass rates
      → (a : Bool)
      → overfull rates ≡ a
      → (b : Bool)
      → too_short rates room ≡ b
      → Answered rates room (said (late_number a b))
  answered_late p true e b f = no_plan_exists p (over_none rates (past_all e))
  answered_late p false e true f = short_output p (within_all e) (ltb-true room (block_size * length rates) f)
  answered_late p false e false f = written p (within_all e) (ltb-false room (block_size * length rates) f)

  answered : Answered rates room (planned_says (planned rates room))
  answered = go (rated rates) refl
    where
      go : {k : ℕ} → Rated rates k → first (rate_rules rates) ≡ k → Answered rates room (planned_says (planned rates room))
      go (many h) e = subst (Answered rates room) (sym (says_own 61 e (λ z. omega arith))) (more-rates h)
      go (high h above) e = subst (Answered rates room) (sym (says_own 62 e (λ z. omega arith))) (high-rate h above)
      go (pass p) e = subst (Answered rates room) (sym (says_late p refl refl)) (answered_late p (overfull rates) refl (too_short rates room) refl)

  is_63 : Answered rates room (63 ∷ []) → Pass rates × NoPlan rates
  is_63 (no_plan_exists p none) = (p, none)

  is_written : (v : List ℕ)
      → Answered rates room v
      → v ≡ 0 ∷ 4 * length rates ∷ []
      → Pass rates × (total rates ≤ 98304) × (4 * length rates ≤ room)
  is_written v (more-rates h) e = let parted : ◌≡◌ {A = ℕ} 1 2 = ap length e in absurd (omega arith)
  is_written v (high-rate h above) e = let parted : ◌≡◌ {A = ℕ} 1 2 = ap length e in absurd (omega arith)
  is_written v (no_plan_exists p none) e = let parted : ◌≡◌ {A = ℕ} 1 2 = ap length e in absurd (omega arith)
  is_written v (short_output p h s) e = let parted : ◌≡◌ {A = ℕ} 1 2 = ap length e in absurd (omega arith)
  is_written v (written p h s) e = (p, h, s)

-- ---- the output

module _ (rates out : List ℕ) where
  abbrev number : ℕ
  number = first (plan_rules rates (length out))

  -- a plan that fits in the output stands before what was there
  left-written : number ≡ 0 → plan_left rates out ≡ plan_of rates ++ drop (4 * length rates) out
  left-written e =
      let fits : length (plan_of rates) ≤ length out =
      subst (λ (n : ℕ). n ≤ length out) (sym (length-plan rates (length rates))) (unrefused rates (length out) e).1.1 in
      sym (written-plan rates out e).1
      ∙ splice-start (plan_of rates) out fits
      ∙ ap (λ (n : ℕ). plan_of rates ++ drop n out) (length-plan rates (length rates))

  kept_behind : (b : Bool) → eqb number 0 ≡ b → drop (4 * length rates) (plan_left rates out) ≡ drop (4 * length rates) out
  kept_behind true e =
      ap (drop (4 * length rates)) (left-written (eqb-true number 0 e))
      ∙ drop_at (plan_of rates) _ _ (length-plan rates (length rates))
  kept_behind false e = ap (drop (4 * length rates)) (sym (left-refused rates out (eqb-false number 0 e)))

  -- an answer of a number alone is a refusal
  refused : (n : ℕ) → Says rates out (n ∷ []) → number ≡ 0 → ⊥
  refused n e zero_number =
      let both : 0 ∷ 4 * length rates ∷ [] ≡ n ∷ [] = sym (says_by_number rates (length out) zero_number) ∙ e in
      let parted : ◌≡◌ {A = ℕ} 2 1 = ap length both in
      omega arith

  written_passes : Says rates out (0 ∷ 4 * length rates ∷ [])
      → verdict_says (verdict rates (take (4 * length rates) (plan_left rates out))) ≡ 0 ∷ []
  written_passes e =
      let found = is_written rates (length out) _ (answered rates (length out)) e in
      let wide = le-ltb (length out) (block_size * length rates) found.2 in
      let tests = late rates (length out) found.0 (not_over rates (length out) found.1) wide in
      let plan = ap (take (4 * length rates)) (left-written (sym tests)) ∙ take_at (plan_of rates) _ _ (length-plan rates (length rates)) in
      subst (λ (p : List ℕ). verdict_says (verdict rates p) ≡ 0 ∷ []) (sym plan)
      ((check_is_right rates (plan_of rates)).accepts.1 (room_plan rates found.0 found.1))

  pub planner_is_right : PlannerIsRight rates out
  planner_is_right =
      let all = answered rates (length out) in
      record {
        answers = λ v. (λ e. subst (Answered rates (length out)) e all, only_answered rates (length out) v);
        passes = written_passes;
        behind = kept_behind (eqb number 0) refl;
        unwritten = λ n e. sym (left-refused rates out (refused n e));
        refused_63 = (
          λ e. is_63 rates (length out) (subst (Answered rates (length out)) e all),
          λ both. only_answered rates (length out) (63 ∷ []) (no_plan_exists both.0 both.1),
        );
        no_plan = λ p. (none_over rates p, over_none rates);
      }
