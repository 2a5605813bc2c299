-- The number of the rates decides unless it is 0, and then whether the bytes are a plan does.
use Rattle.std.proofs.Common.{sym, ap, ap₂, ◌∙◌, List, ℕ}
use Rattle.std.proofs.lemmas.Result.{err_from_is_err_and}
use Rattle.slots.specs.Checking.{verdict_by, is_plan, verdict}
use Rattle.slots.proofs.RuleLaws.{refused-verdict}
use Rattle.slots.proofs.check.Goals as goal

pub returns-in_err-new : goal.returns-in_err-new
returns-in_err-new c =
    let p = err_from_is_err_and c.from_residual.result c.from_residual.ensures.1 in
    rw (p.1, p.2) (refused-verdict c.args.rates.now c.args.plan.now _ c.in_err-new.ensures.refused)

pub returns-then-has_plan : goal.returns-then-has_plan
unfolding verdict
returns-then-has_plan c =
    ap₂ verdict_by c.in_ok-new.ensures.refused
    (sym c.if-has_plan.true ∙ c.has_plan.ensures ∙ ap (λ (rates : List ℕ). is_plan rates c.args.plan.now) c.in_ok-new.ensures.list)

pub returns : goal.returns
unfolding verdict
returns c =
    ap₂ verdict_by c.in_ok-new.ensures.refused
    (sym c.if-has_plan.false ∙ c.has_plan.ensures ∙ ap (λ (rates : List ℕ). is_plan rates c.args.plan.now) c.in_ok-new.ensures.list)
