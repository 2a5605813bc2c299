-- The refusals come in order, each at its test; where none is left, the plan is written.
use Rattle.std.proofs.Common.{ap, ◌∙◌, List, ℕ}
use Rattle.std.proofs.lemmas.Result.{err_from_is_err_and}
use Rattle.wire.specs.Bytes.{splice}
use Rattle.slots.specs.Planning.{plan_of}
use Rattle.slots.proofs.RuleLaws.{refused-early, late-refused, short-refused, plan-written}
use Rattle.slots.proofs.planner.plan.Goals as goal

pub returns-in_err-new : goal.returns-in_err-new
returns-in_err-new c =
    let p = err_from_is_err_and c.from_residual.result c.from_residual.ensures.1 in
    let left = refused-early c.args.rates.now c.args.out.now _ c.in_err-new.ensures.refused in
    record { answer = rw (p.1, p.2) left.0; output = left.1 }

pub returns-in_err-line : goal.returns-in_err-line
returns-in_err-line c =
    let p = err_from_is_err_and c.from_residual-in_err-line.result c.from_residual-in_err-line.ensures.1 in
    let passed = c.in_ok-new in
    let left = late-refused c.args.rates.now c.args.out.now passed.ensures.list passed.field-0.pass _ c.in_err-line.ensures.refused in
    record { answer = rw (p.1, p.2) left.0; output = left.1 }

pub returns-then-out-size : goal.returns-then-out-size
returns-then-out-size c =
    let passed = c.in_ok-new in
    let line = c.in_ok-line.ensures.refused in
    let left = short-refused c.args.rates.now c.args.out.now passed.ensures.list passed.field-0.pass line c.if-out-size.true in
    record { answer = left.0; output = left.1 }

pub returns : goal.returns
returns c =
    let passed = c.in_ok-new in
    let line = c.in_ok-line.ensures in
    let left = plan-written c.args.rates.now c.args.out.now passed.ensures.list passed.field-0.pass line.refused c.if-out-size.false in
    let wrote = λ (rates : List ℕ). splice 0 (plan_of rates) c.args.out.now in
    record { answer = left.0; output = c.put.ensures ∙ ap wrote (line.rates ∙ passed.ensures.list) ∙ left.1 }
