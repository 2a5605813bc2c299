-- `all` answers whether every block is good.
use Rattle.std.proofs.Common.{◌*◌, refl, ap₂, ◌&&◌, ◌∙◌, sym, eq-eqb, length, arith, rules}
use Rattle.std.proofs.lemmas.Iterator.{YieldsList-from_range}
use Rattle.std.proofs.lemmas.Iterator.Search.{all_from_yields_List}
use borrow.Author.Tests.{tests}
use Rattle.slots.specs.Checking.{good_at}
use Rattle.slots.proofs.SumLaws.{every_below}
use Rattle.slots.proofs.rates.Rates.has_plan.Goals as goal

pub returns-then-plan-n : goal.returns-then-plan-n
returns-then-plan-n c =
    let good = good_at c.args.self.list.now c.args.plan.now in
    let n = length c.args.self.list.now in
    all_from_yields_List good _ _ _ c.all.ensures.ran (YieldsList-from_range 0 n n (cc) (omega arith)) (λ x b q k. search (rules, tests))
    ∙ every_below good n
    ∙ sym (ap₂ ◌&&◌ (eq-eqb (length c.args.plan.now) (4 * n) c.if-plan-n.true) refl)
