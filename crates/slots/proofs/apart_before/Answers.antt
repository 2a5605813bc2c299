-- `all` answers whether every block before i is apart from it.
use Rattle.std.proofs.Common.{◌∙◌, arith, rules}
use Rattle.std.proofs.lemmas.Iterator.{YieldsList-from_range}
use Rattle.std.proofs.lemmas.Iterator.Search.{all_from_yields_List}
use borrow.Author.Tests.{tests}
use Rattle.slots.specs.Checking.{apart_from}
use Rattle.slots.proofs.SumLaws.{every_below}
use Rattle.slots.proofs.apart_before.Goals as goal

pub returns : goal.returns
returns c =
    let apart = apart_from c.args.plan.now c.args.i in
    let i = c.args.i in
    all_from_yields_List apart _ _ _ c.all.ensures.ran (YieldsList-from_range 0 i i (cc) (omega arith)) (λ x b q k. search (rules, tests))
    ∙ every_below apart i
