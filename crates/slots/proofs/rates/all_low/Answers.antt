-- `all` answers whether every rate is low.
use Rattle.std.proofs.Common.{ℕ, ◌∙◌, leb, rules}
use Rattle.std.proofs.lemmas.Iterator.{YieldsList-from_slice}
use Rattle.std.proofs.lemmas.Iterator.Search.{all_from_yields_List}
use borrow.Author.Tests.{tests}
use Rattle.slots.specs.Blocks.{top_rate}
use Rattle.slots.proofs.SumLaws.{every_element}
use Rattle.slots.proofs.rates.all_low.Goals as goal

pub returns : goal.returns
returns c =
    let low = λ (rate : ℕ). leb rate top_rate in
    let rates = c.args.rates.now in
    all_from_yields_List low _ _ _ c.all.ensures.ran (YieldsList-from_slice rates cc) (λ x b q k. search (rules, tests)) ∙ every_element low rates
