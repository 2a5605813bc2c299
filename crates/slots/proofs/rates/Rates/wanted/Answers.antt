-- The iterator's sum is that of the sizes at each place (`sum_listed`), and is small (`sizes_small`).
use Rattle.std.proofs.Common.{◌∙◌, length, arith, rules}
use Rattle.std.proofs.lemmas.Iterator.{YieldsList-from_map, YieldsList-from_range}
use Rattle.std.proofs.lemmas.Iterator.Consumers.{YieldsList-at, sum_from_yields_List, fits_from_yields_list}
use borrow.Author.Tests.{tests}
use Rattle.slots.specs.Planning.{size_at}
use Rattle.slots.proofs.SumLaws.{sum_listed}
use Rattle.slots.proofs.LineLaws.{sizes_small}
use Rattle.slots.proofs.rates.Rates.wanted.Goals as goal

pub sum-requires-clause-fits : goal.sum-requires-clause-fits
sum-requires-clause-fits c =
    let n = length c.args.self.list.now in
    let size = size_at c.args.self.list.now in
    let small = sizes_small c.args.self.list.now c.args.self.pass in
    fits_from_yields_list c.map.result _
    (YieldsList-from_map _ size (YieldsList-at c.map.ensures.source (YieldsList-from_range 0 n n (cc) (omega arith)))
    c.map.ensures.closure
    (λ x r q k. search (rules, tests)))
    (omega (arith, sum_listed size n, small))

pub returns : goal.returns
returns c =
    let n = length c.args.self.list.now in
    let size = size_at c.args.self.list.now in
    sum_from_yields_List c.map.result _ c.sum.ensures.ran
    (YieldsList-from_map _ size (YieldsList-at c.map.ensures.source (YieldsList-from_range 0 n n (cc) (omega arith)))
    c.map.ensures.closure
    (λ x r q k. search (rules, tests)))
    ∙ sum_listed size n
