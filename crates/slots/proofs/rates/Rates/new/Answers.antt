-- Few rates, and none high, pass (`low_pass`).
use Rattle.std.proofs.Common.{sym, ◌∙◌}
use Rattle.slots.proofs.RuleLaws.{low_pass}
use Rattle.slots.proofs.rates.Rates.new.Goals as goal

pub invariant_of-result : goal.invariant_of-result
invariant_of-result c =
    record { pass = low_pass c.args.list.now c.if-list-gt-MOST_RATES.false (sym c.all_low.ensures ∙ c.if-not-all_low.false) }
