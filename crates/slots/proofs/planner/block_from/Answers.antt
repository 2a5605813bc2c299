-- The first index is the place with its bits reversed (`first_reversed`).
use Rattle.std.proofs.Common.{ap, ap₂, ◌∙◌, ◌%◌, ◌/◌, ℕ}
use Rattle.slots.specs.declared.Block.{Block}
use Rattle.slots.proofs.ReverseLaws.{first_reversed}
use Rattle.slots.proofs.planner.block_from.Goals as goal

pub returns : goal.returns
returns c =
    let rate = c.args.rate in
    let start = c.args.start in
    let block : ℕ → Block = λ n. record { set = start / 32768; rate = rate; first = n } in
    ap block (ap₂ ◌%◌ (c.from.ensures ∙ c.reverse_bits.ensures) c.power.ensures.0 ∙ first_reversed rate (start % 32768) c.requires.0)
