-- One turn splices one more block in (`plan_turn`).
use Rattle.std.proofs.Common.{refl, ap₂, ◌∙◌, ◌*◌, List, ℕ}
use Rattle.wire.specs.Bytes.{splice}
use Rattle.slots.specs.Blocks.{block_bytes}
use Rattle.slots.specs.Planning.{plan_up_to}
use Rattle.slots.specs.declared.Block.{Block}
use Rattle.slots.proofs.PlanLaws.{plan_turn}
use Rattle.slots.proofs.planner.Line.put.Goals as goal

pub loop-i-init : goal.loop-i-init
unfolding plan_up_to
loop-i-init c = refl

pub loop-i-preserved : goal.loop-i-preserved
loop-i-preserved c =
    let i = c.loop-i.i in
    c.put.ensures
    ∙ ap₂ (λ (b : Block) (l : List ℕ). splice (4 * i) (block_bytes b) l) c.block_for.ensures c.loop-i.invariant
    ∙ plan_turn c.args.self.rates.list.now i c.args.out.now
