-- `take_reply` meets its contract: refused, it changes nothing; else the acknowledged count is the larger of the two.
use mathlib.Core.Path.{ap}
use Rattle.std.specs.Prelude.{Err}
use Rattle.trunk.specs.Refusals.{Refusal}
use Rattle.trunk.specs.Near.{replied}
use Rattle.trunk.proofs.RefusalLaws.{refuses, told_is}
use Rattle.trunk.proofs.near_end.take_reply.Goals as goal

pub returns-in-Err : goal.returns-in-Err
unfolding replied
returns-in-Err c =
    let (broken, is) = refuses c.in-Err.refusal _ c.in-Err.ensures.first in
    record {
      answer = rw broken (ap (λ (e : Refusal). record { near = c.args.near; answer = Err e }) is);
      says = told_is (Err c.in-Err.refusal) _ _ c.in-Err.ensures.first tt;
    }
