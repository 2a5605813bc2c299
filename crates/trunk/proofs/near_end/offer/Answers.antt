-- `offer` meets its contract: refused, it leaves all as it was; else its rules passed give what writing the bundle asks, and the room in the numbers
-- (`offer-fits`).
use mathlib.Core.Path.{sym, ap}
use native.Mathlib.Omega.{arith}
use Rattle.std.specs.Prelude.{Err}
use Rattle.trunk.specs.Refusals.{Refusal}
use Rattle.trunk.specs.Near.{offered, store_after}
use Rattle.trunk.proofs.RefusalLaws.{refuses, told_is}
use Rattle.trunk.proofs.EndLaws.{offer-fits}
use Rattle.trunk.proofs.near_end.offer.Goals as goal

pub put_bundle-requires : goal.put_bundle-requires
put_bundle-requires c =
    let f = offer-fits _ _ _ _ (sym c.in-Ok.ensures.first) in
    (f.store, f.none, f.numbers)

pub overflow_add-result : goal.overflow_add-result
overflow_add-result c =
    let f = offer-fits _ _ _ _ (sym c.in-Ok.ensures.first) in
    omega (arith, c.in-Ok.ensures.pdus, f.numbers)

pub returns-in-Err : goal.returns-in-Err
unfolding offered store_after
returns-in-Err c =
    let (broken, is) = refuses c.in-Err.refusal _ c.in-Err.ensures.first in
    record {
      answer = rw broken (ap (λ (e : Refusal). record { near = c.args.near; answer = Err e }) is);
      says = told_is (Err c.in-Err.refusal) _ _ c.in-Err.ensures.first tt;
      store_is = rw broken;
    }
