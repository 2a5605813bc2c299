-- `count_pdus` meets its contract: an empty slice is refused by 1; of any other each turn goes one PDU further (`onward`), to the first that is stopped
-- or to the end.
use mathlib.Core.Path.{sym, ap, ◌∙◌}
use Prim.Native.Nat.{◌≤◌}
use lib.ListN.{length}
use native.Mathlib.Omega.{arith}
use borrow.Author.Tests.{eqb-true}
use Rattle.std.proofs.lemmas.Result.{err_from_is_err_and}
use Rattle.pdu.specs.Reading.{used}
use Rattle.trunk.specs.Refusals.{number}
use Rattle.trunk.proofs.RefusalLaws.{some_number}
use Rattle.trunk.proofs.BundleLaws.{slice_end, slice_here, offered_some, offered-none}
use Rattle.trunk.proofs.WalkLaws.{Onward, part_behind, onward, some_left}
use Rattle.trunk.proofs.near_end.count_pdus.Goals as goal
use Rattle.trunk.proofs.near_end.count_pdus.Goals.{After-size}

on : (c : After-size) → Onward c.loop-rest.rest.now (part_behind c.loop-rest.rest.now c.size.result)
on c =
    let first = c.in_ok-pdu.ensures in
    onward c.loop-rest.rest.now c.size.result (sym first.stop) (c.size.ensures ∙ ap used first.datagram)

inside : (c : After-size) → c.size.result ≤ length c.loop-rest.rest.now
inside c = omega (arith, (on c).inside, c.size.ensures, ap used c.in_ok-pdu.ensures.datagram)

pub returns-then-is_empty-clause-stop : goal.returns-then-is_empty-clause-stop
returns-then-is_empty-clause-stop c =
    ap number c.into.ensures ∙ sym (offered-none c.args.datagram.now (eqb-true _ _ (sym c.if-is_empty.ensures)))

pub returns-in_err-pdu-clause-stop : goal.returns-in_err-pdu-clause-stop
returns-in_err-pdu-clause-stop c =
    let p = err_from_is_err_and c.from_residual.result c.from_residual.ensures.1 in
    let stop = c.in_err-pdu.ensures.stop in
    let some = some_left _ c.loop-rest-test.ensures in
    let here = slice_here c.loop-rest.rest.now some (λ z. some_number c.in_err-pdu.field-0.0 (stop ∙ z)) in
    let whole = offered_some c.args.datagram.now (some_left _ c.if-is_empty.ensures) ∙ c.loop-rest.invariant.stop in
    rw (p.1, p.2) (stop ∙ sym (whole ∙ here.0))

pub slice_bounds-rest-count : goal.slice_bounds-rest-count
slice_bounds-rest-count c =
    let past = (goal.at.slice_bounds-rest-count c).After-size in
    inside past

pub slice_bounds-rest-start : goal.slice_bounds-rest-start
slice_bounds-rest-start c =
    let past = (goal.at.slice_bounds-rest-start c).After-size in
    inside past

pub loop-rest-smaller : goal.loop-rest-smaller
loop-rest-smaller c =
    let past = (goal.at.loop-rest-smaller c).After-size in
    (on past).shorter

pub loop-rest-preserved : goal.loop-rest-preserved
loop-rest-preserved c =
    let past = (goal.at.loop-rest-preserved c).After-size in
    let o = on past in
    let l = c.loop-rest in
    record {
      few = omega (arith, l.invariant.few, o.shorter);
      stop = l.invariant.stop ∙ o.stop;
      pdus = omega (arith, l.invariant.pdus, ap length o.pdus);
    }

pub returns-clause-stop : goal.returns-clause-stop
returns-clause-stop c =
    let end = slice_end c.loop-rest.rest.now (eqb-true _ _ (sym c.loop-rest-test.ensures)) in
    sym (offered_some c.args.datagram.now (some_left _ c.if-is_empty.ensures) ∙ c.loop-rest.invariant.stop ∙ end.0)

pub returns-clause-pdus : goal.returns-clause-pdus
returns-clause-pdus c =
    let end = slice_end c.loop-rest.rest.now (eqb-true _ _ (sym c.loop-rest-test.ensures)) in
    omega (arith, c.loop-rest.invariant.pdus, ap length end.1)
