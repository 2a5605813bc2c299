-- `put_bundle` meets its contract: at each turn, what is stored of the rest of the slice, under the numbers from `next` on, makes the store what the
-- whole slice makes it (`onward` is one turn).
use Prim.Native.Nat.{ℕ, ◌+◌, ◌≤◌}
use mathlib.Core.Path.{◌≡◌, refl, sym, ap, ◌∙◌}
use mathlib.Core.List.{List}
use lib.ListN.{length}
use native.Mathlib.Omega.{arith}
use Rattle.pdu.specs.Reading.{used}
use Rattle.trunk.specs.Bundle.{first_pdu, bundle}
use Rattle.trunk.specs.Near.{stored, stored_all}
use Rattle.trunk.proofs.RefusalLaws.{some_number}
use Rattle.trunk.proofs.BundleLaws.{offered-zero, passing, first-stored}
use Rattle.trunk.proofs.WalkLaws.{Onward, part_behind, onward, ended}
use Rattle.trunk.proofs.near_end.put_bundle.Goals as goal
use Rattle.trunk.proofs.near_end.put_bundle.Goals.{After-size}

-- one PDU further
on : (c : After-size) → Onward c.loop-pdu.left.now (part_behind c.loop-pdu.left.now c.size.result)
on c =
    let first = c.in-Ok.ensures in
    onward c.loop-pdu.left.now c.size.result (sym first.stop) (c.size.ensures ∙ ap used first.datagram)

inside : (c : After-size) → c.size.result ≤ length c.loop-pdu.left.now
inside c = omega (arith, (on c).inside, c.size.ensures, ap used c.in-Ok.ensures.datagram)

-- what a turn leaves in the store
leaves : (c : After-size) → c.store.new.store ≡ stored c.loop-pdu.next c.loop-pdu.store (first_pdu c.loop-pdu.left.now)
leaves c =
    let l = c.loop-pdu in
    c.store.ensures
    ∙ ap (stored l.next l.store) c.in-Ok.ensures.datagram
    ∙ first-stored l.next l.store l.left.now (passing l.left.now (sym c.in-Ok.ensures.stop)).taken

pub loop-pdu-init : goal.loop-pdu-init
loop-pdu-init c = record { none = offered-zero _ c.requires.1; whole = refl; numbers = c.requires.2; same = refl }

pub slice_bounds-left-count : goal.slice_bounds-left-count
slice_bounds-left-count c = inside c

pub slice_bounds-left-start : goal.slice_bounds-left-start
slice_bounds-left-start c = inside c

pub overflow_add-next : goal.overflow_add-next
overflow_add-next c =
    let past = (goal.at.overflow_add-next c).After-size in
    omega (arith, ap length (on past).pdus, c.loop-pdu.invariant.numbers)

pub loop-pdu-smaller : goal.loop-pdu-smaller
loop-pdu-smaller c =
    let past = (goal.at.loop-pdu-smaller c).After-size in
    (on past).shorter

pub loop-pdu-preserved : goal.loop-pdu-preserved
unfolding stored_all
loop-pdu-preserved c =
    let past = (goal.at.loop-pdu-preserved c).After-size in
    let l = c.loop-pdu in
    let o = on past in
    record {
      none = sym o.stop ∙ l.invariant.none;
      whole = c.store.auto.store ∙ l.invariant.whole;
      numbers = omega (arith, l.invariant.numbers, ap length o.pdus);
      same =
          ap (λ (s : List ℕ). stored_all (l.next + 1) s (bundle (part_behind l.left.now c.size.result))) (leaves past)
          ∙ ap (stored_all l.next l.store) (sym o.pdus)
          ∙ l.invariant.same;
    }

pub returns : goal.returns
unfolding stored_all
returns c =
    let l = c.loop-pdu in
    let stop = c.in_default.ensures.stop in
    let none = ended l.left.now l.invariant.none (λ z. some_number c.in_default.field-0 (stop ∙ z)) in
    ap (stored_all l.next l.store) (sym none) ∙ l.invariant.same
