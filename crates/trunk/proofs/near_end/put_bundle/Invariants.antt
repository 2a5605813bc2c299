-- `put_bundle` meets its contract: at each turn, what is stored of the rest of the slice, under the numbers from `next` on, makes the store what the
-- whole slice makes it (`onward` is one turn).
use Prim.Native.Nat.{◌+◌, ◌≤◌}
use mathlib.Core.Path.{◌≡◌}
use lib.ListN.{length}
use Rattle.trunk.specs.Record.{last_number}
use Rattle.trunk.specs.Bundle.{slice_stop, bundle}
use Rattle.trunk.specs.Near.{stored_all}
use Rattle.trunk.proofs.near_end.put_bundle.Given as goal

abbrev pub invariant-loop-pdu : goal.invariant-loop-pdu
invariant-loop-pdu l = record {
  none : slice_stop l.left ≡ 0;
  whole : length l.store ≡ length l.initial.store;
  numbers : l.next + length (bundle l.left) ≤ last_number;
  same : stored_all l.next l.store (bundle l.left) ≡ stored_all l.number l.initial.store (bundle l.datagram);
}

abbrev pub decreases-loop-pdu : goal.decreases-loop-pdu
decreases-loop-pdu l = length l.left
