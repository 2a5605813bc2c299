-- `count_pdus` meets its contract: what stops the slice is what stops the rest of it, and its PDUs are those passed and those of that rest (`onward` is
-- one turn).
use Prim.Native.Nat.{◌+◌, ◌≤◌}
use mathlib.Core.Path.{◌≡◌}
use lib.ListN.{length}
use Rattle.trunk.specs.Bundle.{slice_stop, bundle}
use Rattle.trunk.proofs.near_end.count_pdus.Given as goal

abbrev pub invariant-loop-rest : goal.invariant-loop-rest
invariant-loop-rest l = record {
  few : l.pdus + length l.rest ≤ length l.datagram;
  stop : slice_stop l.datagram ≡ slice_stop l.rest;
  pdus : length (bundle l.datagram) ≡ l.pdus + length (bundle l.rest);
}

abbrev pub decreases-loop-rest : goal.decreases-loop-rest
decreases-loop-rest l = length l.rest
