-- A slice walked from the front, for the proofs of the code: one PDU further (`onward`), and where it ends (`ended`). By the
-- laws of one turn of the walk.
-- Assumes nothing.
use Prim.Native.Nat.{ℕ, ◌-◌, ◌≤◌, ◌<◌}
use mathlib.Core.Path.{◌≡◌, refl, sym, ap, ◌∙◌}
use mathlib.Core.Bool.{Bool, true, false}
use mathlib.Core.Logic.{◌≢◌}
use mathlib.Core.List.{List, [], ◌∷◌}
use lib.ListN.{length, take, drop, length-drop}
use lib.Seq.{take_all}
use lib.Dec.{eqb}
use native.Mathlib.Omega.{arith}
use borrow.Author.Tests.{eqb-true, eqb-false}
use Rattle.pdu.specs.Reading.{reading, used}
use Rattle.pdu.proofs.BundleLaws.{used-fits, used_some}
use Rattle.trunk.specs.Bundle.{first_pdu, stop_of, slice_stop, bundle}
use Rattle.trunk.proofs.BundleLaws.{passing, slice_end, slice_here, slice_next}

-- what is left of a slice from a place on, as a part that is lent
rest_part : (at : ℕ) (d : List ℕ) → take (length d - at) (drop at d) ≡ drop at d
rest_part at d = take_all (length d - at) (drop at d) (rw (length-drop at d) (omega arith))

-- the part behind its first n bytes, as the code takes it
abbrev pub part_behind : List ℕ → ℕ → List ℕ
part_behind d n = take (length d - n) (drop n d)

-- one PDU further
pub record Onward (d rest : List ℕ) : Type 0 where
  pub inside : used d ≤ length d
  pub shorter : length rest < length d
  pub stop : slice_stop d ≡ slice_stop rest
  pub pdus : bundle d ≡ first_pdu d ∷ bundle rest

pub onward : (d : List ℕ) (n : ℕ) → stop_of (reading d) ≡ 0 → n ≡ used d → Onward d (part_behind d n)
onward d n go size =
    let p = passing d go in
    let turn = slice_next d (omega (arith, used-fits d p.taken, used_some d p.taken)) go in
    let rest : drop (used d) d ≡ part_behind d n = ap (λ (k : ℕ). drop k d) (sym size) ∙ sym (rest_part n d) in
    record {
      inside = used-fits d p.taken;
      shorter = omega (arith, ap length (sym rest), length-drop (used d) d, used_some d p.taken, used-fits d p.taken);
      stop = turn.0 ∙ ap slice_stop rest;
      pdus = turn.1 ∙ ap (λ (l : List ℕ). first_pdu d ∷ bundle l) rest;
    }

-- a slice that nothing stops, where its first PDU is stopped: it is empty
pub ended : (d : List ℕ) → slice_stop d ≡ 0 → stop_of (reading d) ≢ 0 → bundle d ≡ []
ended d none stop = by (eqb (length d) 0) refl
  where
    by : (b : Bool) → eqb (length d) 0 ≡ b → bundle d ≡ []
    by true e = (slice_end d (eqb-true _ _ e)).1
    by false e =
        let some = eqb-false _ _ e in
        absurd (stop (sym (slice_here d (omega arith) stop).0 ∙ none))

-- a slice that is not empty, by the test of the code
pub some_left : (d : List ℕ) → false ≡ eqb (length d) 0 → 0 < length d
some_left d test =
    let other = eqb-false _ _ (sym test) in
    omega arith
