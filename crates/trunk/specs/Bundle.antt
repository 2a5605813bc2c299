-- Several PDUs in one datagram (02, R-5): the PDUs of a slice from the front, each behind the one before, and the number that stops them.
use Rattle.std.specs.Prelude.{ℕ, zero, suc, cond, not, List, [], ◌∷◌, length, take, drop, eqb, is_none}
use Rattle.wire.specs.First.{◌given_when◌, first}
use Rattle.pdu.specs.Reading.{reading, used, number_of}
use Rattle.pdu.specs.declared.Reading.{Reading}
use Rattle.trunk.specs.Kinds.{kind_of}

-- the first PDU of a slice, by "how many bytes it used", and what stands behind it, which is the next one's slice
abbrev pub first_pdu : List ℕ → List ℕ
first_pdu d = take (used d) d

abbrev pub behind_first : List ℕ → List ℕ
behind_first d = drop (used d) d

-- the number that stops a PDU, by what was read, or 0: "that the reader refuses or 23 stops"
unfoldable pub stop_of : Reading → ℕ
stop_of answer = first ((number_of answer given_when not (eqb (number_of answer) 0)) ∷ (23 given_when is_none (kind_of answer)) ∷ [])

-- "the number of the first PDU, from the front", that is stopped, or 0, of n PDUs at most
unfoldable pub stop_in : ℕ → List ℕ → ℕ
stop_in zero d = 0
stop_in (suc n) d =
    cond (eqb (length d) 0) 0 (cond (eqb (stop_of (reading d)) 0) (stop_in n (behind_first d)) (stop_of (reading d)))

-- the PDUs of a slice from the front, up to the first that is stopped, n at most
unfoldable pub pdus_in : ℕ → List ℕ → List (List ℕ)
pdus_in zero d = []
pdus_in (suc n) d =
    cond (eqb (length d) 0) [] (cond (eqb (stop_of (reading d)) 0) (first_pdu d ∷ pdus_in n (behind_first d)) [])

-- how many PDUs a slice has at most: each has a byte at least
abbrev pub turns : List ℕ → ℕ
turns d = length d

-- of a whole slice, to its end
unfoldable pub bundle : List ℕ → List (List ℕ)
bundle d = pdus_in (turns d) d

unfoldable pub slice_stop : List ℕ → ℕ
slice_stop d = stop_in (turns d) d

-- of a slice that is offered: "an empty slice is 1"
unfoldable pub bundle_stop : List ℕ → ℕ
bundle_stop d = cond (eqb (length d) 0) 1 (slice_stop d)
