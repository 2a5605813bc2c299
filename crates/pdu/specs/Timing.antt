-- The field of round-trip timing (02, R-1; 001, Tables 5.2.5 and 5.2.6).
use Rattle.std.specs.Prelude.{ℕ, cond, List, [], ◌∷◌, length, get_or, ltb, Option, Some, None}
use Rattle.wire.specs.Table.{read}
use Rattle.pdu.specs.Numbers.{timing_bytes}
use Rattle.pdu.specs.Tables.{timing_slots}

-- what a body holds as round-trip timing: the one kept field, of 35 bits; or nothing where it is too short
unfoldable pub timing_at : List ℕ → Option ℕ
timing_at body = cond (ltb (length body) timing_bytes) None (Some (get_or (read 0 (timing_slots timing_bytes) body) 0 0))

-- the value of each answer about it (02 has no number for a body that is too short)
abbrev pub timing_says : Option ℕ → List ℕ
timing_says None = []
timing_says (Some number) = number ∷ []
