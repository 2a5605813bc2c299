-- A record's head (01, "The trunk"): one table, from which its width, its reading and its bytes follow.
use Rattle.std.specs.Prelude.{ℕ, List, [], ◌∷◌, get_or}
use Rattle.wire.specs.Table.{Slot, kept, width, read, fill}
use Rattle.trunk.specs.declared.Head.{Head}

-- "A record is one byte of kind, then .. a 4-byte number"
abbrev pub head_table : List Slot
head_table = kept 1 ∷ kept 4 ∷ []

-- how many bytes it has
abbrev pub head_size : ℕ
head_size = width head_table

-- the head with these values of the table, and the values of a head
abbrev pub head_of : List ℕ → Head
head_of v = record { kind = get_or v 0 0; number = get_or v 1 0 }

abbrev pub head_values : Head → List ℕ
head_values h = h.kind ∷ h.number ∷ []

-- the head that starts at byte o
abbrev pub head_at : ℕ → List ℕ → Head
head_at o r = head_of (read o head_table r)

-- the bytes of a head
abbrev pub head_bytes : Head → List ℕ
head_bytes h = fill head_table (head_values h)
