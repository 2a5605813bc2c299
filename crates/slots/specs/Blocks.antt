-- Blocks of slots, the slots that a block has, and the four bytes that a block is written as (02, R-14).
use Rattle.std.specs.Prelude.{ℕ, ◌-◌, ◌*◌, ◌/◌, ◌%◌, ◌^◌, Bool, ◌&&◌, List, [], ◌∷◌, get_or, eqb}
use Rattle.wire.specs.Table.{Slot, kept, width, read, fill}
use Rattle.slots.specs.declared.Block.{Block}

-- "a set A, B or C"
abbrev pub set_count : ℕ
set_count = 3

-- "a rate r from 0 to 15"
abbrev pub top_rate : ℕ
top_rate = 15

-- a set's slots: one block of the highest rate
abbrev pub set_size : ℕ
set_size = 2 ^ top_rate

-- all slots
abbrev pub slot_count : ℕ
slot_count = set_count * set_size

-- "modulo 2^(15−r)"
abbrev pub modulus : ℕ → ℕ
modulus rate = 2 ^ (top_rate - rate)

-- "Slot number s is set s mod 3, index s div 3"
abbrev pub slot_set : ℕ → ℕ
slot_set s = s % set_count

abbrev pub slot_index : ℕ → ℕ
slot_index s = s / set_count

-- "the 2^r slots of that set whose index leaves the same remainder modulo 2^(15−r)"
abbrev pub has_slot : Block → ℕ → Bool
has_slot b s = eqb (slot_set s) b.set && eqb (slot_index s % modulus b.rate) b.first

-- a block in a plan's bytes: set, rate, first index
abbrev pub block_table : List Slot
block_table = kept 1 ∷ kept 1 ∷ kept 2 ∷ []

abbrev pub block_size : ℕ
block_size = width block_table

-- a block's values in that order, the block of such values, and its bytes
abbrev pub block_values : Block → List ℕ
block_values b = b.set ∷ b.rate ∷ b.first ∷ []

abbrev pub block_of : List ℕ → Block
block_of values = record { set = get_or values 0 0; rate = get_or values 1 0; first = get_or values 2 0 }

abbrev pub block_bytes : Block → List ℕ
block_bytes b = fill block_table (block_values b)

-- block i of a plan
abbrev pub block_at : List ℕ → ℕ → Block
block_at plan i = block_of (read (block_size * i) block_table plan)
