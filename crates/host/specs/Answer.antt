-- The answer to the C host: document 01's number above, the size below, 32 bits each.
use Rattle.std.specs.Prelude.{ℕ, ◌+◌, ◌*◌, ◌^◌, Result, Ok, Err}

-- number in the upper 32 bits, size in the lower 32
abbrev pub packed : ℕ → ℕ → ℕ
packed number size = number * 2 ^ 32 + size

-- what is taken has the number 0, and a refusal the size 0
abbrev pub packed_answer : Result ℕ ℕ → ℕ
packed_answer (Ok size) = packed 0 size
packed_answer (Err number) = packed number 0
