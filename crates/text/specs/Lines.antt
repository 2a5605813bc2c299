-- The lines of an input.
use Rattle.std.specs.Prelude.{ℕ, ◌==◌, Bool}

abbrev pub is_line_end : ℕ → Bool
is_line_end c = c == 10
