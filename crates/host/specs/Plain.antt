-- What a C host takes out of an answer (host/altuvrin.h): the upper 32 bits and the lower 32.
use Rattle.std.specs.Prelude.{ℕ, ◌/◌, ◌%◌, ◌≡◌}

pub record Unpacked (number size answer : ℕ) : Type 0 where
  pub upper : answer / 4294967296 ≡ number
  pub lower : answer % 4294967296 ≡ size
