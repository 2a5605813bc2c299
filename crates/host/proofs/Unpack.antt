-- What is packed comes out again: a size of 32 bits lies below the number. By arithmetic.
-- Assumes nothing.
use Prim.Native.Nat.{ℕ, ◌<◌, ◌^◌}
use native.Mathlib.Omega.{arith}
use Rattle.host.specs.Answer.{packed}
use Rattle.host.specs.Plain.{Unpacked}

pub unpacked : (number size : ℕ) → size < 2 ^ 32 → Unpacked number size (packed number size)
unpacked number size fits = record { upper = omega arith; lower = omega arith }
