-- A word's parts fill its ten bytes; and format, label and sublabel lie in the last two of these: the low ten bits of an 80-bit number are those of
-- its low sixteen.
-- Assumes nothing.
use Prim.Native.Nat.{ℕ, ◌+◌, ◌*◌, ◌/◌, ◌%◌}
use mathlib.Core.Path.{◌≡◌, refl, ap, ◌∙◌}
use mathlib.Core.Bool.{true}
use mathlib.Core.List.{List}
use native.Mathlib.Nat.{div-one}
use native.Mathlib.Omega.{arith}
use Rattle.wire.specs.Bytes.{num}
use Rattle.wire.specs.Table.{width, read, sound}
use Rattle.wire.proofs.ByteLaws.{num-split}
use Rattle.pdu.specs.Numbers.{word_bytes}
use Rattle.pdu.specs.Tables.{word_table}
use Rattle.pdu.specs.Words.{word_from}
use Rattle.pdu.specs.declared.Word.{Word}

-- a word's parts fill its ten bytes
pub word_sound : (sound word_table ≡ true) × (width word_table ≡ word_bytes)
word_sound = (refl, refl)

-- a field of the whole number is the field of its low sixteen bits
format_low : (h l : ℕ) → (h * 65536 + l) / 1 % 4 ≡ l % 4
format_low h l = rw (div-one (h * 65536 + l)) (omega arith)

label_low : (h l : ℕ) → (h * 65536 + l) / 4 % 32 ≡ l / 4 % 32
label_low h l =
    let quotient : (h * 65536 + l) / 4 ≡ h * 16384 + l / 4 = omega arith in
    rw quotient (omega arith)

sublabel_low : (h l : ℕ) → (h * 65536 + l) / 128 % 8 ≡ l / 128 % 8
sublabel_low h l =
    let quotient : (h * 65536 + l) / 128 ≡ h * 512 + l / 128 = omega arith in
    rw quotient (omega arith)

-- a word from these three parts
abbrev of_parts : ℕ → ℕ → ℕ → Word
of_parts format label sublabel = record { format = format; label = label; sublabel = sublabel }

-- so a word is read from the last two of its bytes
pub word_low :
    (o : ℕ) (d : List ℕ)
    → word_from (read o word_table d)
    ≡ record { format = num 2 (o + 8) d % 4; label = num 2 (o + 8) d / 4 % 32; sublabel = num 2 (o + 8) d / 128 % 8 }
word_low o d =
    let h : ℕ = num 8 o d in
    let l : ℕ = num 2 (o + 8) d in
    ap (λ (v : ℕ). of_parts (v / 1 % 4) (v / 4 % 32) (v / 128 % 8)) (num-split 8 2 o d)
    ∙ (λ i. of_parts (format_low h l i) (label_low h l i) (sublabel_low h l i))
