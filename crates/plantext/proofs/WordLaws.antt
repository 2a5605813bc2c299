-- What `parse` reads of a word with no sign is the number that its digits write.
-- Assumes nothing.
use Rattle.std.proofs.Common.{ℕ, ◌≡◌, ◌<◌, ap, ap₂, Bool, true, ◌&&◌, List, length, get_or, Some, Result, Ok, Err, ltb, lt-ltb, ltb-true}
use Rattle.std.proofs.lemmas.Bool.{and_parts, false_from_ne_true}
use Rattle.std.proofs.lemmas.Str.Parse.{IsNumeralModel, numerals_by_value, tells_all_ascii_digits, parse_plain}
use Rattle.std.specs.Result.{OkIff, result_ok}
use Rattle.std.specs.Str.{all_ascii_digits}
use Rattle.std.specs.Str.Parse.{digits_value, ParsesUnsigned}
use Rattle.plantext.specs.Lines.{first_of}

decimals : IsNumeralModel (λ ds. all_ascii_digits ds ≡ true) (digits_value 10)
decimals = numerals_by_value _ tells_all_ascii_digits

-- a word of digits alone, whose number is below 65,536, and the test of it
abbrev Written : List ℕ → Type 0
Written word = (all_ascii_digits word ≡ true) × (0 < length word) × (digits_value 10 word < 65536)

abbrev written : List ℕ → Bool
written word = ltb 0 (length word) && all_ascii_digits word && ltb (digits_value 10 word) 65536

is_written : (word : List ℕ) → Written word → written word ≡ true
is_written word p = ap₂ ◌&&◌ (ap₂ ◌&&◌ (lt-ltb _ _ p.1) p.0) (lt-ltb _ _ p.2)

was_written : (word : List ℕ) → written word ≡ true → Written word
was_written word e =
    let outer = and_parts (ltb 0 (length word) && all_ascii_digits word) (ltb (digits_value 10 word) 65536) e in
    let inner = and_parts (ltb 0 (length word)) (all_ascii_digits word) outer.0 in
    (inner.1, ltb-true _ _ inner.0, ltb-true _ _ outer.1)

as_read : {E : Type 0} (word : List ℕ) (r : Result ℕ E) → OkIff r (Written word) (digits_value 10 word) → result_ok r ≡ first_of word
as_read word (Ok x) h = rw (is_written word h.0) (ap Some h.1)
as_read word (Err e) none = rw (false_from_ne_true (written word) (λ t. none (was_written word t)))

pub first_parsed : {E : Type 0} (word : List ℕ) (r : Result ℕ E)
    → ParsesUnsigned 16 10 word r
    → (get_or word 0 0 ≡ 43 → ⊥)
    → result_ok r ≡ first_of word
first_parsed word r h plain = as_read word r (parse_plain decimals 16 word r h plain)
