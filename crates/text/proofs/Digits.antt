-- What two digits more do to the bytes that digits write, and a byte more to the digits of bytes.
use Rattle.std.proofs.Common.{◌≡◌, ℕ, ◌+◌, ◌*◌, ◌<◌, ◌≤◌, ◌++◌, List, ◌∷◌, length, get_or, set, drop, take, refl, sym, ◌∙◌}
use Rattle.std.proofs.Common.{suc, arith, drop-cons, append_assoc, append-nil}
use Rattle.std.proofs.Common.{[], ◌/◌, ◌%◌, false, All}
use Rattle.std.proofs.lemmas.List.{drop_all, length-set, take_more, take_more_set}
use Rattle.std.proofs.lemmas.List.Elements.{All-from_get_or, All-head, All-tail}
use Rattle.std.proofs.lemmas.Str.{IsUtf8-from_ascii}
use Rattle.std.proofs.lemmas.Str.Ascii.{IsAscii-cons, IsAscii-nil}
use Rattle.std.specs.Fmt.{digit_glyph}
use Rattle.std.specs.Str.{IsAscii, IsUtf8}
use Rattle.text.specs.Hex.{hex_value, bytes_of, digits_of}

-- the byte of the two digits at i
abbrev pub byte_at : ℕ → List ℕ → ℕ
byte_at i xs = 16 * hex_value (get_or xs i 0) + hex_value (get_or xs (i + 1) 0)

-- the first byte of those left
bytes_of-drop : (i : ℕ) (xs : List ℕ) → i + 1 < length xs → bytes_of (drop i xs) ≡ byte_at i xs ∷ bytes_of (drop (i + 2) xs)
bytes_of-drop i xs h =
    let first : i < length xs = omega arith in
    let second : suc i < length xs = omega arith in
    let next : i + 1 ≡ suc i = omega arith in
    let behind : i + 2 ≡ suc (suc i) = omega arith in
    rw (next, behind, drop-cons xs i 0, drop-cons xs (suc i) 0) refl

-- it goes behind the bytes so far
pub byte_more : (i b : ℕ) (out text : List ℕ) → i < length out → 2 * i + 1 < length text → b ≡ byte_at (2 * i) text →
    take i out ++ bytes_of (drop (2 * i) text) ≡ bytes_of text → take (i + 1) (set out i b) ++ bytes_of (drop (2 * (i + 1)) text) ≡ bytes_of text
byte_more i b out text room more is so_far =
    let two : 2 * (i + 1) ≡ 2 * i + 2 = omega arith in
    rw (two, take_more_set out i b, append_assoc, is, ← bytes_of-drop (2 * i) text more) so_far

-- all bytes are there
pub bytes_whole : (n : ℕ) (out text : List ℕ) → length text ≤ 2 * n →
    take n out ++ bytes_of (drop (2 * n) text) ≡ bytes_of text → take n out ≡ bytes_of text
bytes_whole n out text end so_far = sym (append-nil (take n out)) ∙ (rw (drop_all (2 * n) text) at so_far)

-- the digits of bytes and of those behind them
pub digits_of-append : (xs ys : List ℕ) → digits_of (xs ++ ys) ≡ digits_of xs ++ digits_of ys
digits_of-append [] ys = refl
digits_of-append (x ∷ xs) ys = rw (digits_of-append xs ys) refl

-- the digits of a byte go behind those of the bytes so far
pub digits_more : (i high low : ℕ) (s out : List ℕ) → i < length s → 2 * i + 1 < length out →
    high ≡ digit_glyph false (get_or s i 0 / 16) → low ≡ digit_glyph false (get_or s i 0 % 16) → take (2 * i) out ≡ digits_of (take i s) →
    take (2 * (i + 1)) (set (set out (2 * i) high) (2 * i + 1) low) ≡ digits_of (take (i + 1) s)
digits_more i high low s out here room is_high is_low so_far =
    let two : 2 * (i + 1) ≡ 2 * i + 1 + 1 = omega arith in
    let first = take_more_set out (2 * i) high (omega arith) in
    let kept : 2 * i + 1 < length (set out (2 * i) high) = rw (length-set out (2 * i) high) room in
    let second = take_more_set (set out (2 * i) high) (2 * i + 1) low kept in
    rw (two, second, first, so_far, append_assoc, take_more s i 0 here, digits_of-append, is_high, is_low) refl

-- digits are text
glyph_ascii : (n : ℕ) → n < 16 → digit_glyph false n < 128
glyph_ascii n small = grind (arith)

digits_ascii : (xs : List ℕ) → All (λ b. b < 256) xs → IsAscii (digits_of xs)
digits_ascii [] bytes = IsAscii-nil
digits_ascii (b ∷ xs) bytes =
    let byte : b < 256 = All-head (λ x. x < 256) b xs bytes in
    let rest = digits_ascii xs (All-tail (λ x. x < 256) b xs bytes) in
    let low = IsAscii-cons (digit_glyph false (b % 16)) (digits_of xs) (glyph_ascii (b % 16) (omega arith)) rest in
    IsAscii-cons (digit_glyph false (b / 16)) (digit_glyph false (b % 16) ∷ digits_of xs) (glyph_ascii (b / 16) (omega arith)) low

pub digits_utf8 : (xs : List ℕ) → ((i : ℕ) → get_or xs i 0 < 256) → IsUtf8 (digits_of xs)
digits_utf8 xs bytes = IsUtf8-from_ascii _ (digits_ascii xs (All-from_get_or (λ b. b < 256) xs 0 (λ k _. bytes k)))
