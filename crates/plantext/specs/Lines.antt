-- What a line says: a rate, a dash, or a block as `SET FIRST RATE`.
use Rattle.std.specs.Prelude.{ℕ, ◌≡◌, ◌≢◌, ◌⊎◌, Bool, cond, ◌&&◌, ◌==◌, List, [], ◌∷◌, ◌++◌, Option, Some, None, length, ltb, codes, bytes_eq}
use Rattle.std.specs.List.{position_or_len, before_first, after_first}
use Rattle.std.specs.Str.{all_ascii_digits}
use Rattle.std.specs.Str.Parse.{digits_value}
use Rattle.plantext.specs.declared.line.Line.{Line}
use Rattle.plantext.specs.declared.line.Line.TheVariants.{Rate, Dash, Block}

-- the number that a word of digits alone writes, where it is below a limit
abbrev pub number_below : ℕ → List ℕ → Option ℕ
number_below limit word =
    cond (ltb 0 (length word) && all_ascii_digits word && ltb (digits_value 10 word) limit) (Some (digits_value 10 word)) None

-- a first index is two bytes, and a rate one
abbrev pub first_of : List ℕ → Option ℕ
first_of word = number_below 65536 word

abbrev pub rate_of : List ℕ → Option ℕ
rate_of word = number_below 256 word

-- the set of a letter
abbrev pub set_of : List ℕ → Option ℕ
set_of word =
    cond (bytes_eq word (codes "A")) (Some 0)
    (cond (bytes_eq word (codes "B")) (Some 1)
    (cond (bytes_eq word (codes "C")) (Some 2) None))

-- whether a text has a space, and what stands before its first one and behind it
abbrev pub spaced : List ℕ → Bool
spaced text = ltb (position_or_len (λ b. b == 32) text) (length text)

abbrev pub word_of : List ℕ → List ℕ
word_of text = before_first (λ b. b == 32) text

abbrev pub others_of : List ℕ → List ℕ
others_of text = after_first (λ b. b == 32) text

-- a line of one word
abbrev pub rate_line : Option ℕ → Option Line
rate_line (Some rate) = Some (Rate rate)
rate_line None = None

abbrev pub single_of : List ℕ → Option Line
single_of word = cond (bytes_eq word (codes "-")) (Some Dash) (rate_line (rate_of word))

-- a line of a set's letter and two more words
abbrev pub block_line : Option ℕ → Option ℕ → Option ℕ → Option Line
block_line (Some set) (Some first) (Some rate) = Some (Block set first rate)
block_line (Some set) (Some first) None = None
block_line (Some set) None rate = None
block_line None first rate = None

abbrev pub block_of : List ℕ → List ℕ → Option Line
block_of letter numbers =
    cond (spaced numbers) (block_line (set_of letter) (first_of (word_of numbers)) (rate_of (others_of numbers))) None

-- what a line says, or none where it cannot be read
abbrev pub line_of : List ℕ → Option Line
line_of text = cond (spaced text) (block_of (word_of text) (others_of text)) (single_of text)

-- what stands before a line's end, which the last line may lack
abbrev pub IsTextOf : List ℕ → List ℕ → Type 0
IsTextOf line text = (line ≡ text ++ 10 ∷ []) ⊎ ((line ≡ text) × ((front : List ℕ) → line ≢ front ++ 10 ∷ []))
