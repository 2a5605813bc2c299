-- The words of a line: what stands between its spaces. A space at the end has an empty word behind it.
use Rattle.std.specs.Prelude.{ℕ, ◌+◌, ◌==◌, Bool, List, length, take, drop, Option, Some, None, option_map, option_and_then, unwrap_or, position, SomeIff, IsNone}

abbrev pub is_space : ℕ → Bool
is_space c = c == 32

-- the first word of a text
abbrev pub first_word : List ℕ → List ℕ
first_word text = take (unwrap_or (position is_space text) (length text)) text

-- what stands behind the first word and one space, where there is a space
abbrev pub behind_word : List ℕ → Option (List ℕ)
behind_word text = option_map (λ i. drop (i + 1) text) (position is_space text)

-- the next word of what is left of a line, of which nothing is left behind the last word
abbrev pub next_word : Option (List ℕ) → Option (List ℕ)
next_word left = option_map first_word left

-- what is left then
abbrev pub left_behind : Option (List ℕ) → Option (List ℕ)
left_behind left = option_and_then behind_word left

-- what a word gives that must be of a form: its value
abbrev pub Reads : {T : Type 0} → (List ℕ → Type 0) → (List ℕ → T) → Option (List ℕ) → Option T → Type 0
Reads Form value None r = IsNone r
Reads Form value (Some word) r = SomeIff r (Form word) (value word)
