-- Big-endian numbers in a list of bytes, and writing over a part of a buffer.
use Rattle.std.specs.Prelude.{ℕ, zero, suc, ◌+◌, ◌-◌, ◌*◌, ◌/◌, ◌%◌, ◌<◌, Bool, true, ◌&&◌, List, [], ◌∷◌, ◌++◌, get_or, take, drop, eqb}
use Rattle.std.proofs.lemmas.List.Edits.{sets}

-- the number in the w bytes of d from byte o on, most significant first (01: numbers are big-endian)
abbrev pub num : ℕ → ℕ → List ℕ → ℕ
num zero o d = 0
num (suc w) o d = num w o d * 256 + get_or d (o + w) 0

-- the w bytes of the number v, most significant first
abbrev pub big : ℕ → ℕ → List ℕ
big zero v = []
big (suc w) v = big w (v / 256) ++ (v % 256 ∷ [])

-- numbers of w bytes each, side by side
abbrev pub row : ℕ → List ℕ → List ℕ
row w [] = []
row w (v ∷ vs) = big w v ++ row w vs

-- buffer with bytes written over it from place at on; what would pass its end is left out
abbrev pub splice : ℕ → List ℕ → List ℕ → List ℕ
splice at bytes buffer = sets buffer at bytes

-- bytes a to b of d, b left out
abbrev pub span : ℕ → ℕ → List ℕ → List ℕ
span a b d = take (b - a) (drop a d)

-- pieces end to end
abbrev pub joined : List (List ℕ) → List ℕ
joined [] = []
joined (p ∷ ps) = p ++ joined ps

-- whether every byte is zero
abbrev pub all_zero : List ℕ → Bool
all_zero [] = true
all_zero (x ∷ xs) = eqb x 0 && all_zero xs

-- every element of d is a byte
abbrev pub Bytes : List ℕ → Type 0
Bytes d = (i : ℕ) → get_or d i 0 < 256
