-- The words of a type 0 body (01, "Type 0 body" and "A word is an 80-bit number").
use Rattle.std.specs.Prelude.{ℕ, ◌+◌, ◌-◌, ◌*◌, ◌/◌, Bool, cond, List, [], ◌∷◌, length, get_or, eqb, ltb, Option, Some, None}
use Rattle.wire.specs.Table.{read}
use Rattle.pdu.specs.Numbers.{body_header, word_bytes}
use Rattle.pdu.specs.Tables.{word_table}
use Rattle.pdu.specs.declared.Word.{Word}

-- how many whole words stand behind the header of a body of n bytes
abbrev pub words_in : ℕ → ℕ
words_in n = (n - body_header) / word_bytes

-- whether n bytes are a header and whole words, and nothing else
abbrev pub whole_words : ℕ → Bool
whole_words n = eqb n (body_header + word_bytes * words_in n)

-- a word from the values of its table; value 0 is left out
abbrev pub word_from : List ℕ → Word
word_from v = record { format = get_or v 3 0; label = get_or v 2 0; sublabel = get_or v 1 0 }

-- word i of a body, or nothing where the body has no such word
unfoldable pub word_at : List ℕ → ℕ → Option Word
word_at body i = cond (ltb i (words_in (length body))) (Some (word_from (read (body_header + word_bytes * i) word_table body))) None

-- the values of each answer about a word: format, label and sublabel (01 has no number for a word that is not there)
abbrev pub word_says : Option Word → List ℕ
word_says None = []
word_says (Some w) = w.format ∷ w.label ∷ w.sublabel ∷ []
