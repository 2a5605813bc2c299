-- Writing a record: the refusals in document 01's order, what the call answers, and what it leaves in the lent output.
use Rattle.std.specs.Prelude.{ℕ, ◌-◌, Bool, true, cond, ◌&&◌, List, [], ◌∷◌, ◌++◌, length, drop, eqb, ltb, Option, Some, None, Result, Ok, Err}
use Rattle.wire.specs.First.{Refusal, ◌given_when◌, first, told}
use Rattle.wire.specs.Table.{clear, all_blank}
use Rattle.pdu.specs.Refusals.{Refusal as Reason, number, named}
use Rattle.pdu.specs.Numbers
use Rattle.pdu.specs.Tables.{body_slots}
use Rattle.pdu.specs.Rules.{wrong_version, wrong_status, inner_rules}
use Rattle.pdu.specs.Forms.{table_of, bytes_of, size_of}
use Rattle.pdu.specs.Reading.{signal_of, body_size, content, body_of, form_rules, refusal, reading_says}
use Rattle.pdu.specs.declared.Header.{Header}
use Rattle.pdu.specs.declared.Reading.{Reading}
use Rattle.pdu.specs.declared.Reading.TheVariants.{Refused, Transmitter, Signal}

-- 2, and 52 (02, R-9), of a header to be written
abbrev pub head_rules : Header → List Refusal
head_rules h = (2 given_when wrong_version h.version) ∷ (52 given_when wrong_status h) ∷ []

-- the rules of a record: 2, 52, 9 of a Transmitter; 2, 52, 10, 131 to 138, 50, 14, 15 of a Signal. A refusal is no record
unfoldable pub record_rules : Reading → List Refusal
record_rules (Refused e) = (2 given_when true) ∷ []
record_rules (Transmitter t) = head_rules t.header ++ inner_rules (Transmitter t)
record_rules (Signal s n) =
    head_rules s.header
    ++ ((10 given_when ltb (Numbers.encoding_kept - 1) s.encoding) ∷ inner_rules (Signal s n))

-- "Writing: 2, then 9, 16 for a Transmitter or 10, 13, 14, 15, 16 for a Signal", with 131 to 138 for 13 (02, R-3) and 50 before 14 (R-4), 52
-- after 2 (R-9)
unfoldable pub writing_rules : Reading → ℕ → List Refusal
writing_rules r room = record_rules r ++ ((16 given_when ltb room (size_of r)) ∷ [])

-- the number of the first rule of writing that is broken, 0 where the record is written
abbrev pub writing_refusal : Reading → ℕ → ℕ
writing_refusal r room = first (writing_rules r room)

-- what writing a record answers, given the output's room
abbrev pub written : Reading → ℕ → Result ℕ Reason
written r room = cond (eqb (writing_refusal r room) 0) (Ok (size_of r)) (Err (named (writing_refusal r room)))

-- document 01's number, and the size written, of each answer of writing
abbrev pub written_says : Result ℕ Reason → List ℕ
written_says (Err e) = number e ∷ []
written_says (Ok n) = 0 ∷ n ∷ []

-- what writing says in document 01's numbers: the refusal's alone, or 0 and the size
abbrev pub writing_says : Reading → ℕ → List ℕ
writing_says r room = told (writing_refusal r room) (size_of r ∷ [])

-- what it leaves in the output: the PDU from its start and what stood behind it, or nothing changed where it is refused
abbrev pub output_after : Reading → List ℕ → List ℕ → List ℕ
output_after r body out =
    cond (eqb (writing_refusal r (length out)) 0) (bytes_of r body ++ drop (length (bytes_of r body)) out) out

-- ---- a datagram in written form

-- the written form of a taken datagram's first PDU: what writing gives of what reading answers
unfoldable pub written_form : List ℕ → List ℕ
written_form d = bytes_of (content d) (body_of d)

-- the first PDU of a taken datagram with padding zero, the fill included: a function of the table alone
unfoldable pub padding_zero : List ℕ → List ℕ
padding_zero d = clear 0 (table_of (content d)) d

-- whether the padding inside the body of a Signal is zero
abbrev pub body_blank : List ℕ → Bool
body_blank d = all_blank Numbers.body_start (body_slots (signal_of d).network.message_type (body_size d)) d

-- whether a datagram has this form's size and its padding is zero
abbrev pub only_form : Reading → List ℕ → Bool
only_form r d = eqb (length d) (size_of r) && all_blank 0 (table_of r) d

-- whether a datagram of this form breaks none of the form's rules, has nothing behind the PDU, and its padding is zero
abbrev pub written_as : Reading → List ℕ → Bool
written_as r d = eqb (first (form_rules r d)) 0 && only_form r d

-- whether a datagram is taken, has nothing behind its first PDU (02, R-5), and its padding is zero
unfoldable pub in_written_form : List ℕ → Bool
in_written_form d = eqb (refusal d) 0 && only_form (content d) d

-- what a datagram holds where it is in written form
unfoldable pub carried : List ℕ → Option Reading
carried d = cond (in_written_form d) (Some (content d)) None

-- the values of each answer about carried bytes: those of a PDU in written form (22, where there is none, is the trunk's number)
abbrev pub carried_says : Option Reading → List ℕ
carried_says None = []
carried_says (Some r) = reading_says r

-- what is said of carried bytes
abbrev pub carried_said : List ℕ → List ℕ
carried_said d = cond (in_written_form d) (reading_says (content d)) []
