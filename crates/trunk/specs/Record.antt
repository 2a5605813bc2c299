-- A record's bytes, its parts, and the rules on it (01, "The numbers", 20, 21, 22, 25, 29).
use Rattle.std.specs.Prelude.{ℕ, Bool, cond, not, ◌&&◌, List, [], ◌∷◌, ◌++◌, length, drop, eqb, ltb, is_none, Result, Ok, Err}
use Rattle.wire.specs.First.{Refusal, ◌given_when◌, first, told}
use Rattle.pdu.specs.Reading.{reading}
use Rattle.pdu.specs.Writing.{in_written_form}
use Rattle.trunk.specs.Refusals.{Refusal as Reason, number, answered}
use Rattle.trunk.specs.Head.{head_size, head_at, head_bytes}
use Rattle.trunk.specs.Kinds.{load, is_reply_load, record_size, reply_kind, kind_of, is_kind}
use Rattle.trunk.specs.declared.Head.{Head}
use Rattle.trunk.specs.declared.Checked.{Checked}
use Rattle.trunk.specs.declared.Checked.TheVariants.{Reply, Pdu}

-- the head of a kind and a number
abbrev pub head_for : ℕ → ℕ → Head
head_for kind number = record { kind = kind; number = number }

-- the record with this head that carries these bytes: "then the PDU as the writer gives it"
unfoldable pub record_of : Head → List ℕ → List ℕ
record_of head pdu = head_bytes head ++ pdu

-- the reply with this number
abbrev pub reply_of : ℕ → List ℕ
reply_of number = record_of (head_for reply_kind number) []

-- a record's kind, number and carried bytes
abbrev pub kind_in : List ℕ → ℕ
kind_in r = (head_at 0 r).kind

abbrev pub number_in : List ℕ → ℕ
number_in r = (head_at 0 r).number

abbrev pub carried_in : List ℕ → List ℕ
carried_in r = drop head_size r

-- the number that no PDU takes (25), and that no count passes
abbrev pub last_number : ℕ
last_number = 4294967295

-- ---- the rules

-- 20: "first byte present, but no known trunk kind"
unfoldable pub unknown_kind : List ℕ → Bool
unknown_kind r = ltb 0 (length r) && is_none (load (kind_in r))

-- 21: "record empty, or not the length of its kind"
unfoldable pub wrong_size : List ℕ → Bool
wrong_size r = not (eqb (length r) (record_size (kind_in r)))

-- whether a record is a reply (29 where a PDU belongs; its reverse where a reply belongs)
unfoldable pub is_reply : List ℕ → Bool
is_reply r = is_reply_load (load (kind_in r))

-- 25: "a PDU record with that number"
unfoldable pub last_of_all : List ℕ → Bool
last_of_all r = not (is_reply r) && eqb (number_in r) last_number

-- 22: "carried bytes are not what the writer would give, or not a PDU of that kind"
unfoldable pub wrong_carried : List ℕ → Bool
wrong_carried r = not (is_reply r) && not (in_written_form (carried_in r) && is_kind (kind_of (reading (carried_in r))) (kind_in r))

-- the rules on a record's form, with which every call that takes a record begins
unfoldable pub form_rules : List ℕ → List Refusal
form_rules r = (20 given_when unknown_kind r) ∷ (21 given_when wrong_size r) ∷ []

-- the rules on the PDU of a record
unfoldable pub pdu_rules : List ℕ → List Refusal
pdu_rules r = (25 given_when last_of_all r) ∷ (22 given_when wrong_carried r) ∷ []

-- ---- the check

-- "The lister and the host's check test 20, 21, 25, 22"
abbrev pub check_rules : List ℕ → List Refusal
check_rules r = form_rules r ++ pdu_rules r

-- what a record is that breaks none, and what checking a record answers
abbrev pub taken : List ℕ → Checked
taken r = cond (is_reply r) (Reply (number_in r) (length r)) (Pdu (kind_in r) (number_in r) (length r))

unfoldable pub checked : List ℕ → Result Checked Reason
checked r = answered (first (check_rules r)) (taken r)

-- document 01's number and values of each answer: 0, and the record's kind, number and size
abbrev pub checked_says : Result Checked Reason → List ℕ
checked_says (Err e) = number e ∷ []
checked_says (Ok (Reply number size)) = 0 ∷ reply_kind ∷ number ∷ size ∷ []
checked_says (Ok (Pdu kind number size)) = 0 ∷ kind ∷ number ∷ size ∷ []

-- what a check says in document 01's numbers: the refusal's alone, or 0 and the record's kind, number and size
abbrev pub check_says : List ℕ → List ℕ
check_says r = told (first (check_rules r)) (kind_in r ∷ number_in r ∷ length r ∷ [])

-- document 01's number and size for each answer of a check
abbrev pub number_of_checked : Result Checked Reason → ℕ
number_of_checked (Err e) = number e
number_of_checked (Ok (Reply number size)) = 0
number_of_checked (Ok (Pdu kind number size)) = 0

abbrev pub size_of_checked : Result Checked Reason → ℕ
size_of_checked (Err e) = 0
size_of_checked (Ok (Reply number size)) = size
size_of_checked (Ok (Pdu kind number size)) = size
