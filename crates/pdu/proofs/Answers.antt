-- What reading answers, by the refusal number and by what the datagram holds (`reads_as`, `refuses_as`); and `taken_exactly_when`: a datagram is
-- taken exactly where document 01's plain rules hold, its refusal is the number of the first that does not, and what is taken is what the table
-- gives. By the verdicts on the two lists of rules. Archive reading alike, by the same rules without 50.
-- Assumes nothing.
use Prim.Native.Nat.{ℕ}
use mathlib.Core.Path.{◌≡◌, refl, sym, ap, ap₂, subst, ◌∙◌}
use mathlib.Core.Logic.Iff
use mathlib.Core.Logic.{◌↔◌, ◌≢◌}
use mathlib.Core.Bool.{Bool, true, false, cond}
use mathlib.Core.List.{List, [], ◌∷◌, ◌++◌}
use lib.Dec.{eqb}
use borrow.Author.Tests.{eqb-true, eqb-false, eq-eqb, ne_eqb}
use native.Mathlib.Omega.{arith}
use Rattle.std.specs.Prelude.{Ok, Err}
use Rattle.wire.specs.Bytes.{num}
use Rattle.wire.specs.First.{Refusal as Test, first}
use Rattle.wire.specs.Rules.{Rule, Met, Verdict}
use Rattle.wire.proofs.FirstLaws.{lacks-without}
use Rattle.pdu.specs.Refusals.{Refusal, number, named, is_number, all_numbers, RefusedBy}
use Rattle.pdu.specs.Rules.{access_rules, slot_rules, network_rules, live_rules, body_rules, inner_rules}
use Rattle.pdu.specs.Forms.{size_of}
use Rattle.pdu.specs.Reading.{transmitter_of, signal_of, body_size, says_transmitter, content, reading_rules, refusal, answer_by, reading}
use Rattle.pdu.specs.Reading.{start_rules, transmitter_layout, signal_layout, form_rules}
use Rattle.pdu.specs.Reading.{RefusedAs, number_of, answer_of, values_held, reading_says, said_by, read_says, archive_rules, archive_refusal, archive_reading}
use Rattle.pdu.specs.Writing.{record_rules, writing_rules, writing_refusal, written, written_says, writing_says}
use Rattle.pdu.specs.Plain.{plain_transmitter, plain_signal, plain_archive, plain_transmitter_writing, plain_signal_writing, TakenBy}
use Rattle.pdu.specs.Plain.{TakenExactly, ArchivedExactly, WrittenExactly}
use Rattle.pdu.specs.declared.Transmitter.{Transmitter}
use Rattle.pdu.specs.declared.Signal.{Signal}
use Rattle.pdu.specs.declared.Reading.{Reading}
use Rattle.pdu.specs.declared.Reading.TheVariants.{Refused, Transmitter as a_transmitter, Signal as a_signal}
use Rattle.pdu.proofs.RefusalLaws.{named-number, named_by, not_none, number-first}
use Rattle.pdu.proofs.Agreement.{content-transmitter, content-signal, transmitter-verdict, signal-verdict, transmitter-archive, signal-archive}
use Rattle.pdu.proofs.Agreement.{transmitter_writing, signal_writing}

-- an answer that is no refusal
abbrev pub Holds : Reading → Type 0
Holds (Refused e) = ⊥
Holds (a_transmitter t) = Unit {0}
Holds (a_signal s n) = Unit {0}

-- ---- the numbers that the rules give

-- a number that is a refusal's, where it is not 0
abbrev pub Known : ℕ → Type 0
Known n = n ≢ 0 → number (named n) ≡ n

-- each rule of reading a datagram of some form, and of writing a record, gives a refusal's number
reading_numbers : (d : List ℕ) (r : Reading) → all_numbers (start_rules d ++ form_rules r d) ≡ true
unfolding start_rules transmitter_layout signal_layout inner_rules live_rules network_rules access_rules slot_rules body_rules is_number named
reading_numbers d (Refused e) = refl
reading_numbers d (a_transmitter t) = refl
reading_numbers d (a_signal s n) = refl

writing_numbers : (r : Reading) (room : ℕ) → all_numbers (writing_rules r room) ≡ true
unfolding writing_rules record_rules inner_rules live_rules network_rules access_rules slot_rules body_rules is_number named
writing_numbers (Refused e) room = refl
writing_numbers (a_transmitter t) room = refl
writing_numbers (a_signal s n) room = refl

pub refusal_known : (d : List ℕ) → Known (refusal d)
unfolding refusal reading_rules
refusal_known d = number-first (reading_rules d) (reading_numbers d (content d))

pub archive_known : (d : List ℕ) → Known (archive_refusal d)
unfolding archive_refusal archive_rules reading_rules
archive_known d = number-first (archive_rules d) (lacks-without _ 50 (reading_rules d) (reading_numbers d (content d)))

pub writing_known : (r : Reading) (room : ℕ) → Known (writing_refusal r room)
writing_known r room = number-first (writing_rules r room) (writing_numbers r room)

-- ---- what is answered by a refusal number, of reading and of writing alike: a value where it is 0, else the refusal of that number

-- what holds of the answer: of the value where it is given, and of the refusal
by_number : {A : Type 0} (n : ℕ) (value : A) (refuse : Refusal → A) (Of : A → Type 0)
    → (n ≡ 0 → Of value)
    → (n ≢ 0 → Of (refuse (named n)))
    → Of (cond (eqb n 0) value (refuse (named n)))
by_number n value refuse Of none some = by (eqb n 0) refl
  where
    by : (b : Bool) → eqb n 0 ≡ b → Of (cond b value (refuse (named n)))
    by true t = none (eqb-true _ _ t)
    by false t = some (eqb-false _ _ t)

-- it is a refusal of the number k, in whatever words, exactly where k is the number and not 0
refused_by : {A : Type 0} (n k : ℕ) (value : A) (refuse : Refusal → A) (As : A → Type 0)
    → Known n
    → (As value → ⊥)
    → ((e : Refusal) → As (refuse e) ↔ (number e ≡ k))
    → As (cond (eqb n 0) value (refuse (named n))) ↔ ((n ≡ k) × (k ≢ 0))
refused_by n k value refuse As known never same =
    by_number n value refuse (λ a. As a ↔ ((n ≡ k) × (k ≢ 0)))
    (λ none. (λ q. absurd (never q), λ h. absurd (h.1 (sym h.0 ∙ none))))
    (λ some. (
      λ q.
          let e = sym (known some) ∙ (same (named n)).0 q in
          (e, λ none. some (e ∙ none)),
      λ h. (same (named n)).1 (known some ∙ h.0),
    ))

-- ---- of live reading and of archive reading alike

-- what a datagram holds is no refusal
pub content-holds : (d : List ℕ) → Holds (content d)
unfolding content
content-holds d = by (says_transmitter d) refl
  where
    by : (b : Bool) → says_transmitter d ≡ b → Holds (content d)
    by true t = subst Holds (sym (content-transmitter d (eqb-true _ _ t))) tt
    by false t = subst Holds (sym (content-signal d (eqb-false _ _ t))) tt

pub answer-taken : (n : ℕ) (d : List ℕ) → n ≡ 0 → answer_by n d ≡ content d
answer-taken n d e = rw (eq-eqb n 0 e)

pub answer-refused : (n : ℕ) (d : List ℕ) → n ≢ 0 → answer_by n d ≡ Refused (named n)
answer-refused n d e = rw (ne_eqb n 0 e)

-- an answer that is no refusal: the datagram is taken, and holds that
pub answers_as : (n : ℕ) (d : List ℕ) (r : Reading) → Holds r → answer_by n d ≡ r → (n ≡ 0) × (content d ≡ r)
answers_as n d r h e = by (eqb n 0) refl
  where
    by : (b : Bool) → eqb n 0 ≡ b → (n ≡ 0) × (content d ≡ r)
    by true t =
        let none = eqb-true _ _ t in
        (none, sym (answer-taken n d none) ∙ e)
    by false t = absurd (subst Holds (sym e ∙ answer-refused n d (eqb-false _ _ t)) h)

-- a refusal: by its number
pub answers-refused : (n : ℕ) (d : List ℕ) (e : Refusal) → Known n → (answer_by n d ≡ Refused e) ↔ ((n ≡ number e) × (number e ≢ 0))
answers-refused n d e known =
    refused_by n (number e) (content d) (λ q. Refused q) (λ a. a ≡ Refused e) known (λ q. absurd (subst Holds q (content-holds d)))
    (λ q. (λ same. cc, λ same. ap Refused (sym (named-number q) ∙ named_by e (number q) same)))

-- and a refusal of a number, by that number
pub answers-numbered : (n : ℕ) (d : List ℕ) (k : ℕ) → Known n → RefusedAs k (answer_by n d) ↔ ((n ≡ k) × (k ≢ 0))
answers-numbered n d k known = refused_by n k (content d) (λ q. Refused q) (RefusedAs k) known (held (content d) (content-holds d)) (λ e. Iff.rfl)
  where
    held : (r : Reading) → Holds r → RefusedAs k r → ⊥
    held (Refused e) h q = h
    held (a_transmitter t) h q = q
    held (a_signal s size) h q = q

-- the number is the answer's
pub answer-number : (n : ℕ) (d : List ℕ) → Known n → number_of (answer_by n d) ≡ n
answer-number n d known =
    by_number n (content d) (λ q. Refused q) (λ a. number_of a ≡ n) (λ none. no_number (content d) (content-holds d) ∙ sym none) known
  where
    no_number : (r : Reading) → Holds r → number_of r ≡ 0
    no_number (Refused e) h = absurd h
    no_number (a_transmitter t) h = refl
    no_number (a_signal s n) h = refl

-- and what the answer says is that number, or 0 and what the datagram holds
pub answer_says : (n : ℕ) (d : List ℕ) → Known n → reading_says (answer_by n d) ≡ said_by n d
answer_says n d known = by (eqb n 0) refl
  where
    by : (b : Bool) → eqb n 0 ≡ b → reading_says (answer_by n d) ≡ said_by n d
    by true t =
        let none = eqb-true _ _ t in
        ap₂ ◌∷◌ (answer-number n d known ∙ none) (ap values_held (answer-taken n d none)) ∙ rw t refl
    by false t =
        let some = eqb-false _ _ t in
        ap reading_says (answer-refused n d some) ∙ ap (λ (m : ℕ). m ∷ []) (known some) ∙ rw t refl

-- ---- what reading answers

pub reading-taken : (d : List ℕ) → refusal d ≡ 0 → reading d ≡ content d
unfolding reading
reading-taken d e = answer-taken (refusal d) d e

pub reading-refused : (d : List ℕ) → refusal d ≢ 0 → reading d ≡ Refused (named (refusal d))
unfolding reading
reading-refused d e = answer-refused (refusal d) d e

-- an answer that is no refusal: the datagram is taken, and holds that
pub reads_as : (d : List ℕ) (r : Reading) → Holds r → reading d ≡ r → (refusal d ≡ 0) × (content d ≡ r)
unfolding reading
reads_as d r h e = answers_as (refusal d) d r h e

-- a refusal: by the first rule that is broken
pub refuses_as : (d : List ℕ) (e : Refusal) → (reading d ≡ Refused e) ↔ ((refusal d ≡ number e) × (number e ≢ 0))
unfolding reading
refuses_as d e = answers-refused (refusal d) d e (refusal_known d)

-- the refusal number is the answer's
pub refusal-read : (d : List ℕ) → number_of (reading d) ≡ refusal d
unfolding reading
refusal-read d = answer-number (refusal d) d (refusal_known d)

-- and what the answer says
pub reading_says_lem : (d : List ℕ) → reading_says (reading d) ≡ read_says d
unfolding reading
reading_says_lem d = answer_says (refusal d) d (refusal_known d)

-- whoever found the refusal of the datagram's number answers what reading does
pub reads_refused : (d : List ℕ) (e : Refusal) → number e ≡ refusal d → Refused e ≡ reading d
reads_refused d e same = sym ((refuses_as d e).1 (sym same, not_none e))

pub archive_reads_refused : (d : List ℕ) (e : Refusal) → number e ≡ archive_refusal d → Refused e ≡ archive_reading d
unfolding archive_reading
archive_reads_refused d e same = sym ((answers-refused (archive_refusal d) d e (archive_known d)).1 (sym same, not_none e))

-- the size of a PDU that is held
pub size_answered : (r : Reading) → Holds r → answer_of r ≡ Ok (size_of r)
size_answered (Refused e) h = absurd h
size_answered (a_transmitter t) h = refl
size_answered (a_signal s n) h = refl

-- ---- which of the two

-- what a datagram that holds a Transmitter, or a Signal, says in byte 2, and what it holds
pub as_transmitter : (d : List ℕ) (t : Transmitter) → content d ≡ a_transmitter t → (num 1 2 d ≡ 25) × (t ≡ transmitter_of d)
as_transmitter d t e = by (says_transmitter d) refl
  where
    by : (b : Bool) → says_transmitter d ≡ b → (num 1 2 d ≡ 25) × (t ≡ transmitter_of d)
    by true y =
        let same : a_transmitter t ≡ a_transmitter (transmitter_of d) = sym e ∙ content-transmitter d (eqb-true _ _ y) in
        (eqb-true _ _ y, cc)
    by false y =
        let other : a_transmitter t ≡ a_signal (signal_of d) (body_size d) = sym e ∙ content-signal d (eqb-false _ _ y) in
        let z : ◌≡◌ {A = ℕ} 0 1 = cc in
        absurd (omega arith)

pub as_signal : (d : List ℕ) (s : Signal) (n : ℕ)
    → content d ≡ a_signal s n
    → (num 1 2 d ≢ 25) × (s ≡ signal_of d) × (n ≡ body_size d)
as_signal d s n e = by (says_transmitter d) refl
  where
    by : (b : Bool) → says_transmitter d ≡ b → (num 1 2 d ≢ 25) × (s ≡ signal_of d) × (n ≡ body_size d)
    by true y =
        let other : a_signal s n ≡ a_transmitter (transmitter_of d) = sym e ∙ content-transmitter d (eqb-true _ _ y) in
        let z : ◌≡◌ {A = ℕ} 0 1 = cc in
        absurd (omega arith)
    by false y =
        let same : a_signal s n ≡ a_signal (signal_of d) (body_size d) = sym e ∙ content-signal d (eqb-false _ _ y) in
        (eqb-false _ _ y, cc, cc)

-- a datagram that meets the plain rules is taken
pub transmitter_met : (d : List ℕ) → Met (plain_transmitter d) → (refusal d ≡ 0) × (content d ≡ a_transmitter (transmitter_of d))
unfolding refusal
transmitter_met d m =
    let (long, (version, ((type, family), rest))) = m in
    ((transmitter-verdict d type).none.1 m, content-transmitter d type)

pub signal_met : (d : List ℕ) → Met (plain_signal d) → (refusal d ≡ 0) × (content d ≡ a_signal (signal_of d) (body_size d))
unfolding refusal
signal_met d m =
    let (long, (version, ((type, family), rest))) = m in
    let other : num 1 2 d ≢ 25 = λ e. omega arith in
    ((signal-verdict d other).none.1 m, content-signal d other)

-- ---- the theorems

-- an answer by the first broken rule of a list that has verdicts: on a Transmitter's plain rules where byte 2 is 25, on a Signal's elsewhere
exactly_by : (d : List ℕ) (rules : List Test) (signal : List Rule)
    → Known (first rules)
    → (num 1 2 d ≡ 25 → Verdict rules (plain_transmitter d))
    → (num 1 2 d ≢ 25 → Verdict rules signal)
    → (Met signal → num 1 2 d ≢ 25)
    → TakenBy (answer_by (first rules) d) signal d
exactly_by d rules signal known transmitters signals other =
    let holds-transmitter : (t : Transmitter) → answer_by (first rules) d ≡ a_transmitter t → (first rules ≡ 0) × (content d ≡ a_transmitter t) =
    λ t e. answers_as (first rules) d (a_transmitter t) tt e in
    let holds-signal : (s : Signal) (n : ℕ) → answer_by (first rules) d ≡ a_signal s n → (first rules ≡ 0) × (content d ≡ a_signal s n) =
    λ s n e. answers_as (first rules) d (a_signal s n) tt e in
    record {
      transmitter_taken = (
        (λ h. let r = holds-transmitter h.0 h.1 in (transmitters (as_transmitter d h.0 r.1).0).none.0 r.0),
        (λ m.
            let (long, (version, ((type, family), rest))) = m in
            (transmitter_of d, answer-taken _ d ((transmitters type).none.1 m) ∙ content-transmitter d type)),
      );
      signal_taken = (
        (λ h. let r = holds-signal h.0 h.1 h.2 in (signals (as_signal d h.0 h.1 r.1).0).none.0 r.0),
        (λ m. (signal_of d, body_size d, answer-taken _ d ((signals (other m)).none.1 m) ∙ content-signal d (other m))),
      );
      transmitter_refused = λ type n. Iff.trans (answers-numbered (first rules) d n known) ((transmitters type).some n);
      signal_refused = λ type n. Iff.trans (answers-numbered (first rules) d n known) ((signals type).some n);
      transmitter_content = λ t e. (as_transmitter d t (holds-transmitter t e).1).1;
      signal_content = λ s n e. let h = as_signal d s n (holds-signal s n e).1 in (h.1, h.2);
    }

-- a Signal's byte 2 is not a Transmitter's
not-transmitter : (d : List ℕ) → num 1 2 d ≡ 26 → num 1 2 d ≢ 25
not-transmitter d type e = omega arith

-- for every datagram, without a premise
pub taken_exactly_when : (d : List ℕ) → TakenExactly d
unfolding reading refusal
taken_exactly_when d =
    exactly_by d (reading_rules d) (plain_signal d) (refusal_known d) (transmitter-verdict d) (signal-verdict d)
    (λ (long, (version, ((type, family), rest))). not-transmitter d type)

-- and of archive reading
pub archived_exactly_when : (d : List ℕ) → ArchivedExactly d
unfolding archive_reading archive_refusal
archived_exactly_when d =
    exactly_by d (archive_rules d) (plain_archive d) (archive_known d) (transmitter-archive d) (signal-archive d)
    (λ (long, (version, ((type, family), rest))). not-transmitter d type)

-- writing: the size, where no rule is broken
pub writes_size : (r : Reading) (room : ℕ) → (written r room ≡ Ok (size_of r)) ↔ (writing_refusal r room ≡ 0)
writes_size r room =
    by_number (writing_refusal r room) (Ok (size_of r)) (λ e. Err e) (λ a. (a ≡ Ok (size_of r)) ↔ (writing_refusal r room ≡ 0))
    (λ none. (λ e. none, λ e. refl))
    (λ some. (λ e. cc, λ e. absurd (some e)))

-- and a refusal, by the first that is
pub writes_refused : (r : Reading) (room : ℕ) (e : Refusal) → (written r room ≡ Err e) ↔ ((writing_refusal r room ≡ number e) × (number e ≢ 0))
writes_refused r room e =
    refused_by (writing_refusal r room) (number e) (Ok (size_of r)) (λ q. Err q) (λ a. a ≡ Err e) (writing_known r room) (λ q. cc)
    (λ q. (λ same. cc, λ same. ap (λ (x : Refusal). Err x) (sym (named-number q) ∙ named_by e (number q) same)))

-- and of a number, by that number
pub writes_numbered : (r : Reading) (room n : ℕ) → RefusedBy n (written r room) ↔ ((writing_refusal r room ≡ n) × (n ≢ 0))
writes_numbered r room n =
    refused_by (writing_refusal r room) n (Ok (size_of r)) (λ q. Err q) (RefusedBy n) (writing_known r room) (λ q. q) (λ e. Iff.rfl)

-- whoever found the refusal of a writing, or none, answers what writing does
pub writing_refused : (r : Reading) (room : ℕ) (e : Refusal) → number e ≡ writing_refusal r room → Err e ≡ written r room
writing_refused r room e same = sym ((writes_refused r room e).1 (sym same, not_none e))

pub writing_taken : (r : Reading) (room : ℕ) → 0 ≡ writing_refusal r room → Ok (size_of r) ≡ written r room
writing_taken r room none = sym ((writes_size r room).1 (sym none))

-- by a verdict on the rules
by_verdict : (r : Reading) (room : ℕ) (plain : List Rule) → Verdict (writing_rules r room) plain → WrittenExactly r plain room
by_verdict r room plain v =
    record { written_size = Iff.trans (writes_size r room) v.none; refused = λ n. Iff.trans (writes_numbered r room n) (v.some n) }

-- for every record, body size and room, without a premise
pub transmitter-written_exactly : (t : Transmitter) (room : ℕ) → WrittenExactly (a_transmitter t) (plain_transmitter_writing t room) room
transmitter-written_exactly t room = by_verdict (a_transmitter t) room _ (transmitter_writing t room)

pub signal-written_exactly : (s : Signal) (n room : ℕ) → WrittenExactly (a_signal s n) (plain_signal_writing s n room) room
signal-written_exactly s n room = by_verdict (a_signal s n) room _ (signal_writing s n room)

-- and what the answer says is the refusal's number, or 0 and the size
pub writing_says_lem : (r : Reading) (room : ℕ) → written_says (written r room) ≡ writing_says r room
writing_says_lem r room = by (eqb (writing_refusal r room) 0) refl
  where
    by : (b : Bool) → eqb (writing_refusal r room) 0 ≡ b → written_says (written r room) ≡ writing_says r room
    by true t = rw t refl
    by false t = rw t (ap (λ (n : ℕ). n ∷ []) (writing_known r room (eqb-false _ _ t)))
