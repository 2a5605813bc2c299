-- What a layer above may use of a taken datagram: the writer takes what the reader took and gives its written form; a Signal's body lies in the
-- datagram; a type 0 body is whole words, twelve at most. Each follows from what a taken datagram has (`taken`).
-- Assumes nothing.
use Prim.Native.Nat.{ℕ, ◌+◌, ◌*◌, ◌≤◌}
use mathlib.Core.Path.{◌≡◌, refl, sym, ap, ap₂, subst, ◌∙◌}
use mathlib.Core.Logic.{◌≢◌, ◌⊎◌}
use mathlib.Core.Bool.{Bool, true, false, ◌&&◌, true≢false}
use mathlib.Core.List.{List, ◌++◌}
use lib.ListN.{length, take, drop, length-drop}
use lib.Seq.{length-take-le}
use lib.Dec.{leb}
use borrow.Author.Tests.{eqb-true, eqb-false}
use native.Mathlib.Omega.{arith}
use Rattle.wire.specs.Bytes.{num, splice}
use Rattle.wire.proofs.ByteLaws.{splice-start}
use Rattle.wire.specs.First.{first, lacks, numbered}
use Rattle.wire.proofs.FirstLaws.{first_here, first_next, none_of, first-lacks}
use Rattle.wire.proofs.TableLaws.{both_true}
use Rattle.wire.proofs.RuleLaws.{at_most, both}
use Rattle.pdu.specs.Refusals.{Refusal, Short, number}
use Rattle.pdu.specs.Numbers
use Rattle.pdu.specs.Words.{words_in}
use Rattle.pdu.specs.Rules.{access_rules, slot_rules, network_rules, live_rules, body_rules, inner_rules}
use Rattle.pdu.specs.Forms.{bytes_of, size_of, body_in}
use Rattle.pdu.specs.Tables.{signal_size}
use Rattle.pdu.specs.Reading.{body_size, says_transmitter, content, body_of, start_rules, transmitter_layout, signal_layout}
use Rattle.pdu.specs.Reading.{layout_rules, form_rules, Laid, reading_rules, refusal, reading, used}
use Rattle.pdu.specs.Plain.{RecordsRule, TimingRule, LiveRule, NoThirteen}
use Rattle.pdu.specs.Writing.{output_after, written_form, in_written_form}
use Rattle.pdu.specs.declared.Signal.{Signal}
use Rattle.pdu.specs.declared.Reading.{Reading}
use Rattle.pdu.specs.declared.Reading.TheVariants.{Refused, Transmitter as a_transmitter, Signal as a_signal}
use Rattle.pdu.proofs.Agreement.{content-transmitter, content-signal, start-verdict, transmitter_layout_lem, signal_layout_lem}
use Rattle.pdu.proofs.Agreement.{inner_record, signal_record}
use Rattle.pdu.proofs.Answers.{Holds, reads_as, reading-taken, reading-refused}
use Rattle.pdu.proofs.Taken.{Taken, taken, signal_bounds}
use Rattle.pdu.proofs.RoundTrip.{length_form, written_form_back, written_back}

-- what was read, as reading answered it
pub read_taken : (d : List ℕ) (r : Reading) → Holds r → reading d ≡ r → Taken d r (body_in r d)
read_taken d r h e =
    let (none, holds) = reads_as d r h e in
    subst (λ (q : Reading). Taken d q (body_in q d)) holds (taken d none)

-- written with room, it leaves the datagram's written form
pub read-written : (d : List ℕ) (r : Reading) (out : List ℕ)
    → Holds r
    → reading d ≡ r
    → size_of r ≤ length out
    → output_after r (body_in r d) out ≡ splice 0 (written_form d) out
unfolding written_form
read-written d r out h e room =
    let (none, holds) = reads_as d r h e in
    let size : used d ≡ size_of r = ap size_of e in
    let fits : used d ≤ length out = subst (λ (n : ℕ). n ≤ length out) (sym size) room in
    let long : length (bytes_of (content d) (body_of d)) ≡ used d = length_form (content d) (body_of d) ∙ ap size_of (sym (reading-taken d none)) in
    subst (λ (q : Reading). output_after q (body_in q d) out ≡ splice 0 (written_form d) out) holds
    ((written_back d out none fits).output
    ∙ ap₂ (λ (l : List ℕ) (n : ℕ). l ++ drop n out) (sym (written_form_back d none)) (sym long)
    ∙ sym (splice-start (written_form d) out (rw long fits)))

-- and that has the size answered
pub written_size : (d : List ℕ) (r : Reading) → Holds r → reading d ≡ r → length (written_form d) ≡ size_of r
unfolding written_form
written_size d r h e =
    length_form (content d) (body_of d) ∙ ap size_of (reads_as d r h e).1

-- a Signal's body lies in the datagram, and has the size answered
pub body_there : (d : List ℕ) (s : Signal) (n : ℕ)
    → reading d ≡ a_signal s n
    → (Numbers.body_start + n ≤ length d) × (body_of d ≡ take n (drop Numbers.body_start d)) × (length (body_of d) ≡ n)
body_there d s n e =
    let (none, holds) = reads_as d (a_signal s n) tt e in
    let size = (read_taken d (a_signal s n) tt e).size in
    let inside : Numbers.body_start + n ≤ length d = omega (arith, size) in
    let body : body_of d ≡ take n (drop Numbers.body_start d) = ap (λ (r : Reading). body_in r d) holds in (
      inside,
      body,
      ap length body ∙ length-take-le n (drop Numbers.body_start d) (rw (length-drop Numbers.body_start d) (omega arith)),
    )

-- a type 0 body is a header and whole words, twelve at most
pub taken-words : (d : List ℕ) (s : Signal) (n : ℕ)
    → reading d ≡ a_signal s n
    → s.network.message_type ≡ 0
    → (n ≡ Numbers.body_header + Numbers.word_bytes * words_in n) × (words_in n ≤ Numbers.most_words)
taken-words d s n e zero-type =
    let (v, (status, (encoding, (npg, (net, (tsec, (msec, (type, (slot, (epoch, (last, (live, ((words, six), ((few, most), end)))))))))))))) =
    (signal_record s n).none.0 (read_taken d (a_signal s n) tt e).rules in
    let whole : n ≡ 6 + 10 * (words zero-type).0 = (words zero-type).1 in
    let short : n ≤ 126 = few zero-type in
    (omega arith, omega arith)

-- a message type that is read is one of the eight, and not retired
pub taken_type : (d : List ℕ) (s : Signal) (n : ℕ)
    → reading d ≡ a_signal s n
    → (s.network.message_type ≤ Numbers.last_message_type) × LiveRule s.network.message_type
taken_type d s n e =
    let (v, (status, (encoding, (npg, (net, (tsec, (msec, (type, (slot, (epoch, (last, (live, body)))))))))))) =
    (signal_record s n).none.0 (read_taken d (a_signal s n) tt e).rules in
    (type, live)

-- a body of round-trip timing has six bytes
pub taken-timing : (d : List ℕ) (s : Signal) (n : ℕ)
    → reading d ≡ a_signal s n
    → (s.network.message_type ≡ 1) ⊎ (s.network.message_type ≡ 2)
    → n ≡ Numbers.timing_bytes
taken-timing d s n e timing = (signal_bounds s n (read_taken d (a_signal s n) tt e).rules).timing timing

-- a body that breaks no rule has the size of round-trip timing where it is that
pub timing-size : (s : Signal) (n : ℕ) → first (inner_rules (a_signal s n)) ≡ 0 → TimingRule s.network.message_type n
timing-size s n e =
    let (npg, (net, (tsec, (msec, (type, (slot, (epoch, (last, (live, ((words, six), rest)))))))))) = (inner_record s n).none.0 e in
    six

-- the size answered for a refused datagram is 0
pub refused-size : (d : List ℕ) → refusal d ≢ 0 → size_of (reading d) ≡ 0
refused-size d h = ap size_of (reading-refused d h)

-- a datagram in written form is taken
pub written-taken : (d : List ℕ) → in_written_form d ≡ true → refusal d ≡ 0
unfolding in_written_form
written-taken d e = eqb-true (refusal d) 0 (both_true _ _ e).0

-- ---- what the parts of the rules say, for those who test them one after the other

-- where 1, 2 and 3 are not given there is a header's start, and the rules of the form decide
pub start_long : (d : List ℕ) → first (start_rules d) ≡ 0 → Numbers.shortest ≤ length d
start_long d e = let (long, rest) = (start-verdict d).none.0 e in long

pub start_next : (d : List ℕ) → first (start_rules d) ≡ 0 → refusal d ≡ first (form_rules (content d) d)
unfolding refusal reading_rules start_rules
start_next d e = first_next (start_rules d) (form_rules (content d) d) refl e

pub start_here : (d : List ℕ) → first (start_rules d) ≢ 0 → refusal d ≡ first (start_rules d)
unfolding refusal reading_rules
start_here d e = first_here (start_rules d) (form_rules (content d) d) e

-- a Transmitter whose layout is right says its full size, and lies in the slice
pub record TransmitterLaid (d : List ℕ) : Type 0 where
  pub field : num 2 8 d ≡ Numbers.transmitter_size
  pub size : Numbers.transmitter_size ≤ length d

pub transmitter_laid : (d : List ℕ) → first (transmitter_layout d) ≡ 0 → TransmitterLaid d
transmitter_laid d e =
    let ((inside, least), (fixed, (modulation, (pattern, (records, (size, end)))))) = (transmitter_layout_lem d).none.0 e in
    record { field = size; size = omega arith }

-- and no variable parameter records in version 7
pub records_laid : (d : List ℕ) → first (transmitter_layout d) ≡ 0 → RecordsRule d
records_laid d e =
    let (field, (fixed, (modulation, (pattern, (records, rest))))) = (transmitter_layout_lem d).none.0 e in
    records

-- a Signal whose layout is right counts its network header as data, says its filled size, and lies in the slice
pub record SignalLaid (d : List ℕ) : Type 0 where
  pub header : 8 * Numbers.network_bytes ≤ num 2 28 d
  pub field : num 2 8 d ≡ signal_size (body_size d)
  pub size : signal_size (body_size d) ≤ length d

pub signal_laid : (d : List ℕ) → first (signal_layout d) ≡ 0 → SignalLaid d
signal_laid d e =
    let ((inside, least), (class, (tdl, ((whole, enough), (size, end))))) = (signal_layout_lem d).none.0 e in
    record { header = enough; field = omega arith; size = omega arith }

-- no rule of a layout has the number 0
pub layout_numbered : (r : Reading) (d : List ℕ) → numbered (layout_rules r d) ≡ true
unfolding transmitter_layout signal_layout
layout_numbered (Refused n) d = refl
layout_numbered (a_transmitter t) d = refl
layout_numbered (a_signal s n) d = refl

pub form_next : (r : Reading) (d : List ℕ) → first (layout_rules r d) ≡ 0 → first (form_rules r d) ≡ first (inner_rules r)
form_next r d e = first_next (layout_rules r d) (inner_rules r) (layout_numbered r d) e

-- a taken datagram has its layout
pub taken_laid : (d : List ℕ) → refusal d ≡ 0 → Laid d
unfolding refusal reading_rules start_rules
taken_laid d e =
    let (start, form) = none_of (start_rules d) (form_rules (content d) d) refl e in
    (start, (none_of (layout_rules (content d) d) _ (layout_numbered (content d) d) form).0)

-- by its layout it has a header's start, and the length that its form needs
pub laid_long : (d : List ℕ) → Laid d → Numbers.shortest ≤ length d
laid_long d h = start_long d h.0

pub laid_transmitter : (d : List ℕ) → Laid d → num 1 2 d ≡ 25 → TransmitterLaid d
laid_transmitter d h type =
    transmitter_laid d (subst (λ (r : Reading). first (layout_rules r d) ≡ 0) (content-transmitter d type) h.1)

pub laid_records : (d : List ℕ) → Laid d → num 1 2 d ≡ 25 → RecordsRule d
laid_records d h type =
    records_laid d (subst (λ (r : Reading). first (layout_rules r d) ≡ 0) (content-transmitter d type) h.1)

pub laid_signal : (d : List ℕ) → Laid d → num 1 2 d ≢ 25 → first (signal_layout d) ≡ 0
laid_signal d h type = subst (λ (r : Reading). first (layout_rules r d) ≡ 0) (content-signal d type) h.1

-- what it holds is as long as its length field says
pub laid_size : (d : List ℕ) → Laid d → num 2 8 d ≡ size_of (content d)
laid_size d h = by (says_transmitter d) refl
  where
    by : (b : Bool) → says_transmitter d ≡ b → num 2 8 d ≡ size_of (content d)
    by true t =
        let type = eqb-true _ _ t in
        (laid_transmitter d h type).field ∙ ap size_of (sym (content-transmitter d type))
    by false t =
        let type = eqb-false _ _ t in
        (signal_laid d (laid_signal d h type)).field ∙ ap size_of (sym (content-signal d type))

-- ---- the numbers that reading and writing do not give

-- the rules of reading, and of writing, lack what each list of them lacks by its form
reading-lacks : (sort : ℕ → Bool) (d : List ℕ)
    → ((r : Reading) → lacks sort (start_rules d ++ form_rules r d) ≡ true)
    → sort 0 ≡ false
    → sort (refusal d) ≡ false
unfolding refusal reading_rules
reading-lacks sort d form z = first-lacks sort (reading_rules d) z (form (content d))

-- 16 to 49: the writer's 16, the trunk's numbers and the station's
abbrev is_others : ℕ → Bool
is_others n = leb 16 n && leb n 49

-- they are never the reader's
pub refusal_apart : (d : List ℕ) (k : ℕ) → 16 ≤ k → k ≤ 49 → refusal d ≡ k → ⊥
unfolding start_rules transmitter_layout signal_layout inner_rules live_rules network_rules access_rules slot_rules body_rules
refusal_apart d k low high e = true≢false (sym inside ∙ reading-lacks is_others d by_form refl)
  where
    inside : is_others (refusal d) ≡ true
    inside = (both _ _ (at_most 16 (refusal d)) (at_most (refusal d) 49)).1 (omega arith, omega arith)

    by_form : (r : Reading) → lacks is_others (start_rules d ++ form_rules r d) ≡ true
    by_form (Refused n) = refl
    by_form (a_transmitter t) = refl
    by_form (a_signal s n) = refl

-- 02, R-3: no refusal has the number 13
not_thirteen : (e : Refusal) → number e ≢ 13
not_thirteen Short q = absurd (omega arith)
not_thirteen other q = absurd (omega arith)

pub no_thirteen : NoThirteen
no_thirteen = record {
  reading_gives = λ d e given. not_thirteen e;
  archive_gives = λ d e given. not_thirteen e;
  writing_gives = λ r room e given. not_thirteen e;
}
