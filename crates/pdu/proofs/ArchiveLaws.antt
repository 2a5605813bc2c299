-- Archive reading beside live reading (02, R-4): where live reading does not give 50, the rules without 50 give the same number, and where it does,
-- one rule alone has that number and the rules behind it answer. So archive reading is live reading elsewhere, and by 14 and 15 there
-- (`archive_beside`). What it takes has its layout (`archive_laid`), so that its fields lie in it.
-- Assumes nothing.
use Prim.Native.Nat.{ℕ}
use mathlib.Core.Path.{◌≡◌, refl, sym, ap, subst, ◌∙◌}
use mathlib.Core.Logic.Iff
use mathlib.Core.Logic.{◌↔◌, ◌≢◌}
use mathlib.Core.Bool.{Bool, true, false}
use mathlib.Core.List.{List, ◌++◌}
use lib.Dec.{eqb}
use borrow.Author.Tests.{eqb-true, eqb-false}
use native.Mathlib.Omega.{arith}
use Rattle.wire.specs.Bytes.{num}
use Rattle.wire.specs.First.{first, lacks, without}
use Rattle.wire.specs.Rules.{FirstBroken}
use Rattle.wire.proofs.FirstLaws.{first-lacks, first_past, first-without, without-lacks, first-behind}
use Rattle.pdu.specs.Rules.{is_retired, access_rules, slot_rules, network_rules, live_rules, body_rules, inner_rules}
use Rattle.pdu.specs.Forms.{size_of}
use Rattle.pdu.specs.Reading.{signal_of, body_size, content, start_rules, transmitter_layout, signal_layout, layout_rules, form_rules, Laid}
use Rattle.pdu.specs.Reading.{reading_rules, refusal, answer_by, reading, reading_says, number_of, archive_rules, archive_refusal, archive_reading}
use Rattle.pdu.specs.Reading.{archive_says, RefusedAs}
use Rattle.pdu.specs.Plain.{plain_body_at, ArchiveBeside}
use Rattle.pdu.specs.Refusals.{named}
use Rattle.pdu.specs.declared.Reading.{Reading}
use Rattle.pdu.specs.declared.Reading.TheVariants.{Refused, Signal as a_signal}
use Rattle.pdu.proofs.Agreement.{content-transmitter, content-signal, body-verdict}
use Rattle.pdu.proofs.Answers.{answer-taken, answer-refused, answers_as, answers-numbered, answer-number, answer_says, refusal_known, archive_known}
use Rattle.pdu.proofs.ReadLaws.{start_next, taken_laid, laid_signal, laid_size}

-- whether a number is 50
abbrev is_fifty : ℕ → Bool
is_fifty n = eqb n 50

-- ---- by the refusal number

pub archive_same : (d : List ℕ) → refusal d ≢ 50 → archive_refusal d ≡ refusal d
unfolding archive_rules archive_refusal refusal
archive_same d h = first-without 50 (reading_rules d) h

-- no rule of a Transmitter has the number 50
is_signal : (d : List ℕ) → refusal d ≡ 50 → num 1 2 d ≢ 25
unfolding refusal reading_rules start_rules transmitter_layout inner_rules
is_signal d e type = eqb-false (refusal d) 50 (first-lacks is_fifty (reading_rules d) refl none) e
  where
    none : lacks is_fifty (reading_rules d) ≡ true
    none = rw (content-transmitter d type) refl

pub archive-behind : (d : List ℕ) → refusal d ≡ 50 → archive_refusal d ≡ first (body_rules (signal_of d).network.message_type (body_size d))
unfolding archive_rules archive_refusal refusal reading_rules start_rules signal_layout inner_rules live_rules network_rules access_rules slot_rules body_rules
archive-behind d e =
    let network = (signal_of d).network in
    let same = content-signal d (is_signal d e) in
    let given : first (start_rules d ++ form_rules (a_signal (signal_of d) (body_size d)) d) ≡ 50 =
    ap (λ (r : Reading). first (start_rules d ++ form_rules r d)) (sym same) ∙ e in
    ap (λ (r : Reading). first (without 50 (start_rules d ++ form_rules r d))) same
    ∙ first-behind 50 (is_retired network.message_type) (start_rules d ++ (signal_layout d ++ network_rules network))
    (body_rules network.message_type (body_size d)) refl refl (λ z. omega arith) given

-- a retired message has its layout, that of a Signal
retired_laid : (d : List ℕ) → refusal d ≡ 50 → Laid d
unfolding refusal reading_rules start_rules signal_layout
retired_laid d e =
    let signal : Reading = a_signal (signal_of d) (body_size d) in
    let same : content d ≡ signal = content-signal d (is_signal d e) in
    let start : first (start_rules d) ≡ 0 = first_past 50 (start_rules d) (form_rules (content d) d) refl e in
    let form : first (form_rules signal d) ≡ 50 = ap (λ (r : Reading). first (form_rules r d)) (sym same) ∙ sym (start_next d start) ∙ e in
    let layout : first (signal_layout d) ≡ 0 = first_past 50 (signal_layout d) (inner_rules signal) refl form in
    (start, subst (λ (r : Reading). first (layout_rules r d) ≡ 0) (sym same) layout)

pub retired_signal : (d : List ℕ) → refusal d ≡ 50 → first (signal_layout d) ≡ 0
retired_signal d e = laid_signal d (retired_laid d e) (is_signal d e)

-- retired or not
by_fifty : (P : Type 0) (d : List ℕ) → (refusal d ≡ 50 → P) → (refusal d ≢ 50 → P) → P
by_fifty P d there elsewhere = by (is_fifty (refusal d)) refl
  where
    by : (b : Bool) → is_fifty (refusal d) ≡ b → P
    by true t = there (eqb-true _ _ t)
    by false t = elsewhere (eqb-false _ _ t)

-- what archive reading takes has its layout, and the size that its length field says
pub archive_laid : (d : List ℕ) → archive_refusal d ≡ 0 → Laid d
archive_laid d e = by_fifty (Laid d) d (retired_laid d) (λ other. taken_laid d (sym (archive_same d other) ∙ e))

-- ---- what archive reading answers

pub archive-taken : (d : List ℕ) → archive_refusal d ≡ 0 → archive_reading d ≡ content d
unfolding archive_reading
archive-taken d e = answer-taken (archive_refusal d) d e

pub archive-refused : (d : List ℕ) → archive_refusal d ≢ 0 → archive_reading d ≡ Refused (named (archive_refusal d))
unfolding archive_reading
archive-refused d e = answer-refused (archive_refusal d) d e

pub archive_says_lem : (d : List ℕ) → reading_says (archive_reading d) ≡ archive_says d
unfolding archive_reading
archive_says_lem d = answer_says (archive_refusal d) d (archive_known d)

-- the number of what is answered is the refusal number
pub archive-number : (d : List ℕ) → number_of (archive_reading d) ≡ archive_refusal d
unfolding archive_reading
archive-number d = answer-number (archive_refusal d) d (archive_known d)

pub archive-size : (d : List ℕ) → archive_refusal d ≡ 0 → size_of (archive_reading d) ≡ num 2 8 d
archive-size d e = ap size_of (archive-taken d e) ∙ sym (laid_size d (archive_laid d e))

-- and the size answered for a refused datagram is 0
pub archive-no-size : (d : List ℕ) → archive_refusal d ≢ 0 → size_of (archive_reading d) ≡ 0
archive-no-size d e = ap size_of (archive-refused d e)

-- ---- beside live reading

-- archive reading never gives 50
not_fifty : (d : List ℕ) → is_fifty (archive_refusal d) ≡ false
unfolding archive_rules archive_refusal
not_fifty d = first-lacks is_fifty (without 50 (reading_rules d)) refl (without-lacks 50 (reading_rules d))

-- a retired message is taken as a Signal where neither 14 nor 15 is broken
there_taken : (d : List ℕ)
    → refusal d ≡ 50
    → (archive_reading d ≡ a_signal (signal_of d) (body_size d)) ↔ (first (body_rules (signal_of d).network.message_type (body_size d)) ≡ 0)
unfolding archive_reading
there_taken d e = (
  λ r. sym (archive-behind d e) ∙ (answers_as (archive_refusal d) d (a_signal (signal_of d) (body_size d)) tt r).0,
  λ none. archive-taken d (archive-behind d e ∙ none) ∙ content-signal d (is_signal d e),
)

-- live reading answers 50 exactly where that is its number
fifty : (d : List ℕ) → RefusedAs 50 (reading d) ↔ (refusal d ≡ 50)
unfolding reading
fifty d =
    let numbered = answers-numbered (refusal d) d 50 (refusal_known d) in
    (λ e. (numbered.0 e).0, λ e. numbered.1 (e, λ none. omega arith))

pub archive_beside : (d : List ℕ) → ArchiveBeside d
unfolding reading archive_reading
archive_beside d =
    record {
      elsewhere = λ other.
          ap (λ (n : ℕ). answer_by n d) (archive_same d (λ e. other ((fifty d).1 e)));
      taken_there = λ e. Iff.trans (there_taken d ((fifty d).0 e)) (body-verdict d).none;
      refused_there = λ e n.
          let behind = archive-behind d ((fifty d).0 e) in
          Iff.trans (answers-numbered (archive_refusal d) d n (archive_known d))
          (subst (λ (m : ℕ). ((m ≡ n) × (n ≢ 0)) ↔ FirstBroken n (plain_body_at d)) (sym behind) ((body-verdict d).some n));
      never_50 = λ e. eqb-false (archive_refusal d) 50 (not_fifty d) ((answers-numbered (archive_refusal d) d 50 (archive_known d)).0 e).0;
    }
