-- The checks of reading, one behind the other: what each gives of the refusal number, and of the test of written form.
-- Assumes nothing.
use Prim.Native.Nat.{ℕ}
use mathlib.Core.Path.{◌≡◌, refl, sym, ap, ◌∙◌}
use mathlib.Core.Bool.{Bool, true, false, cond, ◌&&◌}
use mathlib.Core.List.{List}
use lib.ListN.{length}
use lib.Dec.{eqb}
use borrow.Author.Tests.{eqb-true, eqb-false}
use Rattle.std.specs.Prelude.{Result, Ok, Err}
use Rattle.std.specs.Result.{is_ok}
use Rattle.wire.specs.Bytes.{Bytes}
use Rattle.wire.specs.First.{first}
use Rattle.wire.specs.Table.{all_blank}
use Rattle.pdu.specs.Numbers
use Rattle.pdu.specs.Refusals.{number, named, refused}
use Rattle.pdu.specs.Rules.{inner_rules}
use Rattle.pdu.specs.Tables.{signal_size}
use Rattle.pdu.specs.Forms.{table_of, size_of}
use Rattle.pdu.specs.Reading.{transmitter_of, signal_of, body_size, says_transmitter, content, start_rules, transmitter_layout, signal_layout}
use Rattle.pdu.specs.Reading.{layout_rules, form_rules, reading_rules, refusal}
use Rattle.pdu.specs.Writing.{only_form, written_as, in_written_form}
use Rattle.pdu.specs.declared.refusals.Refusal.{Refusal}
use Rattle.pdu.specs.declared.Reading.{Reading}
use Rattle.pdu.specs.declared.refusals.Refusal.TheVariants.{Retired}
use Rattle.pdu.specs.declared.Reading.TheVariants.{Transmitter as a_transmitter, Signal as a_signal}
use Rattle.pdu.proofs.Agreement.{content-transmitter, content-signal}
use Rattle.pdu.proofs.RefusalLaws.{named_by, number_apart, first_then}
use Rattle.reader.specs.Laid.{IsLaidTransmitter, IsLaidSignal}
use Rattle.pdu.proofs.ReadLaws.{transmitter_laid, signal_laid, layout_numbered, form_next}

-- a check refuses nothing exactly where its number is 0
pub refused_none : {A : Type 0} (r : Result A Refusal) → eqb (refused r) 0 ≡ is_ok r
refused_none (Ok x) = refl
refused_none (Err e) = number_apart e

-- three tests in a row, joined from the left, are joined from the right
pub and_assoc : (a b c : Bool) → ((a && b) && c) ≡ (a && (b && c))
and_assoc true b c = refl
and_assoc false b c = refl

-- ---- all checks in a row, by what byte 2 says
form_then : (d : List ℕ) (r : Reading)
    → content d ≡ r
    → refusal d
    ≡ cond (eqb (first (start_rules d)) 0) (cond (eqb (first (layout_rules r d)) 0) (first (inner_rules r)) (first (layout_rules r d))) (first (start_rules d))
unfolding refusal reading_rules start_rules
form_then d r holds =
    first_then (start_rules d) (form_rules (content d) d) refl
    ∙ ap (λ (q : Reading). cond (eqb (first (start_rules d)) 0) (first (form_rules q d)) (first (start_rules d))) holds
    ∙ ap (λ (n : ℕ). cond (eqb (first (start_rules d)) 0) n (first (start_rules d)))
    (first_then (layout_rules r d) (inner_rules r) (layout_numbered r d))

pub transmitter_then : (d : List ℕ)
    → says_transmitter d ≡ true
    → refusal d
    ≡ cond (eqb (first (start_rules d)) 0)
    (cond (eqb (first (transmitter_layout d)) 0) (first (inner_rules (a_transmitter (transmitter_of d)))) (first (transmitter_layout d)))
    (first (start_rules d))
transmitter_then d says = form_then d (a_transmitter (transmitter_of d)) (content-transmitter d (eqb-true _ _ says))

pub signal_then : (d : List ℕ)
    → says_transmitter d ≡ false
    → refusal d
    ≡ cond (eqb (first (start_rules d)) 0)
    (cond (eqb (first (signal_layout d)) 0) (first (inner_rules (a_signal (signal_of d) (body_size d)))) (first (signal_layout d)))
    (first (start_rules d))
signal_then d says = form_then d (a_signal (signal_of d) (body_size d)) (content-signal d (eqb-false _ _ says))

-- 50 is the number of one refusal alone
pub only_retired : (e : Refusal) → number e ≡ 50 → e ≡ Retired
unfolding named
only_retired e same = sym (named_by e 50 (sym same))

-- ---- the test of written form

-- where 1, 2 and 3 are not broken it is by the form, and where the layout is right, by the inner rules, the size and the padding
written_by_form : (d : List ℕ) (r : Reading)
    → content d ≡ r
    → in_written_form d ≡ cond (eqb (first (start_rules d)) 0) (cond (eqb (first (layout_rules r d)) 0) (written_as r d) false) false
unfolding in_written_form
written_by_form d r holds =
    ap (λ (q : Reading). eqb (refusal d) 0 && only_form q d) holds
    ∙ ap (λ (n : ℕ). eqb n 0 && only_form r d) (form_then d r holds)
    ∙ by (eqb (first (start_rules d)) 0) refl (eqb (first (layout_rules r d)) 0) refl
  where
    same : (l : Bool) → eqb (first (layout_rules r d)) 0 ≡ l
        → (eqb (cond l (first (inner_rules r)) (first (layout_rules r d))) 0 && only_form r d) ≡ cond l (written_as r d) false
    same true t = ap (λ (n : ℕ). eqb n 0 && only_form r d) (sym (form_next r d (eqb-true _ _ t)))
    same false t = rw t refl

    by : (s : Bool)
        → eqb (first (start_rules d)) 0 ≡ s
        → (l : Bool)
        → eqb (first (layout_rules r d)) 0 ≡ l
        → (eqb (cond s (cond l (first (inner_rules r)) (first (layout_rules r d))) (first (start_rules d))) 0 && only_form r d)
        ≡ cond s (cond l (written_as r d) false) false
    by true t l u = same l u
    by false t l u = rw t refl

pub written_started : (d : List ℕ) → in_written_form d ≡ (eqb (first (start_rules d)) 0 && in_written_form d)
written_started d = written_by_form d (content d) refl ∙ by (eqb (first (start_rules d)) 0) refl
  where
    by : (s : Bool)
        → eqb (first (start_rules d)) 0 ≡ s
        → cond s (cond (eqb (first (layout_rules (content d) d)) 0) (written_as (content d) d) false) false ≡ (s && in_written_form d)
    by true t = sym (written_by_form d (content d) refl ∙ rw t refl)
    by false t = refl

pub written_transmitter : (d : List ℕ)
    → says_transmitter d ≡ true
    → in_written_form d
    ≡ cond (eqb (first (start_rules d)) 0) (cond (eqb (first (transmitter_layout d)) 0) (written_as (a_transmitter (transmitter_of d)) d) false) false
written_transmitter d says = written_by_form d (a_transmitter (transmitter_of d)) (content-transmitter d (eqb-true _ _ says))

pub written_signal : (d : List ℕ)
    → says_transmitter d ≡ false
    → in_written_form d
    ≡ cond (eqb (first (start_rules d)) 0) (cond (eqb (first (signal_layout d)) 0) (written_as (a_signal (signal_of d) (body_size d)) d) false) false
written_signal d says = written_by_form d (a_signal (signal_of d) (body_size d)) (content-signal d (eqb-false _ _ says))

written_inner : (r : Reading) (d : List ℕ)
    → first (layout_rules r d) ≡ 0
    → written_as r d ≡ (eqb (first (inner_rules r)) 0 && (eqb (length d) (size_of r) && all_blank 0 (table_of r) d))
written_inner r d laid = ap (λ (n : ℕ). eqb n 0 && only_form r d) (form_next r d laid)

pub transmitter_written : (d : List ℕ)
    → first (transmitter_layout d) ≡ 0
    → written_as (a_transmitter (transmitter_of d)) d
    ≡ (eqb (first (inner_rules (a_transmitter (transmitter_of d)))) 0
    && (eqb (length d) Numbers.transmitter_size && all_blank 0 (table_of (a_transmitter (transmitter_of d))) d))
transmitter_written d laid = written_inner (a_transmitter (transmitter_of d)) d laid

pub signal_written : (d : List ℕ)
    → first (signal_layout d) ≡ 0
    → written_as (a_signal (signal_of d) (body_size d)) d
    ≡ (eqb (first (inner_rules (a_signal (signal_of d) (body_size d)))) 0
    && (eqb (length d) (signal_size (body_size d)) && all_blank 0 (table_of (a_signal (signal_of d) (body_size d))) d))
signal_written d laid = written_inner (a_signal (signal_of d) (body_size d)) d laid

-- ---- what the types keep, from their layout's rules

pub transmitter_kept : (d : List ℕ) → first (transmitter_layout d) ≡ 0 → Bytes d → IsLaidTransmitter d
transmitter_kept d none bytes = record { unbroken = none; inside = (transmitter_laid d none).size; bytes = bytes }

pub signal_kept : (d : List ℕ) → first (signal_layout d) ≡ 0 → Bytes d → IsLaidSignal d
signal_kept d none bytes =
    let laid = signal_laid d none in
    record { unbroken = none; counted = laid.header; inside = laid.size; bytes = bytes }
