-- The first PDU of a slice that may hold more (02, R-5): it lies in the slice, as long as its length field says, and any slice that begins with its
-- bytes is read alike (`first_alone_says`). By the numbers that the rules look at, all of which stand within those bytes, and by the tables, which
-- read and clear no others. Archive reading alike (`archive_alone_says`).
-- Assumes nothing.
use Prim.Native.Nat.{ℕ, ◌+◌, ◌-◌, ◌/◌, ◌≤◌}
use mathlib.Core.Path.{◌≡◌, refl, sym, ap, ap₂, subst, ◌∙◌}
use mathlib.Core.Logic.{◌≢◌}
use mathlib.Core.Bool.{Bool, true, false}
use mathlib.Core.List.{List, [], ◌∷◌, ◌++◌, append-nil}
use lib.ListN.{length, take, length-append}
use lib.Seq.{take_at, length-take-le}
use borrow.Author.Tests.{eqb-true, eqb-false}
use native.Mathlib.Nat.{zero-add}
use native.Mathlib.Omega.{arith}
use Rattle.wire.specs.Bytes.{num}
use Rattle.wire.specs.Rules.{Rule, ◌unless◌, Met}
use Rattle.wire.specs.Table.{Slot, width, read, clear}
use Rattle.wire.proofs.RuleLaws.{◌also◌, met_split, met_join}
use Rattle.wire.proofs.PartLaws.{num-part}
use Rattle.wire.proofs.AppendLaws.{read_part, clear-part}
use Rattle.pdu.specs.Tables.{is_seven, transmitter_table, signal_head}
use Rattle.pdu.specs.Records.{transmitter_from, signal_from}
use Rattle.pdu.specs.Forms.{table_of, size_of}
use Rattle.pdu.specs.Reading.{version_seven, transmitter_of, signal_of, body_size, says_transmitter, content, refusal, reading, used}
use Rattle.pdu.specs.Reading.{number_of, archive_refusal, archive_reading}
use Rattle.pdu.specs.Writing.{padding_zero}
use Rattle.pdu.specs.Plain.{LiveRule, plain_start, plain_transmitter, plain_network_at, plain_body_at, plain_inner}
use Rattle.pdu.specs.Plain.{plain_signal_layout, plain_signal, plain_archive}
use Rattle.pdu.specs.RoundTrips.{FirstAlone}
use Rattle.pdu.specs.declared.Reading.{Reading}
use Rattle.pdu.specs.declared.Reading.TheVariants.{Transmitter as a_transmitter, Signal as a_signal}
use Rattle.pdu.proofs.Agreement.{content-transmitter, content-signal, transmitter-verdict, signal-verdict, transmitter-archive, signal-archive}
use Rattle.pdu.proofs.Answers.{reading-taken, refusal-read, transmitter_met, signal_met}
use Rattle.pdu.proofs.Taken.{taken, width_form}
use Rattle.pdu.proofs.ReadLaws.{signal_laid, taken_laid, laid_transmitter, laid_signal, laid_size}
use Rattle.pdu.proofs.ArchiveLaws.{archive_laid, archive-taken, archive-size}

-- ---- how long it is

-- the bytes used are those that the length field says
pub used-field : (d : List ℕ) → refusal d ≡ 0 → used d ≡ num 2 8 d
used-field d e = ap size_of (reading-taken d e) ∙ sym (laid_size d (taken_laid d e))

pub used-fits : (d : List ℕ) → refusal d ≡ 0 → used d ≤ length d
used-fits d e = subst (λ (n : ℕ). n ≤ length d) (ap size_of (sym (reading-taken d e))) (taken d e).size

pub used_some : (d : List ℕ) → refusal d ≡ 0 → 32 ≤ used d
used_some d e = by (says_transmitter d) refl
  where
    by : (b : Bool) → says_transmitter d ≡ b → 32 ≤ used d
    by true t = omega (arith, used-field d e, (laid_transmitter d (taken_laid d e) (eqb-true _ _ t)).field)
    by false t = omega (arith, used-field d e, (signal_laid d (laid_signal d (taken_laid d e) (eqb-false _ _ t))).field)

-- ---- slices that begin alike

-- two slices with the same first u bytes have the same numbers there, and read and clear alike by a table of no more
module _ (u : ℕ) (d z : List ℕ) (same : take u z ≡ take u d) where
  same_num : (w o : ℕ) → o + w ≤ u → num w o z ≡ num w o d
  same_num w o h =
      subst (λ (i : ℕ). num w i z ≡ num w i d) (zero-add o)
      (sym (num-part w o u 0 z h) ∙ ap (num w o) same ∙ num-part w o u 0 d h)

  same_read : (t : List Slot) → width t ≤ u → read 0 t z ≡ read 0 t d
  same_read t h =
      let inside : 0 + width t ≤ u = omega arith in
      sym (read_part t 0 u 0 z inside) ∙ ap (read 0 t) same ∙ read_part t 0 u 0 d inside

  same_clear : (t : List Slot) → width t ≤ u → clear 0 t z ≡ clear 0 t d
  same_clear t h =
      let inside : 0 + width t ≤ u = omega arith in
      sym (clear-part t 0 u 0 z inside) ∙ ap (clear 0 t) same ∙ clear-part t 0 u 0 d inside

-- a Transmitter
transmitter_same : (d z : List ℕ)
    → take 112 z ≡ take 112 d
    → 112 ≤ length z
    → Met (plain_transmitter d)
    → Met (plain_transmitter z) × (transmitter_of z ≡ transmitter_of d)
unfolding transmitter_of
transmitter_same d z same long (twelve, (version, (known, ((inside, least), (fixed, (modulation, (pattern, (records, (size, rest))))))))) =
    let n : (w o : ℕ) → o + w ≤ 112 → num w o z ≡ num w o d = same_num 112 d z same in
    let field : num 2 8 z ≡ num 2 8 d = n 2 8 (omega arith) in (
      rw (
        n 1 0 (omega arith),
        n 1 2 (omega arith),
        n 1 3 (omega arith),
        field,
        n 1 24 (omega arith),
        n 1 29 (omega arith),
        n 2 90 (omega arith),
        n 2 92 (omega arith),
        n 2 94 (omega arith),
        n 1 100 (omega arith),
        n 2 70 (omega arith),
        n 2 30 (omega arith),
        n 1 104 (omega arith),
        n 1 105 (omega arith),
        n 1 106 (omega arith),
        n 1 107 (omega arith),
        n 4 108 (omega arith),
      )
          (omega arith also version also known also (omega arith, least) also fixed also modulation also pattern also records also size also rest),
      ap (λ (v : ℕ). transmitter_from (read 0 (transmitter_table (is_seven v)) z)) (n 1 0 (omega arith))
          ∙ ap transmitter_from (same_read 112 d z same (transmitter_table (version_seven d)) (omega arith)),
    )

-- a Signal, of u bytes: each part of its rules looks at its first 52 alone, and at the length field
module _ (u : ℕ) (d z : List ℕ) (same : take u z ≡ take u d) (head : 52 ≤ u) (long : u ≤ length z) (whole : num 2 8 d ≡ u) where
  within : (w o : ℕ) → o + w ≤ 52 → num w o z ≡ num w o d
  within w o h = same_num u d z same w o (omega arith)

  first_byte : num 1 0 z ≡ num 1 0 d
  first_byte = within 1 0 (omega arith)

  data_bits_lem : num 2 28 z ≡ num 2 28 d
  data_bits_lem = within 2 28 (omega arith)

  start_same : Met (plain_start (num 1 2 d ≡ 26) d) → Met (plain_start (num 1 2 z ≡ 26) z)
  start_same (twelve, known) = rw (first_byte, within 1 2 (omega arith), within 1 3 (omega arith)) (omega arith also known)

  layout_same : Met (plain_signal_layout d) → Met (plain_signal_layout z)
  layout_same ((inside, least), rest) =
      rw (within 2 8 (omega arith), within 2 20 (omega arith), within 2 22 (omega arith), data_bits_lem) ((omega arith, least) also rest)

  network_same : Met (plain_network_at d) → Met (plain_network_at z)
  network_same m =
      rw (
        within 2 32 (omega arith),
        within 1 34 (omega arith),
        within 1 35 (omega arith),
        within 1 36 (omega arith),
        within 1 37 (omega arith),
        within 4 40 (omega arith),
      )
      m

  body_same : Met (plain_body_at d) → Met (plain_body_at z)
  body_same m = rw (within 1 37 (omega arith), data_bits_lem) m

  live_same : LiveRule (num 1 37 d) → LiveRule (num 1 37 z)
  live_same live = rw (within 1 37 (omega arith)) live

  -- before what live reading and archive reading have of their own
  outer_same : (inner inner' : List Rule)
      → (Met inner → Met inner')
      → Met (plain_start (num 1 2 d ≡ 26) d ++ (plain_signal_layout d ++ inner))
      → Met (plain_start (num 1 2 z ≡ 26) z ++ (plain_signal_layout z ++ inner'))
  outer_same inner inner' go (twelve, (version, (known, (inside, (class, (tdl, (bits, (size, rest)))))))) =
      met_join (plain_start (num 1 2 z ≡ 26) z) (plain_signal_layout z ++ inner') (start_same (twelve, (version, (known, tt))))
      (met_join (plain_signal_layout z) inner' (layout_same (inside, (class, (tdl, (bits, (size, tt)))))) (go rest))

  rules_same : Met (plain_signal d) → Met (plain_signal z)
  rules_same =
      outer_same (plain_inner d) (plain_inner z)
      (λ m.
      let (network, (live, body)) = met_split (plain_network_at d) ((50 unless LiveRule (num 1 37 d)) ∷ plain_body_at d) m in
      met_join (plain_network_at z) ((50 unless LiveRule (num 1 37 z)) ∷ plain_body_at z) (network_same network) (live_same live, body_same body))

  archive_rules_same : Met (plain_archive d) → Met (plain_archive z)
  archive_rules_same =
      outer_same (plain_network_at d ++ plain_body_at d) (plain_network_at z ++ plain_body_at z)
      (λ m.
      let (network, body) = met_split (plain_network_at d) (plain_body_at d) m in
      met_join (plain_network_at z) (plain_body_at z) (network_same network) (body_same body))

  signal_same : a_signal (signal_of z) (body_size z) ≡ a_signal (signal_of d) (body_size d)
  unfolding signal_of
  signal_same =
      ap₂ a_signal
      (ap₂ (λ (v m : ℕ). signal_from (read 0 (signal_head (is_seven v) (m / 8 - 20)) z)) first_byte data_bits_lem
      ∙ ap signal_from (same_read u d z same (signal_head (version_seven d) (body_size d)) (omega arith)))
      (ap (λ (m : ℕ). m / 8 - 20) data_bits_lem)

-- ---- the first PDU alone

-- a slice that begins with the bytes of a taken PDU is read as it is
pub alike : (d z : List ℕ) → refusal d ≡ 0 → take (used d) z ≡ take (used d) d → used d ≤ length z → reading z ≡ reading d
unfolding refusal
alike d z e same long = by (says_transmitter d) refl
  where
    by : (b : Bool) → says_transmitter d ≡ b → reading z ≡ reading d
    by true t =
        let type = eqb-true _ _ t in
        let size : used d ≡ 112 = used-field d e ∙ (laid_transmitter d (taken_laid d e) type).field in
        let met = (transmitter-verdict d type).none.0 e in
        let (rules, record_same) =
        transmitter_same d z (subst (λ (u : ℕ). take u z ≡ take u d) size same) (subst (λ (u : ℕ). u ≤ length z) size long) met in
        let (none, holds) = transmitter_met z rules in
        reading-taken z none ∙ holds ∙ ap a_transmitter record_same ∙ sym (content-transmitter d type) ∙ sym (reading-taken d e)
    by false t =
        let type = eqb-false _ _ t in
        let field = used-field d e in
        let whole = (signal_laid d (laid_signal d (taken_laid d e) type)).field in
        let met = (signal-verdict d type).none.0 e in
        let head : 52 ≤ used d = omega (arith, field, whole) in
        let (none, holds) = signal_met z (rules_same (used d) d z same head long (sym field) met) in
        reading-taken z none
        ∙ holds
        ∙ signal_same (used d) d z same head long (sym field)
        ∙ sym (content-signal d type)
        ∙ sym (reading-taken d e)

-- the same bytes, and whatever stands behind them
begins : (d tail : List ℕ) (u : ℕ) → u ≤ length d → take u (take u d ++ tail) ≡ take u d
begins d tail u h = take_at (take u d) tail u (length-take-le u d h)

long_enough : (d tail : List ℕ) (u : ℕ) → u ≤ length d → u ≤ length (take u d ++ tail)
long_enough d tail u h = omega (arith, length-append (take u d) tail, length-take-le u d h)

pub behind_nothing : (d tail : List ℕ) → refusal d ≡ 0 → reading (take (used d) d ++ tail) ≡ reading d
behind_nothing d tail e =
    let fits = used-fits d e in
    alike d (take (used d) d ++ tail) e (begins d tail (used d) fits) (long_enough d tail (used d) fits)

pub first_alone : (d : List ℕ) → refusal d ≡ 0 → reading (take (used d) d) ≡ reading d
first_alone d e = ap reading (sym (append-nil (take (used d) d))) ∙ behind_nothing d [] e

-- the same bytes with padding zero
pub same_zero : (d z : List ℕ) → refusal d ≡ 0 → take (used d) z ≡ take (used d) d → used d ≤ length z → padding_zero z ≡ padding_zero d
unfolding padding_zero
same_zero d z e same long =
    let read_same = alike d z e same long in
    let none : refusal z ≡ 0 = sym (refusal-read z) ∙ ap number_of read_same ∙ refusal-read d ∙ e in
    let held : content z ≡ content d = sym (reading-taken z none) ∙ read_same ∙ reading-taken d e in
    let wide : width (table_of (content d)) ≡ used d = width_form (content d) ∙ ap size_of (sym (reading-taken d e)) in
    ap (λ (r : Reading). clear 0 (table_of r) z) held ∙ same_clear (used d) d z same (table_of (content d)) (omega arith)

pub first_alone_says : (d : List ℕ) → refusal d ≡ 0 → FirstAlone reading d
first_alone_says d e = record { fits = used-fits d e; field = used-field d e; behind = λ tail. behind_nothing d tail e }

-- what the first PDU is with padding zero does not change either
pub zero_alone : (d tail : List ℕ) → refusal d ≡ 0 → padding_zero (take (used d) d ++ tail) ≡ padding_zero d
zero_alone d tail e =
    let fits = used-fits d e in
    same_zero d (take (used d) d ++ tail) e (begins d tail (used d) fits) (long_enough d tail (used d) fits)

-- ---- archive reading alike

-- the bytes that archive reading used
abbrev kept_size : List ℕ → ℕ
kept_size d = size_of (archive_reading d)

archive_alike : (d z : List ℕ)
    → archive_refusal d ≡ 0
    → take (kept_size d) z ≡ take (kept_size d) d
    → kept_size d ≤ length z
    → archive_reading z ≡ archive_reading d
unfolding archive_refusal
archive_alike d z e same long = by (says_transmitter d) refl
  where
    by : (b : Bool) → says_transmitter d ≡ b → archive_reading z ≡ archive_reading d
    by true t =
        let type = eqb-true _ _ t in
        let size : kept_size d ≡ 112 = archive-size d e ∙ (laid_transmitter d (archive_laid d e) type).field in
        let met = (transmitter-archive d type).none.0 e in
        let (rules, record_same) =
        transmitter_same d z (subst (λ (u : ℕ). take u z ≡ take u d) size same) (subst (λ (u : ℕ). u ≤ length z) size long) met in
        let (twelve, (version, ((type', family), rest))) = rules in
        archive-taken z ((transmitter-archive z type').none.1 rules)
        ∙ content-transmitter z type'
        ∙ ap a_transmitter record_same
        ∙ sym (content-transmitter d type)
        ∙ sym (archive-taken d e)
    by false t =
        let type = eqb-false _ _ t in
        let field = archive-size d e in
        let whole = (signal_laid d (laid_signal d (archive_laid d e) type)).field in
        let head : 52 ≤ kept_size d = omega (arith, field, whole) in
        let rules = archive_rules_same (kept_size d) d z same head long (sym field) ((signal-archive d type).none.0 e) in
        let (twelve, (version, ((type', family), rest))) = rules in
        let other : num 1 2 z ≢ 25 = λ q. omega arith in
        archive-taken z ((signal-archive z other).none.1 rules)
        ∙ content-signal z other
        ∙ signal_same (kept_size d) d z same head long (sym field)
        ∙ sym (content-signal d type)
        ∙ sym (archive-taken d e)

archive-fits : (d : List ℕ) → archive_refusal d ≡ 0 → kept_size d ≤ length d
archive-fits d e = by (says_transmitter d) refl
  where
    by : (b : Bool) → says_transmitter d ≡ b → kept_size d ≤ length d
    by true t = omega (arith, archive-size d e, laid_transmitter d (archive_laid d e) (eqb-true _ _ t))
    by false t = omega (arith, archive-size d e, signal_laid d (laid_signal d (archive_laid d e) (eqb-false _ _ t)))

pub archive_alone_says : (d : List ℕ) → archive_refusal d ≡ 0 → FirstAlone archive_reading d
archive_alone_says d e =
    let fits = archive-fits d e in
    record {
      fits = fits;
      field = archive-size d e;
      behind = λ tail.
          archive_alike d (take (kept_size d) d ++ tail) e (begins d tail (kept_size d) fits) (long_enough d tail (kept_size d) fits);
    }
