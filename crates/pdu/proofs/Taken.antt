-- Being taken, by the table: a datagram is taken and holds r exactly where it has the size of r's table, its fixed values, r's values, and r meets
-- the rules of a record (`taken`, `takes`). Each plain rule is found among those facts, and the reverse.
-- Assumes nothing.
use Prim.Native.Nat.{ℕ, ◌+◌, ◌-◌, ◌/◌, ◌%◌, ◌^◌, ◌≤◌, ◌<◌}
use mathlib.Core.Path.{◌≡◌, refl, sym, ap, ap₂, subst, ◌∙◌}
use mathlib.Core.Logic.Iff
use mathlib.Core.Logic.{◌↔◌, ◌≢◌}
use mathlib.Core.Bool.{Bool, true, false}
use mathlib.Core.List.{List, [], ◌∷◌}
use lib.ListN.{length, get_or, take, drop}
use lib.Dec.{eqb}
use borrow.Author.Tests.{eqb-true, eqb-false, lt-ltb, le-ltb}
use native.Mathlib.Nat.{mod-lt}
use native.Mathlib.Omega.{arith}
use Rattle.wire.specs.Bytes.{num, Bytes}
use Rattle.wire.specs.First.{first}
use Rattle.wire.specs.Rules.{Met}
use Rattle.wire.specs.Table.{Slot, kept, padding, one, parts, fixed, width, read, all_fixed, sound}
use Rattle.wire.proofs.RuleLaws.{◌also◌, equal, both}
use Rattle.wire.proofs.ByteLaws.{num-lt}
use Rattle.pdu.specs.Numbers
use Rattle.pdu.specs.Tables.{signal_size, data_bits, is_seven, transmitter_table, body_table, signal_table}
use Rattle.pdu.specs.Records.{transmitter_from, signal_from, signal_values}
use Rattle.pdu.specs.Forms.{table_of, values_of, size_of, body_in}
use Rattle.pdu.specs.Reading.{version_seven, transmitter_of, signal_of, body_size, says_transmitter, content, body_of, refusal}
use Rattle.pdu.specs.Rules.{wrong_status, inner_rules}
use Rattle.pdu.specs.Writing.{record_rules}
use Rattle.pdu.specs.Plain.{VersionRule, RecordsRule, TimingRule, plain_transmitter, plain_signal, plain_transmitter_record}
use Rattle.pdu.specs.declared.Transmitter.{Transmitter}
use Rattle.pdu.specs.declared.Signal.{Signal}
use Rattle.pdu.specs.declared.Reading.{Reading}
use Rattle.pdu.specs.declared.Reading.TheVariants.{Refused, Transmitter as a_transmitter, Signal as a_signal}
use Rattle.pdu.proofs.Agreement.{version_says, status_says, content-transmitter, content-signal, inner_verdict, inner_record, transmitter-verdict}
use Rattle.pdu.proofs.Agreement.{signal-verdict, transmitter_record, signal_record}
use Rattle.pdu.proofs.Answers.{transmitter_met, signal_met}
use Rattle.pdu.proofs.VersionLaws.{status_read, records_right, right_records, transmitter-sound, signal-sound}
use Rattle.pdu.proofs.BodyLaws.{body-width, body-fixed, body-sound, body-read}

-- the fixed places of a table, one by one
abbrev Fixed : ℕ → List Slot → List ℕ → Type 0
Fixed o [] d = Unit {0}
Fixed o (kept w ∷ t) d = Fixed (o + w) t d
Fixed o (padding w ∷ t) d = Fixed (o + w) t d
Fixed o (one w u ∷ t) d = (num w o d ≡ u) × Fixed (o + w) t d
Fixed o (parts w ps ∷ t) d = (fixed ps (num w o d) ≡ true) × Fixed (o + w) t d

all_fixed_lem : (t : List Slot) (o : ℕ) (d : List ℕ) → (all_fixed o t d ≡ true) ↔ Fixed o t d
all_fixed_lem [] o d = (λ e. tt, λ f. refl)
all_fixed_lem (kept w ∷ t) o d = all_fixed_lem t (o + w) d
all_fixed_lem (padding w ∷ t) o d = all_fixed_lem t (o + w) d
all_fixed_lem (one w u ∷ t) o d = both _ _ (equal _ _) (all_fixed_lem t (o + w) d)
all_fixed_lem (parts w ps ∷ t) o d = both _ _ Iff.rfl (all_fixed_lem t (o + w) d)

-- what a taken datagram has: at least the size of the form's table, its fixed values, the record's values, and a record that meets its rules
pub record Taken (d : List ℕ) (r : Reading) (body : List ℕ) : Type 0 where
  pub size : size_of r ≤ length d
  pub fixed : all_fixed 0 (table_of r) d ≡ true
  pub values : read 0 (table_of r) d ≡ values_of r body
  pub rules : first (record_rules r) ≡ 0

-- ---- a Transmitter

transmitter-holds : (d : List ℕ) → Met (plain_transmitter d) → Taken d (a_transmitter (transmitter_of d)) []
unfolding transmitter_of
transmitter-holds d (long, (v, ((type, family), ((same, least), (five, (modulation, (pattern, (records, (size, (sync, end)))))))))) =
    let (category, source, major, detail, system) = five in
    record {
      size = omega arith;
      fixed =
          (all_fixed_lem (transmitter_table (version_seven d)) 0 d).1
          (type
          also family
          also size
          also refl
          also category
          also source
          also records_right (num 1 0 d) (num 2 30 d) records
          also pattern
          also major
          also detail
          also system
          also modulation
          also tt);
      values = refl;
      rules = (transmitter_record (transmitter_of d)).none.1 (v also status_read (num 1 0 d) (num 1 10 d) also sync also tt);
    }

transmitter_rules : (d : List ℕ) (t : Transmitter) (body : List ℕ)
    → Bytes d
    → Taken d (a_transmitter t) body
    → Met (plain_transmitter d) × (transmitter_of d ≡ t)
unfolding transmitter_of
transmitter_rules d t body b h =
    let version_same : num 1 0 d ≡ t.header.version = ap (λ (l : List ℕ). get_or l 0 0) h.values in
    let (type, (family, (same, (status, (category, (source, (records, (pattern, (major, (detail, (system, (modulation, end)))))))))))) =
    (all_fixed_lem (transmitter_table (is_seven t.header.version)) 0 d).0 h.fixed in
    let record_same : transmitter_of d ≡ t =
    ap (λ (v : ℕ). transmitter_from (read 0 (transmitter_table (is_seven v)) d)) version_same ∙ ap transmitter_from h.values in
    let none : RecordsRule d = λ e. right_records _ _ (num-lt 2 30 d b) records (sym version_same ∙ e) in
    let (v, (no-status, (sync, end))) =
    subst (λ (u : Transmitter). Met (plain_transmitter_record u)) (sym record_same) ((transmitter_record t).none.0 h.rules) in
    let long : 12 ≤ length d = omega (arith, h.size) in (
      (long
          also v
          also (type, family)
          also (omega (arith, h.size), omega arith)
          also (category, source, major, detail, system)
          also modulation
          also pattern
          also none
          also same
          also sync
          also tt),
      record_same,
    )

-- a Transmitter that meets its rules has a status only in version 7
pub transmitter_status : (t : Transmitter) → first (record_rules (a_transmitter t)) ≡ 0 → wrong_status t.header ≡ false
transmitter_status t e =
    let (version, (status, rest)) = (transmitter_record t).none.0 e in
    (status_says t.header version).1 status

-- ---- a Signal

-- what the rules of a Signal keep within bounds, so that it fits its places
pub record SignalBounds (s : Signal) (n : ℕ) : Type 0 where
  pub status : wrong_status s.header ≡ false
  pub encoding : s.encoding < Numbers.encoding_kept
  pub slot : s.network.slot ≤ Numbers.last_slot
  pub body : n ≤ Numbers.most_bytes
  pub timing : TimingRule s.network.message_type n

pub signal_bounds : (s : Signal) (n : ℕ) → first (record_rules (a_signal s n)) ≡ 0 → SignalBounds s n
signal_bounds s n e =
    let (v, (status, (encoding, (npg, (net, (tsec, (msec, (type, (slot, (epoch, (last, (live, ((words, six), ((few, most), end)))))))))))))) =
    (signal_record s n).none.0 e in
    record {
      status = (status_says s.header v).1 status;
      encoding = omega arith;
      slot = slot;
      body = by (eqb s.network.message_type 0) refl few most;
      timing = six;
    }
  where
    by : (b : Bool)
        → eqb s.network.message_type 0 ≡ b
        → (s.network.message_type ≡ 0 → n ≤ 126)
        → (s.network.message_type ≢ 0 → n ≤ 256)
        → n ≤ 256
    by true t few most = omega (arith, few (eqb-true _ _ t))
    by false t few most = most (eqb-false _ _ t)

signal-holds : (d : List ℕ) → Met (plain_signal d) → Taken d (a_signal (signal_of d) (body_size d)) (take (body_size d) (drop Numbers.body_start d))
unfolding signal_of record_rules
signal-holds d (long, (v, ((type, family), ((same, least), (class, (tdl, ((whole, enough), (size, rest)))))))) =
    let n : ℕ = body_size d in
    let message : ℕ = num 1 37 d in
    let bits : num 2 28 d ≡ data_bits n = omega arith in
    let part : num 2 20 d / 2 ^ 14 % 2 ^ 2 ≡ 1 = omega arith in
    let full : num 2 8 d ≡ signal_size n = omega arith in
    let below : num 2 20 d / 1 % 2 ^ 14 < Numbers.encoding_kept = mod-lt (num 2 20 d / 1) (omega arith) in
    let small : num 2 20 d / 1 % 2 ^ 14 ≤ Numbers.encoding_kept - 1 = omega arith in
    record {
      size = omega arith;
      fixed =
          (all_fixed_lem (signal_table (version_seven d) message n) 0 d).1
          (type
          also family
          also full
          also refl
          also (both _ _ (equal _ _) Iff.rfl).1 (part, refl)
          also tdl
          also bits
          also refl
          also (all_fixed_lem (body_table message n) _ d).0 (body-fixed message n _ d));
      values = ap (signal_values (signal_of d)) (body-read message n _ d);
      rules = rw ((version_says _).1 v, (status_says (signal_of d).header v).1 (status_read _ _), le-ltb _ _ small) ((inner_verdict d).none.1 rest);
    }

signal_rules_lem : (d : List ℕ) (s : Signal) (n : ℕ) (body : List ℕ)
    → Bytes d
    → Taken d (a_signal s n) body
    → Met (plain_signal d) × (signal_of d ≡ s) × (body_size d ≡ n)
unfolding signal_of
signal_rules_lem d s n body b h =
    let version_same : num 1 0 d ≡ s.header.version = ap (λ (l : List ℕ). get_or l 0 0) h.values in
    let message : ℕ = s.network.message_type in
    let (type, (family, (same, (status, (class, (tdl, (bits, end))))))) =
    (all_fixed_lem (signal_table (is_seven s.header.version) message n) 0 d).0 h.fixed in
    let record_same : signal_of d ≡ s =
    ap (λ (v : ℕ). signal_from (read 0 (signal_table (is_seven v) message n) d)) version_same ∙ ap signal_from h.values in
    let size_same : body_size d ≡ n = ap (λ (m : ℕ). m / 8 - Numbers.network_bytes) bits ∙ omega arith in
    let (v, (no-status, (encoding, inner))) = (signal_record s n).none.0 h.rules in
    let version = subst VersionRule (sym version_same) v in
    let none : first (inner_rules (a_signal (signal_of d) (body_size d))) ≡ 0 =
    ap₂ (λ (u : Signal) (m : ℕ). first (inner_rules (a_signal u m))) record_same size_same ∙ (inner_record s n).none.1 inner in
    let bytes : num 2 20 d < 2 ^ 16 = num-lt 2 20 d b in
    let long : 12 ≤ length d = omega (arith, h.size) in (
      (long
          also version
          also (type, family)
          also (omega (arith, h.size), omega arith)
          also class_of (num 2 20 d) bytes ((both _ _ (equal _ _) Iff.rfl).0 class).0
          also tdl
          also (omega arith, omega arith)
          also (omega arith, omega arith, omega arith)
          also (inner_verdict d).none.0 none),
      record_same,
      size_same,
    )
  where
    class_of : (v : ℕ) → v < 2 ^ 16 → v / 2 ^ 14 % 2 ^ 2 ≡ 1 → v / 16384 ≡ 1
    class_of v small class = omega arith

-- ---- any form

-- a taken datagram has what its form says
pub taken : (d : List ℕ) → refusal d ≡ 0 → Taken d (content d) (body_of d)
unfolding refusal
taken d e = by (says_transmitter d) refl
  where
    by : (b : Bool) → says_transmitter d ≡ b → Taken d (content d) (body_of d)
    by true t =
        let type = eqb-true _ _ t in
        subst (λ (r : Reading). Taken d r (body_in r d)) (sym (content-transmitter d type))
        (transmitter-holds d ((transmitter-verdict d type).none.0 e))
    by false t =
        let type = eqb-false _ _ t in
        subst (λ (r : Reading). Taken d r (body_in r d)) (sym (content-signal d type))
        (signal-holds d ((signal-verdict d type).none.0 e))

-- and bytes that have what a form says are taken, and hold it
pub takes : (d : List ℕ) (r : Reading) (body : List ℕ) → Bytes d → Taken d r body → (refusal d ≡ 0) × (content d ≡ r)
unfolding record_rules
takes d (Refused n) body b h = absurd (omega (arith, h.rules))
takes d (a_transmitter t) body b h =
    let (rules, same) = transmitter_rules d t body b h in
    let met = transmitter_met d rules in
    (met.0, met.1 ∙ ap a_transmitter same)
takes d (a_signal s n) body b h =
    let (rules, same, size) = signal_rules_lem d s n body b h in
    let met = signal_met d rules in
    (met.0, met.1 ∙ ap₂ a_signal same size)

-- a form whose record meets its rules: the table is sound, and as wide as the size says
pub sound_form : (r : Reading) → first (record_rules r) ≡ 0 → sound (table_of r) ≡ true
sound_form (Refused n) e = refl
sound_form (a_transmitter t) e = transmitter-sound (is_seven t.header.version)
sound_form (a_signal s n) e =
    let short = (signal_bounds s n e).body in
    let six = (signal_bounds s n e).timing in
    signal-sound (is_seven s.header.version) s.network.message_type n (lt-ltb (signal_size n) (256 ^ 2) (omega arith))
    (lt-ltb (data_bits n) (256 ^ 2) (omega arith)) (body-sound s.network.message_type n six)

pub width_form : (r : Reading) → width (table_of r) ≡ size_of r
width_form (Refused n) = refl
width_form (a_transmitter t) = refl
width_form (a_signal s n) = omega (arith, body-width s.network.message_type n)
