-- The two round trips, for every form at once. A taken datagram, written from what was read, is its own bytes with padding zero (`written_back`): the
-- record's values are those that the table reads, and the table writes what it read. A record that meets its rules and whose fields fit, written and
-- read, is the same record with the same body (`reads_back`): what is written has the record's values, so it is taken by the table. So a written form
-- reads the same and is its own (`written_form_lem`), and is met exactly where the padding is zero (`written_form_exactly`).
-- Assumes nothing.
use Prim.Native.Nat.{ℕ, ◌≤◌, ◌<◌, ◌^◌}
use mathlib.Core.Path.{◌≡◌, refl, sym, ap, ap₂, subst, ◌∙◌}
use mathlib.Core.Logic.{◌↔◌, ◌⊎◌}
use mathlib.Core.Bool.{Bool, true, false}
use mathlib.Core.List.{List, [], ◌∷◌, ◌++◌, append-nil}
use lib.ListN.{length, get_or, take, drop, replicate}
use lib.Seq.{take_all, take_at, drop_at}
use lib.Dec.{ltb}
use borrow.Author.Tests.{eq-eqb, le-ltb, ltb-false}
use native.Mathlib.Omega.{arith}
use Rattle.std.specs.Prelude.{Some, Ok}
use Rattle.wire.specs.Bytes.{Bytes}
use Rattle.wire.specs.First.{first, ◌given_when◌, numbered}
use Rattle.wire.specs.Table.{Slot, width, read, fill, all_fixed, all_blank, sound, Fit}
use Rattle.wire.proofs.TableLaws.{length-fill, length-clear, read-fill, fixed-fill, fill-read, clear-blank, blank-clear}
use Rattle.wire.proofs.FirstLaws.{first_next, none_of}
use Rattle.wire.proofs.FitLaws.{bytes-fill, bytes_take, bytes_drop, fit_read}
use Rattle.wire.proofs.AppendLaws.{fill-append}
use Rattle.wire.proofs.RuleLaws.{◌also◌, equal, one_of, both_then}
use Rattle.pdu.specs.Numbers
use Rattle.pdu.specs.Rules.{access_rules, slot_rules, network_rules, live_rules, body_rules, inner_rules}
use Rattle.pdu.specs.Tables.{fill_of, is_seven, signal_head, timing_slots, body_slots, body_table}
use Rattle.pdu.specs.Records.{transmitter_values, signal_values}
use Rattle.pdu.specs.Forms.{table_of, body_values, body_cleared, values_of, bytes_of, size_of, body_in}
use Rattle.pdu.specs.Reading.{content, body_of, refusal, used, number_of}
use Rattle.pdu.specs.Writing.{record_rules, writing_rules, writing_refusal, written_form, padding_zero, only_form, in_written_form}
use Rattle.pdu.specs.Timing.{timing_at}
use Rattle.pdu.specs.Plain.{TimingRule}
use Rattle.pdu.specs.RoundTrips.{WrittenBack, body_given, body_length, ReadsBack, TimingBack, WrittenForm}
use Rattle.pdu.specs.Fits.{FitsTransmitter, FitsSignal, Fits}
use Rattle.pdu.specs.declared.Transmitter.{Transmitter}
use Rattle.pdu.specs.declared.Signal.{Signal}
use Rattle.pdu.specs.declared.Reading.{Reading}
use Rattle.pdu.specs.declared.Reading.TheVariants.{Refused, Transmitter as a_transmitter, Signal as a_signal}
use Rattle.pdu.proofs.Answers.{reading-taken, refusal-read}
use Rattle.pdu.proofs.VersionLaws.{status_fits}
use Rattle.pdu.proofs.BodyLaws.{timing_slots_lem, slots_width, given-values, body_fit, body_written_lem}
use Rattle.pdu.proofs.Taken.{Taken, taken, takes, transmitter_status, signal_bounds, sound_form, width_form}

-- ---- written back

-- the written form is the datagram with padding zero
pub written_form_back : (d : List ℕ) → refusal d ≡ 0 → written_form d ≡ padding_zero d
unfolding written_form padding_zero bytes_of
written_form_back d e =
    let h = taken d e in
    ap (fill (table_of (content d))) (sym h.values) ∙ fill-read (table_of (content d)) 0 d h.fixed

-- a form's bytes are as many as its size
pub length_form : (r : Reading) (body : List ℕ) → length (bytes_of r body) ≡ size_of r
unfolding bytes_of
length_form r body = length-fill (table_of r) (values_of r body) ∙ width_form r

-- no rule of a record has the number 0
record_numbered : (r : Reading) → numbered (record_rules r) ≡ true
unfolding record_rules inner_rules live_rules network_rules access_rules slot_rules body_rules
record_numbered (Refused n) = refl
record_numbered (a_transmitter t) = refl
record_numbered (a_signal s n) = refl

-- a record that meets its rules is written where there is room; and one that is written does, and has room
pub writes : (r : Reading) (room : ℕ) → first (record_rules r) ≡ 0 → size_of r ≤ room → writing_refusal r room ≡ 0
unfolding writing_rules
writes r room e fits = first_next (record_rules r) _ (record_numbered r) e ∙ rw (le-ltb room (size_of r) fits)

-- one that is written has room
pub writes_room : (r : Reading) (room : ℕ) → writing_refusal r room ≡ 0 → size_of r ≤ room
unfolding writing_rules
writes_room r room e = by (ltb room (size_of r)) refl
  where
    last : first ((16 given_when ltb room (size_of r)) ∷ []) ≡ 0
    last = (none_of (record_rules r) _ (record_numbered r) e).1

    by : (b : Bool) → ltb room (size_of r) ≡ b → size_of r ≤ room
    by true t =
        let z : ◌≡◌ {A = ℕ} 16 0 = rw t at last in
        absurd (omega arith)
    by false t = ltb-false _ _ t

pub writes_rules : (r : Reading) (room : ℕ) → writing_refusal r room ≡ 0 → first (record_rules r) ≡ 0
unfolding writing_rules
writes_rules r room e = (none_of (record_rules r) _ (record_numbered r) e).0

-- where a record meets its rules, only the room is left to ask
pub room_next : (r : Reading) (room : ℕ) → first (record_rules r) ≡ 0 → writing_refusal r room ≡ first ((16 given_when ltb room (size_of r)) ∷ [])
unfolding writing_rules
room_next r room e = first_next (record_rules r) _ (record_numbered r) e

-- read, and written with room
pub written_back : (d out : List ℕ) → refusal d ≡ 0 → used d ≤ length out → WrittenBack d out
unfolding written_form
written_back d out e fits =
    let h = taken d e in
    let r : Reading = content d in
    let size : used d ≡ size_of r = ap size_of (reading-taken d e) in
    let taken_by : writing_refusal r (length out) ≡ 0 = writes r (length out) h.rules (subst (λ (n : ℕ). n ≤ length out) size fits) in
    let yes = eq-eqb _ _ taken_by in
    let long : length (bytes_of r (body_of d)) ≡ used d = length_form r (body_of d) ∙ sym size in
    record {
      answer = rw yes (ap (λ (n : ℕ). Ok n) (sym size));
      output = rw yes (ap₂ (λ (l : List ℕ) (n : ℕ). l ++ drop n out) (written_form_back d e) long);
    }

-- ---- read back

-- values that fit, written by a table alone, are read back and have the fixed values
alone : (t : List Slot) (xs : List ℕ) → sound t ≡ true → Fit t xs → (read 0 t (fill t xs) ≡ xs) × (all_fixed 0 t (fill t xs) ≡ true)
alone t xs s fit =
    subst (λ (l : List ℕ). (read 0 t l ≡ xs) × (all_fixed 0 t l ≡ true)) (append-nil (fill t xs))
    (read-fill t [] [] xs s fit, fixed-fill t [] [] xs s fit)

-- what is written of a record that meets its rules and whose values fit has what its form says
written-taken : (r : Reading) (body : List ℕ) → Fit (table_of r) (values_of r body) → first (record_rules r) ≡ 0 → Taken (bytes_of r body) r body
unfolding bytes_of
written-taken r body fit rules =
    let back = alone (table_of r) (values_of r body) (sound_form r rules) fit in
    record {
      size = omega (arith, length_form r body);
      fixed = back.1;
      values = back.0;
      rules = rules;
    }

pub bytes_form : (r : Reading) (body : List ℕ) → Bytes (bytes_of r body)
unfolding bytes_of
bytes_form r body = bytes-fill (table_of r) (values_of r body)

-- so it is taken, and holds that record
again : (r : Reading) (body : List ℕ)
    → Fit (table_of r) (values_of r body)
    → first (record_rules r) ≡ 0
    → (refusal (bytes_of r body) ≡ 0) × (content (bytes_of r body) ≡ r)
again r body fit rules = takes (bytes_of r body) r body (bytes_form r body) (written-taken r body fit rules)

-- what is written of a Signal from byte 52 on is its body, padding zero, and the fill
body_at : (s : Signal) (n : ℕ) (body : List ℕ)
    → drop Numbers.body_start (bytes_of (a_signal s n) body) ≡ body_cleared s.network.message_type n body ++ replicate (fill_of n) 0
unfolding bytes_of
body_at s n body =
    let seven : Bool = is_seven s.header.version in
    let message : ℕ = s.network.message_type in
    let held : List ℕ = body_values message n body in
    let front : List ℕ = signal_values s [] in
    ap (drop Numbers.body_start) (fill-append (signal_head seven n) (body_table message n) front held refl)
    ∙ drop_at (fill (signal_head seven n) front) (fill (body_table message n) held) Numbers.body_start (length-fill (signal_head seven n) front)
    ∙ body_written_lem message n body

-- written and read: the body too, its padding zero
again_body : (r : Reading) (body : List ℕ) → body_in r (bytes_of r body) ≡ body_given r body
again_body (Refused n) body = refl
again_body (a_transmitter t) body = refl
again_body (a_signal s n) body =
    let message : ℕ = s.network.message_type in
    let given : List ℕ = body_cleared message n body in
    ap (take n) (body_at s n body)
    ∙ take_at given (replicate (fill_of n) 0) n (length-clear 0 (body_slots message n) body ∙ slots_width message n)

-- and with that body it is written the same
pub given_same : (r : Reading) (body : List ℕ) → Bytes body → first (record_rules r) ≡ 0 → bytes_of r (body_given r body) ≡ bytes_of r body
unfolding bytes_of
given_same (Refused n) body b e = refl
given_same (a_transmitter t) body b e = refl
given_same (a_signal s n) body b e =
    ap (λ (l : List ℕ). fill (table_of (a_signal s n)) (signal_values s l))
    (given-values s.network.message_type n body b (signal_bounds s n e).timing)

-- a record whose fields fit their types has values that fit the table
transmitter_fit : (t : Transmitter)
    → FitsTransmitter t
    → first (record_rules (a_transmitter t)) ≡ 0
    → Fit (table_of (a_transmitter t)) (transmitter_values t)
transmitter_fit t f rules =
    let e = f.entity in
    let a = f.antenna in
    let m = f.emission in
    let s = f.sync in
    let h = f.header in
    h.version
    also h.exercise
    also h.timestamp
    also (status_fits t.header h (transmitter_status t rules), refl)
    also h.site
    also h.application
    also h.entity
    also h.radio
    also e.kind
    also e.domain
    also e.country
    also e.version
    also e.nomenclature
    also e.state
    also refl
    also a.x
    also a.y
    also a.z
    also a.dx
    also a.dy
    also a.dz
    also a.pattern
    also m.frequency
    also m.bandwidth
    also m.power
    also m.spread
    also m.crypto
    also m.key
    also s.level
    also s.primary
    also s.secondary
    also s.state
    also s.id
    also refl

signal_fit : (s : Signal) (n : ℕ) (body : List ℕ)
    → FitsSignal s
    → Bytes body
    → first (record_rules (a_signal s n)) ≡ 0
    → Fit (table_of (a_signal s n)) (values_of (a_signal s n) body)
signal_fit s n body f b e =
    let w = f.network in
    let bounds = signal_bounds s n e in
    let slot-bits : s.network.slot < 2 ^ 17 = omega arith in
    let h = f.header in
    h.version
    also h.exercise
    also h.timestamp
    also (status_fits s.header h bounds.status, refl)
    also h.site
    also h.application
    also h.entity
    also h.radio
    also (bounds.encoding, refl)
    also f.rate
    also f.samples
    also w.npg
    also w.net
    also w.tsec
    also w.msec
    also w.message_type
    also (w.epoch, (slot-bits, refl))
    also w.time
    also body_fit s.network.message_type n body b

fit_form : (r : Reading) (body : List ℕ) → Fits r → Bytes body → first (record_rules r) ≡ 0 → Fit (table_of r) (values_of r body)
fit_form (Refused n) body f b e = absurd f
fit_form (a_transmitter t) body f b e = transmitter_fit t f e
fit_form (a_signal s n) body f b e = signal_fit s n body f b e

-- a record that the writer takes, written, reads back the same, and so does its body
pub reads_back : (r : Reading) (body : List ℕ) (room : ℕ)
    → Fits r
    → Bytes body
    → length body ≡ body_length r
    → writing_refusal r room ≡ 0
    → ReadsBack r body
reads_back r body room f b long e =
    let rules = writes_rules r room e in
    let fit = fit_form r body f b rules in
    let (none, holds) = again r body fit rules in
    record {
      reads = reading-taken (bytes_of r body) none ∙ holds;
      same_body = again_body r body;
    }

-- the field of round-trip timing, where a body has six bytes
timing_here : (body : List ℕ) → length body ≡ 6 → timing_at body ≡ Some (get_or (read 0 (timing_slots 6) body) 0 0)
unfolding timing_at
timing_here body six = rw six

-- written and read back
pub timing_back : (s : Signal) (body : List ℕ) (room : ℕ) → Bytes body → writing_refusal (a_signal s (length body)) room ≡ 0 → TimingBack s body
timing_back s body room b e = record { same = same }
  where
    message : ℕ
    message = s.network.message_type

    n : ℕ
    n = length body

    same : (message ≡ 1) ⊎ (message ≡ 2) → timing_at (body_in (a_signal s n) (bytes_of (a_signal s n) body)) ≡ timing_at body
    same timing =
        let six : TimingRule message n = (signal_bounds s n (writes_rules (a_signal s n) room e)).timing in
        let slots : body_slots message n ≡ timing_slots 6 =
        timing_slots_lem message n ((one_of _ _ (equal message _) (equal message _)).1 timing) ∙ ap timing_slots (six timing) in
        let written : List ℕ = body_cleared message n body in
        let long : length written ≡ 6 = length-clear 0 (body_slots message n) body ∙ slots_width message n ∙ six timing in
        ap timing_at (again_body (a_signal s n) body)
        ∙ timing_here written long
        ∙ ap (λ (l : List ℕ). Some (get_or l 0 0))
        (ap (λ (t : List Slot). read 0 t written) (sym slots)
        ∙ given-values message n body b six
        ∙ ap (λ (t : List Slot). read 0 t body) slots)
        ∙ sym (timing_here body (six timing))

-- ---- the written form

body_in-bytes : (r : Reading) (d : List ℕ) → Bytes d → Bytes (body_in r d)
body_in-bytes (Refused n) d b i = omega arith
body_in-bytes (a_transmitter t) d b i = omega arith
body_in-bytes (a_signal s n) d b i = bytes_take n (drop Numbers.body_start d) (bytes_drop Numbers.body_start d b) i

pub written_form_lem : (d : List ℕ) → Bytes d → refusal d ≡ 0 → WrittenForm d
unfolding written_form
written_form_lem d b e =
    let r : Reading = content d in
    let body : List ℕ = body_of d in
    let h = taken d e in
    let fit : Fit (table_of r) (values_of r body) = subst (Fit (table_of r)) h.values (fit_read (table_of r) 0 d b) in
    let (none, holds) = again r body fit h.rules in
    let body_same : body_of (bytes_of r body) ≡ body_given r body = ap (λ (q : Reading). body_in q (bytes_of r body)) holds ∙ again_body r body in
    record {
      size = length_form r body ∙ ap size_of (sym (reading-taken d e));
      same = reading-taken (bytes_of r body) none ∙ holds ∙ sym (reading-taken d e);
      body = body_same;
      again = ap₂ bytes_of holds body_same ∙ given_same r body (body_in-bytes r d b) h.rules;
      bytes = bytes_form r body;
    }

-- ---- what is in written form

-- of a taken datagram that is one PDU: its padding is zero exactly where it is its own written form
padding_says : (d : List ℕ)
    → Bytes d
    → refusal d ≡ 0
    → length d ≡ size_of (content d)
    → (all_blank 0 (table_of (content d)) d ≡ true) ↔ (written_form d ≡ d)
unfolding padding_zero
padding_says d b e alone =
    let t : List Slot = table_of (content d) in
    let h = taken d e in
    let whole : width t ≡ length d = width_form (content d) ∙ sym alone in
    let sound_table = sound_form (content d) h.rules in
    let all : take (width t) d ≡ d = take_all (width t) d (omega arith) in
    let back = written_form_back d e in (
      (λ z. back ∙ clear-blank t 0 d sound_table b (omega arith) z ∙ all),
      (λ z. blank-clear t 0 d sound_table b (omega arith) (sym back ∙ z ∙ sym all)),
    )

-- one that is its own written form is one PDU
form_says : (d : List ℕ) → Bytes d → refusal d ≡ 0 → (only_form (content d) d ≡ true) ↔ (written_form d ≡ d)
unfolding written_form
form_says d b e =
    let joined = both_then _ _ (equal (length d) (size_of (content d))) (padding_says d b e) in (
      (λ z. (joined.0 z).1),
      (λ z. joined.1 (ap length (sym z) ∙ length_form (content d) (body_of d), z)),
    )

-- in written form: taken, and its own written form
pub written_form_exactly : (d : List ℕ) → Bytes d → (in_written_form d ≡ true) ↔ ((refusal d ≡ 0) × (written_form d ≡ d))
unfolding in_written_form
written_form_exactly d b = both_then _ _ (equal _ _) (form_says d b)

-- a written form is taken, and in written form
pub written_form-holds : (d : List ℕ) → Bytes d → refusal d ≡ 0 → in_written_form (written_form d) ≡ true
written_form-holds d b e =
    let w = written_form_lem d b e in
    let none : refusal (written_form d) ≡ 0 = sym (refusal-read (written_form d)) ∙ ap number_of w.same ∙ refusal-read d ∙ e in
    (written_form_exactly (written_form d) w.bytes).1 (none, w.again)
