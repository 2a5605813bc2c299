-- Padding, byte by byte (`padding_places`): clearing a table gives runs of bytes as they stand with the padding between them, and for the two
-- tables these compute to the places that document 01 names. What is written reads back, so it holds each field at its place, every fixed value and
-- zero padding (`transmitter-bytes`, `signal-bytes`); and the output holds it from its start, or is as it was (`output_exactly`).
-- Assumes nothing.
use Prim.Native.Nat.{ℕ, zero, suc, ◌+◌, ◌-◌, ◌*◌, ◌/◌, ◌%◌, ◌^◌, ◌≤◌}
use mathlib.Core.Path.{◌≡◌, refl, sym, ap, ap₂, subst, ◌∙◌}
use mathlib.Core.Logic.{◌≢◌}
use mathlib.Core.Bool.{Bool, true, false}
use mathlib.Core.List.{List, [], ◌∷◌, ◌++◌, append-nil}
use lib.ListN.{length, get_or, take, drop, replicate}
use lib.Dec.{eqb}
use native.Mathlib.Nat.{div-one}
use native.Mathlib.Omega.{arith}
use Rattle.std.specs.Prelude.{Result, Ok, Err}
use Rattle.wire.specs.Bytes.{num, big, span, joined, Bytes}
use Rattle.wire.specs.First.{first}
use Rattle.wire.specs.Table.{keep, skip, clean, clear, sound}
use Rattle.wire.proofs.ByteLaws.{big-num}
use Rattle.wire.proofs.TableLaws.{both_true}
use Rattle.wire.proofs.AppendLaws.{clear-append, sound-append}
use Rattle.wire.proofs.ClearLaws.{joined-append, clear_pieces}
use Rattle.pdu.specs.Tables.{signal_size, fill_of, transmitter_table, signal_head, body_table}
use Rattle.pdu.specs.Forms.{table_of, bytes_of, size_of, body_in}
use Rattle.pdu.specs.Reading.{version_seven, transmitter_of, signal_of, body_size, body_of, refusal}
use Rattle.pdu.specs.Writing.{record_rules, writing_refusal, written, output_after, written_form, padding_zero}
use Rattle.pdu.specs.Plain.{FilledTo}
use Rattle.pdu.specs.Fields.{SignalFields}
use Rattle.pdu.specs.Places.{plain_status, plain_transmitter_zero, data_end, plain_given, plain_signal_zero, PaddingPlaces}
use Rattle.pdu.specs.Places.{TransmitterBytes, SignalBytes, OutputExactly}
use Rattle.pdu.specs.Fits.{FitsTransmitter, FitsSignal}
use Rattle.pdu.specs.RoundTrips.{ReadsBack}
use Rattle.pdu.specs.Refusals.{Refusal, named}
use Rattle.pdu.specs.declared.Transmitter.{Transmitter}
use Rattle.pdu.specs.declared.Signal.{Signal}
use Rattle.pdu.specs.declared.Reading.{Reading}
use Rattle.pdu.specs.declared.Reading.TheVariants.{Transmitter as a_transmitter, Signal as a_signal}
use Rattle.pdu.proofs.Agreement.{content-transmitter, content-signal}
use Rattle.pdu.proofs.Answers.{Holds, reading-taken, reads_as, as_signal, taken_exactly_when}
use Rattle.pdu.proofs.Taken.{signal_bounds, sound_form}
use Rattle.pdu.proofs.VersionLaws.{status_byte, records_left, transmitter-sound}
use Rattle.pdu.proofs.BodyLaws.{body_given_lem, given-at, body-clear}
use Rattle.pdu.proofs.FieldLaws.{transmitter-fields, signal-fields}
use Rattle.pdu.proofs.ReadLaws.{read_taken, signal_laid, taken_laid, laid_transmitter, laid_records, laid_signal}
use Rattle.pdu.proofs.RoundTrip.{written_form_back, length_form, writes_rules, bytes_form, given_same, reads_back}

-- ---- padding

-- the slot ID with its padding zero: of byte 41 the lowest bit is left
slot-left : List ℕ → List ℕ
slot-left d = get_or d 40 0 ∷ get_or d 41 0 % 2 ∷ get_or d 42 0 ∷ get_or d 43 0 ∷ []

slot-bytes : (d : List ℕ) → Bytes d → big 4 (clean (keep 8 ∷ skip 7 ∷ keep 17 ∷ []) (num 4 40 d)) ≡ slot-left d
unfolding slot-left
slot-bytes d b =
    let v : ℕ = num 4 40 d in
    let high : v / 2 ^ 24 % 2 ^ 8 ≡ get_or d 40 0 = omega (arith, b 40, b 41, b 42, b 43) in
    let low : v % 2 ^ 17 ≡ get_or d 41 0 % 2 * 65536 + get_or d 42 0 * 256 + get_or d 43 0 = omega (arith, b 40, b 41, b 42, b 43) in
    let same : clean (keep 8 ∷ skip 7 ∷ keep 17 ∷ []) v ≡ num 4 0 (slot-left d) = rw (high, div-one v, low) (omega arith) in
    ap (big 4) same ∙ big-num 4 0 (slot-left d) (bytes d b) (omega arith)
  where
    bytes : (d : List ℕ) → Bytes d → Bytes (get_or d 40 0 ∷ get_or d 41 0 % 2 ∷ get_or d 42 0 ∷ get_or d 43 0 ∷ [])
    bytes d b zero = b 40
    bytes d b (suc zero) = omega arith
    bytes d b (suc (suc zero)) = b 42
    bytes d b (suc (suc (suc zero))) = b 43
    bytes d b (suc (suc (suc (suc i)))) = omega arith

-- the pieces of a Transmitter, for what stands in byte 10 and in bytes 30 and 31
transmitter_pieces : List ℕ → List ℕ → List ℕ → List ℕ
transmitter_pieces d status records =
    joined
    (span 0 10 d ∷ status ∷ [] ∷ (0 ∷ []) ∷ span 12 30 d ∷ records ∷ span 32 101 d ∷ (0 ∷ 0 ∷ 0 ∷ []) ∷ span 104 112 d ∷ [])

transmitter_padding : (d : List ℕ) → Bytes d → refusal d ≡ 0 → num 1 2 d ≡ 25 → padding_zero d ≡ joined (plain_transmitter_zero d)
unfolding padding_zero transmitter_of transmitter_pieces
transmitter_padding d b e type =
    let holds = content-transmitter d type in
    let laid = taken_laid d e in
    let long : 112 ≤ length d = (laid_transmitter d laid type).size in
    let seven : Bool = version_seven d in
    ap (λ (r : Reading). clear 0 (table_of r) d) holds
    ∙ clear_pieces (transmitter_table seven) 0 0 d (transmitter-sound seven) b (omega arith)
    ∙ ap₂ (transmitter_pieces d) (status_byte d b) (ap (big 2) (records_left (num 1 0 d) (num 2 30 d) (laid_records d laid type)))

-- the pieces before a Signal's body, for what stands in byte 10 and in the slot ID
head_pieces : List ℕ → List ℕ → List ℕ → List (List ℕ)
head_pieces d status slot =
    span 0 10 d ∷ status ∷ [] ∷ (0 ∷ []) ∷ span 12 38 d ∷ (0 ∷ 0 ∷ []) ∷ [] ∷ slot ∷ span 44 52 d ∷ []

-- the bytes before a Signal's body
head_padding : (n : ℕ) (d : List ℕ)
    → Bytes d
    → sound (signal_head (version_seven d) n) ≡ true
    → 52 ≤ length d
    → clear 0 (signal_head (version_seven d) n) d ≡ joined (head_pieces d (plain_status d ∷ []) (slot-left d))
unfolding head_pieces
head_padding n d b fits long =
    clear_pieces (signal_head (version_seven d) n) 0 0 d fits b long
    ∙ ap₂ (λ (status slot : List ℕ). joined (head_pieces d status slot)) (status_byte d b) (slot-bytes d b)

signal_padding : (d : List ℕ) → Bytes d → refusal d ≡ 0 → num 1 2 d ≡ 26 → padding_zero d ≡ joined (plain_signal_zero d)
unfolding padding_zero slot-left signal_of head_pieces
signal_padding d b e type =
    let other : num 1 2 d ≢ 25 = λ z. omega arith in
    let holds = content-signal d other in
    let reads = reading-taken d e ∙ holds in
    let n : ℕ = body_size d in
    let message : ℕ = (signal_of d).network.message_type in
    let h = read_taken d (a_signal (signal_of d) n) tt reads in
    let head = signal_head (version_seven d) n in
    let fits : (sound head ≡ true) × (sound (body_table message n) ≡ true) =
    both_true _ _ (sym (sound-append head (body_table message n)) ∙ sound_form (a_signal (signal_of d) n) h.rules) in
    let fields = signal-fields d (signal_of d) n reads in
    let inside : 52 + n ≤ length d = omega (arith, h.size) in
    let counted : n ≡ data_end d - 52 = omega (arith, fields.body_size) in
    let field : num 2 8 d ≡ signal_size n = (signal_laid d (laid_signal d (taken_laid d e) other)).field in
    let left : fill_of n ≡ num 2 8 d - data_end d = omega (arith, fields.body_size, field) in
    let body : clear 52 (body_table message n) d ≡ joined (plain_given (num 1 37 d) (span 52 (data_end d) d) ∷ replicate (num 2 8 d - data_end d) 0 ∷ []) =
    body-clear message n 52 d
    ∙ ap₂ (λ (l z : List ℕ). l ++ z)
    (given-at message n 52 d b inside (signal_bounds (signal_of d) n h.rules).timing
    ∙ ap₂ (λ (m k : ℕ). plain_given m (take k (drop 52 d))) fields.network.message_type counted)
    (ap (λ (k : ℕ). replicate k 0) left ∙ sym (append-nil (replicate (num 2 8 d - data_end d) 0))) in
    ap (λ (r : Reading). clear 0 (table_of r) d) holds
    ∙ clear-append head (body_table message n) 0 d
    ∙ ap₂ (λ (a z : List ℕ). a ++ z) (head_padding n d b fits.0 (omega arith)) body
    ∙ sym
    (joined-append
    (head_pieces d (plain_status d ∷ []) (slot-left d))
    (plain_given (num 1 37 d) (span 52 (data_end d) d) ∷ replicate (num 2 8 d - data_end d) 0 ∷ []))

-- of every taken datagram
pub padding_places : (d : List ℕ) → Bytes d → refusal d ≡ 0 → PaddingPlaces d
padding_places d b e =
    record { transmitter = transmitter_padding d b e; signal = signal_padding d b e }

-- ---- what is written

-- what was written, and reads back, is its own form with padding zero
own_form : (r : Reading) (body : List ℕ)
    → Holds r
    → Bytes body
    → first (record_rules r) ≡ 0
    → ReadsBack r body
    → (refusal (bytes_of r body) ≡ 0) × (padding_zero (bytes_of r body) ≡ bytes_of r body)
unfolding written_form
own_form r body h b rules back =
    let z : List ℕ = bytes_of r body in
    let (none, holds) = reads_as z r h back.reads in (
      none,
      sym (written_form_back z none)
          ∙ ap (λ (q : Reading). bytes_of q (body_in q z)) holds
          ∙ ap (bytes_of r) back.same_body
          ∙ given_same r body b rules,
    )

pub transmitter-bytes : (t : Transmitter) (room : ℕ)
    → FitsTransmitter t
    → writing_refusal (a_transmitter t) room ≡ 0
    → TransmitterBytes t (bytes_of (a_transmitter t) [])
transmitter-bytes t room f e =
    let z : List ℕ = bytes_of (a_transmitter t) [] in
    let none-given : Bytes [] = λ i. omega arith in
    let back = reads_back (a_transmitter t) [] room f none-given refl e in
    let (none, own) = own_form (a_transmitter t) [] tt none-given (writes_rules (a_transmitter t) room e) back in
    let (long, (v, ((type, family), ((field, least), (fixed, (modulation, (pattern, (records, (size, sync))))))))) =
    (taken_exactly_when z).transmitter_taken.0 (t, back.reads) in
    record {
      size = length_form (a_transmitter t) [];
      type = type;
      family = family;
      length_field = size;
      fields = transmitter-fields z t back.reads;
      fixed = fixed;
      modulation_length = modulation;
      pattern_length = pattern;
      padding = sym own ∙ (padding_places z (bytes_form (a_transmitter t) []) none).transmitter type;
    }

pub signal-bytes : (s : Signal) (body : List ℕ) (room : ℕ)
    → FitsSignal s
    → Bytes body
    → writing_refusal (a_signal s (length body)) room ≡ 0
    → SignalBytes s body (bytes_of (a_signal s (length body)) body)
signal-bytes s body room f b e =
    let n : ℕ = length body in
    let z : List ℕ = bytes_of (a_signal s n) body in
    let rules = writes_rules (a_signal s n) room e in
    let back = reads_back (a_signal s n) body room f b refl e in
    let (none, own) = own_form (a_signal s n) body tt b rules back in
    let (long, (v, ((type, family), ((field, least), (class, (tdl, ((whole, enough), (size, inner)))))))) =
    (taken_exactly_when z).signal_taken.0 (s, n, back.reads) in
    let fields = signal-fields z s n back.reads in
    let message : ℕ = s.network.message_type in
    let held = (reads_as z (a_signal s n) tt back.reads).1 in
    let same : body_of z ≡ plain_given message body =
    ap (λ (r : Reading). body_in r z) held ∙ back.same_body ∙ body_given_lem message n body b refl (signal_bounds s n rules).timing in
    let counted : data_end z ≡ 52 + n = omega (arith, fields.body_size) in
    let laid = signal_laid z (laid_signal z (taken_laid z none) (λ q. omega arith)) in
    let whole_field : num 2 8 z ≡ length z = laid.field ∙ ap signal_size (sym (as_signal z s n held).2) ∙ sym (length_form (a_signal s n) body) in
    record {
      size = subst (λ (k : ℕ). FilledTo k (length z)) counted (subst (FilledTo (data_end z)) whole_field size);
      type = type;
      family = family;
      length_field = whole_field;
      fields = subst (SignalFields z s n) same fields;
      encoding_class = class;
      tdl_type = tdl;
      padding = sym own ∙ (padding_places z (bytes_form (a_signal s n) body) none).signal type;
    }

-- of every record, body and output, without a premise
pub output_exactly : (r : Reading) (body out : List ℕ) → OutputExactly r body out
output_exactly r body out =
    let refused : ℕ = writing_refusal r (length out) in
    record {
      taken = λ n e. by_size n (eqb refused 0) refl e;
      refused = λ f e. by_refusal f (eqb refused 0) refl e;
    }
  where
    by_size : (n : ℕ) (b : Bool)
        → eqb (writing_refusal r (length out)) 0 ≡ b
        → written r (length out) ≡ Ok n
        → (length (bytes_of r body) ≡ n) × (output_after r body out ≡ bytes_of r body ++ drop n out)
    by_size n true t e =
        let same : ◌≡◌ {A = Result ℕ Refusal} (Ok (size_of r)) (Ok n) = rw t at e in
        let long : length (bytes_of r body) ≡ n = length_form r body ∙ cc in
        (long, rw t (ap (λ (k : ℕ). bytes_of r body ++ drop k out) long))
    by_size n false t e =
        let other : ◌≡◌ {A = Result ℕ Refusal} (Err (named (writing_refusal r (length out)))) (Ok n) = rw t at e in
        cc

    by_refusal : (f : Refusal) (b : Bool)
        → eqb (writing_refusal r (length out)) 0 ≡ b
        → written r (length out) ≡ Err f
        → output_after r body out ≡ out
    by_refusal f false t e = rw t refl
    by_refusal f true t e =
        let other : ◌≡◌ {A = Result ℕ Refusal} (Ok (size_of r)) (Err f) = rw t at e in
        cc
