-- Each field of what was read is the number at its byte place (`transmitter-fields`, `signal-fields`): the tables compute to these places. A Signal's
-- data length gives its body's size back, since a taken one counts whole bytes and its network header. A word's parts are those of its 80 bits.
-- Assumes nothing.
use Prim.Native.Nat.{ℕ, ◌*◌, ◌+◌, ◌/◌, ◌%◌, ◌^◌}
use mathlib.Core.Path.{◌≡◌, refl, sym, ap, subst, ◌∙◌}
use mathlib.Core.Bool.{Bool, true, false}
use mathlib.Core.List.{List, [], ◌∷◌}
use lib.ListN.{length}
use lib.Dec.{ltb}
use borrow.Author.Tests.{lt-ltb, le-ltb, ltb-true, ltb-false}
use native.Mathlib.Nat.{div-one}
use native.Mathlib.Omega.{arith}
use Rattle.std.specs.Prelude.{Option, Some}
use Rattle.wire.specs.Bytes.{num}
use Rattle.pdu.specs.Forms.{body_in}
use Rattle.pdu.specs.Reading.{header_of, transmitter_of, signal_of, body_of, reading}
use Rattle.pdu.specs.Timing.{timing_at, timing_says}
use Rattle.pdu.specs.Words.{words_in, word_at, word_says}
use Rattle.pdu.specs.Fields.{HeaderFields, TransmitterFields, SignalFields, WordParts, plain_word, plain_timing}
use Rattle.pdu.specs.declared.Word.{Word}
use Rattle.pdu.specs.declared.Transmitter.{Transmitter}
use Rattle.pdu.specs.declared.Signal.{Signal}
use Rattle.pdu.specs.declared.Reading.{Reading}
use Rattle.pdu.specs.declared.Reading.TheVariants.{Transmitter as a_transmitter, Signal as a_signal}
use Rattle.pdu.proofs.VersionLaws.{status_there, status_none}
use Rattle.pdu.proofs.Answers.{reads_as, as_transmitter, as_signal, taken_exactly_when}

-- where a table places each field
pub header-places : (d : List ℕ) → HeaderFields d (header_of d)
unfolding header_of
header-places d =
    record {
      version = refl;
      exercise = refl;
      timestamp = refl;
      status_7 = status_there (num 1 0 d) (num 1 10 d);
      status_before = status_none (num 1 0 d) (num 1 10 d);
      site = refl;
      application = refl;
      entity = refl;
      radio = refl;
    }

transmitter-places : (d : List ℕ) → TransmitterFields d (transmitter_of d)
unfolding header_of transmitter_of
transmitter-places d =
    record {
      header = header-places d;
      entity = record { kind = refl; domain = refl; country = refl; version = refl; nomenclature = refl; state = refl };
      antenna = record { x = refl; y = refl; z = refl; dx = refl; dy = refl; dz = refl; pattern = refl };
      emission = record { frequency = refl; bandwidth = refl; power = refl; spread = refl; crypto = refl; key = refl };
      sync = record { level = refl; primary = refl; secondary = refl; state = refl; id = refl };
    }

-- of every datagram that reads as a Transmitter
pub transmitter-fields : (d : List ℕ) (t : Transmitter) → reading d ≡ a_transmitter t → TransmitterFields d t
transmitter-fields d t e =
    let (type, same) = as_transmitter d t (reads_as d (a_transmitter t) tt e).1 in
    subst (TransmitterFields d) (sym same) (transmitter-places d)

signal-places : (d : List ℕ) (n : ℕ) (body : List ℕ)
    → 8 * (20 + n) ≡ num 2 28 d
    → body ≡ body_in (a_signal (signal_of d) n) d
    → SignalFields d (signal_of d) n body
unfolding header_of signal_of
signal-places d n body bits held =
    record {
      header = header-places d;
      encoding = ap (λ (v : ℕ). v % 2 ^ 14) (div-one _);
      rate = refl;
      samples = refl;
      network =
          record {
            npg = refl;
            net = refl;
            tsec = refl;
            msec = refl;
            message_type = refl;
            slot = ap (λ (v : ℕ). v % 2 ^ 17) (div-one _);
            epoch = refl;
            time = refl;
          };
      body_size = bits;
      body_bytes = held;
    }

-- of every datagram that reads as a Signal
pub signal-fields : (d : List ℕ) (s : Signal) (n : ℕ) → reading d ≡ a_signal s n → SignalFields d s n (body_of d)
signal-fields d s n e =
    let (none, holds) = reads_as d (a_signal s n) tt e in
    let (type, same, size) = as_signal d s n holds in
    let (long, (v, (known, (field, (class, (tdl, ((whole, enough), rest))))))) = (taken_exactly_when d).signal_taken.0 (s, n, e) in
    let bits : 8 * (20 + n) ≡ num 2 28 d = omega arith in
    subst (λ (g : Signal). SignalFields d g n (body_of d)) (sym same)
    (signal-places d n (body_of d) bits (ap (λ (r : Reading). body_in r d) holds))

-- a word of these parts
abbrev word_of : ℕ → ℕ → ℕ → Word
word_of format label sublabel = record { format = format; label = label; sublabel = sublabel }

-- the parts of every word of every body, and that there is none behind the last
pub word_parts : (body : List ℕ) (i : ℕ) → WordParts body i
unfolding word_at
word_parts body i =
    let v : ℕ = num 10 (6 + 10 * i) body in
    let of_format : ℕ → Option Word = λ f. Some (word_of (f % 2 ^ 2) (v / 2 ^ 2 % 2 ^ 5) (v / 2 ^ 7 % 2 ^ 3)) in
    record {
      here = λ long. rw (lt-ltb i (words_in (length body)) (omega arith)) (ap of_format (div-one v));
      absent = λ short. rw (le-ltb i (words_in (length body)) (omega arith));
    }

pub word_says_lem : (body : List ℕ) (i : ℕ) → word_says (word_at body i) ≡ plain_word body i
word_says_lem body i = by (ltb (length body) (16 + 10 * i)) refl
  where
    by : (b : Bool) → ltb (length body) (16 + 10 * i) ≡ b → word_says (word_at body i) ≡ plain_word body i
    by true t = ap word_says ((word_parts body i).absent (ltb-true _ _ t)) ∙ rw t refl
    by false t = ap word_says ((word_parts body i).here (ltb-false _ _ t)) ∙ rw t refl

-- the field of round-trip timing in every body
pub timing_says_lem : (body : List ℕ) → timing_says (timing_at body) ≡ plain_timing body
unfolding timing_at
timing_says_lem body = by (ltb (length body) 6) refl
  where
    by : (b : Bool) → ltb (length body) 6 ≡ b → timing_says (timing_at body) ≡ plain_timing body
    by true t = rw t refl
    by false t = rw t (ap (λ (v : ℕ). v % 2 ^ 35 ∷ []) (div-one _))
