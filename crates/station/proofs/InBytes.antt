-- Where in a datagram the station finds what it goes by: the key, by arithmetic on the places of the header's fields; the first word, since the
-- body is a part of the datagram and a number in a part is the number at its place in the whole.
-- Assumes nothing.
use Prim.Native.Nat.{ℕ, ◌/◌, ◌%◌}
use Rattle.std.specs.Prelude.{Option, Some}
use mathlib.Core.Path.{◌≡◌, ap, ◌∙◌}
use mathlib.Core.List.{List}
use native.Mathlib.Omega.{arith}
use Rattle.wire.specs.Bytes.{num}
use Rattle.pdu.specs.Numbers.{body_start}
use Rattle.pdu.specs.Reading.{reading, body_of}
use Rattle.pdu.specs.Fields.{HeaderFields}
use Rattle.pdu.specs.declared.Header.{Header}
use Rattle.pdu.specs.declared.Signal.{Signal}
use Rattle.pdu.specs.declared.Word.{Word}
use Rattle.pdu.specs.declared.Reading.TheVariants.{Signal as a_signal}
use Rattle.station.specs.Units.{key_of}
use Rattle.station.specs.Claims.{KeyInBytes, FirstWordInBytes}
use Rattle.station.proofs.ReaderLaws.{transmitter-fields, signal-fields, word_parts, num-part, body_there}

-- the key of a header whose fields stand at their byte places
key-placed : (d : List ℕ) (h : Header) → HeaderFields d h → key_of h ≡ num 8 12 d
key-placed d h at = omega (arith, at.site, at.application, at.entity, at.radio)

pub key_in_bytes : (d : List ℕ) → KeyInBytes d
key_in_bytes d = record {
  of_transmitter = λ t e. key-placed d t.header (transmitter-fields d t e).header;
  of_signal = λ g (n, e). key-placed d g.header (signal-fields d g n e).header;
}

-- the word whose ten bytes are this number
abbrev word : ℕ → Option Word
word v = Some (record { format = v % 4; label = v / 4 % 32; sublabel = v / 128 % 8 })

pub first_word_in_bytes : (d : List ℕ) (g : Signal) (n : ℕ) → reading d ≡ a_signal g n → FirstWordInBytes d n
first_word_in_bytes d g n e =
    let (inside, body, long) = body_there d g n e in
    let first = word_parts (body_of d) 0 in
    record {
      here = λ h.
          let placed : num 10 6 (body_of d) ≡ num 10 58 d = ap (num 10 6) body ∙ num-part 10 6 n body_start d (omega arith) in
          first.here (omega (arith, long)) ∙ ap word placed;
      absent = λ h. first.absent (omega (arith, long));
    }
