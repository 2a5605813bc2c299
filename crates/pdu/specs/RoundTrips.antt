-- What demand 2's two round trips say, for every form of PDU alike.
use Rattle.std.specs.Prelude.{ℕ, ◌≤◌, ◌≡◌, ◌⊎◌, Ok, List, [], ◌++◌, length, take, drop}
use Rattle.wire.specs.Bytes.{num, Bytes}
use Rattle.pdu.specs.Forms.{size_of, body_in, body_cleared, bytes_of}
use Rattle.pdu.specs.Reading.{content, body_of, reading, used}
use Rattle.pdu.specs.Writing.{written, output_after, written_form, padding_zero}
use Rattle.pdu.specs.Timing.{timing_at}
use Rattle.pdu.specs.declared.Signal.{Signal as SignalFields}
use Rattle.pdu.specs.declared.Reading.{Reading}
use Rattle.pdu.specs.declared.Reading.TheVariants.{Refused, Transmitter, Signal}

-- "Written back it is the same bytes with padding zero", of "the first PDU and the bytes used" (02, R-5): what was read of d, written with room,
-- answers the bytes used and leaves those of d with padding zero, and then what stood there
pub record WrittenBack (d out : List ℕ) : Type 0 where
  pub answer : written (content d) (length out) ≡ Ok (used d)
  pub output : output_after (content d) (body_of d) out ≡ padding_zero d ++ drop (used d) out

-- 02, R-5, of live reading and of archive reading alike: the first PDU of a slice that is taken lies in it, as long as its length field says, and
-- bytes behind it change nothing
pub record FirstAlone (read : List ℕ → Reading) (d : List ℕ) : Type 0 where
  pub fits : size_of (read d) ≤ length d
  pub field : size_of (read d) ≡ num 2 8 d
  pub behind : (tail : List ℕ) → read (take (size_of (read d)) d ++ tail) ≡ read d

-- the body that a writing of this form is given, padding inside it zero (02, R-1); a Transmitter has none
abbrev pub body_given : Reading → List ℕ → List ℕ
body_given (Refused e) body = []
body_given (Transmitter t) body = []
body_given (Signal s n) body = body_cleared s.network.message_type n body

-- and its length
abbrev pub body_length : Reading → ℕ
body_length (Refused e) = 0
body_length (Transmitter t) = 0
body_length (Signal s n) = n

-- "each record written reads back the same", its body too; 02, R-1: "reads back with it zero", padding inside a body
pub record ReadsBack (r : Reading) (body : List ℕ) : Type 0 where
  pub reads : reading (bytes_of r body) ≡ r
  pub same_body : body_in r (bytes_of r body) ≡ body_given r body

-- 02, R-1: the field of round-trip timing, written and read back
pub record TimingBack (s : SignalFields) (body : List ℕ) : Type 0 where
  pub same :
      (s.network.message_type ≡ 1) ⊎ (s.network.message_type ≡ 2)
      → timing_at (body_in (Signal s (length body)) (bytes_of (Signal s (length body)) body)) ≡ timing_at body

-- the written form of a taken datagram: its size, what it reads as, its body; it is its own written form, and bytes
pub record WrittenForm (d : List ℕ) : Type 0 where
  pub size : length (written_form d) ≡ size_of (reading d)
  pub same : reading (written_form d) ≡ reading d
  pub body : body_of (written_form d) ≡ body_given (content d) (body_of d)
  pub again : written_form (written_form d) ≡ written_form d
  pub bytes : Bytes (written_form d)
