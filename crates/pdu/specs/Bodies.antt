-- A body as it is written, and what the calls that write one may ask.
use Rattle.std.specs.Prelude.{ℕ, ◌≤◌, List, length}
use Rattle.pdu.specs.Numbers
use Rattle.pdu.specs.Tables.{signal_size}
use Rattle.pdu.specs.Forms.{body_cleared}
use Rattle.pdu.specs.Plain.{TimingRule}

-- the body of a message of this type, with the padding inside it zero (02, R-1)
abbrev pub body_written : ℕ → List ℕ → List ℕ
body_written type body = body_cleared type (length body) body

-- a body that breaks no rule of sizes, and an output with room for the PDU
abbrev pub BodyFits : ℕ → List ℕ → List ℕ → Type 0
BodyFits type body out =
    (length body ≤ Numbers.most_bytes)
    × (signal_size (length body) ≤ length out)
    × TimingRule type (length body)
