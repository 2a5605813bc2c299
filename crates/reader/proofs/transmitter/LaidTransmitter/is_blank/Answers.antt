-- `is_blank` meets its contract: the tests, joined, are those of the table's padding, which are the shared bytes' and those behind them
-- (`blank-append`); bytes 30 and 31 are zero where they are no padding (`records_blank`).
use Prim.Native.Nat.{ℕ}
use mathlib.Core.Path.{◌≡◌, sym, ap₂, subst, ◌∙◌}
use mathlib.Core.Bool.{◌&&◌}
use mathlib.Core.List.{List, ◌++◌}
use lib.Dec.{eqb}
use native.Mathlib.Omega.{arith}
use Rattle.wire.specs.Bytes.{num, Bytes}
use Rattle.wire.specs.Table.{all_blank}
use Rattle.wire.proofs.ByteLaws.{num-lt}
use Rattle.wire.proofs.PartLaws.{zero_part}
use Rattle.wire.proofs.RuleLaws.{and_true}
use Rattle.wire.proofs.AppendLaws.{blank-append}
use Rattle.pdu.specs.Numbers
use Rattle.pdu.specs.Tables.{header_table, entity_table, antenna_table, emission_table, sync_table}
use Rattle.pdu.specs.Reading.{version_seven, transmitter_of, transmitter_layout}
use Rattle.pdu.proofs.VersionLaws.{records_blank}
use Rattle.pdu.proofs.ReadLaws.{records_laid, transmitter_laid}
use Rattle.wire.specs.First.{first}
use Rattle.reader.proofs.Checks.{and_assoc}
use Rattle.reader.proofs.transmitter.LaidTransmitter.is_blank.Goals as goal

-- the padding behind the shared bytes
late : (d : List ℕ)
    → first (transmitter_layout d) ≡ 0
    → Bytes d
    → all_blank 20 (entity_table (version_seven d) ++ (antenna_table ++ (emission_table ++ sync_table))) d ≡ (eqb (num 2 30 d) 0 && eqb (num 3 101 d) 0)
late d laid bytes =
    ap₂ ◌&&◌ (records_blank (num 1 0 d) (num 2 30 d) (records_laid d laid) (num-lt 2 30 d bytes)) (and_true (eqb (num 3 101 d) 0))

pub returns : goal.returns
unfolding transmitter_of
returns c =
    let d : List ℕ = c.args.self.now in
    let same : c.self.inside.bytes.now ≡ d = c.self.view_is in
    let seven = version_seven d in
    let none = subst (λ (l : List ℕ). first (transmitter_layout l) ≡ 0) same c.self.invariant.unbroken in
    let bytes = subst Bytes same c.self.invariant.bytes in
    let behind = entity_table seven ++ (antenna_table ++ (emission_table ++ sync_table)) in
    let long = (transmitter_laid d none).size in
    let three = c.is_zero.ensures ∙ zero_part 3 101 c.self.inside.bytes.now (rw same (omega (arith, long))) in
    rw (
      c.is_blank.ensures,
      c.header.ensures,
      three,
      c.number_at.ensures,
      same,
      and_assoc (all_blank 0 (header_table seven 0 0) d) (eqb (num 2 30 d) 0) (eqb (num 3 101 d) 0),
      ← late d none bytes,
    )
    (sym (blank-append (header_table seven Numbers.transmitter_type Numbers.transmitter_size) behind 0 d))
