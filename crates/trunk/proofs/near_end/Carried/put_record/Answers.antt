-- `put_record` meets its contract: the part lent on comes back as a splice of the row (`part-splice`), and head and PDU side by side are the
-- record (`record_splice`).
use Prim.Native.Nat.{ℕ, ◌-◌}
use mathlib.Core.List.{List, ◌++◌}
use mathlib.Core.Path.{◌≡◌, sym, ap, ◌∙◌}
use lib.ListN.{length, take, drop}
use native.Mathlib.Omega.{arith}
use Rattle.std.specs.Prelude.{Option, is_some, unwrap_or}
use Rattle.wire.specs.Bytes.{splice}
use Rattle.pdu.specs.Writing.{written_form}
use Rattle.trunk.specs.Head.{head_size}
use Rattle.trunk.specs.Record.{head_for, record_of}
use Rattle.wire.proofs.PartLaws.{part-splice}
use Rattle.trunk.proofs.WriteLaws.{carried_short, record_splice}
use Rattle.trunk.proofs.near_end.Carried.put_record.Goals as goal

pub returns : goal.returns
returns c =
    let p = c.args.self.now in
    let row : List ℕ = c.put_head.new.out in
    let pdu : List ℕ = written_form p.datagram.now in
    let long : length row ≡ length c.args.row.now = c.put_head.auto.out in
    let n : ℕ = length row - head_size in
    ap (λ (l : List ℕ). take head_size row ++ (l ++ drop n (drop head_size row))) c.put.ensures
    ∙ part-splice head_size n pdu row (omega arith) (omega (arith, carried_short p.datagram.now (ap is_some p.carried)))
    ∙ ap (splice head_size pdu) c.put_head.ensures
    ∙ record_splice (head_for p.kind c.args.number) pdu c.args.row.now
    ∙ ap (λ (o : Option ℕ). splice 0 (record_of (head_for (unwrap_or o 0) c.args.number) pdu) c.args.row.now) (sym p.carried)
