-- `store` meets its contract: the row lent on comes back as a splice of the store (`part-splice`), and the record fits it (`record_short`).
use Prim.Native.Nat.{ℕ, ◌+◌, ◌-◌, ◌≤◌}
use mathlib.Core.List.{List, ◌++◌}
use mathlib.Core.Path.{ap, ◌∙◌}
use lib.ListN.{length, take, drop}
use native.Mathlib.Omega.{arith}
use Rattle.std.specs.Prelude.{is_some}
use Rattle.wire.specs.Bytes.{splice}
use Rattle.pdu.specs.Reading.{reading}
use Rattle.trunk.specs.Kinds.{offered_kind, longest_record}
use Rattle.trunk.specs.Record.{head_for}
use Rattle.trunk.specs.Near.{row_size, offer_record}
use Rattle.wire.proofs.PartLaws.{part-splice}
use Rattle.trunk.proofs.WriteLaws.{record_short}
use Rattle.trunk.proofs.near_end.Carried.store.Goals as goal

pub returns : goal.returns
returns c =
    let d : List ℕ = c.args.self.now.datagram.now in
    let number : ℕ = c.args.number in
    let carried = ap is_some c.args.self.now.carried in
    let start : ℕ = c.row_start-start.result in
    let behind : List ℕ = drop start c.args.store.now in
    let n : ℕ = start + row_size - start in
    let room : start + row_size ≤ length c.args.store.now = omega (arith, c.row_start-start.ensures.1, c.requires) in
    let short : length (offer_record number d) ≤ longest_record = record_short (head_for (offered_kind (reading d)) number) d carried in
    ap (λ (l : List ℕ). take start c.args.store.now ++ (l ++ drop n behind)) c.put_record.ensures
    ∙ part-splice start n (offer_record number d) c.args.store.now (omega arith) (omega arith)
    ∙ ap (λ (a : ℕ). splice a (offer_record number d) c.args.store.now) c.row_start-start.ensures.0
