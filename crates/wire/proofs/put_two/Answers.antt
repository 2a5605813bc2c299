-- The second number stands behind the first (`next_beside`).
use Rattle.std.proofs.Common.{[], ◌∷◌, ap, ◌∙◌, ◌+◌, arith}
use Rattle.wire.proofs.RowLaws.{next_beside, row_of_one}
use Rattle.wire.proofs.put_two.Goals as goal

pub returns : goal.returns
returns g c =
    let w = g.T.BigEndian.WIDTH in
    let number = g.T.BigEndian.number in
    let behind = ap (λ n. c.args.at + n) (c.WIDTH.ensures ∙ omega arith) in
    let first = c.write.ensures ∙ row_of_one w c.args.at (number c.args.a) c.args.out.now in
    next_beside w c.args.at _ (number c.args.a ∷ []) (number c.args.b) _ behind c.write-2.ensures first
