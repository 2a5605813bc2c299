-- The third number stands behind the first two (`next_beside`).
use Rattle.std.proofs.Common.{[], ◌∷◌, ap, ◌+◌, ◌*◌}
use Rattle.wire.proofs.RowLaws.{next_beside}
use Rattle.wire.proofs.put_three.Goals as goal

pub returns : goal.returns
returns g c =
    let t = g.T.BigEndian in
    let two = t.number c.args.a ∷ t.number c.args.b ∷ [] in
    let behind = ap (λ n. c.args.at + n * 2) c.WIDTH.ensures in
    next_beside t.WIDTH c.args.at _ two (t.number c.args.c) _ behind c.write.ensures c.put_two.ensures
