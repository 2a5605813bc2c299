-- The last two numbers stand behind the first two (`row_beside`).
use Rattle.std.proofs.Common.{[], ◌∷◌, ap, ◌+◌, ◌*◌}
use Rattle.wire.proofs.RowLaws.{row_beside}
use Rattle.wire.proofs.put_four.Goals as goal

pub returns : goal.returns
returns g c =
    let t = g.T.BigEndian in
    let first = t.number c.args.a ∷ t.number c.args.b ∷ [] in
    let last = t.number c.args.c ∷ t.number c.args.d ∷ [] in
    let behind = ap (λ n. c.args.at + n * 2) c.WIDTH.ensures in
    row_beside t.WIDTH c.args.at _ first last _ behind c.put_two-2.ensures c.put_two.ensures
