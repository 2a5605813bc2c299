-- `write` meets its contract: by the rules of the record, then the room, and what `put` leaves.
use mathlib.Core.Path.{ap, ◌∙◌}
use native.Mathlib.Omega.{arith}
use Rattle.std.specs.Prelude.{Err}
use Rattle.std.proofs.lemmas.Result.{err_from_is_err_and}
use Rattle.writer.proofs.Checks.{record_writes, room_writes, taken_writes}
use Rattle.writer.proofs.writing.write.Goals as goal

pub returns-in_err-check : goal.returns-in_err-check
returns-in_err-check g c =
    let form = g.R.Record.form c.args.r.now in
    let p = err_from_is_err_and c.from_residual.result c.from_residual.ensures.1 in
    let w = record_writes _ form (g.R.Record.body c.args.r.now) c.args.out.now _ (p.1 ∙ ap Err p.2) c.in_err-check.ensures in
    record { answer = w.answer; says = w.says; output = w.output }

pub returns-then-out-size : goal.returns-then-out-size
returns-then-out-size g c =
    let form = g.R.Record.form c.args.r.now in
    let w = room_writes form (g.R.Record.body c.args.r.now) c.args.out.now c.in_ok-check.ensures (omega (arith, c.size-size.ensures)) in
    record { answer = w.answer; says = w.says; output = w.output }

pub returns : goal.returns
returns g c =
    let form = g.R.Record.form c.args.r.now in
    let body = g.R.Record.body c.args.r.now in
    let w = taken_writes _ form body c.args.out.now c.put.new.out c.size-size.ensures c.in_ok-check.ensures (omega arith) c.put.ensures in
    record { answer = w.answer; says = w.says; output = w.output }
