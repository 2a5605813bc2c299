-- `put_body` meets its contract: the body as it is written, and behind it the fill (`body_bytes`).
use Prim.Native.Nat.{ℕ, ◌+◌, ◌-◌}
use mathlib.Core.Path.{◌≡◌, sym, ap, ◌∙◌}
use mathlib.Core.List.{List}
use lib.ListN.{length, replicate}
use Rattle.wire.specs.Bytes.{splice}
use Rattle.wire.proofs.ByteLaws.{beside}
use Rattle.wire.proofs.TableLaws.{length-clear}
use Rattle.pdu.specs.Numbers.{body_start}
use Rattle.pdu.specs.Tables.{signal_size, fill_of, body_slots}
use Rattle.pdu.specs.Bodies.{body_written}
use Rattle.pdu.proofs.BodyLaws.{slots_width, body_bytes}
use Rattle.writer.proofs.signal.Message.put_body.Goals as goal

pub returns : goal.returns
returns c =
    let given = c.args in
    let message = given.self.now.signal.network.message_type in
    let body = given.self.now.body.now in
    let out = given.out.now in
    let n = length body in
    let size : c.signal_size-size.result - (body_start + n) ≡ fill_of n =
    ap (λ (k : ℕ). k - (body_start + n)) (c.signal_size-size.ensures ∙ ap signal_size c.body_size.ensures) in
    let long : length (body_written message body) ≡ n = length-clear 0 (body_slots message n) body ∙ slots_width message n in
    beside body_start n (body_written message body) (replicate (fill_of n) 0) out long
    (c.zero.ensures ∙ ap (λ (k : ℕ). splice (body_start + n) (replicate k 0) c.put_message.new.out) size)
    c.put_message.ensures
    ∙ ap (λ (l : List ℕ). splice body_start l out) (sym (body_bytes message body))
