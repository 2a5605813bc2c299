-- `put_message` meets its contract: of round-trip timing three bits of the first two bytes and the others as they are (`given-timing`), of all else
-- the whole body (`given_unread`).
use Prim.Native.Nat.{ℕ, ◌+◌, ◌%◌}
use mathlib.Core.Path.{refl, sym, ap, ◌∙◌}
use mathlib.Core.List.{List}
use lib.ListN.{drop}
use native.Mathlib.Omega.{arith}
use Rattle.wire.specs.Bytes.{num, big, splice, Bytes}
use Rattle.wire.proofs.ByteLaws.{length-big, beside}
use Rattle.wire.proofs.PartLaws.{part_rest}
use Rattle.pdu.specs.Numbers.{body_start}
use Rattle.pdu.proofs.BodyLaws.{given-timing, given_unread}
use Rattle.writer.proofs.signal.put_message.Goals as goal

pub returns-then-is_timing : goal.returns-then-is_timing
returns-then-is_timing c =
    let first : List ℕ = big 2 (num 2 0 c.args.body.now % 8) in
    let bytes : Bytes c.args.body.now = λ i. omega (arith, c.type_inv.body i) in
    let timing = sym c.is_timing.ensures ∙ c.if-is_timing.true in
    beside body_start 2 first (drop 2 c.args.body.now) c.args.out.now (length-big 2 (num 2 0 c.args.body.now % 8))
    (c.copy.ensures ∙ ap (λ (l : List ℕ). splice (body_start + 2) l c.put.new.out) (part_rest 2 c.args.body.now))
    (c.put.ensures ∙ ap (λ (v : ℕ). splice body_start (big 2 (v % 8)) c.args.out.now) c.number_at-high.ensures)
    ∙ ap (λ (l : List ℕ). splice body_start l c.args.out.now) (sym (given-timing _ _ c.args.body.now timing c.requires.2 bytes refl))

pub returns-else-is_timing : goal.returns-else-is_timing
returns-else-is_timing c =
    let bytes : Bytes c.args.body.now = λ i. omega (arith, c.type_inv.body i) in
    let other = sym c.is_timing.ensures ∙ c.if-is_timing.false in
    c.copy-else-is_timing.ensures ∙ ap (λ (l : List ℕ). splice body_start l c.args.out.now) (sym (given_unread _ _ c.args.body.now other bytes refl))
