-- `send` meets its contract: refused, it leaves the buffer as it was; else the row's record stands at its start (`row_copied`).
use mathlib.Core.Path.{sym, ap, ap₂, ◌∙◌}
use mathlib.Core.List.{List}
use Prim.Native.Nat.{ℕ, ◌+◌, ◌-◌}
use lib.ListN.{length, take, drop, length-take, length-drop}
use native.Mathlib.Omega.{arith}
use Rattle.std.specs.Prelude.{Result, Ok}
use Rattle.wire.specs.Bytes.{splice}
use Rattle.trunk.specs.Refusals.{Refusal}
use Rattle.trunk.specs.Near.{sent, sent_out, row_kind}
use Rattle.trunk.proofs.KindLaws.{record_small}
use Rattle.trunk.proofs.RefusalLaws.{answer_is, told_is, refuses, passes}
use Rattle.trunk.proofs.EndLaws.{SendFits, send-fits, row_copied}
use Rattle.trunk.proofs.near_end.send.Goals as goal
use Rattle.trunk.proofs.near_end.send.Goals.{In-Ok}

fits : (c : In-Ok) → SendFits c.args.store.now c.args.i (length c.args.out.now)
fits c = send-fits _ _ _ _ (sym c.in-Ok.ensures.first)

pub overflow_add-start : goal.overflow_add-start
overflow_add-start c =
    omega (arith, c.in-Ok.ensures.size, c.row_start-start.ensures.1, record_small (row_kind c.args.store.now c.args.i))

pub slice_bounds-copy-end : goal.slice_bounds-copy-end
slice_bounds-copy-end c =
    let past = (goal.at.slice_bounds-copy-end c).In-Ok in
    let small = record_small (row_kind c.args.store.now c.args.i) in
    omega (arith, c.in-Ok.ensures.size, c.row_start-start.ensures.1, small, (fits past).full)

pub copy-requires : goal.copy-requires
copy-requires c =
    let past = (goal.at.copy-requires c).In-Ok in
    simp (length-take, length-drop) (omega (arith, c.in-Ok.ensures.size, (fits past).space))

pub returns-in-Ok : goal.returns-in-Ok
unfolding sent sent_out
returns-in-Ok c =
    let past = (goal.at.returns-in-Ok c).In-Ok in
    let yes = passes _ c.in-Ok.ensures.first in
    let part : ℕ → ℕ → List ℕ = λ a n. take (a + n - a) (drop a c.args.store.now) in
    record {
      answer = rw yes (ap (λ (n : ℕ). record { near = c.args.near; answer = Ok n }) c.in-Ok.ensures.size);
      says = told_is (Ok c.in-Ok.size) _ _ c.in-Ok.ensures.first c.in-Ok.ensures.size;
      output =
          rw yes
          (c.copy.ensures
          ∙ ap₂ (λ (a n : ℕ). splice 0 (part a n) c.args.out.now) c.row_start-start.ensures.0 c.in-Ok.ensures.size
          ∙ row_copied c.args.store.now c.args.out.now c.args.i (fits past).full (fits past).space);
    }

pub returns-in_default : goal.returns-in_default
unfolding sent sent_out
returns-in_default c =
    let said = c.check_send-answer.ensures in
    let (broken, _) = refuses c.in_default.field-0 _ c.in_default.ensures.first in
    record {
      answer = ap (λ (a : Result ℕ Refusal). record { near = c.args.near; answer = a }) (answer_is c.check_send-answer.result _ _ said.first said.size);
      says = told_is c.check_send-answer.result _ _ said.first said.size;
      output = rw broken;
    }
