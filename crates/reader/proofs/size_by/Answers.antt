-- `size_by` meets its contract: the refusal, or the length field, which is the size of what has its layout (`laid_size`).
use Prim.Native.Nat.{ℕ}
use mathlib.Core.Path.{refl, sym, ap, ◌∙◌}
use native.Mathlib.Omega.{arith}
use Rattle.std.specs.Prelude.{Ok}
use Rattle.std.proofs.lemmas.Result.{err_from_is_err_and}
use Rattle.pdu.specs.Refusals.{refused}
use Rattle.pdu.proofs.RefusalLaws.{named-number, number_apart}
use Rattle.pdu.proofs.Answers.{size_answered, content-holds}
use Rattle.pdu.proofs.ReadLaws.{laid_long, laid_size}
use Rattle.reader.proofs.size_by.Goals as goal

pub number_at-requires : goal.number_at-requires
number_at-requires c = omega (arith, laid_long _ (c.requires (ap refused c.in_ok-checked.was)))

pub returns-in_err-checked : goal.returns-in_err-checked
returns-in_err-checked c =
    let e = c.in_err-checked.field-0.0 in
    let p = err_from_is_err_and c.from_residual.result c.from_residual.ensures.1 in
    rw (p.1, p.2, c.in_err-checked.was, number_apart e, named-number e) refl

pub returns : goal.returns
returns c =
    let d = c.args.d.now in
    let size = c.number_at.ensures ∙ laid_size d (c.requires (ap refused c.in_ok-checked.was)) in
    rw (c.in_ok-checked.was) (ap (λ (n : ℕ). Ok n) size ∙ sym (size_answered _ (content-holds d)))
