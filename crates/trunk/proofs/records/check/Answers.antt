-- `check` meets its contract: what the rules refuse is answered by its number; else the record is what its kind says (`taken_says`).
use mathlib.Core.Path.{◌≡◌, refl, ap, subst, ◌∙◌}
use mathlib.Core.List.{List, [], ◌∷◌}
use Prim.Native.Nat.{ℕ}
use lib.ListN.{length}
use Rattle.std.specs.Prelude.{Ok, Err}
use Rattle.std.proofs.lemmas.Result.{err_from_is_err_and}
use Rattle.wire.specs.First.{first, told}
use Rattle.trunk.specs.Record.{kind_in, number_in, check_rules, taken, checked, checked_says}
use Rattle.trunk.specs.declared.Checked.{Checked}
use Rattle.trunk.proofs.RefusalLaws.{answer_is}
use Rattle.trunk.proofs.RuleLaws.{taken_says}
use Rattle.trunk.proofs.records.check.Goals as goal

pub returns-in_err-record-clause-answer : goal.returns-in_err-record-clause-answer
unfolding checked
returns-in_err-record-clause-answer c =
    let p = err_from_is_err_and c.from_residual.result c.from_residual.ensures.1 in
    let r : List ℕ = c.args.received.now in
    rw (p.1, p.2) (answer_is (Err c.in_err-record.field-0.0) (first (check_rules r)) (taken r) c.in_err-record.ensures.first tt)

pub returns-clause-says : goal.returns-clause-says
returns-clause-says c =
    let r : List ℕ = c.args.received.now in
    let values : List ℕ = kind_in r ∷ number_in r ∷ length r ∷ [] in
    ap (λ (t : Checked). checked_says (Ok t)) (c.checked.ensures ∙ ap taken c.in_ok-record.ensures.bytes)
    ∙ taken_says r
    ∙ subst (λ (n : ℕ). (0 ∷ values) ≡ told n values) c.in_ok-record.ensures.first refl
