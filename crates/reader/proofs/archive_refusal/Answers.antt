-- `archive_refusal` meets its contract: where live reading does not give 50, archive reading gives the same (`archive_same`), and where it does,
-- the body's rules answer (`archive-behind`).
use mathlib.Core.Path.{◌≡◌, sym, ap, ◌∙◌}
use native.Mathlib.Omega.{arith}
use Rattle.pdu.specs.Refusals.{number}
use Rattle.pdu.specs.Reading.{refusal}
use Rattle.pdu.proofs.ArchiveLaws.{archive-behind, retired_signal}
use Rattle.reader.proofs.Checks.{signal_kept}
use Rattle.reader.proofs.archive_refusal.Goals as goal
use Rattle.reader.proofs.archive_refusal.Goals.{In-Err-Retired}

retired : (c : In-Err-Retired) → refusal c.args.d.now ≡ 50
retired c = sym c.in-Err-Retired.ensures ∙ ap number c.in-Err-Retired.field-0-is

pub invariant_of-retired : goal.invariant_of-retired
invariant_of-retired c =
    signal_kept _ (retired_signal c.args.d.now (retired c)) (λ i. omega (arith, c.type_inv.d i))

pub returns-in-Err-Retired : goal.returns-in-Err-Retired
returns-in-Err-Retired c = c.check_body.ensures ∙ sym (archive-behind c.args.d.now (retired (goal.at.returns-in-Err-Retired c).In-Err-Retired))
