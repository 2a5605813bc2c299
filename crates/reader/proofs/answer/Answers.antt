-- `answer` meets its contract: a datagram that no rule refuses has its layout (`taken_laid`).
use mathlib.Core.Path.{sym, ◌∙◌}
use Rattle.pdu.proofs.ReadLaws.{taken_laid}
use Rattle.reader.proofs.answer.Goals as goal

pub size_by-requires : goal.size_by-requires
size_by-requires c = λ none. taken_laid _ (sym c.reading_refusal.ensures ∙ none)
