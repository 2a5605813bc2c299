-- `answer_archive` meets its contract: a datagram that no rule of archive reading refuses has its layout (`archive_laid`).
use mathlib.Core.Path.{sym, ◌∙◌}
use Rattle.pdu.proofs.ArchiveLaws.{archive_laid}
use Rattle.reader.proofs.answer_archive.Goals as goal

pub size_by-requires : goal.size_by-requires
size_by-requires c = λ none. archive_laid _ (sym c.archive_refusal.ensures ∙ none)
