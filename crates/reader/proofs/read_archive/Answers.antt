-- `read_archive` meets its contract: a datagram that no rule refuses has its layout (`archive_laid`), and the right answer says what it should.
-- The answers stand as those of `read`, by the laws of archive reading: a goal is of its own function's type, so that one text cannot serve both.
use mathlib.Core.Path.{sym, ap, ◌∙◌}
use Rattle.pdu.specs.Reading.{reading_says}
use Rattle.pdu.proofs.ArchiveLaws.{archive_laid, archive-taken, archive_says_lem}
use Rattle.pdu.proofs.Answers.{archive_reads_refused}
use Rattle.reader.proofs.read_archive.Goals as goal

pub content-requires : goal.content-requires
content-requires c = archive_laid _ (sym c.in-Ok.ensures)

pub returns-in-Ok-clause-answer : goal.returns-in-Ok-clause-answer
returns-in-Ok-clause-answer c = c.content.ensures ∙ sym (archive-taken _ (sym c.in-Ok.ensures))

pub returns-in-Ok-clause-says : goal.returns-in-Ok-clause-says
returns-in-Ok-clause-says c = ap reading_says (c.content.ensures ∙ sym (archive-taken _ (sym c.in-Ok.ensures))) ∙ archive_says_lem _

pub returns-in-Err-clause-answer : goal.returns-in-Err-clause-answer
returns-in-Err-clause-answer c = archive_reads_refused _ c.in-Err.e c.in-Err.ensures
