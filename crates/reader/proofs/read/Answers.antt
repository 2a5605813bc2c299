-- `read` meets its contract: a datagram that no rule refuses has its layout (`taken_laid`), and the right answer says what it should.
use mathlib.Core.Path.{sym, ap, ◌∙◌}
use Rattle.pdu.specs.Reading.{reading_says}
use Rattle.pdu.proofs.Answers.{reads_refused, reading-taken, reading_says_lem}
use Rattle.pdu.proofs.ReadLaws.{taken_laid}
use Rattle.reader.proofs.read.Goals as goal

pub content-requires : goal.content-requires
content-requires c = taken_laid _ (sym c.in-Ok.ensures)

pub returns-in-Ok-clause-answer : goal.returns-in-Ok-clause-answer
returns-in-Ok-clause-answer c = c.content.ensures ∙ sym (reading-taken _ (sym c.in-Ok.ensures))

pub returns-in-Ok-clause-says : goal.returns-in-Ok-clause-says
returns-in-Ok-clause-says c = ap reading_says (c.content.ensures ∙ sym (reading-taken _ (sym c.in-Ok.ensures))) ∙ reading_says_lem _

pub returns-in-Err-clause-answer : goal.returns-in-Err-clause-answer
returns-in-Err-clause-answer c = reads_refused _ c.in-Err.e c.in-Err.ensures
