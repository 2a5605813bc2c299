use Rattle.reader.proofs.read_carried.Goals as goal
use Rattle.pdu.proofs.ReadLaws.{written-taken, taken_laid}
use mathlib.Core.Path.{sym, ◌∙◌}

pub content-requires : goal.content-requires
content-requires c = taken_laid _ (written-taken _ (sym c.is_written.ensures ∙ c.if-is_written.true))
