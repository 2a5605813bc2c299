-- The digit taken is one of those left, and the first of them.
use Rattle.std.proofs.Common.{◌∙◌, sym}
use Rattle.std.proofs.lemmas.List.Elements.{All-more}
use Rattle.text.specs.Numbers.{IsDigit}
use Rattle.text.proofs.Numbers.{fold-drop}
use Rattle.text.proofs.words.decimal.Goals as goal

pub loop-c-preserved : goal.loop-c-preserved
loop-c-preserved c = record {
  digits = All-more IsDigit _ _ 0 c.loop-c-test.true c.loop-c.invariant.digits c.in_ok-n.ensures.0.0;
  number = rw c.in_ok-n.ensures.1 (sym (fold-drop _ _ _ c.loop-c-test.true) ∙ c.loop-c.invariant.number);
  fits = rw c.in_ok-n.ensures.1 c.in_ok-n.ensures.0.1;
}
