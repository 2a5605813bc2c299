-- `parse` reads a number where no sign stands (`first_parsed`).
use Rattle.std.proofs.Common.{◌∙◌, lit<}
use Rattle.std.proofs.lemmas.Bool.{both_ways}
use Rattle.std.proofs.lemmas.Str.Pattern.{starts_char}
use Rattle.plantext.proofs.WordLaws.{first_parsed}
use Rattle.plantext.proofs.line.first.Goals as goal

pub returns : goal.returns
returns c =
    let starts = starts_char 43 c.args.word.now c.starts_with.result c.starts_with.ensures.cases (lit< tt) (lit< tt) in
    c.ok.ensures.value ∙ first_parsed c.args.word.now c.parse.result c.parse.ensures.value.0
    (λ plus. both_ways c.starts_with.result c.if-starts_with.false (starts.1 plus))
