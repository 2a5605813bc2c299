-- A line that is no UTF-8 says nothing; of another the words are read that stand before its end (`stripped`).
use Rattle.std.proofs.Common.{sym, ap, ◌∙◌, lit<, subst, List, ℕ, Bor}
use Rattle.std.proofs.lemmas.Bool.{false_from_ne_true}
use Rattle.std.proofs.lemmas.Str.{IsUtf8-from_is_utf8, is_utf8-from_IsUtf8}
use Rattle.std.proofs.lemmas.Str.Pattern.{strip_suffix_char}
use Rattle.std.specs.Str.{is_utf8}
use Rattle.plantext.specs.Lines.{line_of, IsTextOf}
use Rattle.plantext.proofs.TextLaws.{stripped}
use Rattle.plantext.proofs.line.Line.read.Goals as goal

pub returns-in-Ok : goal.returns-in-Ok
returns-in-Ok c = λ text is.
    let bytes = c.in-Ok.ensures.cases in
    let whole = c.in-Ok.text in
    let ends = strip_suffix_char 10 whole.now c.strip_suffix.result c.strip_suffix.ensures.cases (lit< tt) in
    let left = stripped whole text c.strip_suffix.result ends (subst (λ (l : List ℕ). IsTextOf l text) (sym bytes.0) is) in
    rw (is_utf8-from_IsUtf8 c.args.line.now bytes.1)
    (c.words.ensures ∙ ap line_of (ap (λ (t : Bor (List ℕ)). t.now) c.unwrap_or.ensures ∙ left))

pub returns-in-Err : goal.returns-in-Err
returns-in-Err c = λ text _.
    rw (false_from_ne_true (is_utf8 c.args.line.now) (λ t. c.in-Err.ensures.cases.0 (IsUtf8-from_is_utf8 c.args.line.now t)))
