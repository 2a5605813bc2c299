-- The bytes so far are digits, and the others take their number to the whole text's.
use Rattle.std.proofs.Common.{◌≡◌, ◌<◌, ◌^◌, take, drop}
use Rattle.std.specs.Prelude.{fold, All}
use Rattle.text.specs.Numbers.{IsDigit, with_digit, number}
use Rattle.text.proofs.words.decimal.Given as goal

abbrev pub invariant-loop-c : goal.invariant-loop-c
invariant-loop-c l = record {
  digits : All IsDigit (take l.c-index l.text);
  number : fold with_digit l.n (drop l.c-index l.text) ≡ number l.text;
  fits : l.n < 2 ^ 64;
}
