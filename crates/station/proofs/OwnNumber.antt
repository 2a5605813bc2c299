-- Each answer has a number of its own: no refusal of the reader has one of the station's, and each names itself by the number that it has.
-- Assumes nothing.
use mathlib.Core.Path.{refl}
use Rattle.pdu.specs.Refusals.{named as read_named}
use Rattle.pdu.specs.declared.refusals.Refusal.{Refusal}
use Rattle.pdu.specs.declared.refusals.Refusal.TheVariants.{Short}
use Rattle.station.specs.Answers.{OwnNumber}
use Rattle.station.specs.declared.answers.Answer.{Answer}
use Rattle.station.specs.declared.answers.Answer.TheVariants.{Unread}

of_reader : (refusal : Refusal) → OwnNumber (Unread refusal)
unfolding read_named
of_reader Short = refl
of_reader other = refl

pub own_number : (a : Answer) → OwnNumber a
own_number (Unread refusal) = of_reader refusal
own_number other = refl
