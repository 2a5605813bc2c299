-- Each byte passes the test exactly if each is zero.
use Rattle.std.proofs.Common.{rules}
use Rattle.wire.proofs.PlainLaws.{zero_test_of}
use Rattle.wire.proofs.is_zero.Goals as goal

pub returns : goal.returns
returns c = zero_test_of c.all.result c.args.s.now (search rules)
