-- What a list of bytes has.
use Rattle.std.specs.Prelude.{ℕ, List, take}
use Rattle.plantext.specs.declared.list.ByteList.{ByteList}

abbrev pub items : ByteList → List ℕ
items list = take list.count list.bytes
