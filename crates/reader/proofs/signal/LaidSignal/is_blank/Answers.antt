-- `is_blank` meets its contract: the tests, joined, are those of the whole table's padding, the shared bytes' first (`blank-append`); the fill is
-- zero where its number is (`zero-end`).
use Prim.Native.Nat.{ℕ, ◌+◌, ◌/◌, ◌%◌}
use mathlib.Core.Path.{◌≡◌, refl, sym, ap, ◌∙◌}
use mathlib.Core.List.{List, ◌++◌}
use mathlib.Core.Bool.{Bool, true, false, ◌&&◌}
use lib.Dec.{eqb}
use native.Mathlib.Omega.{arith}
use Rattle.wire.specs.Bytes.{num, all_zero}
use Rattle.wire.proofs.PartLaws.{zero-end}
use Rattle.wire.specs.Table.{all_blank}
use Rattle.wire.proofs.AppendLaws.{blank-append}
use Rattle.pdu.specs.Numbers.{signal_type, body_start}
use Rattle.pdu.specs.Tables.{signal_size, fill_of, header_table, encoding_table, network_table, body_table}
use Rattle.pdu.specs.Reading.{version_seven, signal_of, body_size}
use Rattle.pdu.specs.Writing.{body_blank}
use Rattle.pdu.proofs.BodyLaws.{body_blank_lem}
use Rattle.reader.proofs.signal.LaidSignal.is_blank.Goals as goal

-- the table's padding before the body, and the fill, as the table joins them
regroup : (s a b body z : Bool) → (((s && (a && ((b && true) && true))) && body) && z) ≡ (s && (a && ((b && true) && (body && (z && true)))))
regroup true true true true true = refl
regroup true true true true false = refl
regroup true true true false z = refl
regroup true true false body z = refl
regroup true false b body z = refl
regroup false a b body z = refl

pub returns : goal.returns
unfolding signal_of
returns c =
    let d : List ℕ = c.args.self.now in
    let n = body_size d in
    let own = body_blank d in
    let seven = version_seven d in
    let header = header_table seven signal_type (signal_size n) in
    let behind = encoding_table n ++ (network_table ++ body_table (signal_of d).network.message_type n) in
    let shared : Bool = all_blank 0 (header_table seven 0 0) d in
    let fill-zero : c.is_zero.result ≡ eqb (num (fill_of n) (body_start + n) d) 0 =
    c.is_zero.ensures ∙ ap all_zero c.behind_body.ensures ∙ zero-end (fill_of n) (body_start + n) d (omega (arith, c.requires.alone)) in
    let head : c.is_blank.result ≡ shared = c.is_blank.ensures ∙ ap (λ (l : List ℕ). all_blank 0 (header_table (version_seven l) 0 0) l) c.header.ensures in
    rw (
      head,
      c.is_body_blank.ensures,
      c.is_slot_blank.ensures,
      fill-zero,
    )
    (regroup shared (eqb (num 2 38 d) 0) (eqb (num 4 40 d / 131072 % 128) 0) own (eqb (num (fill_of n) (body_start + n) d) 0)
    ∙ ap (λ (t : Bool). shared && (eqb (num 2 38 d) 0 && ((eqb (num 4 40 d / 131072 % 128) 0 && true) && t)))
    (sym (body_blank_lem (signal_of d).network.message_type n body_start d))
    ∙ sym (blank-append header behind 0 d))
