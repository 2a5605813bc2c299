-- `wrong_carried` meets its contract: what is not in written form has no kind (`written_kind`).
use Prim.Native.Nat.{ℕ}
use mathlib.Core.Bool.{Bool, true, false, not, ◌&&◌}
use mathlib.Core.Path.{◌≡◌, refl, sym, ap, ap₂, ◌∙◌}
use mathlib.Core.List.{List}
use Rattle.std.specs.Prelude.{Option, None, Some, nat_eq}
use Rattle.std.specs.Option.{option_eq}
use Rattle.pdu.specs.Writing.{in_written_form, carried}
use Rattle.pdu.proofs.Answers.{reading-taken}
use Rattle.pdu.proofs.ReadLaws.{written-taken}
use Rattle.pdu.specs.Reading.{reading}
use Rattle.trunk.specs.Kinds.{kind_of, is_kind, kind_carried}
use Rattle.trunk.specs.Record.{kind_in, carried_in, wrong_carried}
use Rattle.trunk.proofs.records.Record.wrong_carried.Goals as goal

-- the code's test of a kind is the definition's
same_kind : (o : Option ℕ) (k : ℕ) → option_eq nat_eq o (Some k) ≡ is_kind o k
same_kind None k = refl
same_kind (Some n) k = refl

-- a byte is the kind of what bytes hold exactly if they are in written form and what is read of them has this kind
written_kind : (d : List ℕ) (kind : ℕ) → is_kind (kind_carried (carried d)) kind ≡ (in_written_form d && is_kind (kind_of (reading d)) kind)
unfolding carried
written_kind d kind = by (in_written_form d) refl
  where
    by :
        (b : Bool)
        → in_written_form d ≡ b
        → is_kind (kind_carried (carried d)) kind ≡ (in_written_form d && is_kind (kind_of (reading d)) kind)
    by true w = rw (w, reading-taken d (written-taken d w))
    by false w = rw w

pub returns-then-not-is_reply : goal.returns-then-not-is_reply
unfolding wrong_carried
returns-then-not-is_reply c =
    let r : List ℕ = c.args.self.bytes.now in
    let read = c.read_carried.ensures.answer ∙ ap carried c.pdu.ensures in
    let held = c.kind_of_carried.ensures ∙ ap kind_carried read in
    rw (sym c.if-not-is_reply.ensures)
    (c.ne.ensures
    ∙ ap not
    (ap₂ (λ (o : Option ℕ) (k : ℕ). option_eq nat_eq o (Some k)) held (c.from-kind.ensures ∙ c.kind.ensures)
    ∙ same_kind (kind_carried (carried (carried_in r))) (kind_in r)
    ∙ written_kind (carried_in r) (kind_in r)))
