-- A chunk's digits go behind those so far.
use Rattle.std.proofs.Common.{ℕ, List, ◌++◌, ap, rules, sym, ◌∙◌, append_assoc}
use Rattle.std.proofs.Output.{has_written_append}
use Rattle.std.specs.Slice.Iter.{chunks_rest}
use Rattle.text.specs.Hex.{digits_of}
use Rattle.text.proofs.Digits.{digits_of-append}
use Rattle.text.proofs.hex.HexDisplay.fmt.Goals as goal

pub loop-chunk-preserved : goal.loop-chunk-preserved
loop-chunk-preserved g c =
    let chunk = c.in-Some.chunk.now in
    let rest = chunks_rest c.next.new.self in
    let steps = c.in-Some.ensures.steps in (
      search rules,
      tt,
      steps.0 ∙ c.loop-chunk.invariant.2,
      λ plain.
          let so_far = c.loop-chunk.invariant.3 plain in (
            so_far.0 ++ c.spell.result.now,
            has_written_append _ _ _ _ _ _ so_far.1 (search rules),
            append_assoc so_far.0 _ _
                ∙ ap (λ (t : List ℕ). so_far.0 ++ t) (rw c.spell.ensures (sym (digits_of-append chunk rest) ∙ ap digits_of (sym steps.1.0)))
                ∙ so_far.2,
          ),
    )
