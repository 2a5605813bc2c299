-- The word built is that of the places that stay. The loop builds the word upward: after i turns it holds exactly the places below i that stay.
use Rattle.std.proofs.Common.{◌≡◌, ◌∙◌, ◌+◌, ◌^◌, Bool, true, false, cond, ℕ, refl, sym, ap, add-zero}
use native.Mathlib.Numerals.{add-one}
use Rattle.occupancy.specs.Places.{word_of}
use Rattle.occupancy.proofs.WordLaws.{built_free}
use Rattle.station.specs.Clock.{stays}
use Rattle.station.proofs.pass_time.survivors.Goals as goal
use Rattle.station.proofs.pass_time.survivors.Goals.{then-stays, else-stays}

-- the word with one place more
one_more : (p : ℕ → Bool) (i : ℕ) (b : Bool) → p i ≡ b → word_of p (i + 1) ≡ word_of p i + cond b (2 ^ i) 0
unfolding word_of
one_more p i b e = ap (word_of p) (add-one i) ∙ ap (λ (b : Bool). word_of p i + cond b (2 ^ i) 0) e

pub loop-i-init : goal.loop-i-init
unfolding word_of
loop-i-init c = refl

pub with_place-word-requires : goal.with_place-word-requires
with_place-word-requires c =
    let stay = stays c.args.station.now c.args.t in
    (c.loop-i-test.true, rw c.loop-i.invariant (built_free stay c.loop-i.i))

pub loop-i-preserved : goal.loop-i-preserved
loop-i-preserved c =
    let stay : ℕ → Bool = stays c.args.station.now c.args.t in
    let i : ℕ = c.loop-i.i in
    let was : c.loop-i.word ≡ word_of stay i = c.loop-i.invariant in
    elim c.if-stays.branch [
      | then-stays w ↦
          w.word-is ∙ w.with_place-word.ensures ∙ ap (λ (n : ℕ). n + 2 ^ i) was ∙ sym (one_more stay i true (sym c.stays.ensures ∙ w.if-stays.true))
      | else-stays w ↦ w.word-is ∙ was ∙ sym (one_more stay i false (sym c.stays.ensures ∙ w.if-stays.false) ∙ add-zero (word_of stay i))
    ]
