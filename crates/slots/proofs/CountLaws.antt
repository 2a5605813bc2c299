-- Where a plan exists, the wanted slots are at most all slots. Count the pairs of a block and a slot in it: by blocks they are the wanted
-- slots, for each block has 2 ^ r; by slots they are at most one each, for no slot is in two blocks.
-- Assumes nothing.
use Prim.Native.Nat.{ℕ, ◌+◌, ◌-◌, ◌^◌, ◌≤◌, ◌<◌}
use mathlib.Core.Path.{◌≡◌, refl, sym, ap, ◌∙◌, subst}
use mathlib.Core.List.{List, [], ◌∷◌}
use native.Mathlib.Omega.{arith}
use lib.ListN.{length}
use Rattle.slots.specs.Planning.{sum, size_at, wanted}
use Rattle.slots.specs.Plain.{Plan, total, set_in, rate_in, first_in, has_in}
use Rattle.slots.proofs.SumLaws.{bit, sum_same, sum-le, sum_const, sum_swap, sum_first, count-sum, at_most_one}
use Rattle.slots.proofs.BlockLaws.{block_has}

-- the plain total is what is wanted
pub total-wanted : (rates : List ℕ) → total rates ≡ wanted rates
unfolding total sum
total-wanted [] = refl
total-wanted (r ∷ rates) =
    ap (λ (n : ℕ). 2 ^ r + n) (total-wanted rates) ∙ sym (sum_first (size_at (r ∷ rates)) (length rates))

module _ (rates plan : List ℕ) (p : Plan rates plan) where
  -- how many slots block i of the plan has
  slots_of : (i : ℕ) → i < length rates → size_at rates i ≡ sum (λ s. bit (has_in plan i s)) 98304
  slots_of i h =
      let rate = p.rate i h in
      ap (λ (r : ℕ). 2 ^ r) (sym rate)
      ∙ sym
      (block_has (set_in plan i) (rate_in plan i) (first_in plan i) (p.set i h)
      (subst (λ (r : ℕ). r ≤ 15) (sym rate) (p.pass.low i h))
      (subst (λ (r : ℕ). first_in plan i < 2 ^ (15 - r)) (sym rate) (p.first i h)))
      ∙ count-sum (has_in plan i) 98304

  pub plan-total : total rates ≤ 98304
  plan-total =
      let pairs : sum (λ i. sum (λ s. bit (has_in plan i s)) 98304) (length rates)
      ≡ sum (λ s. sum (λ i. bit (has_in plan i s)) (length rates)) 98304 =
      sum_swap (λ i s. bit (has_in plan i s)) 98304 (length rates) in
      let once : sum (λ s. sum (λ i. bit (has_in plan i s)) (length rates)) 98304 ≤ sum (λ _. 1) 98304 =
      sum-le _ _ 98304 (λ s hs. at_most_one (λ i. has_in plan i s) (length rates) (λ i j hi hj ei ej. p.apart i j s hi hj hs ei ej)) in
      omega (
        arith,
        total-wanted rates,
        sum_same (size_at rates) (λ i. sum (λ s. bit (has_in plan i s)) 98304) (length rates) slots_of,
        sum_const 1 98304,
      )
