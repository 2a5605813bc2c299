-- The blocks on the line. Of two blocks the one with the higher rate stands before, all of it; every block ends within what is wanted; and
-- two blocks of which the check's test is true would start within one piece of the higher rate's size. So no two of ours share a slot.
-- Assumes nothing.
use Prim.Native.Nat.{ℕ, ◌+◌, ◌-◌, ◌*◌, ◌/◌, ◌%◌, ◌^◌, ◌≤◌, ◌<◌}
use mathlib.Core.Path.{◌≡◌, refl, sym, ap, ◌∙◌, subst}
use mathlib.Core.Bool.{Bool, true, false, cond}
use mathlib.Core.Logic.{⊎_elim}
use mathlib.Core.List.{List}
use native.Mathlib.Nat.{lt_trans, mod-lt, mod-eq_of_lt, max-eq_right, div-add-mod'}
use native.Mathlib.Omega.{arith}
use lib.ListN.{length}
use lib.Pow.{pow_pos, shr-shr, shr_lt}
use borrow.Author.Tests.{lt-ltb, le-ltb, ltb-true}
use Rattle.slots.specs.Blocks.{set_size, slot_count, modulus}
use Rattle.slots.specs.Checking.{rate_at, share}
use Rattle.slots.specs.Planning.{sum, size_at, size_before, wanted, rank, before, start_at, reversed, block_from, block_for}
use Rattle.slots.specs.Plain.{Pass}
use Rattle.std.proofs.lemmas.Bool.{cases_order}
use Rattle.std.proofs.Math.Pow.{pow_mono}
use Rattle.slots.proofs.SumLaws.{sum-le, sum_const, sum_one_more}
use Rattle.slots.proofs.ReverseLaws.{reversed-lt, reversed_injective, reversed_low}
use Rattle.slots.proofs.BlockLaws.{share_parts, share_swap}

-- ---- two blocks by their starts

-- the low bits of a first index are those of the piece, of a higher rate's size, that the block stands in
first_low : (rate higher start : ℕ)
    → rate ≤ higher
    → higher ≤ 15
    → (block_from rate start).first % modulus higher ≡ reversed (15 - higher) (start % set_size / 2 ^ higher)
first_low rate higher start h top =
    let bits : 15 - rate ≡ (higher - rate) + (15 - higher) = omega arith in
    let sizes : rate + (higher - rate) ≡ higher = omega arith in
    ap (λ (n : ℕ). reversed n (start % set_size / 2 ^ rate) % modulus higher) bits
    ∙ reversed_low (higher - rate) (15 - higher) (start % set_size / 2 ^ rate)
    ∙ ap (reversed (15 - higher)) (shr-shr (start % set_size) rate (higher - rate) ∙ ap (λ (n : ℕ). start % set_size / 2 ^ n) sizes)

piece_lt : (rate start : ℕ) → rate ≤ 15 → start % set_size / 2 ^ rate < 2 ^ (15 - rate)
piece_lt rate start top =
    let whole : 15 - rate + rate ≡ 15 = omega arith in
    shr_lt (15 - rate) rate (subst (λ (n : ℕ). start % set_size < 2 ^ n) (sym whole) (mod-lt start (omega arith)))

-- two numbers of one piece are less than its size apart
close : (x y size : ℕ) → 0 < size → x / size ≡ y / size → x < y + size
close x y size h e =
    let same : x / size * size ≡ y / size * size = ap (λ (n : ℕ). n * size) e in
    omega (arith, div-add-mod' x size, div-add-mod' y size, mod-lt x h)

pub shared_close : (rate higher start other : ℕ)
    → rate ≤ higher
    → higher ≤ 15
    → share (block_from rate start) (block_from higher other) ≡ true
    → start < other + 2 ^ higher
shared_close rate higher start other h top e =
    let parts = share_parts (block_from rate start) (block_from higher other) e in
    let firsts : (block_from rate start).first % modulus higher ≡ (block_from higher other).first % modulus higher =
    subst
    (λ (n : ℕ). (block_from rate start).first % modulus n ≡ (block_from higher other).first % modulus n)
    (max-eq_right h)
    parts.1 in
    let pieces : start % set_size / 2 ^ higher ≡ other % set_size / 2 ^ higher =
    reversed_injective (15 - higher) _ _ (piece_lt higher start top) (piece_lt higher other top)
    (sym (first_low rate higher start h top) ∙ firsts ∙ mod-eq_of_lt (reversed-lt (15 - higher) (other % set_size / 2 ^ higher))) in
    let near : start % set_size < other % set_size + 2 ^ higher = close _ _ (2 ^ higher) (pow_pos higher) pieces in
    let sets : start / set_size ≡ other / set_size = parts.0 in
    omega arith

-- ---- our blocks

module _ (rates : List ℕ) (pass : Pass rates) where
  -- a block that stands before another has no lower rate
  before-higher : (i j : ℕ) → i < length rates → j < length rates → rank rates j < rank rates i → rate_at rates i ≤ rate_at rates j
  before-higher i j hi hj l = omega (arith, pass.few, pass.low i hi, pass.low j hj)

  rank_same : (i j : ℕ) → i < length rates → j < length rates → rank rates i ≡ rank rates j → i ≡ j
  rank_same i j hi hj e = omega (arith, pass.few, pass.low i hi, pass.low j hj)

  -- it ends before the other starts
  before-ends : (i j : ℕ) → j < length rates → rank rates j < rank rates i → start_at rates j + size_at rates j ≤ start_at rates i
  before-ends i j hj l =
      sum_one_more (before rates j) (before rates i) (size_at rates) j (length rates) hj
      (λ k _ e. lt-ltb (rank rates k) (rank rates i) (lt_trans (ltb-true (rank rates k) (rank rates j) e) l))
      (le-ltb (rank rates j) (rank rates j) (omega arith))
      (lt-ltb (rank rates j) (rank rates i) l)

  -- and every block ends within what is wanted
  pub within : (i : ℕ) → i < length rates → start_at rates i + size_at rates i ≤ wanted rates
  within i hi =
      sum_one_more (before rates i) (λ _. true) (size_at rates) i (length rates) hi
      (λ _ _ _. refl)
      (le-ltb (rank rates i) (rank rates i) (omega arith))
      refl

  pub start_below : (i : ℕ) → i < length rates → wanted rates ≤ slot_count → start_at rates i < slot_count
  start_below i hi room = omega (arith, within i hi, pow_pos (rate_at rates i))

  not_shared_before : (i j : ℕ)
      → i < length rates
      → j < length rates
      → rank rates j < rank rates i
      → share (block_for rates i) (block_for rates j) ≡ true
      → ⊥
  not_shared_before i j hi hj l e =
      omega (
        arith,
        before-ends i j hj l,
        shared_close (rate_at rates i) (rate_at rates j) (start_at rates i) (start_at rates j) (before-higher i j hi hj l) (pass.low j hj) e,
      )

  pub not_shared : (i j : ℕ)
      → i < length rates
      → j < length rates
      → (i ≡ j → ⊥)
      → share (block_for rates i) (block_for rates j) ≡ true
      → ⊥
  not_shared i j hi hj differ e =
      ⊎_elim
      (λ q. differ (rank_same i j hi hj q))
      (⊎_elim
      (λ l. not_shared_before j i hj hi l (share_swap (block_for rates i) (block_for rates j) e))
      (λ l. not_shared_before i j hi hj l e))
      (cases_order (rank rates i) (rank rates j))

-- ---- sums that a `u32` holds

pub sizes_small : (rates : List ℕ) → Pass rates → wanted rates < 2 ^ 32
sizes_small rates pass =
    let each : wanted rates ≤ sum (λ _. 32768) (length rates) =
    sum-le (size_at rates) (λ _. 32768) (length rates) (λ i l. pow_mono (pass.low i l)) in
    omega (arith, each, sum_const 32768 (length rates), pass.few)

at_most : (b : Bool) (n : ℕ) → cond b n 0 ≤ n
at_most true n = omega arith
at_most false n = omega arith

pub start_small : (rates : List ℕ) (i : ℕ) → Pass rates → start_at rates i < 2 ^ 32
start_small rates i pass =
    let each : start_at rates i ≤ wanted rates =
    sum-le (size_before rates i) (size_at rates) (length rates) (λ j l. at_most (before rates i j) (size_at rates j)) in
    omega (arith, each, sizes_small rates pass)
