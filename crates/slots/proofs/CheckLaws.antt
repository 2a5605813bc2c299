-- The check is the plain statement. The bytes of a block are read as the plain statement names them; a block that fits has what the
-- statement asks; and blocks of which no pair is found by the test share no slot.
-- Assumes nothing.
use Prim.Native.Nat.{ℕ, ◌+◌, ◌-◌, ◌*◌, ◌/◌, ◌%◌, ◌^◌, ◌<◌}
use mathlib.Core.Path.{◌≡◌, refl, sym, ap, ap₂, ◌∙◌, subst, subst₂}
use mathlib.Core.Bool.{Bool, true, false, not, ◌&&◌, false≢true}
use mathlib.Core.List.{List}
use native.Mathlib.Nat.{zero-add, add-zero}
use native.Mathlib.Omega.{arith}
use lib.ListN.{length, get_or}
use lib.Dec.{eqb, ltb}
use borrow.Author.Tests.{eq-eqb, eqb-true, lt-ltb, ltb-true, le-leb, leb-true, not-true}
use Rattle.wire.specs.Bytes.{num}
use Rattle.std.proofs.lemmas.Bool.{and_parts}
use Rattle.slots.specs.Blocks.{set_count, modulus, has_slot, block_size, block_at}
use Rattle.slots.specs.Checking.{rate_at, every, first_below, fits, share, apart_from, apart_before, good_at, is_plan}
use Rattle.slots.specs.Plain.{Pass, Plan, set_in, rate_in, first_in, has_in}
use Rattle.slots.specs.declared.Block.{Block}
use Rattle.slots.proofs.SumLaws.{every_each, each_every}
use Rattle.slots.proofs.BlockLaws.{shared_found, found_shared}

-- ---- a block's bytes

num_one : (o : ℕ) (d : List ℕ) → num 1 o d ≡ get_or d o 0
num_one o d = zero-add _ ∙ ap (λ (n : ℕ). get_or d n 0) (add-zero o)

num_two : (o : ℕ) (d : List ℕ) → num 2 o d ≡ get_or d o 0 * 256 + get_or d (o + 1) 0
num_two o d = ap (λ (n : ℕ). n * 256 + get_or d (o + 1) 0) (num_one o d)

pub set_at : (plan : List ℕ) (i : ℕ) → (block_at plan i).set ≡ set_in plan i
set_at plan i = num_one (4 * i) plan

pub rate_at_lem : (plan : List ℕ) (i : ℕ) → (block_at plan i).rate ≡ rate_in plan i
rate_at_lem plan i = num_one (4 * i + 1) plan

pub first-at : (plan : List ℕ) (i : ℕ) → (block_at plan i).first ≡ first_in plan i
first-at plan i =
    let high : 4 * i + 1 + 1 ≡ 4 * i + 2 = omega arith in
    let low : 4 * i + 1 + 1 + 1 ≡ 4 * i + 3 = omega arith in
    num_two (4 * i + 1 + 1) plan ∙ ap₂ (λ (a b : ℕ). get_or plan a 0 * 256 + get_or plan b 0) high low

pub has-at : (plan : List ℕ) (i s : ℕ) → has_slot (block_at plan i) s ≡ has_in plan i s
has-at plan i s =
    ap₂ ◌&&◌ (ap (eqb (s % 3)) (set_at plan i))
    (ap₂ (λ (r f : ℕ). eqb (s / 3 % 2 ^ (15 - r)) f) (rate_at_lem plan i) (first-at plan i))

-- ---- what the check's tests say

pub record Fits (rate : ℕ) (b : Block) : Type 0 where
  pub right : b.rate ≡ rate
  pub set_below : b.set < set_count
  pub first_below_lem : b.first < modulus b.rate

below : (rate first : ℕ) → first_below rate first ≡ true → first < modulus rate
below rate first e = omega (arith, leb-true)

is_below : (rate first : ℕ) → first < modulus rate → first_below rate first ≡ true
is_below rate first h = le-leb _ _ h

pub fits_parts : (rate : ℕ) (b : Block) → fits rate b ≡ true → Fits rate b
fits_parts rate b e =
    let outer = and_parts (ltb b.set set_count && eqb b.rate rate) (first_below b.rate b.first) e in
    let inner = and_parts (ltb b.set set_count) (eqb b.rate rate) outer.0 in
    record {
      right = eqb-true _ _ inner.1;
      set_below = ltb-true _ _ inner.0;
      first_below_lem = below b.rate b.first outer.1;
    }

pub parts_fit : (rate : ℕ) (b : Block) → Fits rate b → fits rate b ≡ true
parts_fit rate b f =
    ap₂ ◌&&◌
    (ap₂ ◌&&◌ (lt-ltb _ _ f.set_below) (eq-eqb _ _ f.right))
    (is_below b.rate b.first f.first_below_lem)

module _ (rates plan : List ℕ) where
  -- a plan that passes the tests is one by the plain statement
  module _ (e : is_plan rates plan ≡ true) where
    split : (length plan ≡ block_size * length rates) × (every (good_at rates plan) (length rates) ≡ true)
    split =
        let both = and_parts (eqb (length plan) (block_size * length rates)) (every (good_at rates plan) (length rates)) e in
        (eqb-true _ _ both.0, both.1)

    good : (i : ℕ) → i < length rates → Fits (rate_at rates i) (block_at plan i) × (apart_before plan i ≡ true)
    good i h =
        let here = every_each (good_at rates plan) (length rates) split.1 i h in
        let both = and_parts (fits (rate_at rates i) (block_at plan i)) (apart_before plan i) here in
        (fits_parts (rate_at rates i) (block_at plan i) both.0, both.1)

    -- two places neither of which is before the other are one
    ordered : (i j : ℕ) → (i < j → ⊥) → (j < i → ⊥) → i ≡ j
    ordered i j ahead behind = omega arith

    -- of two blocks with a slot in common, neither stands before the other
    not-before : (i j s : ℕ) → j < i → i < length rates → has_in plan i s ≡ true → has_in plan j s ≡ true → ⊥
    not-before i j s l h hi hj =
        let apart : share (block_at plan j) (block_at plan i) ≡ false =
        not-true _ (every_each (apart_from plan i) i (good i h).1 j l) in
        false≢true (sym apart ∙ shared_found (block_at plan j) (block_at plan i) s (has-at plan j s ∙ hj) (has-at plan i s ∙ hi))

    pub checked-plan : Pass rates → Plan rates plan
    checked-plan pass =
        record {
          pass = pass;
          one_each = split.0;
          set = λ i h. subst (λ (k : ℕ). k < 3) (set_at plan i) (good i h).0.set_below;
          rate = λ i h. sym (rate_at_lem plan i) ∙ (good i h).0.right;
          first =
              λ i h. subst₂ (λ (f r : ℕ). f < 2 ^ (15 - r)) (first-at plan i) (good i h).0.right (good i h).0.first_below_lem;
          apart = λ i j s hi hj hs ei ej. ordered i j (λ l. not-before j i s l hj ej ei) (λ l. not-before i j s l hi ei ej);
        }

  -- and the other way
  pub plan_checked : Plan rates plan → is_plan rates plan ≡ true
  plan_checked p =
      ap₂ ◌&&◌
      (eq-eqb _ _ p.one_each)
      (each_every (good_at rates plan) (length rates) (λ i h. ap₂ ◌&&◌ (parts_fit _ _ (fit i h)) (each_every _ i (apart i h))))
    where
      fit : (i : ℕ) → i < length rates → Fits (rate_at rates i) (block_at plan i)
      fit i h =
          let rate : (block_at plan i).rate ≡ rate_at rates i = rate_at_lem plan i ∙ p.rate i h in
          record {
            right = rate;
            set_below = subst (λ (k : ℕ). k < 3) (sym (set_at plan i)) (p.set i h);
            first_below_lem = subst₂ (λ (f r : ℕ). f < 2 ^ (15 - r)) (sym (first-at plan i)) (sym rate) (p.first i h);
          }

      apart : (i : ℕ) → i < length rates → (j : ℕ) → j < i → not (share (block_at plan j) (block_at plan i)) ≡ true
      apart i h j l = go (share (block_at plan j) (block_at plan i)) refl
        where
          go : (b : Bool) → share (block_at plan j) (block_at plan i) ≡ b → not b ≡ true
          go false e = refl
          go true e =
              let hj : j < length rates = omega arith in
              let found = found_shared (block_at plan j) (block_at plan i) (fit j hj).set_below (fit j hj).first_below_lem (fit i h).first_below_lem e in
              let same = p.apart j i found.0 hj h found.1 (sym (has-at plan j _) ∙ found.2) (sym (has-at plan i _) ∙ found.3) in
              absurd (omega arith)
