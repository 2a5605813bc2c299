-- Our plan passes the check. Block i stands in its bytes at 4 i and is read back from there; on a line that has room for all, every
-- block fits, and no two share a slot.
-- Assumes nothing.
use Prim.Native.Nat.{ℕ, zero, suc, ◌+◌, ◌-◌, ◌*◌, ◌^◌, ◌≤◌, ◌<◌}
use mathlib.Core.Path.{◌≡◌, refl, sym, ap, ap₂, ◌∙◌, subst, subst₂}
use mathlib.Core.Bool.{Bool, true, false, not, ◌&&◌}
use mathlib.Core.Logic.{⊎_elim}
use mathlib.Core.List.{List, [], ◌++◌, append_assoc, append-nil}
use native.Mathlib.Nat.{zero-add, mul-suc, eq-or-lt_of_le, le_of_suc-le-suc, not-suc-le-zero}
use native.Mathlib.Numerals.{add-one}
use native.Mathlib.Omega.{arith}
use lib.ListN.{length, length-append}
use lib.Pow.{pow_mono}
use borrow.Author.Tests.{eq-eqb}
use Rattle.wire.specs.Bytes.{splice}
use Rattle.wire.specs.Table.{Fit, read}
use Rattle.wire.proofs.ByteLaws.{splice-append}
use Rattle.wire.proofs.TableLaws.{length-fill, read-fill}
use Rattle.slots.specs.Blocks.{slot_count, block_table, block_size, block_values, block_of, block_bytes, block_at}
use Rattle.slots.specs.Checking.{rate_at, share, good_at, is_plan}
use Rattle.slots.specs.Planning.{wanted, block_in_place, plan_up_to, plan_of}
use Rattle.slots.specs.Plain.{Pass, Plan}
use Rattle.slots.specs.declared.Block.{Block}
use Rattle.slots.proofs.SumLaws.{each_every}
use Rattle.slots.proofs.ReverseLaws.{reversed-lt}
use Rattle.slots.proofs.CheckLaws.{Fits, parts_fit, checked-plan}
use Rattle.slots.proofs.LineLaws.{start_below, not_shared}

-- ---- the plan's bytes

pub length-plan : (rates : List ℕ) (n : ℕ) → length (plan_up_to rates n) ≡ block_size * n
unfolding plan_up_to
length-plan rates zero = refl
length-plan rates (suc n) =
    length-append (plan_up_to rates n) (block_bytes (block_in_place rates n))
    ∙ ap₂ ◌+◌ (length-plan rates n) (length-fill block_table (block_values (block_in_place rates n)))
    ∙ sym (mul-suc block_size n)

-- a turn of the loop that writes block after block
pub plan_turn : (rates : List ℕ) (i : ℕ) (l : List ℕ)
    → splice (block_size * i) (block_bytes (block_in_place rates i)) (splice 0 (plan_up_to rates i) l) ≡ splice 0 (plan_up_to rates (i + 1)) l
unfolding plan_up_to
plan_turn rates i l =
    ap (λ (at : ℕ). splice at (block_bytes (block_in_place rates i)) (splice 0 (plan_up_to rates i) l))
    (sym (zero-add (length (plan_up_to rates i)) ∙ length-plan rates i))
    ∙ splice-append 0 (plan_up_to rates i) (block_bytes (block_in_place rates i)) l
    ∙ ap (λ (n : ℕ). splice 0 (plan_up_to rates n) l) (sym (add-one i))

-- the bytes behind block i
split_at : (rates : List ℕ) (i n : ℕ)
    → i < n
    → (rest : List ℕ) × (plan_up_to rates n ≡ plan_up_to rates i ++ (block_bytes (block_in_place rates i) ++ rest))
unfolding plan_up_to
split_at rates i zero h = absurd (not-suc-le-zero h)
split_at rates i (suc n) h =
    ⊎_elim
    (λ (e : i ≡ n). (
      [],
      ap (λ (k : ℕ). plan_up_to rates k ++ block_bytes (block_in_place rates k)) (sym e)
          ∙ ap (λ (l : List ℕ). plan_up_to rates i ++ l) (sym (append-nil (block_bytes (block_in_place rates i)))),
    ))
    (λ (l : i < n).
    let earlier = split_at rates i n l in (
      earlier.0 ++ block_bytes (block_in_place rates n),
      ap (λ (p : List ℕ). p ++ block_bytes (block_in_place rates n)) earlier.1
          ∙ append_assoc (plan_up_to rates i) _ _
          ∙ ap (λ (p : List ℕ). plan_up_to rates i ++ p)
          (append_assoc (block_bytes (block_in_place rates i)) earlier.0 (block_bytes (block_in_place rates n))),
    ))
    (eq-or-lt_of_le (le_of_suc-le-suc h))

-- ---- our blocks fit, and are read back

module _ (rates : List ℕ) (pass : Pass rates) (room : wanted rates ≤ slot_count) where
  fitting : (i : ℕ) → i < length rates → Fits (rate_at rates i) (block_in_place rates i)
  fitting i h =
      record {
        right = refl;
        set_below = omega (arith, start_below rates pass i h room);
        first_below_lem = reversed-lt (15 - rate_at rates i) _;
      }

  fit_bytes : (i : ℕ) → i < length rates → Fit block_table (block_values (block_in_place rates i))
  fit_bytes i h =
      let fit = fitting i h in
      let small : 2 ^ (15 - rate_at rates i) ≤ 2 ^ 15 = pow_mono {i = 15 - rate_at rates i} {j = 15} (omega arith) in
      (omega (arith, fit.set_below), (omega (arith, pass.low i h), (omega (arith, fit.first_below_lem), refl)))

  pub read_back : (i : ℕ) → i < length rates → block_at (plan_of rates) i ≡ block_in_place rates i
  read_back i h =
      let cut = split_at rates i (length rates) h in
      ap block_of
      (subst₂ (λ (o : ℕ) (l : List ℕ). read o block_table l ≡ block_values (block_in_place rates i))
      (length-plan rates i)
      (sym cut.1)
      (read-fill block_table (plan_up_to rates i) cut.0 (block_values (block_in_place rates i)) refl (fit_bytes i h)))

  apart : (i j : ℕ) → i < length rates → j < i → not (share (block_in_place rates j) (block_in_place rates i)) ≡ true
  apart i j h l = go (share (block_in_place rates j) (block_in_place rates i)) refl
    where
      go : (b : Bool) → share (block_in_place rates j) (block_in_place rates i) ≡ b → not b ≡ true
      go true e = absurd (not_shared rates pass j i (omega arith) h (λ q. omega arith) e)
      go false e = refl

  good : (i : ℕ) → i < length rates → good_at rates (plan_of rates) i ≡ true
  good i h =
      ap₂ ◌&&◌
      (parts_fit (rate_at rates i) (block_at (plan_of rates) i) (subst (Fits (rate_at rates i)) (sym (read_back i h)) (fitting i h)))
      (each_every _ i
      (λ j l.
      let hj : j < length rates = omega arith in
      subst₂ (λ (b c : Block). not (share b c) ≡ true) (sym (read_back j hj)) (sym (read_back i h)) (apart i j h l)))

  pub our_plan_good : is_plan rates (plan_of rates) ≡ true
  our_plan_good = ap₂ ◌&&◌ (eq-eqb _ _ (length-plan rates (length rates))) (each_every (good_at rates (plan_of rates)) (length rates) good)

  pub our_plan : Plan rates (plan_of rates)
  our_plan = checked-plan rates (plan_of rates) our_plan_good pass
