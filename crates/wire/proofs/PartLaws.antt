-- Parts of a list: how long one is, what a number in it is, and what stands where one was lent on and written over.
-- By the laws of lists, and by induction on the number's width.
-- Assumes nothing.
use Prim.Native.Nat.{ℕ, zero, suc, ◌+◌, ◌-◌, ◌*◌, ◌≤◌, ◌<◌}
use mathlib.Core.Path.{◌≡◌, refl, sym, ap, ap₂, ◌∙◌}
use mathlib.Core.Bool.{Bool, true, false}
use mathlib.Core.List.{List, [], ◌∷◌, ◌++◌, append_assoc}
use lib.ListN.{length, get_or, take, drop, length-take, length-drop, take-append-drop}
use lib.Seq.{take_all, get_or-take, get_or-drop, sets-eq, drop-drop, length-take-le, drop-append-le}
use lib.Dec.{eqb}
use native.Mathlib.Nat.{add-zero, add_assoc, add-suc}
use native.Mathlib.Omega.{arith}
use borrow.Author.Tests.{eqb-true, eqb-false}
use borrow.Rule.Slice.PartMut.{put_mid}
use Rattle.wire.specs.Bytes.{num, splice, all_zero}
use Rattle.wire.proofs.ByteLaws.{splice-start, each_zero}
use Rattle.wire.proofs.TableLaws.{both_true}

-- a part that starts in the middle has the length asked for
pub part_length : (start n : ℕ) (d : List ℕ) → start + n ≤ length d → length (take (start + n - start) (drop start d)) ≡ n
part_length start n d h = simp (length-take, length-drop) (omega arith)

-- a part that runs to the end
pub part_rest : (start : ℕ) (d : List ℕ) → take (length d - start) (drop start d) ≡ drop start d
part_rest start d = take_all (length d - start) (drop start d) (simp length-drop (omega arith))

-- a number in a part is the number at its place in the whole
pub num-part : (w i n o : ℕ) (d : List ℕ) → i + w ≤ n → num w i (take n (drop o d)) ≡ num w (o + i) d
num-part zero i n o d h = refl
num-part (suc w) i n o d h =
    let inside : i + w < n = omega (arith, add-suc i w) in
    ap₂ (λ (m x : ℕ). m * 256 + x)
    (num-part w i n o d (omega arith))
    (get_or-take n (drop o d) (i + w) 0 inside ∙ get_or-drop o d (i + w) 0 ∙ ap (λ (k : ℕ). get_or d k 0) (sym (add_assoc o i w)))

-- a number is zero exactly where its bytes are
bytes_of-zero : (w o : ℕ) (d : List ℕ) → num w o d ≡ 0 → (i : ℕ) → i < w → get_or d (o + i) 0 ≡ 0
bytes_of-zero zero o d e i h = omega arith
bytes_of-zero (suc w) o d e i h = by (eqb i w) refl (bytes_of-zero w o d (omega arith) i)
  where
    by : (b : Bool) → eqb i w ≡ b → (i < w → get_or d (o + i) 0 ≡ 0) → get_or d (o + i) 0 ≡ 0
    by true t high = ap (λ (k : ℕ). get_or d (o + k) 0) (eqb-true i w t) ∙ omega arith
    by false t high =
        let other : i ≡ w → ⊥ = eqb-false i w t in
        high (omega arith)

zero_of_bytes : (w o : ℕ) (d : List ℕ) → ((i : ℕ) → i < w → get_or d (o + i) 0 ≡ 0) → num w o d ≡ 0
zero_of_bytes zero o d h = refl
zero_of_bytes (suc w) o d h = omega (arith, zero_of_bytes w o d (λ i l. h i (omega arith)), h w (omega arith))

pub all_zero_lem : (d : List ℕ) → all_zero d ≡ true → (i : ℕ) → get_or d i 0 ≡ 0
all_zero_lem [] e i = refl
all_zero_lem (x ∷ xs) e zero = eqb-true x 0 (both_true (eqb x 0) (all_zero xs) e).0
all_zero_lem (x ∷ xs) e (suc i) = all_zero_lem xs (both_true (eqb x 0) (all_zero xs) e).1 i

-- the number in a list's last w bytes is zero exactly where they all are
pub zero-end : (w o : ℕ) (d : List ℕ) → o + w ≡ length d → all_zero (drop o d) ≡ eqb (num w o d) 0
zero-end w o d whole = by (eqb (num w o d) 0) refl
  where
    place : (i : ℕ) → get_or (drop o d) i 0 ≡ get_or d (o + i) 0
    place i = get_or-drop o d i 0

    by : (b : Bool) → eqb (num w o d) 0 ≡ b → all_zero (drop o d) ≡ b
    by true t =
        let short : (i : ℕ) → i < length (drop o d) → i < w = λ i l. omega (arith, length-drop o d) in
        each_zero (drop o d) (λ i l. place i ∙ bytes_of-zero w o d (eqb-true _ _ t) i (short i l))
    by false t = some (all_zero (drop o d)) refl
      where
        some : (b : Bool) → all_zero (drop o d) ≡ b → b ≡ false
        some false e = refl
        some true e = elim (eqb-false _ _ t (zero_of_bytes w o d (λ i l. sym (place i) ∙ all_zero_lem (drop o d) e i))) [ ]

-- and so is the number in a part
pub zero_part : (w o : ℕ) (d : List ℕ) → o + w ≤ length d → all_zero (take w (drop o d)) ≡ eqb (num w o d) 0
zero_part w o d fits =
    let long : length (take w (drop o d)) ≡ w = length-take-le w (drop o d) (omega (arith, length-drop o d)) in
    zero-end w 0 (take w (drop o d)) (omega (arith, long))
    ∙ ap (λ (n : ℕ). eqb n 0) (num-part w 0 w o d (omega arith) ∙ ap (λ (k : ℕ). num w k d) (add-zero o))

-- a lent part that was spliced from its start, back in the whole
pub part-splice :
    (a k : ℕ) (b xs : List ℕ)
    → a + k ≤ length xs
    → length b ≤ k
    → take a xs ++ (splice 0 b (take k (drop a xs)) ++ drop k (drop a xs)) ≡ splice a b xs
part-splice a k b xs fits room =
    let part : List ℕ = take k (drop a xs) in
    let long : length part ≡ k = length-take-le k (drop a xs) (rw (length-drop a xs) (omega arith)) in
    ap (λ (l : List ℕ). take a xs ++ (l ++ drop k (drop a xs))) (splice-start b part (rw long room))
    ∙ ap (λ (l : List ℕ). take a xs ++ l) (append_assoc b (drop (length b) part) (drop k (drop a xs)))
    ∙ ap (λ (l : List ℕ). take a xs ++ (b ++ l))
    (sym (drop-append-le (length b) part (drop k (drop a xs)) (rw long room))
    ∙ ap (drop (length b)) (take-append-drop k (drop a xs))
    ∙ drop-drop (length b) a xs)
    ∙ sym (append_assoc (take a xs) b (drop (a + length b) xs))
    ∙ sym (sets-eq b xs a (omega arith))

-- a lent part that was written over whole, back in the whole
pub part_put : (at k : ℕ) (b xs part : List ℕ)
    → part ≡ b
    → k ≡ length b
    → at + length b ≤ length xs
    → put_mid at k xs part ≡ splice at b xs
part_put at k b xs part same whole fits =
    ap (put_mid at k xs) same
    ∙ sym (append_assoc (take at xs) b (drop k (drop at xs)))
    ∙ ap (λ (l : List ℕ). take at xs ++ b ++ l) (drop-drop k at xs ∙ ap (λ (n : ℕ). drop (at + n) xs) whole)
    ∙ sym (sets-eq b xs at fits)
