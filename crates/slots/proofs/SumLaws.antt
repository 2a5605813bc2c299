-- Laws of sums below a number, of tests that hold of every number below one, and of counts. Each goes by induction on the number.
-- The one that counts a block is `sum_grid`: pairs of a remainder and a quotient are counted by a product.
-- Assumes nothing.
use Prim.Native.Nat.{ℕ, zero, suc, ◌+◌, ◌*◌, ◌/◌, ◌%◌, ◌≤◌, ◌<◌, zero-le}
use mathlib.Core.Path.{◌≡◌, refl, sym, ap, ap₂, ◌∙◌}
use mathlib.Core.Bool.{Bool, true, false, cond, ◌&&◌, false≢true}
use mathlib.Core.Logic.{◌⊎◌, ⊎_elim}
use native.Mathlib.Nat.{not-suc-le-zero, le_of_suc-le-suc, eq-or-lt_of_le, add-zero, zero-add, add-suc, add_assoc, mul-zero, mul-suc, mul-one}
use native.Mathlib.Nat.{mod-eq_of_lt, div-eq_of_lt, mul-add-mod_self_left, mul-add-div}
use native.Mathlib.Numerals.{add-one}
use native.Mathlib.Omega.{arith}
use lib.Dec.{eqb}
use lib.ListN.{length, get_or}
use mathlib.Core.List.{List, map}
use Rattle.std.proofs.Math.Bool.{and-true, and-false}
use Rattle.std.specs.List.{list_all, range_with_len, sum as list_sum}
use Rattle.std.proofs.lemmas.List.Elements.{All-from_get_or}
use Rattle.std.proofs.lemmas.List.Folds.{list_all_at}
use Rattle.std.proofs.lemmas.List.Sums.{list_all-from_AllPass}
use Rattle.std.proofs.lemmas.List.FromFn.{length-range_with_len, get_or-range_with_len, sum_by-map-range_with_len_more}
use borrow.Author.Tests.{eq-eqb, ne_eqb, eqb-true}
use Rattle.std.proofs.lemmas.Bool.{and_parts}
use Rattle.slots.specs.Checking.{every}
use Rattle.slots.specs.Planning.{sum}
use Rattle.slots.specs.Plain.{count}

-- a number below n + 1 is n or below n
last-or_below : {i n : ℕ} → i < suc n → (i ≡ n) ⊎ (i < n)
last-or_below h = eq-or-lt_of_le (le_of_suc-le-suc h)

-- ---- tests of every number

pub every_each : (p : ℕ → Bool) (n : ℕ) → every p n ≡ true → (i : ℕ) → i < n → p i ≡ true
unfolding every
every_each p zero e i h = absurd (not-suc-le-zero h)
every_each p (suc n) e i h =
    let both = and_parts (every p n) (p n) e in
    ⊎_elim (λ (q : i ≡ n). ap p q ∙ both.1) (λ (l : i < n). every_each p n both.0 i l) (last-or_below h)

pub each_every : (p : ℕ → Bool) (n : ℕ) → ((i : ℕ) → i < n → p i ≡ true) → every p n ≡ true
unfolding every
each_every p zero h = refl
each_every p (suc n) h = ap₂ ◌&&◌ (each_every p n (λ i l. h i (omega arith))) (h n (omega arith))

-- where not every one passes, there is one that does not
pub some_fails : (p : ℕ → Bool) (n : ℕ) → every p n ≡ false → (i : ℕ) × (i < n) × (p i ≡ false)
unfolding every
some_fails p zero e = absurd (false≢true (sym e))
some_fails p (suc n) e = go (every p n) refl e (some_fails p n)
  where
    go : (a : Bool)
        → every p n ≡ a
        → (a && p n) ≡ false
        → (every p n ≡ false → (i : ℕ) × (i < n) × (p i ≡ false))
        → (i : ℕ) × (i < suc n) × (p i ≡ false)
    go true ea w before = (n, omega arith, w)
    go false ea w before = let found = before ea in (found.0, omega (arith, found.1), found.2)

every_same : (p q : ℕ → Bool) (n : ℕ) → ((i : ℕ) → i < n → p i ≡ q i) → every p n ≡ every q n
unfolding every
every_same p q zero h = refl
every_same p q (suc n) h = ap₂ ◌&&◌ (every_same p q n (λ i l. h i (omega arith))) (h n (omega arith))

-- the library's `list_all` of a list's elements, and of the numbers below one
pub every_element : (p : ℕ → Bool) (xs : List ℕ) → list_all p xs ≡ every (λ i. p (get_or xs i 0)) (length xs)
every_element p xs = go (every here (length xs)) refl
  where
    here : ℕ → Bool
    here i = p (get_or xs i 0)

    go : (b : Bool) → every here (length xs) ≡ b → list_all p xs ≡ b
    go true e = list_all-from_AllPass p xs (All-from_get_or (λ (x : ℕ). p x ≡ true) xs 0 (every_each here (length xs) e))
    go false e = let found = some_fails here (length xs) e in list_all_at p xs found.0 0 found.1 found.2

pub every_below : (p : ℕ → Bool) (n : ℕ) → list_all p (range_with_len 0 n) ≡ every p n
every_below p n =
    every_element p (range_with_len 0 n)
    ∙ ap (every (λ i. p (get_or (range_with_len 0 n) i 0))) (length-range_with_len 0 n)
    ∙ every_same _ p n (λ i l. ap p (get_or-range_with_len 0 n i 0 l ∙ zero-add i))

-- ---- sums

pub sum_same : (f g : ℕ → ℕ) (n : ℕ) → ((i : ℕ) → i < n → f i ≡ g i) → sum f n ≡ sum g n
unfolding sum
sum_same f g zero h = refl
sum_same f g (suc n) h = ap₂ ◌+◌ (sum_same f g n (λ i l. h i (omega arith))) (h n (omega arith))

pub sum-le : (f g : ℕ → ℕ) (n : ℕ) → ((i : ℕ) → i < n → f i ≤ g i) → sum f n ≤ sum g n
unfolding sum
sum-le f g zero h = zero-le
sum-le f g (suc n) h = omega (arith, sum-le f g n (λ i l. h i (omega arith)), h n (omega arith))

-- the library's sum of a list of terms
pub sum_listed : (f : ℕ → ℕ) (n : ℕ) → list_sum (map f (range_with_len 0 n)) ≡ sum f n
unfolding sum
sum_listed f zero = refl
sum_listed f (suc n) =
    ap (λ (m : ℕ). list_sum (map f (range_with_len 0 m))) (sym (add-one n))
    ∙ sum_by-map-range_with_len_more (λ (x : ℕ). x) f 0 n n (zero-add n)
    ∙ ap (λ (m : ℕ). m + f n) (sum_listed f n)

pub sum_const : (c n : ℕ) → sum (λ _. c) n ≡ c * n
unfolding sum
sum_const c zero = sym (mul-zero c)
sum_const c (suc n) = ap (λ (m : ℕ). m + c) (sum_const c n) ∙ sym (mul-suc c n)

sum_plus : (f g : ℕ → ℕ) (n : ℕ) → sum (λ i. f i + g i) n ≡ sum f n + sum g n
unfolding sum
sum_plus f g zero = refl
sum_plus f g (suc n) = omega (arith, sum_plus f g n)

-- two sums, one inside the other, in either order
pub sum_swap : (f : ℕ → ℕ → ℕ) (m n : ℕ) → sum (λ i. sum (f i) m) n ≡ sum (λ s. sum (λ i. f i s) n) m
unfolding sum
sum_swap f m zero = sym (sum_const 0 m ∙ omega arith)
sum_swap f m (suc n) =
    ap (λ (k : ℕ). k + sum (f n) m) (sum_swap f m n) ∙ sym (sum_plus (λ s. sum (λ i. f i s) n) (f n) m)

pub sum-append : (f : ℕ → ℕ) (a b : ℕ) → sum f (a + b) ≡ sum f a + sum (λ i. f (a + i)) b
unfolding sum
sum-append f a zero = ap (sum f) (add-zero a) ∙ sym (add-zero (sum f a))
sum-append f a (suc b) =
    ap (sum f) (add-suc a b) ∙ ap (λ (k : ℕ). k + f (a + b)) (sum-append f a b) ∙ add_assoc _ _ _

-- a sum with one term that is not zero
pub sum_single : (w j n : ℕ) → j < n → sum (λ k. cond (eqb k j) w 0) n ≡ w
unfolding sum
sum_single w j zero h = absurd (not-suc-le-zero h)
sum_single w j (suc n) h =
    ⊎_elim
    (λ (e : j ≡ n).
    ap₂ ◌+◌
    (sum_same (λ k. cond (eqb k j) w 0) (λ _. 0) n (λ k l. ap (λ (b : Bool). cond b w 0) (ne_eqb k j (λ q. omega arith)))
    ∙ sum_const 0 n)
    (ap (λ (b : Bool). cond b w 0) (eq-eqb n j (sym e)))
    ∙ omega arith)
    (λ (l : j < n). ap₂ ◌+◌ (sum_single w j n l) (ap (λ (b : Bool). cond b w 0) (ne_eqb n j (λ q. omega arith))) ∙ add-zero w)
    (last-or_below h)

-- a term that the first sum leaves out and the second has
pub sum_one_more : (p q : ℕ → Bool) (w : ℕ → ℕ) (j n : ℕ)
    → j < n
    → ((k : ℕ) → k < n → p k ≡ true → q k ≡ true)
    → p j ≡ false
    → q j ≡ true
    → sum (λ k. cond (p k) (w k) 0) n + w j ≤ sum (λ k. cond (q k) (w k) 0) n
sum_one_more p q w j n h also left here =
    let bound : sum (λ k. cond (p k) (w k) 0 + cond (eqb k j) (w j) 0) n ≤ sum (λ k. cond (q k) (w k) 0) n =
    sum-le _ _ n (λ k l. term k l (p k) refl (q k) refl (eqb k j) refl) in
    omega (arith, sum_plus (λ k. cond (p k) (w k) 0) (λ k. cond (eqb k j) (w j) 0) n, sum_single (w j) j n h)
  where
    term : (k : ℕ)
        → k < n
        → (a : Bool)
        → p k ≡ a
        → (b : Bool)
        → q k ≡ b
        → (t : Bool)
        → eqb k j ≡ t
        → cond a (w k) 0 + cond t (w j) 0 ≤ cond b (w k) 0
    term k l true ep true eq true et = absurd (false≢true (sym left ∙ ap p (sym (eqb-true k j et)) ∙ ep))
    term k l true ep true eq false et = omega arith
    term k l true ep false eq t et = absurd (false≢true (sym eq ∙ also k l ep))
    term k l false ep true eq true et = omega (arith, ap w (eqb-true k j et))
    term k l false ep false eq true et = absurd (false≢true (sym eq ∙ ap q (eqb-true k j et) ∙ here))
    term k l false ep b eq false et = omega arith

-- the first term apart
pub sum_first : (f : ℕ → ℕ) (n : ℕ) → sum f (suc n) ≡ f 0 + sum (λ i. f (suc i)) n
unfolding sum
sum_first f zero = omega arith
sum_first f (suc n) = omega (arith, sum_first f n)

-- ---- counts

abbrev pub bit : Bool → ℕ
bit b = cond b 1 0

pub count-sum : (p : ℕ → Bool) (n : ℕ) → count p n ≡ sum (λ i. bit (p i)) n
unfolding count sum
count-sum p zero = refl
count-sum p (suc n) = ap (λ (k : ℕ). k + bit (p n)) (count-sum p n)

-- where no two pass, at most one does
pub at_most_one : (p : ℕ → Bool) (n : ℕ)
    → ((i j : ℕ) → i < n → j < n → p i ≡ true → p j ≡ true → i ≡ j)
    → sum (λ i. bit (p i)) n ≤ 1
unfolding sum
at_most_one p zero h = zero-le
at_most_one p (suc n) h = go (p n) refl (at_most_one p n (λ i j li lj. h i j (omega arith) (omega arith)))
  where
    none : p n ≡ true → (i : ℕ) → i < n → (b : Bool) → p i ≡ b → bit b ≡ 0
    none e i l true ei = let same = h i n (omega arith) (omega arith) ei e in absurd (omega arith)
    none e i l false ei = refl

    go : (b : Bool) → p n ≡ b → sum (λ i. bit (p i)) n ≤ 1 → sum (λ i. bit (p i)) n + bit b ≤ 1
    go true e l =
        let zeros : sum (λ i. bit (p i)) n ≡ sum (λ _. 0) n = sum_same _ _ n (λ i l. none e i l (p i) refl) in
        omega (arith, sum_const 0 n)
    go false e l = omega arith

sum-and : (q : ℕ → Bool) (b : Bool) (m : ℕ) → sum (λ i. bit (q i && b)) m ≡ sum (λ i. bit (q i)) m * bit b
sum-and q true m = sum_same _ _ m (λ i l. ap bit (and-true (q i))) ∙ sym (mul-one _)
sum-and q false m =
    sum_same _ (λ _. 0) m (λ i l. ap bit (and-false (q i))) ∙ sum_const 0 m ∙ omega (arith, mul-zero (sum (λ i. bit (q i)) m))

-- numbers below m * n with a remainder that passes one test and a quotient that passes another
pub sum_grid : (q p : ℕ → Bool) (m n : ℕ)
    → 0 < m
    → sum (λ s. bit (q (s % m) && p (s / m))) (m * n) ≡ sum (λ i. bit (q i)) m * sum (λ i. bit (p i)) n
unfolding sum
sum_grid q p m zero h = ap (sum (λ s. bit (q (s % m) && p (s / m)))) (mul-zero m) ∙ sym (mul-zero _)
sum_grid q p m (suc n) h =
    ap (sum (λ s. bit (q (s % m) && p (s / m)))) (mul-suc m n)
    ∙ sum-append (λ s. bit (q (s % m) && p (s / m))) (m * n) m
    ∙ ap₂ ◌+◌ (sum_grid q p m n h) (sum_same _ (λ i. bit (q i && p n)) m here ∙ sum-and q (p n) m)
    ∙ omega arith
  where
    here : (i : ℕ) → i < m → bit (q ((m * n + i) % m) && p ((m * n + i) / m)) ≡ bit (q i && p n)
    here i l =
        ap₂ (λ (a b : ℕ). bit (q a && p b))
        (mul-add-mod_self_left m n i ∙ mod-eq_of_lt l)
        (mul-add-div h n i ∙ ap (λ (k : ℕ). n + k) (div-eq_of_lt l) ∙ add-zero n)
