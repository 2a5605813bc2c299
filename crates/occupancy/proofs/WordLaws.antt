-- The word of places bit by bit: the lowest bit of a word is its remainder by two, and the rest are those of its half. By induction on
-- places, the machine's counts of a word's bits are the least free place and the number of held places, taking a free place adds its
-- power of two, and a word built upward holds exactly the places asked for.
-- Assumes nothing.
use Prim.Native.Nat.{ℕ, zero, suc, ◌+◌, ◌-◌, ◌*◌, ◌/◌, ◌%◌, ◌^◌, ◌<◌}
use mathlib.Core.Path.{◌≡◌, refl, sym, ap, ap₂, ◌∙◌}
use mathlib.Core.Bool.{Bool, true, false, cond, not, ◌||◌, true≢false}
use mathlib.Core.Logic.{◌⊎◌, inl, inr, ⊎_elim}
use native.Mathlib.Nat.{div-one, div-div-eq-div-mul, div-eq_of_lt, pow-suc, pow-succ', add-zero, not-suc-le-zero, le_of_suc-le-suc, eq-or-lt_of_le}
use native.Mathlib.Omega.{arith}
use lib.Dec.{eqb, eqb-zero-suc, eqb-suc-zero, eqb-suc-suc}
use lib.Count.{count_trailing_zeros, ones, ones_step}
use borrow.Author.Tests.{eq-eqb, ne_eqb, not-true, not-false}
use Rattle.occupancy.specs.Places.{places, held, least, count, free_place, with_place, word_of}
use Rattle.occupancy.proofs.LeastLaws.{least_same, count_same, least_below, least_here}

-- ---- one bit and the rest

pub held-zero : (w : ℕ) → held w 0 ≡ eqb (w % 2) 1
held-zero w = ap (λ (n : ℕ). eqb (n % 2) 1) (div-one w)

pub held-suc : (w i : ℕ) → held w (suc i) ≡ held (w / 2) i
held-suc w i = ap (λ (n : ℕ). eqb (n % 2) 1) (ap (λ (k : ℕ). w / k) (pow-succ' 2 i) ∙ sym (div-div-eq-div-mul w 2 (2 ^ i)))

even_or_odd : (w : ℕ) → (w % 2 ≡ 0) ⊎ (w % 2 ≡ 1)
even_or_odd w = go (w % 2) (omega arith)
  where
    go : (r : ℕ) → r < 2 → (r ≡ 0) ⊎ (r ≡ 1)
    go zero h = inl refl
    go (suc r) h = inr (omega arith)

-- a word below 2 ^ i does not hold place i
pub held_past : (w i : ℕ) → w < 2 ^ i → held w i ≡ false
held_past w i h = ap (λ (n : ℕ). eqb (n % 2) 1) (div-eq_of_lt h)

-- ---- the machine's counts

-- the zeros below the complement's lowest one are the held places below the least free one
pub trailing_free : (k w : ℕ) → w < 2 ^ k → count_trailing_zeros k (2 ^ k - 1 - w) ≡ least (λ i. not (held w i)) k
unfolding count_trailing_zeros least
trailing_free zero w h = refl
trailing_free (suc k) w h =
    let power : 2 ^ suc k ≡ 2 ^ k * 2 = pow-suc 2 k in
    let half : (2 ^ suc k - 1 - w) / 2 ≡ 2 ^ k - 1 - w / 2 = omega arith in
    let rest : count_trailing_zeros k ((2 ^ suc k - 1 - w) / 2) ≡ least (λ i. not (held w (suc i))) k =
    ap (count_trailing_zeros k) half ∙ trailing_free k (w / 2) (omega arith)
    ∙ least_same (λ i. not (held (w / 2) i)) (λ i. not (held w (suc i))) k (λ i. ap not (sym (held-suc w i))) in
    ⊎_elim
    (λ (e : w % 2 ≡ 0).
    let odd : (2 ^ suc k - 1 - w) % 2 ≡ 1 = omega arith in
    rw (odd, held-zero w, e))
    (λ (e : w % 2 ≡ 1).
    let even : (2 ^ suc k - 1 - w) % 2 ≡ 0 = omega arith in
    rw (even, held-zero w, e) (ap suc rest))
    (even_or_odd w)

-- the ones of a word are its held places
pub ones_held : (k w : ℕ) → w < 2 ^ k → ones w ≡ count (held w) k
unfolding count ones
ones_held zero w h = let none : w ≡ 0 = omega arith in ap ones none
ones_held (suc k) w h =
    let power : 2 ^ suc k ≡ 2 ^ k * 2 = pow-suc 2 k in
    ones_step w
    ∙ ap₂ ◌+◌
    (⊎_elim (λ (e : w % 2 ≡ 0). rw (held-zero w, e)) (λ (e : w % 2 ≡ 1). rw (held-zero w, e)) (even_or_odd w))
    (ones_held k (w / 2) (omega arith) ∙ count_same (held (w / 2)) (λ i. held w (suc i)) k (λ i. sym (held-suc w i)))

-- ---- the lowest free place

-- one of the sixteen, it is free
pub lowest_is_free : (w : ℕ) → free_place w < places → held w (free_place w) ≡ false
lowest_is_free w low = not-true (held w (free_place w)) (least_here (λ i. not (held w i)) places low)

-- every place below it is held
pub below_is_held : (w i : ℕ) → i < free_place w → held w i ≡ true
below_is_held w i l = not-false (held w i) (least_below (λ j. not (held w j)) places i l)

-- ---- a free place taken

free_even : (w : ℕ) → held w 0 ≡ false → w % 2 ≡ 0
free_even w free =
    ⊎_elim
    (λ e. e)
    (λ (e : w % 2 ≡ 1). absurd (true≢false (sym (held-zero w ∙ ap (λ (r : ℕ). eqb r 1) e) ∙ free)))
    (even_or_odd w)

-- the word with free place i taken holds i and what it held
pub held-taken : (w i j : ℕ) → held w i ≡ false → held (with_place w i) j ≡ (eqb i j || held w j)
held-taken w zero zero free =
    let e = free_even w free in
    let odd : (w + 1) % 2 ≡ 1 = omega arith in
    held-zero (w + 1) ∙ ap (λ (r : ℕ). eqb r 1) odd
held-taken w zero (suc j) free =
    let e = free_even w free in
    let half : (w + 1) / 2 ≡ w / 2 = omega arith in
    held-suc (w + 1) j ∙ ap (λ (n : ℕ). held n j) half ∙ sym (held-suc w j) ∙ sym (ap (λ (b : Bool). b || held w (suc j)) (eqb-zero-suc j))
held-taken w (suc i) zero free =
    let power : 2 ^ suc i ≡ 2 ^ i * 2 = pow-suc 2 i in
    let parity : (w + 2 ^ suc i) % 2 ≡ w % 2 = omega arith in
    held-zero (w + 2 ^ suc i) ∙ ap (λ (r : ℕ). eqb r 1) parity ∙ sym (held-zero w) ∙ sym (ap (λ (b : Bool). b || held w zero) (eqb-suc-zero i))
held-taken w (suc i) (suc j) free =
    let power : 2 ^ suc i ≡ 2 ^ i * 2 = pow-suc 2 i in
    let half : (w + 2 ^ suc i) / 2 ≡ w / 2 + 2 ^ i = omega arith in
    held-suc (w + 2 ^ suc i) j ∙ ap (λ (n : ℕ). held n j) half ∙ held-taken (w / 2) i j (sym (held-suc w i) ∙ free)
    ∙ ap₂ ◌||◌ (sym (eqb-suc-suc i j)) (sym (held-suc w j))

-- and stays a word of k places
pub taken-fits : (k w i : ℕ) → w < 2 ^ k → i < k → held w i ≡ false → with_place w i < 2 ^ k
taken-fits zero w i h l free = absurd (not-suc-le-zero l)
taken-fits (suc k) w zero h l free =
    let power : 2 ^ suc k ≡ 2 ^ k * 2 = pow-suc 2 k in
    let e = free_even w free in
    omega arith
taken-fits (suc k) w (suc i) h l free =
    let power : 2 ^ suc k ≡ 2 ^ k * 2 = pow-suc 2 k in
    let power' : 2 ^ suc i ≡ 2 ^ i * 2 = pow-suc 2 i in
    let half : w / 2 + 2 ^ i < 2 ^ k = taken-fits k (w / 2) i (omega arith) (le_of_suc-le-suc l) (sym (held-suc w i) ∙ free) in
    omega arith

-- ---- a word built upward

pub built_fits : (p : ℕ → Bool) (n : ℕ) → word_of p n < 2 ^ n
unfolding word_of
built_fits p zero = omega arith
built_fits p (suc n) = go (p n) (built_fits p n)
  where
    go : (b : Bool) → word_of p n < 2 ^ n → word_of p n + cond b (2 ^ n) 0 < 2 ^ suc n
    go true h = let power : 2 ^ suc n ≡ 2 ^ n * 2 = pow-suc 2 n in omega arith
    go false h = let power : 2 ^ suc n ≡ 2 ^ n * 2 = pow-suc 2 n in omega arith

pub built_free : (p : ℕ → Bool) (n : ℕ) → held (word_of p n) n ≡ false
built_free p n = held_past (word_of p n) n (built_fits p n)

-- a word built up to n holds exactly the places below n that were asked for
pub held_built : (p : ℕ → Bool) (n j : ℕ) → j < n → held (word_of p n) j ≡ p j
unfolding word_of
held_built p zero j h = absurd (not-suc-le-zero h)
held_built p (suc n) j h =
    ⊎_elim
    (λ (e : j ≡ n). last (p n) refl e)
    (λ (l : j < n). earlier (p n) l (held_built p n j l))
    (eq-or-lt_of_le (le_of_suc-le-suc h))
  where
    one_more : held (with_place (word_of p n) n) j ≡ (eqb n j || held (word_of p n) j)
    one_more = held-taken (word_of p n) n j (built_free p n)

    last : (b : Bool) → p n ≡ b → j ≡ n → held (word_of p n + cond b (2 ^ n) 0) j ≡ p j
    last true e q = one_more ∙ ap (λ (b : Bool). b || held (word_of p n) j) (eq-eqb n j (sym q)) ∙ sym (ap p q ∙ e)
    last false e q = ap (λ (w : ℕ). held w j) (add-zero (word_of p n)) ∙ ap (held (word_of p n)) q ∙ built_free p n ∙ sym (ap p q ∙ e)

    earlier : (b : Bool) → j < n → held (word_of p n) j ≡ p j → held (word_of p n + cond b (2 ^ n) 0) j ≡ p j
    earlier true l ih = one_more ∙ ap (λ (b : Bool). b || held (word_of p n) j) (ne_eqb n j (λ q. omega arith)) ∙ ih
    earlier false l ih = ap (λ (w : ℕ). held w j) (add-zero (word_of p n)) ∙ ih
