-- What "the least" means: it is at most the bound, nothing below it passes the test, and below the bound it passes itself.
-- Each law goes by induction on the bound, shifting the test by one.
-- Assumes nothing.
use Prim.Native.Nat.{ℕ, zero, suc, ◌≤◌, ◌<◌, zero-le, suc-le-suc}
use mathlib.Core.Path.{◌≡◌, refl, ap, fun_ext}
use mathlib.Core.Bool.{Bool, true, false, cond}
use native.Mathlib.Nat.{le_of_suc-le-suc, not-suc-le-zero, zero-lt-suc}
use Rattle.occupancy.specs.Places.{least, count}

-- tests that agree have the same least place, and the same count
pub least_same : (p q : ℕ → Bool) (n : ℕ) → ((i : ℕ) → p i ≡ q i) → least p n ≡ least q n
least_same p q n e = ap (λ (r : ℕ → Bool). least r n) (fun_ext e)

pub count_same : (p q : ℕ → Bool) (n : ℕ) → ((i : ℕ) → p i ≡ q i) → count p n ≡ count q n
count_same p q n e = ap (λ (r : ℕ → Bool). count r n) (fun_ext e)

-- a place that passes, with none that passes below it, is the least
pub least_is : (p : ℕ → Bool) (n k : ℕ)
    → k ≤ n
    → ((i : ℕ) → i < k → p i ≡ false)
    → (k < n → p k ≡ true)
    → least p n ≡ k
unfolding least
least_is p zero zero h below here = refl
least_is p zero (suc k) h below here = absurd (not-suc-le-zero h)
least_is p (suc n) zero h below here = rw (here (zero-lt-suc n))
least_is p (suc n) (suc k) h below here =
    let rest : least (λ i. p (suc i)) n ≡ k =
    least_is (λ i. p (suc i)) n k (le_of_suc-le-suc h) (λ i l. below (suc i) (suc-le-suc l)) (λ l. here (suc-le-suc l)) in
    rw (below zero (zero-lt-suc k)) (ap suc rest)

-- the least place is at most the bound
pub least-le : (p : ℕ → Bool) (n : ℕ) → least p n ≤ n
unfolding least
least-le p zero = zero-le
least-le p (suc n) = go (p zero) (least (λ i. p (suc i)) n) (least-le (λ i. p (suc i)) n)
  where
    go : (b : Bool) (k : ℕ) → k ≤ n → cond b zero (suc k) ≤ suc n
    go true k h = zero-le
    go false k h = suc-le-suc h

-- below it nothing passes
pub least_below : (p : ℕ → Bool) (n i : ℕ) → i < least p n → p i ≡ false
unfolding least
least_below p zero i h = absurd (not-suc-le-zero h)
least_below p (suc n) zero h = go (p zero) (least (λ i. p (suc i)) n) h
  where
    go : (b : Bool) (k : ℕ) → zero < cond b zero (suc k) → b ≡ false
    go true k l = absurd (not-suc-le-zero l)
    go false k l = refl
least_below p (suc n) (suc i) h = least_below (λ j. p (suc j)) n i (go (p zero) (least (λ j. p (suc j)) n) h)
  where
    go : (b : Bool) (k : ℕ) → suc i < cond b zero (suc k) → i < k
    go true k l = absurd (not-suc-le-zero l)
    go false k l = le_of_suc-le-suc l

-- below the bound it passes itself
pub least_here : (p : ℕ → Bool) (n : ℕ) → least p n < n → p (least p n) ≡ true
unfolding least
least_here p zero h = absurd (not-suc-le-zero h)
least_here p (suc n) h = go (p zero) refl (least_here (λ i. p (suc i)) n) h
  where
    go : (b : Bool) → p zero ≡ b → (least (λ i. p (suc i)) n < n → p (suc (least (λ i. p (suc i)) n)) ≡ true)
        → cond b zero (suc (least (λ i. p (suc i)) n)) < suc n → p (cond b zero (suc (least (λ i. p (suc i)) n))) ≡ true
    go true e rest l = e
    go false e rest l = rest (le_of_suc-le-suc l)
