-- Numbers with their bits reversed: k reversed bits are below 2 ^ k, no two numbers of k bits have the same, and the low bits of the
-- reversed number are the high bits of the number. Each goes by induction on the bits.
-- Assumes nothing.
use Prim.Native.Nat.{ℕ, zero, suc, ◌+◌, ◌-◌, ◌*◌, ◌/◌, ◌%◌, ◌^◌, ◌≤◌, ◌<◌}
use mathlib.Core.Path.{◌≡◌, sym, ap, ◌∙◌}
use native.Mathlib.Numerals.{add-one}
use native.Mathlib.Nat.{le_trans, le_of_eq, pow-suc, pow-succ', suc-add, zero-add}
use native.Mathlib.Nat.{div-one, div-div-eq-div-mul, mod-eq_of_lt, mul-le-mul_right, mul_assoc, one-mul, mul-add-mod_self_right}
use native.Mathlib.Omega.{arith}
use lib.Pow.{pow-add, high, low}
use Rattle.std.specs.Int.{reverse_bits_onto}
use Rattle.slots.specs.Planning.{reversed}

-- the lowest bit is no more than its place
pub bit_le : (q x : ℕ) → q % 2 * x ≤ x
bit_le q x = le_trans (mul-le-mul_right x (below q)) (le_of_eq (one-mul x))
  where
    below : (n : ℕ) → n % 2 ≤ 1
    below n = omega arith

pub reversed-lt : (k q : ℕ) → reversed k q < 2 ^ k
unfolding reversed
reversed-lt zero q = omega arith
reversed-lt (suc k) q =
    omega (arith, bit_le q (2 ^ k), reversed-lt k (q / 2), pow-suc 2 k)

pub reversed_injective : (k a b : ℕ) → a < 2 ^ k → b < 2 ^ k → reversed k a ≡ reversed k b → a ≡ b
unfolding reversed
reversed_injective zero a b ha hb e = omega arith
reversed_injective (suc k) a b ha hb e =
    let power : 2 ^ suc k ≡ 2 ^ k * 2 = pow-suc 2 k in
    let lowest : a % 2 ≡ b % 2 =
    sym (high (a % 2) k (reversed-lt k (a / 2))) ∙ ap (λ (n : ℕ). n / 2 ^ k) e ∙ high (b % 2) k (reversed-lt k (b / 2)) in
    let rest : reversed k (a / 2) ≡ reversed k (b / 2) =
    sym (low (a % 2) k (reversed-lt k (a / 2))) ∙ ap (λ (n : ℕ). n % 2 ^ k) e ∙ low (b % 2) k (reversed-lt k (b / 2)) in
    let halves : a / 2 ≡ b / 2 = reversed_injective k (a / 2) (b / 2) (omega arith) (omega arith) rest in
    omega arith

pub reversed_low : (d k q : ℕ) → reversed (d + k) q % 2 ^ k ≡ reversed k (q / 2 ^ d)
unfolding reversed
reversed_low zero k q =
    ap (λ (n : ℕ). reversed n q % 2 ^ k) (zero-add k) ∙ mod-eq_of_lt (reversed-lt k q) ∙ ap (reversed k) (sym (div-one q))
reversed_low (suc d) k q =
    ap (λ (n : ℕ). reversed n q % 2 ^ k) (suc-add d k)
    ∙ ap (λ (n : ℕ). (q % 2 * n + reversed (d + k) (q / 2)) % 2 ^ k) (pow-add 2 d k)
    ∙ ap (λ (n : ℕ). (n + reversed (d + k) (q / 2)) % 2 ^ k) (sym (mul_assoc (q % 2) (2 ^ d) (2 ^ k)))
    ∙ mul-add-mod_self_right (q % 2 * 2 ^ d) (2 ^ k) (reversed (d + k) (q / 2))
    ∙ reversed_low d k (q / 2)
    ∙ ap (reversed k) (div-div-eq-div-mul q 2 (2 ^ d) ∙ ap (λ (n : ℕ). q / n) (sym (pow-succ' 2 d)))

-- the library's reversal, which puts the bits behind those that it has
reverse_onto : (k n a : ℕ) → reverse_bits_onto k n a ≡ a * 2 ^ k + reversed k n
unfolding reversed reverse_bits_onto
reverse_onto zero n a = omega arith
reverse_onto (suc k) n a = reverse_onto k (n / 2) (a * 2 + n % 2) ∙ rw (pow-suc 2 k) (omega arith)

-- a place of 15 bits, one bit up, reversed in 16: the low bits are those of the place that stand above the rate's
pub first_reversed : (rate place : ℕ)
    → rate ≤ 15
    → reverse_bits_onto 16 (place * 2) 0 % 2 ^ (15 - rate) ≡ reversed (15 - rate) (place / 2 ^ rate)
first_reversed rate place h =
    let width : 16 ≡ rate + 1 + (15 - rate) = omega arith in
    let whole : reverse_bits_onto 16 (place * 2) 0 ≡ reversed (rate + 1 + (15 - rate)) (place * 2) =
    reverse_onto 16 (place * 2) 0 ∙ zero-add _ ∙ ap (λ (k : ℕ). reversed k (place * 2)) width in
    let half : place * 2 / 2 ≡ place = omega arith in
    let shifted : place * 2 / 2 ^ (rate + 1) ≡ place / 2 ^ rate =
    ap (λ (k : ℕ). place * 2 / 2 ^ k) (add-one rate)
    ∙ ap (λ (n : ℕ). place * 2 / n) (pow-succ' 2 rate)
    ∙ sym (div-div-eq-div-mul (place * 2) 2 (2 ^ rate))
    ∙ ap (λ (n : ℕ). n / 2 ^ rate) half in
    ap (λ (n : ℕ). n % 2 ^ (15 - rate)) whole
    ∙ reversed_low (rate + 1) (15 - rate) (place * 2)
    ∙ ap (reversed (15 - rate)) shifted
