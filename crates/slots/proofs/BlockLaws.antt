-- Slots and blocks. A block has 2 ^ r of the slots: the slots are pairs of a set and an index, and the indices pairs of a remainder and a
-- quotient. Two blocks share a slot exactly if the check's test of them is true: a shared index leaves both first indices by the
-- smaller modulus, and where these agree, the first index of the block with the larger modulus is in both.
-- Assumes nothing.
use Prim.Native.Nat.{ℕ, ◌+◌, ◌-◌, ◌*◌, ◌/◌, ◌%◌, ◌^◌, ◌≤◌, ◌<◌, max}
use mathlib.Core.Path.{◌≡◌, sym, ap, ap₂, ◌∙◌, subst}
use mathlib.Core.Bool.{true, ◌&&◌}
use mathlib.Core.Logic.{⊎_elim}
use native.Mathlib.Nat.{one-mul, mod-eq_of_lt, max-eq_right, max_comm, le-max_left, le-max_right}
use native.Mathlib.Omega.{arith}
use lib.Dec.{eqb}
use lib.Pow.{pow_mono, pow-add, mod-mod-pow}
use borrow.Author.Tests.{eq-eqb, eqb-true}
use Rattle.slots.specs.Blocks.{set_count, slot_count, modulus, has_slot}
use Rattle.slots.specs.Checking.{common, share}
use Rattle.slots.specs.Planning.{sum}
use Rattle.slots.specs.Plain.{has}
use Rattle.slots.specs.Claims.{BlockHasItsSlots}
use Rattle.slots.specs.declared.Block.{Block}
use Rattle.std.proofs.Math.Bool.{and-true}
use Rattle.std.proofs.lemmas.Bool.{cases_lt, and_parts}
use Rattle.slots.proofs.SumLaws.{bit, sum_same, sum_const, sum_single, sum_grid, count-sum}

-- ---- how many slots a block has

-- the indices of one remainder below a multiple of the modulus
remainders : (m n first : ℕ) → first < m → sum (λ i. bit (eqb (i % m) first)) (m * n) ≡ n
remainders m n first h =
    sum_same _ (λ i. bit (eqb (i % m) first && true)) (m * n) (λ i l. ap bit (sym (and-true (eqb (i % m) first))))
    ∙ sum_grid (λ r. eqb r first) (λ _. true) m n (omega arith)
    ∙ ap₂ ◌*◌ (sum_single 1 first m h) (sum_const 1 n)
    ∙ omega arith

pub block_has : BlockHasItsSlots
block_has set rate first hs hr hf =
    let whole : 15 - rate + rate ≡ 15 = omega arith in
    let power : 2 ^ (15 - rate) * 2 ^ rate ≡ 32768 = sym (pow-add 2 (15 - rate) rate) ∙ ap (λ (n : ℕ). 2 ^ n) whole in
    count-sum (has set rate first) 98304
    ∙ sum_grid (λ a. eqb a set) (λ i. eqb (i % 2 ^ (15 - rate)) first) 3 32768 (omega arith)
    ∙ ap₂ ◌*◌
    (sum_single 1 set 3 hs)
    (ap (sum (λ i. bit (eqb (i % 2 ^ (15 - rate)) first))) (sym power) ∙ remainders (2 ^ (15 - rate)) (2 ^ rate) first hf)
    ∙ one-mul (2 ^ rate)

-- ---- the test of two blocks

-- a remainder by the larger power keeps that by the smaller
power_kept : (x a b : ℕ) → b ≤ a → x % 2 ^ a % 2 ^ b ≡ x % 2 ^ b
power_kept x a b h =
    let split : a ≡ (a - b) + b = omega arith in
    ap (λ (n : ℕ). x % 2 ^ n % 2 ^ b) split ∙ mod-mod-pow x (a - b) b

remainder_kept : (x r t : ℕ) → r ≤ t → x % modulus r % modulus t ≡ x % modulus t
remainder_kept x r t h = power_kept x _ _ (omega arith)

pub share_parts : (b c : Block) → share b c ≡ true → (b.set ≡ c.set) × (b.first % common b c ≡ c.first % common b c)
share_parts b c e =
    let both = and_parts (eqb b.set c.set) (eqb (b.first % common b c) (c.first % common b c)) e in
    (eqb-true _ _ both.0, eqb-true _ _ both.1)

parts_share : (b c : Block) → b.set ≡ c.set → b.first % common b c ≡ c.first % common b c → share b c ≡ true
parts_share b c p q = ap₂ ◌&&◌ (eq-eqb _ _ p) (eq-eqb _ _ q)

pub share_swap : (b c : Block) → share b c ≡ true → share c b ≡ true
share_swap b c e =
    let parts = share_parts b c e in
    parts_share c b (sym parts.0)
    (subst (λ (n : ℕ). c.first % modulus n ≡ b.first % modulus n) (max_comm b.rate c.rate) (sym parts.1))

has_parts : (b : Block) (s : ℕ) → has_slot b s ≡ true → (s % 3 ≡ b.set) × (s / 3 % modulus b.rate ≡ b.first)
has_parts b s e =
    let both = and_parts (eqb (s % 3) b.set) (eqb (s / 3 % modulus b.rate) b.first) e in
    (eqb-true _ _ both.0, eqb-true _ _ both.1)

-- blocks with a slot in common are found by the test
pub shared_found : (b c : Block) (s : ℕ) → has_slot b s ≡ true → has_slot c s ≡ true → share b c ≡ true
shared_found b c s hb hc =
    let ofb = has_parts b s hb in
    let ofc = has_parts c s hc in
    parts_share b c (sym ofb.0 ∙ ofc.0)
    (ap (λ (n : ℕ). n % common b c) (sym ofb.1)
    ∙ remainder_kept (s / 3) b.rate (max b.rate c.rate) (le-max_left _ _)
    ∙ sym (remainder_kept (s / 3) c.rate (max b.rate c.rate) (le-max_right _ _))
    ∙ ap (λ (n : ℕ). n % common b c) ofc.1)

-- a slot of both blocks
abbrev pub Common : Block → Block → Type 0
Common b c = (s : ℕ) × (s < slot_count) × (has_slot b s ≡ true) × (has_slot c s ≡ true)

below_top : (r : ℕ) → 15 - r ≤ 15
below_top r = omega arith

-- blocks that the test finds have a slot in common: the first one of the block with the lower rate
found_by_lower : (b c : Block)
    → b.rate ≤ c.rate
    → b.set < set_count
    → b.first < modulus b.rate
    → c.first < modulus c.rate
    → share b c ≡ true
    → Common b c
found_by_lower b c lower hs hb hc e =
    let parts = share_parts b c e in
    let s : ℕ = 3 * b.first + b.set in
    let set : s % 3 ≡ b.set = omega arith in
    let index : s / 3 ≡ b.first = omega arith in
    let in_c : b.first % modulus c.rate ≡ c.first =
    subst (λ (n : ℕ). b.first % modulus n ≡ c.first % modulus n) (max-eq_right lower) parts.1 ∙ mod-eq_of_lt hc in
    let small : modulus b.rate ≤ 2 ^ 15 = pow_mono (below_top b.rate) in (
      s,
      omega arith,
      ap₂ ◌&&◌ (eq-eqb _ _ set) (eq-eqb _ _ (ap (λ (n : ℕ). n % modulus b.rate) index ∙ mod-eq_of_lt hb)),
      ap₂ ◌&&◌ (eq-eqb _ _ (set ∙ parts.0)) (eq-eqb _ _ (ap (λ (n : ℕ). n % modulus c.rate) index ∙ in_c)),
    )

pub found_shared : (b c : Block)
    → b.set < set_count
    → b.first < modulus b.rate
    → c.first < modulus c.rate
    → share b c ≡ true
    → Common b c
found_shared b c hs hb hc e =
    ⊎_elim
    (λ (l : b.rate < c.rate). found_by_lower b c (omega arith) hs hb hc e)
    (λ (l : c.rate ≤ b.rate).
    let set : c.set < set_count = subst (λ (n : ℕ). n < set_count) (share_parts b c e).0 hs in
    let found = found_by_lower c b l set hc hb (share_swap b c e) in
    (found.0, found.1, found.3, found.2))
    (cases_lt b.rate c.rate)
