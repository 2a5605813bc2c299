-- The plain twins of bytes, splices, refusals and tables hold: numbers by arithmetic on their bytes, a splice by induction on what is written,
-- refusals by the test of the first rule; the sample's table is computed.
-- Assumes nothing.
use Prim.Native.Nat.{ℕ, zero, suc, ◌+◌, ◌/◌, ◌%◌, ◌≤◌, ◌<◌}
use mathlib.Core.Path.{◌≡◌, refl, sym, ap, ◌∙◌}
use mathlib.Core.Bool.{Bool, true, false, true≢false}
use mathlib.Core.List.{List, [], ◌∷◌, ◌++◌}
use Rattle.std.specs.Prelude.{◌↔◌}
use lib.ListN.{length, get_or, set, length-set}
use lib.Seq.{length-sets, get_or-set_same, get_or-set_other}
use borrow.Author.Tests.{ne_eqb}
use native.Mathlib.Nat.{add-zero, add-suc, suc-add}
use native.Mathlib.Omega.{arith}
use Rattle.wire.specs.Bytes.{splice, all_zero}
use Rattle.wire.specs.First.{Refusal, ◌given_when◌, first}
use Rattle.wire.specs.Plain.{byte, Numbers, Written, Spliced, ZeroTest, Unbroken, FirstGiven, Said, Sampled}
use Rattle.wire.proofs.ByteLaws.{num-split, big_halves, each_zero}
use Rattle.wire.proofs.PartLaws.{all_zero_lem}

pub numbers : (o : ℕ) (d : List ℕ) → Numbers o d
numbers o d =
    let start : get_or d (o + 0) 0 ≡ byte d o = ap (byte d) (add-zero o) in
    record {
      of_one = omega (arith, start);
      of_two = omega (arith, start);
      of_three = omega (arith, start);
      of_four = omega (arith, start);
      of_eight = num-split 4 4 o d;
    }

pub written : (v : ℕ) → Written v
written v =
    let two : v / 256 / 256 ≡ v / 65536 = omega arith in
    let three : v / 256 / 256 / 256 ≡ v / 16777216 = omega arith in
    record {
      as_one = refl;
      as_two = refl;
      as_four = λ i. three i % 256 ∷ two i % 256 ∷ v / 256 % 256 ∷ v % 256 ∷ [];
      as_eight = big_halves v;
      beside = λ w. refl;
    }

-- ---- a splice, byte by byte

spliced_before : (at : ℕ) (bytes l : List ℕ) (i : ℕ) → i < at → byte (splice at bytes l) i ≡ byte l i
spliced_before at [] l i h = refl
spliced_before at (x ∷ xs) l i h = spliced_before (suc at) xs (set l at x) i (omega arith) ∙ get_or-set_other l at i x 0 (λ e. omega arith)

spliced_inside : (at : ℕ) (bytes l : List ℕ) (i : ℕ) → i < length bytes → at + i < length l → byte (splice at bytes l) (at + i) ≡ byte bytes i
spliced_inside at [] l i h k = absurd (omega arith)
spliced_inside at (x ∷ xs) l zero h k =
    ap (byte (splice (suc at) xs (set l at x))) (add-zero at)
    ∙ spliced_before (suc at) xs (set l at x) at (omega arith)
    ∙ get_or-set_same l at x 0 (omega arith)
spliced_inside at (x ∷ xs) l (suc i) h k =
    ap (byte (splice (suc at) xs (set l at x))) (add-suc at i ∙ sym (suc-add at i))
    ∙ spliced_inside (suc at) xs (set l at x) i (omega arith) (omega (arith, length-set l at x))

spliced_behind : (at : ℕ) (bytes l : List ℕ) (i : ℕ) → at + length bytes ≤ i → byte (splice at bytes l) i ≡ byte l i
spliced_behind at [] l i h = refl
spliced_behind at (x ∷ xs) l i h = spliced_behind (suc at) xs (set l at x) i (omega arith) ∙ get_or-set_other l at i x 0 (λ e. omega arith)

pub spliced : (at : ℕ) (bytes buffer : List ℕ) → Spliced at bytes buffer
spliced at bytes buffer = record {
  size = length-sets buffer at bytes;
  before = spliced_before at bytes buffer;
  inside = spliced_inside at bytes buffer;
  behind = spliced_behind at bytes buffer;
}

pub zero_test : (d : List ℕ) → ZeroTest d
zero_test d = (λ e i l. all_zero_lem d e i, each_zero d)

-- any test that says so is that test
pub zero_test_of : (b : Bool) (d : List ℕ) → (b ≡ true) ↔ ((i : ℕ) → i < length d → get_or d i 0 ≡ 0) → b ≡ all_zero d
zero_test_of true d h = sym (each_zero d (h.0 refl))
zero_test_of false d h = by (all_zero d) refl
  where
    by : (z : Bool) → all_zero d ≡ z → false ≡ z
    by false e = refl
    by true e = h.1 (λ i l. all_zero_lem d e i)

-- ---- refusals in order

pub first-given : (rules : List Refusal) → FirstGiven rules
first-given rules = record { none = none rules; some = some rules }
  where
    none : (rs : List Refusal) → Unbroken rs → first rs ≡ 0
    none [] u = refl
    none ((n given_when true) ∷ rs) u = absurd (true≢false u.0)
    none ((n given_when false) ∷ rs) u = none rs u.1

    some : (rs : List Refusal) (n : ℕ) (rest : List Refusal) → Unbroken rs → first (rs ++ ((n given_when true) ∷ rest)) ≡ n
    some [] n rest u = refl
    some ((m given_when true) ∷ rs) n rest u = absurd (true≢false u.0)
    some ((m given_when false) ∷ rs) n rest u = some rs n rest u.1

pub said : (values : List ℕ) → Said values
said values = record { taken = refl; refused = λ n h. rw (ne_eqb n 0 h) }

-- ---- the sample

pub sampled : Sampled
sampled = record {
  wide = refl;
  keeps = refl;
  reads = refl;
  fills = refl;
  clears = refl;
  right = refl;
  wrong_byte = refl;
  wrong_bits = refl;
  blank = refl;
  padded_byte = refl;
  padded_bits = refl;
  fits = (omega arith, ((omega arith, (omega arith, refl)), refl));
  too_wide = λ f. let l = f.0 in omega arith;
  too_many_bits = λ f. let l = f.1.0.0 in omega arith;
  too_few = λ f. f.1.0.1;
  whole = refl;
  no_byte = refl;
  no_bits = refl;
  bit_over = refl;
  named = refl;
  unnamed = refl;
  left_out = refl;
}
