-- The plain twin of the word of places holds: each bit is 0 or 1, so that the count of held places is the sum of the bits; the least free place
-- and the words with a place taken, or built upward, are those of the word's laws.
-- Assumes nothing.
use Prim.Native.Nat.{ℕ, zero, suc, ◌+◌, ◌/◌, ◌%◌, ◌^◌, ◌<◌}
use mathlib.Core.Path.{◌≡◌, refl, sym, ap, ◌∙◌}
use mathlib.Core.Bool.{Bool, true, false, cond, not, ◌||◌, false≢true}
use mathlib.Core.Logic.{◌⊎◌, ◌↔◌, inl, inr}
use native.Mathlib.Nat.{div-one, add-zero}
use native.Mathlib.Omega.{arith}
use lib.Dec.{eqb}
use borrow.Author.Tests.{eqb-true, eq-eqb}
use Rattle.occupancy.specs.Places.{places, held, count}
use Rattle.occupancy.specs.Plain.{WordOfPlaces, BuiltWord}
use Rattle.occupancy.proofs.LeastLaws.{least_is}
use Rattle.occupancy.proofs.WordLaws.{held-taken, built_fits, held_built}

-- a bit counts as itself
bit-counted : (r : ℕ) → r < 2 → cond (eqb r 1) 1 0 ≡ r
bit-counted zero h = refl
bit-counted (suc zero) h = refl
bit-counted (suc (suc r)) h = absurd (omega arith)

-- two tests of which one says A
either_of : (a b : Bool) {A : Type 0} → (a ≡ true) ↔ A → ((a || b) ≡ true) ↔ (A ⊎ (b ≡ true))
either_of true b h = (λ e. inl (h.0 refl), λ _. refl)
either_of false b h = (λ e. inr e, elim [ inl x ↦ absurd (false≢true (h.1 x)) | inr e ↦ e ])

-- eight numbers and what is added to them, counted one by one
eight_and : (a b c d e f g h rest : ℕ)
    → a + (b + (c + (d + (e + (f + (g + (h + rest))))))) ≡ a + b + c + d + e + f + g + h + rest
eight_and a b c d e f g h rest = omega arith

pub word_of-places : (w : ℕ) → WordOfPlaces w
unfolding count
word_of-places w = record {
  bit = λ i. (eqb-true _ _, eq-eqb _ _);
  number =
      (λ i. low i + (at 1 i + (at 2 i + (at 3 i + (at 4 i + (at 5 i + (at 6 i + (at 7 i + high i))))))))
      ∙ eight_and (w % 2) _ _ _ _ _ _ _ _;
  lowest = λ i l free below.
      least_is (λ j. not (held w j)) places i (omega arith) (λ j k. ap not (below j k)) (λ _. ap not free);
  full = λ all. least_is (λ j. not (held w j)) places places (omega arith) (λ j k. ap not (all j k)) (λ k. absurd (omega arith));
  taken = λ i j free.
      let or = either_of (eqb i j) (held w j) ((λ e. sym (eqb-true i j e)), λ e. eq-eqb i j (sym e)) in
      (λ e. or.0 (sym (held-taken w i j free) ∙ e), λ e. held-taken w i j free ∙ or.1 e);
}
  where
    at : (i : ℕ) → cond (held w i) 1 0 ≡ w / 2 ^ i % 2
    at i = bit-counted (w / 2 ^ i % 2) (omega arith)

    low : cond (held w 0) 1 0 ≡ w % 2
    low = at 0 ∙ ap (λ (n : ℕ). n % 2) (div-one w)

    high : count (λ i. held w (8 + i)) 8
        ≡ w / 256 % 2 + w / 512 % 2 + w / 1024 % 2 + w / 2048 % 2 + w / 4096 % 2 + w / 8192 % 2 + w / 16384 % 2 + w / 32768 % 2
    high =
        (λ i. at 8 i + (at 9 i + (at 10 i + (at 11 i + (at 12 i + (at 13 i + (at 14 i + (at 15 i + 0))))))))
        ∙ eight_and _ _ _ _ _ _ _ _ 0
        ∙ add-zero _

pub built_word : (p : ℕ → Bool) → BuiltWord p
built_word p = record { fits = built_fits p places; holds = held_built p places }
