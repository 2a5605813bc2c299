-- What a digit more does to the number that digits write.
use Rattle.std.proofs.Common.{◌≡◌, ℕ, ◌+◌, ◌<◌, ◌≤◌, List, [], ◌∷◌, length, get_or, drop, refl, arith, add-one, drop-cons}
use Rattle.std.specs.Prelude.{fold}
use Rattle.std.proofs.lemmas.List.{take_all, drop_all}
use Rattle.text.specs.Numbers.{with_digit}

-- the first digit of those left
pub fold-drop : (n i : ℕ) (xs : List ℕ) → i < length xs → fold with_digit n (drop i xs) ≡ fold with_digit (with_digit n (get_or xs i 0)) (drop (i + 1) xs)
fold-drop n i xs h = rw (add-one, drop-cons xs i 0) refl

-- none is left
pub fold-drop_all : (n i : ℕ) (xs : List ℕ) → length xs ≤ i → fold with_digit n (drop i xs) ≡ n
fold-drop_all n i xs h = rw (drop_all i xs) refl

-- digits make no number smaller
pub le-fold : (n : ℕ) (xs : List ℕ) → n ≤ fold with_digit n xs
le-fold n [] = omega arith
le-fold n (c ∷ cs) = omega (arith, le-fold (with_digit n c) cs)

-- these, and what the library has of the digits so far
pub ruleset of_digits = (fold-drop, fold-drop_all, le-fold, take_all)
