-- Laws of refusals in order: what a list with no broken rule says of each rule, and how two lists in a row answer.
-- Each goes by the test of the first rule.
-- Assumes nothing.
use Prim.Native.Nat.{ℕ}
use mathlib.Core.Path.{◌≡◌, refl, sym, ap}
use mathlib.Core.Logic.{◌≢◌}
use mathlib.Core.Bool.{Bool, true, false, cond, not}
use mathlib.Core.List.{List, [], ◌∷◌, ◌++◌}
use lib.Dec.{eqb}
use borrow.Author.Tests.{eqb-false, eq-eqb, ne_eqb, not-true}
use Rattle.wire.specs.First.{Refusal, ◌given_when◌, first, lacks, numbered, without}
use Rattle.wire.specs.Plain.{Unbroken}
use Rattle.wire.proofs.TableLaws.{both_true}

-- where no rule of a list is broken, each is unbroken
pub unbroken : (rs : List Refusal) → numbered rs ≡ true → first rs ≡ 0 → Unbroken rs
unbroken [] u e = tt
unbroken ((n given_when true) ∷ rs) u e =
    elim (eqb-false n 0 (not-true (eqb n 0) (both_true (not (eqb n 0)) (numbered rs) u).0) e) [ ]
unbroken ((n given_when false) ∷ rs) u e = (refl, unbroken rs (both_true (not (eqb n 0)) (numbered rs) u).1 e)

-- a first list with a broken rule answers for both
pub first_here : (a b : List Refusal) → (first a ≡ 0 → ⊥) → first (a ++ b) ≡ first a
first_here [] b h = elim (h refl) [ ]
first_here ((n given_when true) ∷ a) b h = refl
first_here ((n given_when false) ∷ a) b h = first_here a b h

-- a first list with none leaves the answer to the second
pub first_next : (a b : List Refusal) → numbered a ≡ true → first a ≡ 0 → first (a ++ b) ≡ first b
first_next [] b u e = refl
first_next ((n given_when true) ∷ a) b u e =
    elim (eqb-false n 0 (not-true (eqb n 0) (both_true (not (eqb n 0)) (numbered a) u).0) e) [ ]
first_next ((n given_when false) ∷ a) b u e = first_next a b (both_true (not (eqb n 0)) (numbered a) u).1 e

-- where no rule of two lists in a row is broken, none of either is
pub none_of : (a b : List Refusal) → numbered a ≡ true → first (a ++ b) ≡ 0 → (first a ≡ 0) × (first b ≡ 0)
none_of [] b u e = (refl, e)
none_of ((n given_when true) ∷ a) b u e =
    elim (eqb-false n 0 (not-true (eqb n 0) (both_true (not (eqb n 0)) (numbered a) u).0) e) [ ]
none_of ((n given_when false) ∷ a) b u e = none_of a b (both_true (not (eqb n 0)) (numbered a) u).1 e

-- the number given is of no sort that the rules lack, where 0 is of none
pub first-lacks : (sort : ℕ → Bool) (rs : List Refusal) → sort 0 ≡ false → lacks sort rs ≡ true → sort (first rs) ≡ false
first-lacks sort [] z u = z
first-lacks sort ((n given_when true) ∷ rs) z u = not-true (sort n) (both_true (not (sort n)) (lacks sort rs) u).0
first-lacks sort ((n given_when false) ∷ rs) z u = first-lacks sort rs z (both_true (not (sort n)) (lacks sort rs) u).1

-- a number that a first list lacks is given by the second: no rule of the first is broken
pub first_past : (k : ℕ) (a b : List Refusal) → lacks (λ n. eqb n k) a ≡ true → first (a ++ b) ≡ k → first a ≡ 0
first_past k [] b u e = refl
first_past k ((n given_when true) ∷ a) b u e =
    absurd (eqb-false n k (not-true (eqb n k) (both_true (not (eqb n k)) (lacks (λ n. eqb n k) a) u).0) e)
first_past k ((n given_when false) ∷ a) b u e = first_past k a b (both_true (not (eqb n k)) (lacks (λ n. eqb n k) a) u).1 e

-- ---- rules left out

-- where the number given is another, the rules without this one give the same
pub first-without : (k : ℕ) (rs : List Refusal) → first rs ≢ k → first (without k rs) ≡ first rs
first-without k [] h = refl
first-without k ((n given_when true) ∷ rs) h = rw (ne_eqb n k h)
first-without k ((n given_when false) ∷ rs) h = by (eqb n k) (first-without k rs h)
  where
    by : (b : Bool) → first (without k rs) ≡ first rs → first (cond b (without k rs) ((n given_when false) ∷ without k rs)) ≡ first rs
    by true rest = rest
    by false rest = rest

-- what rules lack they lack without some, and those of the number left out are lacking
pub lacks-without : (sort : ℕ → Bool) (k : ℕ) (rs : List Refusal) → lacks sort rs ≡ true → lacks sort (without k rs) ≡ true
lacks-without sort k [] u = refl
lacks-without sort k ((n given_when broken) ∷ rs) u =
    let (other, rest) = both_true (not (sort n)) (lacks sort rs) u in
    by (eqb n k) other (lacks-without sort k rs rest)
  where
    by : (b : Bool)
        → not (sort n) ≡ true
        → lacks sort (without k rs) ≡ true
        → lacks sort (cond b (without k rs) ((n given_when broken) ∷ without k rs)) ≡ true
    by true other rest = rest
    by false other rest = rw (other, rest)

pub without-lacks : (k : ℕ) (rs : List Refusal) → lacks (λ n. eqb n k) (without k rs) ≡ true
without-lacks k [] = refl
without-lacks k ((n given_when broken) ∷ rs) = by (eqb n k) refl (without-lacks k rs)
  where
    by : (b : Bool)
        → eqb n k ≡ b
        → lacks (λ n. eqb n k) (without k rs) ≡ true
        → lacks (λ n. eqb n k) (cond b (without k rs) ((n given_when broken) ∷ without k rs)) ≡ true
    by true t rest = rest
    by false t rest = rw (t, rest)

-- rules of which none has the number are left as they are
pub without-none : (k : ℕ) (rs : List Refusal) → lacks (λ n. eqb n k) rs ≡ true → without k rs ≡ rs
without-none k [] u = refl
without-none k ((n given_when broken) ∷ rs) u =
    let (other, rest) = both_true (not (eqb n k)) (lacks (λ n. eqb n k) rs) u in
    rw (not-true (eqb n k) other) (ap (λ (l : List Refusal). (n given_when broken) ∷ l) (without-none k rs rest))

-- where the number is given, and one rule alone has it, the rules behind that one answer
pub first-behind : (k : ℕ) (broken : Bool) (a c : List Refusal)
    → lacks (λ n. eqb n k) a ≡ true
    → lacks (λ n. eqb n k) c ≡ true
    → k ≢ 0
    → first (a ++ ((k given_when broken) ∷ c)) ≡ k
    → first (without k (a ++ ((k given_when broken) ∷ c))) ≡ first c
first-behind k true [] c u v some e = rw (eq-eqb k k refl) (ap first (without-none k c v))
first-behind k false [] c u v some e =
    absurd (eqb-false (first c) k (first-lacks (λ n. eqb n k) c (ne_eqb 0 k (λ z. some (sym z))) v) e)
first-behind k broken ((n given_when true) ∷ a) c u v some e =
    absurd (eqb-false n k (not-true (eqb n k) (both_true (not (eqb n k)) (lacks (λ n. eqb n k) a) u).0) e)
first-behind k broken ((n given_when false) ∷ a) c u v some e =
    let (other, rest) = both_true (not (eqb n k)) (lacks (λ n. eqb n k) a) u in
    rw (not-true (eqb n k) other) (first-behind k broken a c rest v some e)
