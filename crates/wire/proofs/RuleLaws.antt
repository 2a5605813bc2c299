-- Rules in order. A test and a plain statement say the same if the test's outcome is equivalent to it (the laws of `&&`, `||`, `not` and
-- `cond`); where each refusal of a list says the same as the rule in its place, given the rules before it, the refusal number is 0 exactly
-- where every rule holds, and is n exactly where n is the number of the first rule that does not (`verdict`). By induction on the lists.
-- Assumes nothing.
use Prim.Native.Nat.{ℕ, suc, ◌≤◌, ◌<◌}
use mathlib.Core.Path.{◌≡◌, refl, sym, ap, ◌∙◌}
use mathlib.Core.Logic.{◌↔◌, ◌≢◌, ◌⊎◌, inl, inr}
use mathlib.Core.Bool.{Bool, true, false, cond, not, ◌&&◌, ◌||◌, true≢false, false≢true}
use mathlib.Core.List.{List, [], ◌∷◌, ◌++◌}
use lib.Dec.{eqb, ltb, leb}
use borrow.Author.Tests.{eqb-true, eq-eqb, ne_eqb, ltb-false, le-ltb, leb-true, le-leb, leb-false, lt-leb}
use native.Mathlib.Omega.{arith}
use Rattle.wire.specs.First.{Refusal, ◌given_when◌, first}
use Rattle.wire.specs.Rules.{Rule, ◌unless◌, Met, FirstBroken, Verdict}

-- the proofs of statements in a row
infixr 1 ◌also◌
pub ◌also◌ : {A B : Type 0} → A → B → A × B
a also b = (a, b)

-- ---- what a test says

pub equal : (m n : ℕ) → (eqb m n ≡ true) ↔ (m ≡ n)
equal m n = (eqb-true m n, eq-eqb m n)

pub at_most : (m n : ℕ) → (leb m n ≡ true) ↔ (m ≤ n)
at_most m n = (leb-true m n, le-leb m n)

pub below : (m n : ℕ) → (leb n m ≡ false) ↔ (m < n)
below m n = (leb-false n m, lt-leb n m)

pub not_below : (m n : ℕ) → (ltb m n ≡ false) ↔ (n ≤ m)
not_below m n = (ltb-false m n, le-ltb m n)

pub negated : {P : Type 0} (a : Bool) → (a ≡ true) ↔ P → (not a ≡ false) ↔ P
negated true h = (λ e. h.0 refl, λ p. refl)
negated false h = (λ e. absurd (true≢false e), λ p. absurd (false≢true (h.1 p)))

-- the second test need say its part only where the first holds
pub both_then : {P Q : Type 0} (a b : Bool) → (a ≡ true) ↔ P → (P → (b ≡ true) ↔ Q) → ((a && b) ≡ true) ↔ (P × Q)
both_then true b h k = (λ e. (h.0 refl, (k (h.0 refl)).0 e), λ p. (k p.0).1 p.1)
both_then false b h k = (λ e. absurd (false≢true e), λ p. absurd (false≢true (h.1 p.0)))

pub both : {P Q : Type 0} (a b : Bool) → (a ≡ true) ↔ P → (b ≡ true) ↔ Q → ((a && b) ≡ true) ↔ (P × Q)
both a b h k = both_then a b h (λ p. k)

pub one_of : {P Q : Type 0} (a b : Bool) → (a ≡ true) ↔ P → (b ≡ true) ↔ Q → ((a || b) ≡ true) ↔ (P ⊎ Q)
one_of true b h k = (λ e. inl (h.0 refl), λ p. refl)
one_of false b h k = (λ e. inr (k.0 e), elim [ inl p ↦ absurd (false≢true (h.1 p)) | inr q ↦ k.1 q ])

-- two ways to be broken: neither is
pub neither : {P Q : Type 0} (a b : Bool) → (a ≡ false) ↔ P → (b ≡ false) ↔ Q → ((a || b) ≡ false) ↔ (P × Q)
neither true b h k = (λ e. absurd (true≢false e), λ p. absurd (true≢false (h.1 p.0)))
neither false b h k = (λ e. (h.0 refl, k.0 e), λ p. k.1 p.1)

-- a rule with a condition: broken where the condition holds and the rest is broken
pub if_so : {P Q : Type 0} (a b : Bool) → (a ≡ true) ↔ P → (b ≡ false) ↔ Q → ((a && b) ≡ false) ↔ (P → Q)
if_so true b h k = (λ e p. k.0 e, λ f. k.1 (f (h.0 refl)))
if_so false b h k = (λ e p. absurd (false≢true (h.1 p)), λ f. refl)

-- the same, as a test that holds where the condition does not
pub unless_not : {P Q : Type 0} (a b : Bool) → (a ≡ false) ↔ P → (b ≡ true) ↔ Q → ((a || b) ≡ true) ↔ (P → Q)
unless_not true b h k = (λ e p. absurd (true≢false (h.1 p)), λ f. refl)
unless_not false b h k = (λ e p. k.0 e, λ f. k.1 (f (h.0 refl)))

-- one rule where the condition holds, and another where it does not
pub either_way :
    {P Q R : Type 0} (a b c : Bool)
    → (a ≡ true) ↔ P
    → (P → (b ≡ false) ↔ Q)
    → (c ≡ false) ↔ R
    → (cond a b c ≡ false) ↔ ((P → Q) × (¬ P → R))
either_way true b c h k l = (λ e. (λ p. (k p).0 e, λ n. absurd (n (h.0 refl))), λ f. (k (h.0 refl)).1 (f.0 (h.0 refl)))
either_way false b c h k l = (λ e. (λ p. absurd (false≢true (h.1 p)), λ n. l.0 e), λ f. l.1 (f.1 (λ p. false≢true (h.1 p))))

pub all_five :
    {P Q R S U : Type 0} (a b c d e : Bool)
    → (a ≡ true) ↔ P
    → (b ≡ true) ↔ Q
    → (c ≡ true) ↔ R
    → (d ≡ true) ↔ S
    → (e ≡ true) ↔ U
    → ((a && b && c && d && e) ≡ true) ↔ (P × Q × R × S × U)
all_five a b c d e p q r s u =
    let h = both (a && b && c && d) e (both (a && b && c) d (both (a && b) c (both a b p q) r) s) u in
    (λ t. let x = h.0 t in (x.0.0.0.0, x.0.0.0.1, x.0.0.1, x.0.1, x.1), λ x. h.1 ((((x.0, x.1), x.2), x.3), x.4))

-- a last conjunct that is true
pub and_true : (b : Bool) → (b && true) ≡ b
and_true true = refl
and_true false = refl

-- an inequality that a branch has shown, as the rule's test
pub differs : (m n : ℕ) → (m ≡ n → ⊥) → not (eqb m n) ≡ true
differs m n h = ap not (ne_eqb m n h)

pub agrees : (m n : ℕ) → m ≡ n → not (eqb m n) ≡ false
agrees m n h = ap not (eq-eqb m n h)

-- ---- the first broken rule

-- where the rules before it hold, each refusal is given exactly where the rule in its place does not, by the same number, which is not 0
infixr 1 ◌then◌
pub data Agree : List Refusal → List Rule → Type 1 where
  done : Agree [] []
  ◌then◌ : {n : ℕ} {broken : Bool} {holds : Type 0} {rs : List Refusal} {ps : List Rule}
      → (broken ≡ false) ↔ holds → (holds → Agree rs ps) → Agree ((suc n given_when broken) ∷ rs) ((suc n unless holds) ∷ ps)

-- two lists in a row agree where each does, the second where the first's rules hold
pub agree_append : {rs rs' : List Refusal} {ps ps' : List Rule} → Agree rs ps → (Met ps → Agree rs' ps') → Agree (rs ++ rs') (ps ++ ps')
agree_append done b = b tt
agree_append (h then a) b = h then λ p. agree_append (a p) (λ m. b (p, m))

never : (n : ℕ) → suc n ≢ 0
never n e = omega arith

none_broken : {rs : List Refusal} {ps : List Rule} → Agree rs ps → first rs ≡ 0 → Met ps
none_broken done e = tt
none_broken (◌then◌ {n} {broken = true} h a) e = absurd (never n e)
none_broken (◌then◌ {broken = false} h a) e = (h.0 refl, none_broken (a (h.0 refl)) e)

all_met : {rs : List Refusal} {ps : List Rule} → Agree rs ps → Met ps → first rs ≡ 0
all_met done m = refl
all_met (◌then◌ {broken = true} h a) m = absurd (true≢false (h.1 m.0))
all_met (◌then◌ {broken = false} h a) m = all_met (a m.0) m.1

some_broken : {rs : List Refusal} {ps : List Rule} → Agree rs ps → (n : ℕ) → first rs ≡ n → n ≢ 0 → FirstBroken n ps
some_broken done n e z = z (sym e)
some_broken (◌then◌ {broken = true} h a) n e z = inl (sym e, λ p. true≢false (h.1 p))
some_broken (◌then◌ {broken = false} h a) n e z = inr (h.0 refl, some_broken (a (h.0 refl)) n e z)

is_given : {rs : List Refusal} {ps : List Rule} → Agree rs ps → (n : ℕ) → FirstBroken n ps → (first rs ≡ n) × (n ≢ 0)
is_given done n f = absurd f
is_given (◌then◌ {n = m} {broken = true} h a) n (inl f) = (sym f.0, λ e. never m (sym f.0 ∙ e))
is_given (◌then◌ {broken = true} h a) n (inr f) = absurd (true≢false (h.1 f.0))
is_given (◌then◌ {broken = false} h a) n (inl f) = absurd (f.1 (h.0 refl))
is_given (◌then◌ {broken = false} h a) n (inr f) = is_given (a f.0) n f.1

pub verdict : {rs : List Refusal} {ps : List Rule} → Agree rs ps → Verdict rs ps
verdict a =
    record {
      none = (none_broken a, all_met a);
      some = λ n. (λ h. some_broken a n h.0 h.1, is_given a n);
    }

-- ---- rules of two lists in a row

pub met_split : (ps qs : List Rule) → Met (ps ++ qs) → Met ps × Met qs
met_split [] qs m = (tt, m)
met_split ((n unless holds) ∷ ps) qs (h, m) =
    let (here, rest) = met_split ps qs m in
    ((h, here), rest)

pub met_join : (ps qs : List Rule) → Met ps → Met qs → Met (ps ++ qs)
met_join [] qs m k = k
met_join ((n unless holds) ∷ ps) qs (h, m) k = (h, met_join ps qs m k)
