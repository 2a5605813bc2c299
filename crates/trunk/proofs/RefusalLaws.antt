-- Refusals and their numbers. Each refusal has a number of its own, which is not 0 (`named_number`, `one_number`, `number_apart`); and the number of a
-- call's first broken rule is that of a refusal (`named_first`), so that what is answered is known by its number (`answer_is`).
-- Assumes nothing.
use Prim.Native.Nat.{ℕ}
use mathlib.Core.Path.{◌≡◌, refl, sym, ap, subst, ◌∙◌}
use mathlib.Core.Logic.{◌≢◌}
use mathlib.Core.Bool.{Bool, true, false, not, ◌&&◌, and-false}
use mathlib.Core.List.{List, [], ◌∷◌}
use lib.Dec.{eqb}
use borrow.Author.Tests.{eqb-true, eqb-false, eq-eqb, ne_eqb, not-false}
use Rattle.std.specs.Prelude.{Result, Ok, Err, IfOk}
use Rattle.wire.specs.First.{Refusal as Test, first, lacks, told}
use Rattle.wire.specs.Rules.{Rule, FirstBroken, Verdict}
use Rattle.wire.proofs.FirstLaws.{first-lacks}
use Rattle.pdu.specs.Reading.{refusal}
use Rattle.pdu.specs.Refusals.{named as pdu_named}
use Rattle.pdu.specs.declared.refusals.Refusal.TheVariants.{Short}
use Rattle.pdu.proofs.Answers.{refusal_known}
use Rattle.trunk.specs.Refusals.{Refusal, Pdu, RecordKind, number, named, answered, number_says, refused}

-- the refusal of a refusal's number is that refusal
pub named_number : (e : Refusal) → named (number e) ≡ e
unfolding named pdu_named
named_number (Pdu Short) = refl
named_number (Pdu other) = refl
named_number RecordKind = refl
named_number other = refl

pub one_number : (a b : Refusal) → number a ≡ number b → a ≡ b
one_number a b same = sym (named_number a) ∙ ap named same ∙ named_number b

-- no refusal has the number 0
pub number_apart : (e : Refusal) → eqb (number e) 0 ≡ false
number_apart (Pdu Short) = refl
number_apart (Pdu other) = refl
number_apart RecordKind = refl
number_apart other = refl

pub some_number : (e : Refusal) → number e ≢ 0
some_number e = eqb-false _ _ (number_apart e)

-- an answer by its number, and by its value where it has one
pub answer_is : {A : Type 0} (r : Result A Refusal) (n : ℕ) (v : A) → refused r ≡ n → IfOk r (λ x. x ≡ v) → r ≡ answered n v
answer_is (Ok x) n v e same = subst (λ (k : ℕ). Ok x ≡ answered k v) e (ap Ok same)
answer_is (Err x) n v e same = subst (λ (k : ℕ). Err x ≡ answered k v) e (rw (number_apart x) (ap Err (sym (named_number x))))

-- the same of a refusal alone: no rule is passed, and it is the one that the number names
pub refuses : (e : Refusal) (n : ℕ) → number e ≡ n → (eqb n 0 ≡ false) × (e ≡ named n)
refuses e n same = (ap (λ (k : ℕ). eqb k 0) (sym same) ∙ number_apart e, sym (named_number e) ∙ ap named same)

-- and where none is broken
pub passes : (n : ℕ) → 0 ≡ n → eqb n 0 ≡ true
passes n none = eq-eqb n 0 (sym none)

-- and what it says
pub told_is : (r : Result ℕ Refusal) (n v : ℕ) → refused r ≡ n → IfOk r (λ x. x ≡ v) → number_says r ≡ told n (v ∷ [])
told_is (Ok x) n v e same = subst (λ (k : ℕ). (0 ∷ x ∷ []) ≡ told k (v ∷ [])) e (ap (λ (k : ℕ). 0 ∷ k ∷ []) same)
told_is (Err x) n v e same = subst (λ (k : ℕ). (number x ∷ []) ≡ told k (v ∷ [])) e (rw (number_apart x))

-- ---- the number of the first broken rule

-- whether a number is neither 0 nor a refusal's
abbrev pub strange : ℕ → Bool
strange n = not (eqb n 0) && not (eqb (number (named n)) n)

pub own_usual : (e : Refusal) → strange (number e) ≡ false
own_usual e =
    ap (λ (k : Refusal). not (eqb (number e) 0) && not (eqb (number k) (number e))) (named_number e)
    ∙ ap (λ (b : Bool). not (eqb (number e) 0) && not b) (eq-eqb (number e) (number e) refl)
    ∙ and-false (not (eqb (number e) 0))

pub read_usual : (d : List ℕ) → refusal d ≢ 0 → strange (refusal d) ≡ false
read_usual d some = subst (λ (n : ℕ). strange n ≡ false) (refusal_known d some) (own_usual (Pdu (pdu_named (refusal d))))

-- where no rule has a strange number, the first broken one has a refusal's
pub named_first : (rs : List Test) → lacks strange rs ≡ true → first rs ≢ 0 → number (named (first rs)) ≡ first rs
named_first rs known some =
    let usual : strange (first rs) ≡ false = first-lacks strange rs refl known in
    eqb-true _ _ (not-false _ (rw (ne_eqb (first rs) 0 some) at usual))

pub named_broken : {rs : List Test} (ps : List Rule)
    → Verdict rs ps
    → lacks strange rs ≡ true
    → first rs ≢ 0
    → FirstBroken (number (named (first rs))) ps
named_broken {rs} ps v known some =
    let back = named_first rs known some in
    (v.some _).0 (sym back, λ z. some (sym back ∙ z))
