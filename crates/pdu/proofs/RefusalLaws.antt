-- A refusal is that of its number, and a number that some refusal has is the number of the refusal it names. So what the first broken rule of a list
-- gives is told by the refusal's number, where each rule's number is one (`number-first`).
-- Assumes nothing.
use Prim.Native.Nat.{ℕ, ◌<◌}
use mathlib.Core.Path.{◌≡◌, refl, sym, ap, ◌∙◌}
use mathlib.Core.Logic.{◌≢◌}
use mathlib.Core.Bool.{Bool, true, false, cond, not}
use mathlib.Core.List.{List, [], ◌∷◌, ◌++◌}
use lib.Dec.{eqb}
use borrow.Author.Tests.{eqb-true, eqb-false}
use native.Mathlib.Omega.{arith}
use Rattle.wire.specs.First.{Refusal as Test, ◌given_when◌, first, numbered}
use Rattle.wire.proofs.FirstLaws.{first_here, first_next}
use Rattle.wire.proofs.TableLaws.{both_true}
use Rattle.pdu.specs.Refusals.{Refusal, Short, number, named, is_number, all_numbers}
use Rattle.pdu.specs.Rules.{access_rules, slot_rules, network_rules, is_retired, live_rules, body_rules, inner_rules}
use Rattle.pdu.specs.declared.Network.{Network}
use Rattle.pdu.specs.declared.Signal.{Signal}
use Rattle.pdu.specs.declared.Reading.TheVariants.{Signal as a_signal}

-- the refusal of a refusal's number is that refusal
pub named-number : (e : Refusal) → named (number e) ≡ e
unfolding named
named-number Short = refl
named-number other = refl

-- and by any number that is its own
pub named_by : (e : Refusal) (n : ℕ) → n ≡ number e → named n ≡ e
named_by e n same = ap named same ∙ named-number e

-- no refusal has the number 0
pub number_some : (e : Refusal) → 0 < number e
number_some Short = omega arith
number_some other = omega arith

pub not_none : (e : Refusal) → number e ≢ 0
not_none e none = absurd (omega (arith, number_some e))

-- a number that some refusal has is that of the refusal it names
pub number-named : (n : ℕ) → is_number n ≡ true → number (named n) ≡ n
unfolding is_number
number-named n known = eqb-true _ _ known

-- what the first broken rule gives is such a number, where each rule's is
pub number-first : (rules : List Test) → all_numbers rules ≡ true → first rules ≢ 0 → number (named (first rules)) ≡ first rules
number-first [] known some = absurd (some refl)
number-first ((n given_when true) ∷ rest) known some =
    number-named n (twice (is_number n) (both_true (not (not (is_number n))) (all_numbers rest) known).0)
  where
    twice : (b : Bool) → not (not b) ≡ true → b ≡ true
    twice true t = refl
    twice false t = t
number-first ((n given_when false) ∷ rest) known some =
    number-first rest (both_true (not (not (is_number n))) (all_numbers rest) known).1 some

-- ---- two lists in a row, as two checks in a row answer them

-- a first check that refuses answers for both
pub refused_here : (a b : List Test) (e : Refusal) → number e ≡ first a → number e ≡ first (a ++ b)
refused_here a b e here = here ∙ sym (first_here a b (λ none. not_none e (here ∙ none)))

-- one that does not leaves the answer to the second
pub refused_next : (a b : List Test) (n : ℕ) → numbered a ≡ true → 0 ≡ first a → n ≡ first b → n ≡ first (a ++ b)
refused_next a b n numbers none next = next ∙ sym (first_next a b numbers (sym none))

-- the same in one equation
pub first_then : (a b : List Test) → numbered a ≡ true → first (a ++ b) ≡ cond (eqb (first a) 0) (first b) (first a)
first_then a b numbers = by (eqb (first a) 0) refl
  where
    by : (t : Bool) → eqb (first a) 0 ≡ t → first (a ++ b) ≡ cond t (first b) (first a)
    by true t = first_next a b numbers (eqb-true _ _ t)
    by false t = first_here a b (eqb-false _ _ t)

pub number_apart : (e : Refusal) → eqb (number e) 0 ≡ false
number_apart Short = refl
number_apart other = refl

pub network_then : (n : Network)
    → first (network_rules n) ≡ cond (eqb (first (access_rules n)) 0) (first (slot_rules n)) (first (access_rules n))
unfolding network_rules access_rules
network_then n = first_then (access_rules n) (slot_rules n) refl

pub live_then : (n : Network)
    → first (live_rules n) ≡ cond (eqb (first (network_rules n)) 0) (cond (is_retired n.message_type) 50 0) (first (network_rules n))
unfolding live_rules network_rules access_rules slot_rules
live_then n = first_then (network_rules n) ((50 given_when is_retired n.message_type) ∷ []) refl

pub inner_then : (s : Signal) (n : ℕ)
    → first (inner_rules (a_signal s n))
    ≡ cond (eqb (first (live_rules s.network)) 0) (first (body_rules s.network.message_type n)) (first (live_rules s.network))
unfolding inner_rules live_rules network_rules access_rules slot_rules
inner_then s n = first_then (live_rules s.network) (body_rules s.network.message_type n) refl
