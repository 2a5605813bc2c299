-- Which message types an offer refuses, and by which number (02, R-4): 50 is the reader's, and what is read and not carried has type 6 or 7, since a
-- Signal of a lower type is carried and one of type 3, 4 or 5 is not read.
-- Assumes nothing.
use Prim.Native.Nat.{ℕ, ◌≤◌}
use mathlib.Core.Path.{◌≡◌, refl, sym, ap, subst, ◌∙◌}
use mathlib.Core.Logic.{◌≢◌, ◌⊎◌, inl, inr}
use mathlib.Core.Bool.{Bool, true, false}
use mathlib.Core.List.{List}
use lib.Dec.{eqb}
use borrow.Author.Tests.{eqb-true, eqb-false}
use native.Mathlib.Omega.{arith}
use Rattle.wire.specs.Rules.{FirstBroken}
use Rattle.pdu.specs.Plain.{LiveRule}
use Rattle.pdu.specs.Reading.{refusal, reading}
use Rattle.pdu.specs.declared.Transmitter.{Transmitter}
use Rattle.pdu.specs.declared.Signal.{Signal}
use Rattle.pdu.specs.declared.Reading.{Reading}
use Rattle.pdu.specs.declared.Reading.TheVariants.{Signal as a_signal}
use Rattle.pdu.proofs.Answers.{refuses_as}
use Rattle.pdu.proofs.ReadLaws.{taken_type, refusal_apart}
use Rattle.trunk.specs.Near.{offered}
use Rattle.trunk.specs.Plain.{TypeRule, Ends, at_end, refused, not_carried, Walked, plain_offer}
use Rattle.trunk.specs.Exactly.{NotCarried, TypesRefused}
use Rattle.trunk.specs.declared.Near.{Near}
use Rattle.trunk.proofs.ExactlyWhen.{offer_exactly_when}

-- a Signal of type 0, 1 or 2 meets the rule of 23
carries : (d : List ℕ) (s : Signal) (n : ℕ) → reading d ≡ a_signal s n → s.network.message_type ≤ 2 → TypeRule d
carries d s n e low s' n' e' =
    let same : s ≡ s' = one (reading d) e e' in
    omega (arith, ap (λ (g : Signal). g.network.message_type) same)
  where
    one : (r : Reading) → r ≡ a_signal s n → r ≡ a_signal s' n' → s ≡ s'
    one r p q = cc

-- of the eight types those that are not retired, above 2
two_left : (type : ℕ) → type ≤ 7 → LiveRule type → (type ≤ 2 → ⊥) → (type ≡ 6) ⊎ (type ≡ 7)
two_left type high (three, four, five) low = by (eqb type 6) refl
  where
    by : (b : Bool) → eqb type 6 ≡ b → (type ≡ 6) ⊎ (type ≡ 7)
    by true e = inl (eqb-true _ _ e)
    by false e =
        let six : type ≢ 6 = eqb-false _ _ e in
        inr (omega arith)

-- a slice that 23 stops: what is left begins with a Signal that is read and not carried, since the reader never gives 23
not-carried_by : (d : List ℕ) (pdus : List (List ℕ)) (left : List ℕ) → Walked d pdus left 23 → NotCarried d
not-carried_by d pdus left w = by w.ends refl
  where
    signal : refusal left ≡ 0 → ¬ TypeRule left → NotCarried d
    signal read other = held (reading left) refl
      where
        held : (r : Reading) → reading left ≡ r → NotCarried d
        held (Reading.Refused n) e = let h = (refuses_as left n).0 e in absurd (h.1 (sym h.0 ∙ read))
        held (Reading.Transmitter t) e = absurd (other (λ s n f. absurd (unlike (reading left) t s n e f)))
          where
            unlike : (r : Reading) (t : Transmitter) (s : Signal) (n : ℕ) → r ≡ Reading.Transmitter t → r ≡ a_signal s n → ⊥
            unlike r t s n p q = let z : ◌≡◌ {A = ℕ} 0 1 = cc in omega arith
        held (Reading.Signal s n) e =
            let (known, live) = taken_type left s n e in
            record {
              pdus = pdus;
              left = left;
              walked = w;
              fields = s;
              size = n;
              read = e;
              type = two_left _ known live (λ low. other (carries left s n e low));
            }

    by : {n : ℕ} → Ends pdus left n → n ≡ 23 → NotCarried d
    by (at_end some none) z = absurd (omega arith)
    by (refused before h) z = absurd (refusal_apart left 23 (omega arith) (omega arith) z)
    by (not_carried read other) z = signal read other

-- 23 is the number of the first broken rule of an offer: what stops its slice
stopped_by : (near : Near) (store : List ℕ) (stop pdus : ℕ) → FirstBroken 23 (plain_offer near store stop pdus) → stop ≡ 23
stopped_by near store stop pdus (inl (e, b)) = absurd (omega arith)
stopped_by near store stop pdus (inr (whole, inl (e, b))) = sym e
stopped_by near store stop pdus (inr (whole, inr (none, inl (e, b)))) = absurd (omega arith)
stopped_by near store stop pdus (inr (whole, inr (none, inr (few, inl (e, b))))) = absurd (omega arith)
stopped_by near store stop pdus (inr (whole, inr (none, inr (few, inr (numbers, inl (e, b)))))) = absurd (omega arith)
stopped_by near store stop pdus (inr (whole, inr (none, inr (few, inr (numbers, inr (free, end)))))) = absurd end

pub types_refused : (near : Near) (store d : List ℕ) → TypesRefused store d (offered near store d).answer
types_refused near store d =
    let exactly = offer_exactly_when near store d in
    record {
      retired = λ pdus left whole w.
          let fifty : 50 ≡ exactly.stop = (exactly.slice.only pdus left 50 w).2 in
          (exactly.answer.refused 50).1 (inr (whole, inl (fifty, λ none. apart (fifty ∙ none))));
      two_left = λ refused.
          let stop = stopped_by near store _ _ ((exactly.answer.refused 23).0 refused) in
          not-carried_by d _ _ (subst (Walked d exactly.pdus exactly.slice.left) stop exactly.slice.walked);
    }
  where
    apart : ◌≢◌ {A = ℕ} 50 0
    apart e = omega arith
