-- The rules in order, told apart by their tests: what each number of the rates' rules and of the planner's says, and when it is given.
-- Assumes nothing.
use Prim.Native.Nat.{ℕ, ◌*◌, ◌≤◌, ◌<◌}
use mathlib.Core.Path.{◌≡◌, refl, sym, ap, ap₂, ◌∙◌, subst}
use mathlib.Core.Bool.{Bool, true, false, cond, not}
use mathlib.Core.List.{List}
use Rattle.std.proofs.Common.{Result, Ok, Err}
use native.Mathlib.Omega.{arith}
use lib.ListN.{length}
use lib.Dec.{eqb}
use borrow.Author.Tests.{lt-ltb, le-ltb, ltb-true, ltb-false, le-leb, leb-true, leb-false, ne_eqb}
use Rattle.wire.specs.Bytes.{splice}
use Rattle.wire.specs.First.{first}
use Rattle.wire.proofs.FirstLaws.{first_here, first_next}
use Rattle.slots.specs.Blocks.{top_rate, slot_count, block_size}
use Rattle.slots.specs.Checking.{rate_at, many_rates, all_low, rate_rules, is_plan, verdict_by, verdict}
use Rattle.slots.specs.Planning.{wanted, plan_of, overfull, too_short, late_rules, plan_rules, planned_by, planned, plan_left}
use Rattle.slots.specs.Plain.{Pass}
use Rattle.slots.specs.Claims.{Above}
use Rattle.slots.specs.Refusals.{number, named}
use Rattle.slots.specs.declared.refusals.Refusal.{Refusal}
use Rattle.slots.specs.declared.refusals.Refusal.TheVariants.{ManyRates, HighRate, NoPlan, NoRoom}
use Rattle.slots.proofs.SumLaws.{every_each, each_every, some_fails}

all_low_lem : (rates : List ℕ) → Pass rates → all_low rates ≡ true
all_low_lem rates pass = each_every _ (length rates) (λ i h. le-leb (rate_at rates i) top_rate (pass.low i h))

one_high : (rates : List ℕ) → Above rates → all_low rates ≡ false
one_high rates above = go (all_low rates) refl
  where
    go : (b : Bool) → all_low rates ≡ b → b ≡ false
    go true e = absurd (omega (arith, leb-true (rate_at rates above.0) top_rate (every_each _ (length rates) e above.0 above.1), above.2))
    go false e = refl

-- ---- the rates' rules

is_many : (rates : List ℕ) → 64 < length rates → many_rates rates ≡ true
is_many rates h = lt-ltb _ (length rates) (omega arith)

not_many : (rates : List ℕ) → length rates ≤ 64 → many_rates rates ≡ false
not_many rates h = le-ltb _ (length rates) (omega arith)

few_or_many : (rates : List ℕ) → many_rates rates ≡ false → length rates ≤ 64
few_or_many rates e = omega (arith, ltb-false _ (length rates) e)

pub many_61 : (rates : List ℕ) → 64 < length rates → first (rate_rules rates) ≡ 61
many_61 rates h = rw (is_many rates h)

pub high_62 : (rates : List ℕ) → length rates ≤ 64 → Above rates → first (rate_rules rates) ≡ 62
high_62 rates h above = rw (not_many rates h, one_high rates above)

pub pass_0 : (rates : List ℕ) → Pass rates → first (rate_rules rates) ≡ 0
pass_0 rates pass = rw (not_many rates pass.few, all_low_lem rates pass)

-- few rates, and none high, pass
pub low_pass : (rates : List ℕ) → length rates ≤ 64 → all_low rates ≡ true → Pass rates
low_pass rates h e =
    record {
      few = h;
      low = λ i l. leb-true (rate_at rates i) top_rate (every_each _ (length rates) e i l);
    }

-- what the rates are, by the number of their rules
pub data Rated (rates : List ℕ) : ℕ → Type 0 where
  many : 64 < length rates → Rated rates 61
  high : length rates ≤ 64 → Above rates → Rated rates 62
  pass : Pass rates → Rated rates 0

pub rated : (rates : List ℕ) → Rated rates (first (rate_rules rates))
rated rates = go (many_rates rates) refl (all_low rates) refl
  where
    above : all_low rates ≡ false → Above rates
    above e = let found = some_fails _ (length rates) e in (found.0, found.1, leb-false (rate_at rates found.0) top_rate found.2)

    go : (a : Bool) → many_rates rates ≡ a → (b : Bool) → all_low rates ≡ b → Rated rates (cond a 61 (cond (not b) 62 0))
    go true e b f = many (omega (arith, ltb-true _ (length rates) e))
    go false e true f = pass (low_pass rates (few_or_many rates e) f)
    go false e false f = high (few_or_many rates e) (above f)

-- ---- refusals and their numbers

pub named-number : (e : Refusal) → named (number e) ≡ e
named-number ManyRates = refl
named-number HighRate = refl
named-number NoPlan = refl
named-number NoRoom = refl

pub number_some : (e : Refusal) → number e ≡ 0 → ⊥
number_some ManyRates h = omega arith
number_some HighRate h = omega arith
number_some NoPlan h = omega arith
number_some NoRoom h = omega arith

-- what answers for a refusal's number answers that refusal
answered_err : {A : Type 0} (e : Refusal) (x : A) → cond (eqb (number e) 0) (Ok x) (Err (named (number e))) ≡ Err e
answered_err ManyRates x = refl
answered_err HighRate x = refl
answered_err NoPlan x = refl
answered_err NoRoom x = refl

pub refused-verdict : (rates plan : List ℕ) (e : Refusal) → number e ≡ first (rate_rules rates) → Err e ≡ verdict rates plan
unfolding verdict
refused-verdict rates plan e h = sym (answered_err e _) ∙ ap (λ (k : ℕ). verdict_by k (is_plan rates plan)) h

-- ---- the planner's rules, for rates that pass

-- the number behind the rates' own
abbrev pub late_number : Bool → Bool → ℕ
late_number over short = cond over 63 (cond short 16 0)

pub late : (rates : List ℕ) (room : ℕ) {a b : Bool}
    → Pass rates
    → overfull rates ≡ a
    → too_short rates room ≡ b
    → late_number a b ≡ first (plan_rules rates room)
unfolding plan_rules
late rates room p e f =
    sym (first_next (rate_rules rates) (late_rules rates room) refl (pass_0 rates p) ∙ ap₂ late_number e f)

-- and for rates that do not, their own number
pub early : (rates : List ℕ) (room n : ℕ) → n ≡ first (rate_rules rates) → (n ≡ 0 → ⊥) → n ≡ first (plan_rules rates room)
unfolding plan_rules
early rates room n e h = e ∙ sym (first_here (rate_rules rates) (late_rules rates room) (λ none. h (e ∙ none)))

-- where no rule is broken, the rates pass, there is room on the line, and the output is long enough
abbrev pub Room : List ℕ → ℕ → Type 0
Room rates room = Pass rates × ((wanted rates ≤ slot_count) × (block_size * length rates ≤ room))

pub unrefused : (rates : List ℕ) (room : ℕ) → first (plan_rules rates room) ≡ 0 → Room rates room
unrefused rates room e = go (rated rates) refl
  where
    tests : Pass rates
        → (a : Bool)
        → overfull rates ≡ a
        → (b : Bool)
        → too_short rates room ≡ b
        → late_number a b ≡ 0
        → Room rates room
    tests p true over b short w = absurd (omega arith)
    tests p false over true short w = absurd (omega arith)
    tests p false over false short w = (p, (omega (arith, ltb-false _ (wanted rates) over), ltb-false room (block_size * length rates) short))

    go : {k : ℕ} → Rated rates k → first (rate_rules rates) ≡ k → Room rates room
    go (many h) own = absurd (omega (arith, early rates room 61 (sym own) (λ z. omega arith)))
    go (high h above) own = absurd (omega (arith, early rates room 62 (sym own) (λ z. omega arith)))
    go (pass p) own = tests p _ refl _ refl (late rates room p refl refl ∙ e)

-- the number for the line alone
abbrev pub room_number : List ℕ → ℕ
room_number rates = cond (overfull rates) 63 0

-- what the planner answers and leaves, where a rule is broken and where none is
abbrev pub Outcome : List ℕ → List ℕ → Result ℕ Refusal → List ℕ → Type 0
Outcome rates out answer left = (answer ≡ planned rates (length out)) × (left ≡ plan_left rates out)

pub left-refused : (rates out : List ℕ) → (first (plan_rules rates (length out)) ≡ 0 → ⊥) → out ≡ plan_left rates out
left-refused rates out h = sym (ap (λ (b : Bool). cond b (splice 0 (plan_of rates) out) out) (ne_eqb _ 0 h))

refused-plan : (rates out : List ℕ) (e : Refusal) → number e ≡ first (plan_rules rates (length out)) → Outcome rates out (Err e) out
refused-plan rates out e h = (
  sym (answered_err e _) ∙ ap (λ (k : ℕ). planned_by k (block_size * length rates)) h,
  left-refused rates out (λ none. number_some e (h ∙ none)),
)

pub refused-early : (rates out : List ℕ) (e : Refusal) → number e ≡ first (rate_rules rates) → Outcome rates out (Err e) out
refused-early rates out e h = refused-plan rates out e (early rates (length out) _ h (number_some e))

refused-late : (rates out : List ℕ) (e : Refusal) → Pass rates → number e ≡ room_number rates → Outcome rates out (Err e) out
refused-late rates out e p h = go (overfull rates) refl
  where
    go : (b : Bool) → overfull rates ≡ b → Outcome rates out (Err e) out
    go true over = refused-plan rates out e (h ∙ ap (λ (b : Bool). late_number b false) over ∙ late rates (length out) p over refl)
    go false over = absurd (number_some e (h ∙ ap (λ (b : Bool). late_number b false) over))

-- rates with room on the line
has_room : (rates : List ℕ) → 0 ≡ room_number rates → overfull rates ≡ false
has_room rates h = go (overfull rates) refl
  where
    go : (b : Bool) → overfull rates ≡ b → b ≡ false
    go true over = absurd (omega (arith, h ∙ ap (λ (b : Bool). late_number b false) over))
    go false over = refl

refused-short : (rates out : List ℕ)
    → Pass rates
    → 0 ≡ room_number rates
    → length out < block_size * length rates
    → Outcome rates out (Err NoRoom) out
refused-short rates out p h short = refused-plan rates out NoRoom (late rates (length out) p (has_room rates h) (lt-ltb _ _ short))

pub written-plan : (rates out : List ℕ)
    → first (plan_rules rates (length out)) ≡ 0
    → Outcome rates out (Ok (block_size * length rates)) (splice 0 (plan_of rates) out)
written-plan rates out e = rw e (refl, refl)

written-room : (rates out : List ℕ)
    → Pass rates
    → 0 ≡ room_number rates
    → block_size * length rates ≤ length out
    → Outcome rates out (Ok (block_size * length rates)) (splice 0 (plan_of rates) out)
written-room rates out p h long = written-plan rates out (sym (late rates (length out) p (has_room rates h) (le-ltb _ _ long)))

-- the same, for rates that came as this list
module _ (rates out : List ℕ) {list : List ℕ} (same : list ≡ rates) (p : Pass list) where
  pub late-refused : (e : Refusal) → number e ≡ room_number list → Outcome rates out (Err e) out
  late-refused e h = refused-late rates out e (subst Pass same p) (h ∙ ap room_number same)

  pub short-refused : 0 ≡ room_number list → length out < block_size * length rates → Outcome rates out (Err NoRoom) out
  short-refused h short = refused-short rates out (subst Pass same p) (h ∙ ap room_number same) short

  pub plan-written : 0 ≡ room_number list
      → block_size * length rates ≤ length out
      → Outcome rates out (Ok (block_size * length rates)) (splice 0 (plan_of rates) out)
  plan-written h long = written-room rates out (subst Pass same p) (h ∙ ap room_number same) long
