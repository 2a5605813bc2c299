-- The ways of the state at a J0.0 that is taken: Waiting becomes Coarse, another state stays, or it becomes Fine. By whether both levels are 4, and
-- whether it was Waiting.
-- Assumes nothing.
use Prim.Native.Nat.{ℕ}
use mathlib.Core.Path.{◌≡◌, refl}
use mathlib.Core.Logic.{◌⊎◌, inl, inr, ⊎_elim}
use Rattle.station.specs.Units.{level_of, state_of}
use Rattle.station.specs.Table.{Joined}
use Rattle.station.specs.declared.State.{State}
use Rattle.station.specs.declared.State.TheVariants.{Waiting, Coarse, Fine}
use Rattle.station.specs.declared.Unit.{Unit}
use Rattle.station.specs.declared.Station.{Station}
use Rattle.station.proofs.Changes.{same_or_not}

-- whether both levels are 4, decided
four : (own sender : ℕ) → ((own ≡ 4) × (sender ≡ 4)) ⊎ (own ≡ 4 → sender ≡ 4 → ⊥)
four own sender =
    ⊎_elim
    (λ (a : own ≡ 4). ⊎_elim (λ (b : sender ≡ 4). inl (a, b)) (λ b. inr (λ _ w. b w)) (same_or_not sender 4))
    (λ a. inr (λ w _. a w))
    (same_or_not own 4)

pub waiting? : (st : State) → (st ≡ Waiting) ⊎ (st ≡ Waiting → ⊥)
waiting? Waiting = inl refl
waiting? Coarse = inr (λ e. cc)
waiting? Fine = inr (λ e. cc)

pub coarse≢waiting : {st : State} → st ≡ Coarse → st ≡ Waiting → ⊥
coarse≢waiting p q = cc

pub fine≢waiting : {st : State} → st ≡ Fine → st ≡ Waiting → ⊥
fine≢waiting p q = cc

pub fine≢coarse : {st : State} → st ≡ Fine → st ≡ Coarse → ⊥
fine≢coarse p q = cc

-- the three ways of the state: Waiting becomes Coarse, other states stay, and Fine
pub data Ways (s : Station) (u : Unit) (s' : Station) : Type 0 where
  to_coarse : (level_of s ≡ 4) × (u.level ≡ 4) → state_of s ≡ Waiting → state_of s' ≡ Coarse → Ways s u s'
  as_it_was : (level_of s ≡ 4) × (u.level ≡ 4) → (state_of s ≡ Waiting → ⊥) → state_of s' ≡ state_of s → Ways s u s'
  to_fine : (level_of s ≡ 4 → u.level ≡ 4 → ⊥) → state_of s' ≡ Fine → Ways s u s'

pub ways : {s : Station} {u : Unit} {s' : Station} → Joined s u s' → Ways s u s'
ways {s = s} {u = u} w =
    ⊎_elim
    (λ (b : (level_of s ≡ 4) × (u.level ≡ 4)).
    ⊎_elim
    (λ (st : state_of s ≡ Waiting). to_coarse b st (w.coarse b.0 b.1 st))
    (λ st. as_it_was b st (w.stays b.0 b.1 st))
    (waiting? (state_of s)))
    (λ b. to_fine b (w.fine b))
    (four (level_of s) u.level)
