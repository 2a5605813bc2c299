-- The station's terms in plain words and literal numbers: where a key stands, which place is free, which IDs agree, what a first word says.
-- They share no test and no named number with the rules that compute; the theorems join the two.
use Rattle.std.specs.Prelude.{ℕ, ◌^◌, ◌<◌, ◌≡◌, true, false, cond, ◌⊎◌, Option, Some, length}
use Rattle.occupancy.specs.Places.{held}
use Rattle.pdu.specs.declared.Word.{Word}
use Rattle.station.specs.Units.{unit_at}
use Rattle.station.specs.declared.Station.{Station}

-- There are sixteen places: so it is of every station that a program can hold.
abbrev pub Sized : Station → Type 0
Sized s = length s.units ≡ 16

-- No place beyond the sixteen is held.
abbrev pub NoneBeyond : Station → Type 0
NoneBeyond s = s.used < 2 ^ 16

-- Place i is one of the sixteen and held.
pub record HeldAt (s : Station) (i : ℕ) : Type 0 where
  pub place : i < 16
  pub taken : held s.used i ≡ true

-- 1 where place i is held, else 0.
abbrev pub one_at : Station → ℕ → ℕ
one_at s i = cond (held s.used i) 1 0

-- The unit with this key stands in place i: the place is held, its entry has the key, and no lower place is held with it.
pub record Sender (s : Station) (key i : ℕ) : Type 0 where
  pub there : HeldAt s i
  pub keyed : (unit_at s i).key ≡ key
  pub lowest : (j : ℕ) → j < i → held s.used j ≡ true → (unit_at s j).key ≡ key → ⊥

-- No held place has this key.
abbrev pub Stranger : Station → ℕ → Type 0
Stranger s key = (i : ℕ) → HeldAt s i → (unit_at s i).key ≡ key → ⊥

-- Place i is the lowest-numbered free place.
pub record LowestFree (s : Station) (i : ℕ) : Type 0 where
  pub place : i < 16
  pub free : held s.used i ≡ false
  pub lowest : (j : ℕ) → j < i → held s.used j ≡ true

-- Every place is held.
abbrev pub Full : Station → Type 0
Full s = (i : ℕ) → i < 16 → held s.used i ≡ true

-- The IDs are the same, or one of them is zero.
abbrev pub Agree : ℕ → ℕ → Type 0
Agree own sender = (own ≡ sender) ⊎ ((own ≡ 0) ⊎ (sender ≡ 0))

-- The IDs differ and neither is zero.
abbrev pub Clash : ℕ → ℕ → Type 0
Clash own sender = (own ≡ sender → ⊥) × (own ≡ 0 → ⊥) × (sender ≡ 0 → ⊥)

-- A type 0 body whose first word is J0.0: initial, label 0, sublabel 0.
abbrev pub IsJ00 : ℕ → Option Word → Type 0
IsJ00 type w = (type ≡ 0) × (w ≡ Some (record { format = 0; label = 0; sublabel = 0 }))

-- A type 0 body whose first word is a PPLI: initial, label 2, any sublabel.
abbrev pub IsPpli : ℕ → Option Word → Type 0
IsPpli type w = (type ≡ 0) × ((sublabel : ℕ) × (w ≡ Some (record { format = 0; label = 2; sublabel = sublabel })))

-- All else: no J0.0, no PPLI, and no round-trip timing, which is types 1 and 2.
abbrev pub IsOther : ℕ → Option Word → Type 0
IsOther type w = (IsJ00 type w → ⊥) × (IsPpli type w → ⊥) × (type ≡ 1 → ⊥) × (type ≡ 2 → ⊥)
