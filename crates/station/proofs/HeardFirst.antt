-- Whoever the station holds, it has heard a Transmitter from. A place that is held after a call was held before it with the same key, or the
-- call was a Transmitter with that key, by the rows of the table; a fresh station holds nobody.
-- Assumes nothing.
use Prim.Native.Nat.{ℕ}
use mathlib.Core.Path.{◌≡◌, refl, sym, ap, ◌∙◌, subst}
use mathlib.Core.Bool.{true, false≢true}
use mathlib.Core.List.{List}
use mathlib.Core.Logic.{◌⊎◌, inl, inr, ⊎_elim}
use lib.ListN.{get_or}
use lib.Pow.{pow_pos}
use Rattle.occupancy.specs.Places.{held}
use Rattle.occupancy.proofs.WordLaws.{held_past}
use Rattle.station.specs.Units.{blank, fresh, made, unit_at}
use Rattle.station.specs.Plain.{Sized, HeldAt}
use Rattle.station.specs.Runs.{Call, called, after}
use Rattle.station.specs.Table.{SameElse, Table, nothing, entered, again, joined, positioned, counted, ticked}
use Rattle.station.specs.Claims.{Announces, HeardFirst}
use Rattle.station.specs.declared.Settings.{Settings}
use Rattle.station.specs.declared.Unit.{Unit}
use Rattle.station.specs.declared.Station.{Station}
use Rattle.station.proofs.Table.{only_by_rules}
use Rattle.station.proofs.Changes.{same_or_not}
use Rattle.station.proofs.RunLaws.{of_made, traced}

-- nobody is held where the word is 0
pub nobody : (s : Station) → s.used ≡ 0 → (i : ℕ) → HeldAt s i → ⊥
nobody s e i h = false≢true (sym (held_past 0 i (pow_pos i)) ∙ subst (λ (w : ℕ). held w i ≡ true) e h.taken)

-- where one place alone has changed and kept its key, every place has kept its key
pub key_kept : (s s' : Station) (k : ℕ)
    → SameElse k s s'
    → (unit_at s' k).key ≡ (unit_at s k).key
    → (i : ℕ)
    → (unit_at s' i).key ≡ (unit_at s i).key
key_kept s s' k same e i =
    ⊎_elim
    (λ (q : i ≡ k). subst (λ (j : ℕ). (unit_at s' j).key ≡ (unit_at s j).key) (sym q) e)
    (λ q. ap (λ (u : Unit). u.key) (same.entry i q))
    (same_or_not i k)

-- the unit with this key stands in place i, which is held
abbrev Stands : ℕ → ℕ → Station → Type 0
Stands i key s = HeldAt s i × ((unit_at s i).key ≡ key)

-- where the word and the keys are as they were, whoever stands in a place stood there
stood : (s s' : Station) (i key : ℕ)
    → s'.used ≡ s.used
    → (unit_at s' i).key ≡ (unit_at s i).key
    → Stands i key s'
    → Stands i key s
stood s s' i key word keys w =
    (record { place = w.0.place; taken = subst (λ (n : ℕ). held n i ≡ true) word w.0.taken }, sym keys ∙ w.1)

-- where the entries are as they were, so are the keys
same_key : (s s' : Station) (i : ℕ) → s'.units ≡ s.units → (unit_at s' i).key ≡ (unit_at s i).key
same_key s s' i e = ap (λ (us : List Unit). (get_or us i blank).key) e

announced : (i key : ℕ) (s : Station)
    → Sized s
    → (c : Call)
    → Stands i key (called s c).station
    → Stands i key s ⊎ Announces key s c
announced i key s sized c = go (only_by_rules s sized c)
  where
    go : {c : Call} {n : ℕ} {s' : Station} → Table s c n s' → Stands i key s' → Stands i key s ⊎ Announces key s c
    go (nothing row) w = inl w
    go {s' = s'} (entered {d = d} t k e x y z) w =
        ⊎_elim
        (λ (q : i ≡ k).
        let same : (unit_at s' k).key ≡ key = subst (λ (j : ℕ). (unit_at s' j).key ≡ key) q w.1 in
        inr (record { bytes = d; transmitter = t; call = refl; read = e; keyed = sym z.key ∙ same }))
        (λ q.
        inl (
          record { place = w.0.place; taken = sym (z.others.word i q) ∙ w.0.taken },
          sym (ap (λ (u : Unit). u.key) (z.others.entry i q)) ∙ w.1,
        ))
        (same_or_not i k)
    go {s' = s'} (again t k e x y) w = inl (stood s s' i key y.word (key_kept s s' k y.others y.key i) w)
    go {s' = s'} (joined g k e x y z u) w = inl (stood s s' i key u.word (same_key s s' i u.entries) w)
    go {s' = s'} (positioned g k e x y z u) w = inl (stood s s' i key u.word (key_kept s s' k u.others u.key i) w)
    go {s' = s'} (counted g k e x y z v u) w = inl (stood s s' i key u.word (same_key s s' i u.entries) w)
    go {s' = s'} (ticked x y) w =
        let was = ((y.stays i w.0.place).0 w.0.taken).0 in
        inl (record { place = w.0.place; taken = was }, sym (same_key s s' i y.entries) ∙ w.1)

pub heard-first : (given : Settings) (calls : List Call) → HeardFirst (made given).station calls
unfolding fresh
heard-first given calls = of_made (λ s. HeardFirst s calls) (λ settings fit. from_fresh settings) given
  where
    from_fresh : (settings : Settings) → HeardFirst (fresh settings) calls
    from_fresh settings i h =
        let s = fresh settings in
        let key = (unit_at (after s calls) i).key in
        ⊎_elim
        (λ (v : Stands i key s). absurd (nobody s refl i v.0))
        (λ v. v)
        (traced (Stands i key) (Announces key) (announced i key) s calls refl (h, refl))
