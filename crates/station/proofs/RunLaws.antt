-- Lists of calls, by induction: what each call keeps, the list keeps; what is so afterwards was so before, or some call made it so. Each law
-- asks for one call only, and hands on that a call keeps the sixteen places.
-- Assumes nothing.
use Prim.Native.Nat.{ℕ}
use mathlib.Core.Path.{◌≡◌, refl, ◌∙◌, ap}
use mathlib.Core.Bool.{Bool, true, false, cond, ◌||◌, true≢false}
use mathlib.Core.List.{List, [], ◌∷◌}
use mathlib.Core.Logic.{◌⊎◌, inl, inr, ⊎_elim}
use lib.ListN.{length}
use lib.Dec.{ltb}
use borrow.Author.Tests.{ltb-false}
use native.Mathlib.Omega.{arith}
use Rattle.station.specs.Numbers.{last_level, last_net, fewest_exchanges, most_exchanges, shortest_limit, longest_limit}
use Rattle.station.specs.Units.{fresh, wrong_settings, least_settings, refusing, making, made}
use Rattle.station.specs.Plain.{Sized}
use Rattle.station.specs.Runs.{Call, called, after}
use Rattle.station.specs.Table.{Table, nothing, entered, again, joined, positioned, counted, ticked}
use Rattle.station.specs.Claims.{Some, here, later, InRange}
use Rattle.station.specs.declared.Settings.{Settings}
use Rattle.station.specs.declared.Own.{Own}
use Rattle.station.specs.declared.Station.{Station}
use Rattle.station.specs.declared.Made.{Made}
use Rattle.station.proofs.Table.{only_by_rules}

-- neither of two tests holds where not one of them does
neither_of : (a b : Bool) → (a || b) ≡ false → (a ≡ false) × (b ≡ false)
neither_of true b e = absurd (true≢false e)
neither_of false b e = (refl, e)

-- settings that are not refused are in range
in_range : (given : Settings) → wrong_settings given ≡ false → InRange given
in_range given e =
    let high = ltb last_level given.level in
    let net = ltb last_net given.net in
    let few = ltb given.exchanges fewest_exchanges in
    let many = ltb most_exchanges given.exchanges in
    let short = ltb given.limit shortest_limit in
    let long = ltb longest_limit given.limit in
    let all = neither_of (high || net || (few || many)) (short || long) e in
    let first = neither_of (high || net) (few || many) all.0 in
    let place = neither_of high net first.0 in
    let timing = neither_of few many first.1 in
    let absence = neither_of short long all.1 in
    record {
      level = ltb-false _ _ place.0;
      net = ltb-false _ _ place.1;
      one_exchange = ltb-false _ _ timing.0;
      exchanges = ltb-false _ _ timing.1;
      shortest = ltb-false _ _ absence.0;
      longest = ltb-false _ _ absence.1;
    }

-- so are those of the station that a refusal holds
least_in_range : InRange least_settings
least_in_range = record {
  level = omega arith;
  net = omega arith;
  one_exchange = omega arith;
  exchanges = omega arith;
  shortest = omega arith;
  longest = omega arith;
}

-- what holds of every fresh station with settings in range holds of every station that a maker gives
pub of_made : (Q : Station → Type 0)
    → ((settings : Settings) → InRange settings → Q (fresh settings))
    → (given : Settings)
    → Q (made given).station
unfolding made
of_made Q f given = go (wrong_settings given) refl
  where
    go : (b : Bool)
        → wrong_settings given ≡ b
        → Q (cond {A = Made} b refusing (making given)).station
    go true e = f least_settings least_in_range
    go false e = f given (in_range given e)

-- a call keeps the sixteen places
pub sized_after : (s : Station) → Sized s → (c : Call) → Sized (called s c).station
sized_after s sized c = go (only_by_rules s sized c)
  where
    go : {c : Call} {n : ℕ} {s' : Station} → Table s c n s' → Sized s'
    go (nothing row) = sized
    go (entered t i e x y z) = z.others.size ∙ sized
    go (again t i e x y) = y.others.size ∙ sized
    go (joined g i e x y z u) = ap length u.entries ∙ sized
    go (positioned g i e x y z u) = u.others.size ∙ sized
    go (counted g i e x y z v u) = ap length u.entries ∙ sized
    go (ticked x y) = ap length y.entries ∙ sized

-- a call changes no setting
pub settings_kept : (s : Station) → Sized s → (c : Call) → (called s c).station.own.settings ≡ s.own.settings
settings_kept s sized c = go (only_by_rules s sized c)
  where
    same : {own own' : Own} → own' ≡ own → own'.settings ≡ own.settings
    same e = ap (λ (o : Own). o.settings) e

    go : {c : Call} {n : ℕ} {s' : Station} → Table s c n s' → s'.own.settings ≡ s.own.settings
    go (nothing row) = refl
    go (entered t i e x y z) = same z.own
    go (again t i e x y) = same y.own
    go (joined g i e x y z u) = u.settings
    go (positioned g i e x y z u) = same u.own
    go (counted g i e x y z v u) = u.settings
    go (ticked x y) = y.settings

-- what each call keeps, a list of calls keeps
module _ (Q : Station → Type 0) (keeps : (s : Station) → Sized s → (c : Call) → Q s → Q (called s c).station) where
  pub kept_by_all : (s : Station) (cs : List Call) → Sized s → Q s → Q (after s cs)
  kept_by_all s [] sized q = q
  kept_by_all s (c ∷ cs) sized q = kept_by_all (called s c).station cs (sized_after s sized c) (keeps s sized c q)

  -- where some call makes it so, it is so after the list
  pub made_by_some : (P : Station → Call → Type 0)
      → ((s : Station) → Sized s → (c : Call) → P s c → Q (called s c).station)
      → {s : Station} {cs : List Call}
      → Sized s
      → Some P s cs
      → Q (after s cs)
  made_by_some P makes sized (here {s = s} {c = c} {cs = cs} p) =
      kept_by_all (called s c).station cs (sized_after s sized c) (makes s sized c p)
  made_by_some P makes sized (later {s = s} {c = c} v) = made_by_some P makes (sized_after s sized c) v

-- what is so after the list was so before it, or some call made it so
pub traced : (Q : Station → Type 0) (P : Station → Call → Type 0)
    → ((s : Station) → Sized s → (c : Call) → Q (called s c).station → Q s ⊎ P s c)
    → (s : Station) (cs : List Call)
    → Sized s
    → Q (after s cs)
    → Q s ⊎ Some P s cs
traced Q P back s [] sized q = inl q
traced Q P back s (c ∷ cs) sized q =
    ⊎_elim
    (λ (now : Q (called s c).station). ⊎_elim (λ (q : Q s). inl q) (λ p. inr (here p)) (back s sized c now))
    (λ v. inr (later v))
    (traced Q P back (called s c).station cs (sized_after s sized c) q)

-- calls of one kind that are all of another
pub some_are : (P Q : Station → Call → Type 0)
    → ((s : Station) → Sized s → (c : Call) → P s c → Q s c)
    → {s : Station} {cs : List Call}
    → Sized s
    → Some P s cs
    → Some Q s cs
some_are P Q f sized (here {s = s} {c = c} p) = here (f s sized c p)
some_are P Q f sized (later {s = s} {c = c} v) = later (some_are P Q f (sized_after s sized c) v)
