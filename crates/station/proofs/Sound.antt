-- What is true of every station that calls can reach: by the rows of the table, and the laws of lists of calls.
-- A new entry has a key that no held place had, a clock call frees every silent place, and no other call touches last or frees a place.
-- Assumes nothing.
use Prim.Native.Nat.{ℕ, ◌+◌, ◌^◌, ◌<◌, ◌≤◌}
use mathlib.Core.Path.{◌≡◌, refl, sym, ap, ◌∙◌, subst}
use mathlib.Core.Bool.{true, true≢false}
use mathlib.Core.List.{List}
use mathlib.Core.Logic.{◌⊎◌, inl, inr, ⊎_elim}
use lib.ListN.{length, get_or}
use lib.Pow.{pow_pos}
use native.Mathlib.Omega.{arith}
use Rattle.occupancy.specs.Places.{places, held}
use Rattle.pdu.specs.declared.Transmitter.{Transmitter}
use Rattle.station.specs.Units.{exchanges_of, count_of, clock_of, key_of, blank, fresh, made, unit_at}
use Rattle.station.specs.Plain.{Sized, NoneBeyond, HeldAt, Stranger}
use Rattle.station.specs.Runs.{Call, called, after}
use Rattle.station.specs.Table.{SameElse, Joined, Counted, Table, nothing, entered, again, joined, positioned, counted, ticked}
use Rattle.station.specs.Claims.{Present, InRange, Sound}
use Rattle.station.specs.declared.State.TheVariants.{Coarse}
use Rattle.station.specs.declared.Settings.{Settings}
use Rattle.station.specs.declared.Standing.{Standing}
use Rattle.station.specs.declared.Own.{Own}
use Rattle.station.specs.declared.Unit.{Unit}
use Rattle.station.specs.declared.Station.{Station}
use Rattle.station.proofs.Table.{only_by_rules}
use Rattle.station.proofs.Changes.{same_or_not, less_or-not, same_clock}
use Rattle.station.proofs.Ways.{Ways, to_coarse, as_it_was, to_fine, ways}
use Rattle.station.proofs.RunLaws.{of_made, kept_by_all}
use Rattle.station.proofs.HeardFirst.{nobody, key_kept}

-- ---- a fresh station

fresh-sound : (settings : Settings) → InRange settings → Sound (fresh settings)
unfolding fresh
fresh-sound settings fit =
    let none = nobody (fresh settings) refl in
    record {
      settings = fit;
      sized = refl;
      word = pow_pos places;
      distinct = λ i j h k e. absurd (none i h);
      units = λ i h. absurd (none i h);
      counting = λ e. cc;
    }

-- ---- one call

-- while it is Coarse, the count is below the number of exchanges
abbrev Counting : Own → Type 0
Counting own = own.standing.state ≡ Coarse → own.standing.count < own.settings.exchanges

-- a unit is present by a station's own limit and clock
abbrev PresentBy : Own → Unit → Type 0
PresentBy own u = Present own.settings.limit own.clock u

-- every unit that is held is present
abbrev AllPresent : Station → Type 0
AllPresent s = (i : ℕ) → HeldAt s i → PresentBy s.own (unit_at s i)

-- no two held places have the same key
abbrev Distinct : Station → Type 0
Distinct s = (i j : ℕ) → HeldAt s i → HeldAt s j → (unit_at s i).key ≡ (unit_at s j).key → i ≡ j

-- where the own fields are as they were, so are the settings; and where these are, so is the limit
same_settings : {own own' : Own} → own' ≡ own → own'.settings ≡ own.settings
same_settings e = ap (λ (o : Own). o.settings) e

same_limit : {g g' : Settings} → g' ≡ g → g'.limit ≡ g.limit
same_limit e = ap (λ (g : Settings). g.limit) e

-- where the word is as it was, so is which places are held
held-before : (s s' : Station) → s'.used ≡ s.used → (i : ℕ) → HeldAt s' i → HeldAt s i
held-before s s' word i h = record { place = h.place; taken = subst (λ (n : ℕ). held n i ≡ true) word h.taken }

-- a call that changes the unit in place k alone
module _ (s s' : Station) (k : ℕ) (same : SameElse k s s') (sound : Sound s) where
  -- whoever is held in another place was held there
  was_held : (i : ℕ) → (i ≡ k → ⊥) → HeldAt s' i → HeldAt s i
  was_held i q h = record { place = h.place; taken = sym (same.word i q) ∙ h.taken }

  -- all are present where that unit is
  each_present : s'.own ≡ s.own → PresentBy s'.own (unit_at s' k) → AllPresent s'
  each_present own new i h =
      ⊎_elim
      (λ (q : i ≡ k). subst (λ (j : ℕ). PresentBy s'.own (unit_at s' j)) (sym q) new)
      (λ q.
      subst (λ (u : Unit). PresentBy s'.own u) (sym (same.entry i q))
      (subst (λ (o : Own). PresentBy o (unit_at s i)) (sym own) (sound.units i (was_held i q h))))
      (same_or_not i k)

  -- a new entry's key is that of no other place
  new-key : (t : Transmitter) → Stranger s (key_of t.header) → (unit_at s' k).key ≡ key_of t.header → Distinct s'
  new-key t alone new i j h g f =
      ⊎_elim
      (λ (p : i ≡ k).
      ⊎_elim
      (λ (q : j ≡ k). p ∙ sym q)
      (λ q. absurd (other j q g (sym f ∙ ap (λ (m : ℕ). (unit_at s' m).key) p)))
      (same_or_not j k))
      (λ p.
      ⊎_elim
      (λ (q : j ≡ k). absurd (other i p h (f ∙ ap (λ (m : ℕ). (unit_at s' m).key) q)))
      (λ q. sound.distinct i j (was_held i p h) (was_held j q g) (sym (key_of_lem i p) ∙ f ∙ key_of_lem j q))
      (same_or_not j k))
      (same_or_not i k)
    where
      key_of_lem : (i : ℕ) → (i ≡ k → ⊥) → (unit_at s' i).key ≡ (unit_at s i).key
      key_of_lem i q = ap (λ (u : Unit). u.key) (same.entry i q)

      other : (i : ℕ) → (i ≡ k → ⊥) → HeldAt s' i → (unit_at s' i).key ≡ (unit_at s' k).key → ⊥
      other i q h f = alone i (was_held i q h) (sym (key_of_lem i q) ∙ f ∙ new)

  -- that unit keeps its key, and no place is taken or freed
  renewed-sound : s'.own ≡ s.own
      → s'.used ≡ s.used
      → (unit_at s' k).key ≡ (unit_at s k).key
      → PresentBy s'.own (unit_at s' k)
      → Sound s'
  renewed-sound own word key new =
      let was = held-before s s' word in
      let keys = key_kept s s' k same key in
      record {
        settings = subst InRange (sym (same_settings own)) sound.settings;
        sized = same.size ∙ sound.sized;
        word = subst (λ (w : ℕ). w < 2 ^ places) (sym word) sound.word;
        distinct = λ i j h g f. sound.distinct i j (was i h) (was j g) (sym (keys i) ∙ f ∙ keys j);
        units = each_present own new;
        counting = subst Counting (sym own) sound.counting;
      }

-- a call that leaves the entries as they were and takes no place
same_entries : (s s' : Station)
    → Sound s
    → s'.own.settings ≡ s.own.settings
    → s'.units ≡ s.units
    → NoneBeyond s'
    → (was : (i : ℕ) → HeldAt s' i → HeldAt s i)
    → ((i : ℕ) → HeldAt s' i → PresentBy s'.own (unit_at s i))
    → Counting s'.own
    → Sound s'
same_entries s s' sound settings entries word was present counting =
    let unit : (i : ℕ) → unit_at s' i ≡ unit_at s i = (λ i. ap (λ (us : List Unit). get_or us i blank) entries) in
    let key : (i : ℕ) → (unit_at s' i).key ≡ (unit_at s i).key = (λ i. ap (λ (u : Unit). u.key) (unit i)) in
    record {
      settings = subst InRange (sym settings) sound.settings;
      sized = ap length entries ∙ sound.sized;
      word = word;
      distinct = λ i j h g f. sound.distinct i j (was i h) (was j g) (sym (key i) ∙ f ∙ key j);
      units = λ i h. subst (λ (u : Unit). PresentBy s'.own u) (sym (unit i)) (present i h);
      counting = counting;
    }

-- a call that leaves the places, the entries and the second as they were
same_places : (s s' : Station)
    → Sound s
    → s'.own.settings ≡ s.own.settings
    → s'.used ≡ s.used
    → s'.units ≡ s.units
    → clock_of s' ≡ clock_of s
    → Counting s'.own
    → Sound s'
same_places s s' sound settings word entries clock counting =
    let was = held-before s s' word in
    let limit = same_limit settings in
    same_entries s s' sound settings entries (subst (λ (w : ℕ). w < 2 ^ places) (sym word) sound.word) was
    (λ i h.
    let then = sound.units i (was i h) in
    record {
      heard = omega (arith, clock, then.heard);
      present = omega (arith, clock, limit, then.present);
      inside = then.inside;
    })
    counting

keeps : (s : Station) → Sized s → (c : Call) → Sound s → Sound (called s c).station
keeps s sized c sound = go (only_by_rules s sized c)
  where
    -- a J0.0 leaves it Coarse only where the count is zero, or where it was Coarse
    joined_counting : {u : Unit} {s' : Station} → Joined s u s' → Counting s'.own
    joined_counting {u = u} {s' = s'} j coarse = go (ways j)
      where
        go : Ways s u s' → count_of s' < exchanges_of s'
        go (to_coarse b w v) =
            omega (arith, j.count_zero b.0 b.1 w, ap (λ (g : Settings). g.exchanges) j.settings, sound.settings.one_exchange)
        go (as_it_was b w v) =
            omega (arith, j.count_kept (λ o p q. w q), ap (λ (g : Settings). g.exchanges) j.settings, sound.counting (sym v ∙ coarse))
        go (to_fine b v) = cc

    -- a reply that counts leaves it Coarse only below the number of exchanges
    counted_counting : {s' : Station} → Counted s s' → Counting s'.own
    counted_counting {s' = s'} w coarse = go (less_or-not (count_of s + 1) (exchanges_of s))
      where
        go : (count_of s + 1 < exchanges_of s) ⊎ (exchanges_of s ≤ count_of s + 1) → count_of s' < exchanges_of s'
        go (inl h) = omega (arith, w.one_more (omega arith), ap (λ (g : Settings). g.exchanges) w.settings)
        go (inr h) =
            let fine = w.fine h in
            cc

    go : {c : Call} {n : ℕ} {s' : Station} → Table s c n s' → Sound s'
    go (nothing row) = sound
    go {s' = s'} (entered t k e x y z) =
        let now = same_clock z.own in
        let limit = same_limit (same_settings z.own) in
        record {
          settings = subst InRange (sym (same_settings z.own)) sound.settings;
          sized = z.others.size ∙ sound.sized;
          word = z.word_fits sound.word;
          distinct = new-key s s' k z.others sound t x z.key;
          units =
              each_present s s' k z.others sound z.own (record {
                heard = omega (arith, z.last, now);
                present = omega (arith, z.last, now, limit, sound.settings.shortest);
                inside = λ w. absurd (true≢false (sym w ∙ z.outside));
              });
          counting = subst Counting (sym z.own) sound.counting;
        }
    go {s' = s'} (again t k e x y) =
        let now = same_clock y.own in
        let limit = same_limit (same_settings y.own) in
        let was = sound.units k x.there in
        renewed-sound s s' k y.others sound y.own y.word y.key (record {
          heard = omega (arith, y.last, now, was.heard);
          present = omega (arith, y.last, now, limit, was.present);
          inside = λ w. y.state ∙ (y.inside.0 w).1;
        })
    go {s' = s'} (joined g k e x y z u) = same_places s s' sound u.settings u.word u.entries u.clock (joined_counting u)
    go {s' = s'} (positioned g k e x y z u) =
        let now = same_clock u.own in
        let limit = same_limit (same_settings u.own) in
        renewed-sound s s' k u.others sound u.own u.word u.key (record {
          heard = omega (arith, u.last, now);
          present = omega (arith, u.last, now, limit, sound.settings.shortest);
          inside = λ w. u.state ∙ z;
        })
    go {s' = s'} (counted g k e x y z v u) = same_places s s' sound u.settings u.word u.entries u.clock (counted_counting u)
    go {s' = s'} (ticked x y) =
        let was : (i : ℕ) → HeldAt s' i → HeldAt s i =
        (λ i h. record { place = h.place; taken = ((y.stays i h.place).0 h.taken).0 }) in
        same_entries s s' sound y.settings y.entries y.word_fits was
        (λ i h. record {
          heard = omega (arith, (sound.units i (was i h)).heard, x, y.clock);
          present = omega (arith, ((y.stays i h.place).0 h.taken).1, y.clock, same_limit y.settings);
          inside = (sound.units i (was i h)).inside;
        })
        (λ coarse.
        let standing = y.standing in
        omega (
          arith,
          ap (λ (g : Settings). g.exchanges) y.settings,
          ap (λ (st : Standing). st.count) standing,
          sound.counting (sym (ap (λ (st : Standing). st.state) standing) ∙ coarse),
        ))

-- ---- every list of calls

-- Whatever the calls, a station from a maker stays sound.
pub always_sound : (given : Settings) (calls : List Call) → Sound (after (made given).station calls)
always_sound given calls = of_made (λ s. Sound (after s calls)) from_fresh given
  where
    from_fresh : (settings : Settings) → InRange settings → Sound (after (fresh settings) calls)
    from_fresh settings fit =
        let sound = fresh-sound settings fit in
        kept_by_all Sound keeps (fresh settings) calls sound.sized sound
