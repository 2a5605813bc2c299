-- What the look-at calls show, in plain terms: the tests of a key and of a place are opened, by cases on what they answer.
-- Assumes nothing.
use Prim.Native.Nat.{ℕ}
use mathlib.Core.Path.{◌≡◌, refl}
use mathlib.Core.Bool.{Bool, true, false, ◌&&◌}
use lib.Dec.{ltb}
use borrow.Author.Tests.{lt-ltb, ltb-true}
use native.Mathlib.Omega.{arith}
use Rattle.station.proofs.ReaderLaws.{both_true}
use Rattle.occupancy.specs.Places.{places, held, count}
use Rattle.station.specs.Units.{place_of, known, seen_of, place_at}
use Rattle.station.specs.Plain.{HeldAt, Stranger}
use Rattle.station.specs.Claims.{Shown}
use Rattle.station.specs.declared.Station.{Station}
use Rattle.station.proofs.PlaceLaws.{sender_known, sender_place}

module _ (s : Station) where
  not_known : (key : ℕ) → Stranger s key → known s key ≡ false
  not_known key alone = go (known s key) refl
    where
      go : (b : Bool) → known s key ≡ b → b ≡ false
      go true e = let from = sender_known s key e in absurd (alone (place_of s key) from.there from.keyed)
      go false e = refl

  not-held : (i : ℕ) → (HeldAt s i → ⊥) → (ltb i places && held s.used i) ≡ false
  not-held i none = go (ltb i places && held s.used i) refl
    where
      go : (b : Bool) → (ltb i places && held s.used i) ≡ b → b ≡ false
      go true e =
          let w = both_true (ltb i places) (held s.used i) e in
          absurd (none (record { place = ltb-true _ _ w.0; taken = w.1 }))
      go false e = refl

  pub shown : Shown s
  unfolding seen_of place_at count
  shown = record {
    key_known = λ key i from. rw (sender_place s key i from, lt-ltb _ _ from.there.place);
    key_unknown = λ key alone. rw (not_known key alone);
    place_held = λ i h. rw (lt-ltb _ _ h.place, h.taken);
    place_free = λ i none. rw (not-held i none);
    number = omega arith;
    states = (refl, refl, refl);
  }
