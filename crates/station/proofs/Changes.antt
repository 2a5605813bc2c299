-- What follows from the table for one call: which answers change nothing, who can change nothing, that no Transmitter lets a unit in, and that
-- the clock never goes back. Each statement goes through the rows: a row either leaves the station as it was, or its premises refute what was
-- assumed.
-- Assumes nothing.
use Prim.Native.Nat.{ℕ, ◌<◌, ◌≤◌}
use mathlib.Core.Path.{◌≡◌, refl, sym, ap, ◌∙◌, subst}
use mathlib.Core.Bool.{Bool, true, false, true≢false}
use mathlib.Core.List.{List}
use mathlib.Core.Logic.{◌⊎◌, inl, inr, ⊎_elim}
use lib.Dec.{eqb, ltb}
use borrow.Author.Tests.{eqb-true, eqb-false, ltb-true, ltb-false}
use native.Mathlib.Omega.{arith}
use Rattle.occupancy.specs.Places.{held}
use Rattle.pdu.specs.Reading.{reading}
use Rattle.pdu.specs.declared.Transmitter.{Transmitter}
use Rattle.pdu.specs.declared.Signal.{Signal}
use Rattle.pdu.specs.declared.Reading.{Reading}
use Rattle.pdu.specs.declared.Reading.TheVariants.{Transmitter as a_transmitter, Signal as a_signal}
use Rattle.station.specs.Units.{id_of, clock_of, key_of, unit_at}
use Rattle.station.specs.Plain.{Sized, Sender, Agree}
use Rattle.station.specs.Hearing.{step, heard}
use Rattle.station.specs.Runs.{Call, datagram, time}
use Rattle.station.specs.Table.{IsSignal, Passed, Table, nothing, entered, again, joined, positioned, counted, ticked}
use Rattle.station.specs.Claims.{UnreadChangesNothing, Quiet, RefusalsChangeNothing, Outsider, unknown, elsewhere, another, coarse}
use Rattle.station.specs.Claims.{OutsidersChangeNothing, AdmitsNoOne, TransmittersAdmitNoOne, ClockNeverBack}
use Rattle.station.specs.declared.Station.{Station}
use Rattle.station.specs.declared.Own.{Own}
use Rattle.station.proofs.PlaceLaws.{sender_place, agree_clash}
use Rattle.station.proofs.Table.{only_by_rules}

-- two numbers are the same or not
pub same_or_not : (j i : ℕ) → (j ≡ i) ⊎ (j ≡ i → ⊥)
same_or_not j i = go (eqb j i) refl
  where
    go : (b : Bool) → eqb j i ≡ b → (j ≡ i) ⊎ (j ≡ i → ⊥)
    go true e = inl (eqb-true j i e)
    go false e = inr (eqb-false j i e)

-- one is below the other or not
pub less_or-not : (j i : ℕ) → (j < i) ⊎ (i ≤ j)
less_or-not j i = go (ltb j i) refl
  where
    go : (b : Bool) → ltb j i ≡ b → (j < i) ⊎ (i ≤ j)
    go true e = inl (ltb-true j i e)
    go false e = inr (ltb-false j i e)

-- where the own fields are the same, it is the same second
pub same_clock : {own own' : Own} → own' ≡ own → own'.clock ≡ own.clock
same_clock e = ap (λ (o : Own). o.clock) e

pub unread_changes_nothing : (s : Station) (d : List ℕ) → UnreadChangesNothing s d
unfolding heard step
unread_changes_nothing s d n e = rw e

pub refusals_change_nothing : (s : Station) → Sized s → (c : Call) → RefusalsChangeNothing s c
refusals_change_nothing s sized c = go (only_by_rules s sized c)
  where
    go : {c : Call} {n : ℕ} {s' : Station} → Table s c n s' → Quiet n → s' ≡ s
    go (nothing row) w = refl
    go (entered t i e x y z) w = absurd (w.not_entered refl)
    go (again t i e x y) w = absurd (w.not_renewed refl)
    go (joined g i e x y z u) w = absurd (w.not_joined refl)
    go (positioned g i e x y z u) w = absurd (w.not_positioned refl)
    go (counted g i e x y z v u) w = absurd (w.not_counted refl)
    go (ticked x y) w = absurd (w.not_ticked refl)

pub clock_never_back : (s : Station) → Sized s → (c : Call) → ClockNeverBack s c
clock_never_back s sized c = go (only_by_rules s sized c)
  where
    go : {c : Call} {n : ℕ} {s' : Station} → Table s c n s' → clock_of s ≤ clock_of s'
    go (nothing row) = omega arith
    go (entered t i e x y z) = omega (arith, same_clock z.own)
    go (again t i e x y) = omega (arith, same_clock y.own)
    go (joined g i e x y z u) = omega (arith, u.clock)
    go (positioned g i e x y z u) = omega (arith, same_clock u.own)
    go (counted g i e x y z v u) = omega (arith, u.clock)
    go (ticked x y) = omega (arith, y.clock)

-- ---- a datagram is one thing only

-- the datagrams of one call are the same
same_bytes : {d d' : List ℕ} → datagram d ≡ datagram d' → d ≡ d'
same_bytes e = cc

one_signal : {g g' : Signal} (r : Reading) (n n' : ℕ) → r ≡ a_signal g n → r ≡ a_signal g' n' → g ≡ g'
one_signal r n n' p q = cc

not-both : {g : Signal} {t : Transmitter} (r : Reading) (n : ℕ) → r ≡ a_signal g n → r ≡ a_transmitter t → ⊥
not-both r n p q = cc

-- the Signals of one call are the same, and none is a Transmitter
same_signal : {d d' : List ℕ} {g g' : Signal} → datagram d ≡ datagram d' → IsSignal d g → IsSignal d' g' → g ≡ g'
same_signal {d = d} {d' = d'} {g = g} same (n, p) (n', q) =
    one_signal (reading d') n n' (subst (λ (l : List ℕ). reading l ≡ a_signal g n) (same_bytes same) p) q

no-transmitter : {d d' : List ℕ} {g : Signal} {t : Transmitter}
    → datagram d ≡ datagram d'
    → IsSignal d g
    → reading d' ≡ a_transmitter t
    → ⊥
no-transmitter {d = d} {d' = d'} {g = g} same (n, p) q =
    not-both (reading d') n (subst (λ (l : List ℕ). reading l ≡ a_signal g n) (same_bytes same) p) q

no_time : {t : ℕ} {d : List ℕ} → (c : Call) → c ≡ datagram d → c ≡ time t → ⊥
no_time c p q = cc

-- ---- outsiders

-- a Signal that passes, from a sender that is fine, is no outsider's
no_outsider : (s : Station) (g : Signal) (i : ℕ) → Passed s g i → (unit_at s i).state ≡ 3 → Outsider s g → ⊥
no_outsider s g i p f out = go out
  where
    -- a key has one place
    one_place : (j : ℕ) → Sender s (key_of g.header) j → i ≡ j
    one_place j from = sym (sender_place s _ i p.sender) ∙ sender_place s _ j from

    go : Outsider s g → ⊥
    go (unknown w) = w i p.sender.there p.sender.keyed
    go (elsewhere w) = w p.net
    go (another j from w) =
        agree_clash (id_of s) (unit_at s j).id (subst (λ (k : ℕ). Agree (id_of s) (unit_at s k).id) (one_place j from) p.ids) w
    go (coarse j from w) = w (subst (λ (k : ℕ). (unit_at s k).state ≡ 3) (one_place j from) f)

pub outsiders_change_nothing : (s : Station) → Sized s → (d : List ℕ) → OutsidersChangeNothing s d
outsiders_change_nothing s sized d g read out = go refl (only_by_rules s sized (datagram d))
  where
    -- a taken J0.0 or PPLI is this Signal, which is an outsider's
    refuted : {d' : List ℕ} {g' : Signal} {i : ℕ}
        → datagram d' ≡ datagram d
        → IsSignal d' g'
        → Passed s g' i
        → (unit_at s i).state ≡ 3
        → ⊥
    refuted {i = i} same e p f = no_outsider s g i (subst (λ (h : Signal). Passed s h i) (same_signal same e read) p) f out

    go : {c : Call} {n : ℕ} {s' : Station} → c ≡ datagram d → Table s c n s' → s' ≡ s
    go same (nothing row) = refl
    go same (entered t i e x y z) = absurd (no-transmitter (sym same) read e)
    go same (again t i e x y) = absurd (no-transmitter (sym same) read e)
    go same (joined g' i e x y z u) = absurd (refuted same e x z)
    go same (positioned g' i e x y z u) = absurd (refuted same e x z)
    go same (counted g' i e x y z v u) = absurd (refuted same e x z)
    go {c = c} same (ticked x y) = absurd (no_time c same refl)

-- ---- Transmitters

unchanged : (s : Station) → AdmitsNoOne s s
unchanged s = record { own = refl; inside = λ j h w. (h, w) }

pub transmitters_admit_no_one : (s : Station) → Sized s → (d : List ℕ) → TransmittersAdmitNoOne s d
transmitters_admit_no_one s sized d t read = go refl (only_by_rules s sized (datagram d))
  where
    go : {c : Call} {n : ℕ} {s' : Station} → c ≡ datagram d → Table s c n s' → AdmitsNoOne s s'
    go same (nothing row) = unchanged s
    go {s' = s'} same (entered t' i e x y z) = record {
      own = z.own;
      inside = λ j h w.
          ⊎_elim
          (λ (q : j ≡ i). absurd (true≢false (sym (subst (λ (k : ℕ). (unit_at s' k).inside ≡ true) q w) ∙ z.outside)))
          (λ q. (sym (z.others.word j q) ∙ h, sym (ap (λ u. u.inside) (z.others.entry j q)) ∙ w))
          (same_or_not j i);
    }
    go {s' = s'} same (again t' i e x y) = record {
      own = y.own;
      inside = λ j h w. (
        subst (λ (n : ℕ). held n j ≡ true) y.word h,
        ⊎_elim
            (λ (q : j ≡ i).
            let at_i = subst (λ (k : ℕ). (unit_at s' k).inside ≡ true) q w in
            subst (λ (k : ℕ). (unit_at s k).inside ≡ true) (sym q) (y.inside.0 at_i).0)
            (λ q. sym (ap (λ u. u.inside) (y.others.entry j q)) ∙ w)
            (same_or_not j i),
      );
    }
    go same (joined g i e x y z u) = absurd (no-transmitter same e read)
    go same (positioned g i e x y z u) = absurd (no-transmitter same e read)
    go same (counted g i e x y z v u) = absurd (no-transmitter same e read)
    go {c = c} same (ticked x y) = absurd (no_time c same refl)
