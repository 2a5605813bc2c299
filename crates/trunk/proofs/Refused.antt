-- A refused call changes nothing (`refused_changes_nothing`), whichever call of the trunk it is: neither end, not the store, and no byte of any
-- buffer lent to it. An answer is a refusal only where a rule is broken, and there each call's definition gives back what it was given.
-- Assumes nothing.
use Prim.Native.Nat.{ℕ}
use mathlib.Core.Path.{◌≡◌, refl, ap, ap₂}
use mathlib.Core.Bool.{Bool, true, false, cond}
use mathlib.Core.List.{List, [], ◌∷◌, ◌++◌}
use lib.ListN.{length, drop}
use lib.Dec.{eqb, ltb}
use native.Mathlib.Omega.{arith}
use Rattle.wire.specs.First.{first}
use Rattle.station.specs.Answers.{number as station_number}
use Rattle.station.specs.Units.{clock_of}
use Rattle.station.specs.Clock.{clocked}
use Rattle.station.specs.declared.Station.{Station}
use Rattle.trunk.specs.Head.{head_size}
use Rattle.trunk.specs.Record.{reply_of, number_in, carried_in}
use Rattle.trunk.specs.Near.{offer_rules, offered, store_after, send_rules, sent, sent_out, reply_rules, replied}
use Rattle.trunk.specs.Far.{arrival_rules, is_next, count_after, arrived, reply_after, output_after, ticked}
use Rattle.trunk.specs.Line.{offer_made, send_made, reply_heard, record_heard, Call, offer, send, to_near, to_far, tick, Line, entry}
use Rattle.trunk.specs.Leaves.{Refused, ChangesNothing}
use Rattle.trunk.specs.declared.Near.{Near}
use Rattle.trunk.specs.declared.Far.{Far}

-- ---- what a refused call leaves, one by one

offer_keeps :
    (near : Near) (store d : List ℕ)
    → Refused (offer_made d (offered near store d).answer (store_after near store d))
    → ((offered near store d).near ≡ near) × (store_after near store d ≡ store)
unfolding offered store_after
offer_keeps near store d = by (eqb (first (offer_rules near store d)) 0) refl
  where
    by :
        (b : Bool)
        → eqb (first (offer_rules near store d)) 0 ≡ b
        → Refused (offer_made d (offered near store d).answer (store_after near store d))
        → ((offered near store d).near ≡ near) × (store_after near store d ≡ store)
    by true e x = absurd (rw e at x)
    by false e x = (rw e, rw e)

send_keeps :
    (near : Near) (store : List ℕ) (i : ℕ) (out : List ℕ)
    → Refused (send_made i (sent near store i (length out)).answer (sent_out near store i out))
    → ((sent near store i (length out)).near ≡ near) × (sent_out near store i out ≡ out)
unfolding sent sent_out
send_keeps near store i out = by (eqb (first (send_rules near store i (length out))) 0) refl
  where
    by :
        (b : Bool)
        → eqb (first (send_rules near store i (length out))) 0 ≡ b
        → Refused (send_made i (sent near store i (length out)).answer (sent_out near store i out))
        → ((sent near store i (length out)).near ≡ near) × (sent_out near store i out ≡ out)
    by true e x = absurd (rw e at x)
    by false e x = (refl, rw e)

reply_keeps : (near : Near) (r : List ℕ) → Refused (reply_heard r (replied near r).answer) → (replied near r).near ≡ near
unfolding replied
reply_keeps near r = by (eqb (first (reply_rules near r)) 0) refl
  where
    by : (b : Bool) → eqb (first (reply_rules near r)) 0 ≡ b → Refused (reply_heard r (replied near r).answer) → (replied near r).near ≡ near
    by true e x = absurd (rw e at x)
    by false e x = rw e

-- an arrival's answer is a refusal only where a rule is broken
arrival_broken :
    (far : Far) (r reply out : List ℕ) (reply_room room : ℕ)
    → Refused (record_heard r (arrived far r reply_room room).answer reply out)
    → eqb (first (arrival_rules r reply_room room)) 0 ≡ false
unfolding arrived
arrival_broken far r reply out reply_room room =
    by (eqb (first (arrival_rules r reply_room room)) 0) (is_next far.count (number_in r)) (ltb (number_in r) far.count) refl refl refl
  where
    by :
        (none next below : Bool)
        → eqb (first (arrival_rules r reply_room room)) 0 ≡ none
        → is_next far.count (number_in r) ≡ next
        → ltb (number_in r) far.count ≡ below
        → Refused (record_heard r (arrived far r reply_room room).answer reply out)
        → eqb (first (arrival_rules r reply_room room)) 0 ≡ false
    by false next below e n b x = e
    by true true below e n b x = absurd (rw (e, n) at x)
    by true false true e n b x = absurd (rw (e, n, b) at x)
    by true false false e n b x = absurd (rw (e, n, b) at x)

far_kept :
    (far : Far) (r : List ℕ) (reply_room room : ℕ)
    → eqb (first (arrival_rules r reply_room room)) 0 ≡ false
    → (arrived far r reply_room room).far ≡ far
unfolding arrived
far_kept far r reply_room room e = rw e

pub reply_kept :
    (far : Far) (r reply : List ℕ) (room : ℕ)
    → eqb (first (arrival_rules r (length reply) room)) 0 ≡ false
    → reply_after far r reply room ≡ reply
unfolding reply_after
reply_kept far r reply room e =
    ap (λ (b : Bool). cond b (reply_of (count_after far.count (number_in r)) ++ drop head_size reply) reply) e

pub output_kept :
    (far : Far) (r : List ℕ) (reply_room : ℕ) (out : List ℕ)
    → eqb (first (arrival_rules r reply_room (length out))) 0 ≡ false
    → output_after far r reply_room out ≡ out
unfolding output_after
output_kept far r reply_room out e =
    ap (λ (b : Bool). cond b (cond (is_next far.count (number_in r)) (carried_in r ++ drop (length (carried_in r)) out) out) out) e

station_kept : (s : Station) (t : ℕ) → station_number (clocked s t).answer ≡ 36 → (clocked s t).station ≡ s
unfolding clocked
station_kept s t = by (ltb t (clock_of s)) refl
  where
    by : (b : Bool) → ltb t (clock_of s) ≡ b → station_number (clocked s t).answer ≡ 36 → (clocked s t).station ≡ s
    by true e x = rw e
    by false e x =
        let never : ◌≡◌ {A = ℕ} 46 36 = rw e at x in
        absurd (omega arith)

clock_keeps : (far : Far) (t : ℕ) → station_number (ticked far t).answer ≡ 36 → (ticked far t).far ≡ far
unfolding ticked
clock_keeps far t x = ap (λ (s : Station). record { count = far.count; station = s }) (station_kept far.station t x)

-- ---- all of them

pub refused_changes_nothing : (l : Line) (c : Call) → Refused (entry l c) → ChangesNothing l c
refused_changes_nothing l (offer d) x =
    let kept = offer_keeps l.near l.store d x in
    record { near_same = kept.0; store_same = kept.1; far_same = refl; lent_same = ap (λ (s : List ℕ). s ∷ []) kept.1 }
refused_changes_nothing l (send i out) x =
    let kept = send_keeps l.near l.store i out x in
    record { near_same = kept.0; store_same = refl; far_same = refl; lent_same = ap (λ (s : List ℕ). s ∷ []) kept.1 }
refused_changes_nothing l (to_near r) x =
    record { near_same = reply_keeps l.near r x; store_same = refl; far_same = refl; lent_same = refl }
refused_changes_nothing l (to_far r reply out) x =
    let reply' = reply_after l.far r reply (length out) in
    let out' = output_after l.far r (length reply) out in
    let broken = arrival_broken l.far r reply' out' (length reply) (length out) x in
    record {
      near_same = refl;
      store_same = refl;
      far_same = far_kept l.far r (length reply) (length out) broken;
      lent_same =
          ap₂ (λ (s t : List ℕ). s ∷ t ∷ [])
          (reply_kept l.far r reply (length out) broken)
          (output_kept l.far r (length reply) out broken);
    }
refused_changes_nothing l (tick t) x =
    record { near_same = refl; store_same = refl; far_same = clock_keeps l.far t x; lent_same = refl }
