-- What demand 3 means for the box, each read off it alone: the far station is given each order once, nothing is put out that was not offered,
-- and what the near end counts as acknowledged was put out.
-- Assumes nothing.
use Prim.Native.Nat.{ℕ}
use mathlib.Core.Path.{◌≡◌, refl, sym, ap, ap₂, subst, ◌∙◌}
use mathlib.Core.Logic.{◌⊎◌, inl, inr}
use mathlib.Core.List.Memᴰ
use mathlib.Core.List.{List, [], ◌∷◌, ◌++◌, Memᴰ}
use mathlib.Core.List.{map, map-append}
use lib.ListN.{get_or, take, drop, take-append-drop}
use lib.Seq.{get_or-take}
use native.Mathlib.Omega.{arith}
use Rattle.std.specs.Prelude.{Result, Ok, Err}
use Rattle.pdu.specs.Writing.{padding_zero}
use Rattle.station.specs.Runs.{Call as StationCall, datagram, time}
use Rattle.station.specs.declared.Settings.{Settings}
use Rattle.trunk.specs.Refusals.{Refusal}
use Rattle.trunk.specs.Bundle.{bundle}
use Rattle.trunk.specs.Line.{Entry, offer_made, send_made, reply_heard, record_heard, clock_set, Call, offer, send, to_near, to_far, tick}
use Rattle.trunk.specs.Line.{Line, start, step, run, accepted, put_out, put_out_by, events, events_by, Fair}
use Rattle.trunk.specs.Demand.{given, given_by, count}
use Rattle.trunk.specs.Consequences.{datagrams, WasOffered, Consequences}
use Rattle.trunk.specs.declared.Arrival.TheVariants.{Delivered, Repeat, Early}
use Rattle.trunk.proofs.Demand3.{demand3}

-- ---- each order once

datagrams-append : (a b : List StationCall) → datagrams (a ++ b) ≡ datagrams a ++ datagrams b
datagrams-append [] b = refl
datagrams-append (datagram d ∷ a) b = ap (λ (l : List (List ℕ)). d ∷ l) (datagrams-append a b)
datagrams-append (time t ∷ a) b = datagrams-append a b

-- an entry that gives the station a datagram puts that one out
entry-heard : (e : Entry) → datagrams (events_by e) ≡ put_out_by e
entry-heard (offer_made d a store) = refl
entry-heard (send_made i a out) = refl
entry-heard (reply_heard r a) = refl
entry-heard (record_heard r (Err e) reply out) = refl
entry-heard (record_heard r (Ok (Delivered size answer)) reply out) = refl
entry-heard (record_heard r (Ok Repeat) reply out) = refl
entry-heard (record_heard r (Ok Early) reply out) = refl
entry-heard (clock_set t a) = refl

all-heard : (log : List Entry) → datagrams (events log) ≡ put_out log
all-heard [] = refl
all-heard (e ∷ log) = datagrams-append (events log) (events_by e) ∙ ap₂ ◌++◌ (all-heard log) (entry-heard e)

-- ---- nothing but what was offered

-- what was offered and not refused came from an entry
Came : List ℕ → List Entry → Type 0
Came p log =
    (d : List ℕ)
    × (i : ℕ)
    × (store : List ℕ)
    × Memᴰ (offer_made d (Ok i) store) log
    × ((q : List ℕ) × Memᴰ q (bundle d) × (p ≡ padding_zero q))

here : (p : List ℕ) (log : List Entry) (e : Entry) → Memᴰ p (map padding_zero (given_by e)) → Came p (e ∷ log)
unfolding Came
here p log (offer_made d (Err e) store) m = absurd (Memᴰ.not-nil m)
here p log (offer_made d (Ok i) store) m =
    let (q, inside, form) = Memᴰ.of_map padding_zero (bundle d) m in
    (d, i, store, Memᴰ.head refl, (q, inside, sym form))
here p log (send_made i a out) m = absurd (Memᴰ.not-nil m)
here p log (reply_heard r a) m = absurd (Memᴰ.not-nil m)
here p log (record_heard r a reply out) m = absurd (Memᴰ.not-nil m)
here p log (clock_set t a) m = absurd (Memᴰ.not-nil m)

before : (p : List ℕ) (log : List Entry) (e : Entry) → Came p log → Came p (e ∷ log)
unfolding Came
before p log e c = (c.0, c.1, c.2, Memᴰ.tail c.3, c.4)

came : (p : List ℕ) (log : List Entry) → Memᴰ p (map padding_zero (given log)) → Came p log
came p [] m = absurd (Memᴰ.not-nil m)
came p (e ∷ log) m =
    elim (Memᴰ.append_cases (map padding_zero (given log)) (subst (Memᴰ p) (map-append padding_zero (given log) (given_by e)) m))
    [ inl old ↦ before p log e (came p log old) | inr new ↦ here p log e new ]

-- an entry of an offer came from a call of the list, or stood in the log before
InList : List ℕ → Result ℕ Refusal → List ℕ → Line → List Call → Type 0
InList d a store l calls = Memᴰ (offer_made d a store) l.log ⊎ Memᴰ (offer d) calls

-- an entry of another call is none of an offer
abbrev offers : Entry → ℕ
offers (offer_made d a store) = 1
offers (send_made i a out) = 0
offers (reply_heard r a) = 0
offers (record_heard r a reply out) = 0
offers (clock_set t a) = 0

skip :
    (d : List ℕ) (a : Result ℕ Refusal) (store : List ℕ) (e : Entry) (log : List Entry)
    → offers e ≡ 0
    → Memᴰ (offer_made d a store) (e ∷ log)
    → Memᴰ (offer_made d a store) log
skip d a store e log z m = elim (Memᴰ.cases_cons m) [ inl same ↦ absurd (never (ap offers same ∙ z)) | inr old ↦ old ]
  where
    never : ◌≡◌ {A = ℕ} 1 0 → ⊥
    never e = omega arith

by_call :
    (d : List ℕ) (a : Result ℕ Refusal) (store : List ℕ) (l : Line) (c : Call) (cs : List Call)
    → Memᴰ (offer_made d a store) (step l c).log
    → InList d a store l (c ∷ cs)
unfolding InList
by_call d a store l (offer x) cs m = elim (Memᴰ.cases_cons m) [ inl e ↦ inr (Memᴰ.head (ap offer (same_offer e))) | inr old ↦ inl old ]
  where
    same_offer : {b : Result ℕ Refusal} {after : List ℕ} → offer_made d a store ≡ offer_made x b after → d ≡ x
    same_offer e = cc
by_call d a store l (send i out) cs m = inl (skip d a store _ l.log refl m)
by_call d a store l (to_near r) cs m = inl (skip d a store _ l.log refl m)
by_call d a store l (to_far r reply out) cs m = inl (skip d a store _ l.log refl m)
by_call d a store l (tick t) cs m = inl (skip d a store _ l.log refl m)

in_list :
    (d : List ℕ) (a : Result ℕ Refusal) (store : List ℕ) (l : Line) (calls : List Call)
    → Memᴰ (offer_made d a store) (run l calls).log
    → InList d a store l calls
unfolding InList
in_list d a store l [] m = inl m
in_list d a store l (c ∷ cs) m =
    elim (in_list d a store (step l c) cs m) [ inl here ↦ by_call d a store l c cs here | inr later ↦ inr (Memᴰ.tail later) ]

-- in a part of some PDUs, so among them
in_part : (p : List ℕ) (n : ℕ) (l : List (List ℕ)) → Memᴰ p (take n l) → Memᴰ p l
in_part p n l m = subst (Memᴰ p) (take-append-drop n l) (Memᴰ.append_left (drop n l) m)

-- ---- what demand 3 means for the box

offered-before :
    (settings : Settings) (store : List ℕ) (calls : List Call) (p : List ℕ)
    → Memᴰ p (map padding_zero (given (run (start settings store) calls).log))
    → WasOffered p calls (run (start settings store) calls).log
unfolding Came InList
offered-before settings store calls p m =
    let begin : Line = start settings store in
    let c = came p (run begin calls).log m in
    record {
      given = c.0;
      number = c.1;
      call = elim (in_list c.0 (Ok c.1) c.2 begin calls c.3) [ inl none ↦ absurd (Memᴰ.not-nil none) | inr call ↦ call ];
      store = c.2;
      entry = c.3;
      pdu = c.4.0;
      inside = c.4.1;
      form = c.4.2;
    }

pub consequences :
    (settings : Settings) (store : List ℕ) (calls : List Call)
    → Fair (start settings store) calls
    → Consequences calls (run (start settings store) calls)
consequences settings store calls fair =
    let l : Line = run (start settings store) calls in
    let d = demand3 settings store calls fair in
    let all : List (List ℕ) = accepted l.log in
    record {
      heard_once = all-heard l.log ∙ d.in_order;
      acknowledged_was_put_out = λ i h.
          ap (λ (x : List (List ℕ)). get_or x i []) d.in_order
          ∙ get_or-take (count l.log) all i [] (omega (arith, d.near_acknowledged, d.acknowledged_put_out));
      only_offered = λ p m.
          offered-before settings store calls p
          (in_part p (count l.log) (map padding_zero (given l.log)) (subst (Memᴰ p) d.padding_zero m));
    }
