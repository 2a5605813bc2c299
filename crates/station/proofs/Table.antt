-- Whatever the call, what it answers and leaves is a row of the table (only_by_rules). The tests of the rules are followed one by one, and each
-- way ends in its row; what a row says has changed is read off the definitions.
-- Assumes nothing.
use Prim.Native.Nat.{ℕ, ◌+◌, ◌-◌, ◌<◌, ◌≤◌}
use mathlib.Core.Path.{◌≡◌, refl, sym, ap, ◌∙◌}
use mathlib.Core.Bool.{Bool, true, false, cond, not, ◌&&◌, ◌||◌, true≢false}
use mathlib.Core.List.{List, [], ◌∷◌}
use mathlib.Core.Logic.{inl, inr, ◌↔◌}
use lib.ListN.{get_or, set, length-set}
use lib.Seq.{get_or-set_same, get_or-set_other}
use lib.Dec.{eqb, ltb}
use borrow.Author.Tests.{eqb-true, eqb-false, eq-eqb, ne_eqb, ltb-true, ltb-false, lt-ltb, le-ltb, leb-false, lt-leb, not-true, not-false}
use native.Mathlib.Omega.{arith}
use Rattle.wire.specs.First.{Refusal, ◌given_when◌}
use Rattle.station.proofs.ReaderLaws.{both_true}
use Rattle.occupancy.specs.Places.{places, held, free_place}
use Rattle.occupancy.proofs.WordLaws.{held-taken, taken-fits, built_fits, held_built}
use Rattle.pdu.specs.Reading.{reading}
use Rattle.pdu.specs.declared.Transmitter.{Transmitter}
use Rattle.pdu.specs.declared.Signal.{Signal}
use Rattle.pdu.specs.declared.Reading.{Reading}
use Rattle.pdu.specs.declared.Reading.TheVariants.{Refused, Transmitter as a_transmitter, Signal as a_signal}
use Rattle.station.specs.Answers.{number}
use Rattle.station.specs.Units.{level_of, net_of, exchanges_of, count_of, id_of, state_of, clock_of, key_of, blank, unit_at, place_of, known, with_unit}
use Rattle.station.specs.Units.{limit_of, with_new}
use Rattle.station.specs.Plain.{Sized, LowestFree}
use Rattle.station.specs.Hearing.{answering, unless, new_unit, enter, renew, heard_transmitter, other_id, sender_of, signal_rules}
use Rattle.station.specs.Hearing.{message_of, state_after, both_coarse, count_joined, after_j00, after_ppli, heard_unit, is_fine, is_coarse, counts_for}
use Rattle.station.specs.Hearing.{count_next, state_timed, after_timing, heard_message, heard_signal}
use Rattle.station.specs.Hearing.{step, first_word, heard}
use Rattle.station.specs.Clock.{silent, stays, at_time, clocked}
use Rattle.station.specs.Runs.{Call, datagram, time}
use Rattle.station.specs.Table.{IsSignal, Passed, Counting, SameElse, Entered, Renewed, Joined, Counted, Positioned, Ticked, unread}
use Rattle.station.specs.Table.{no_room_row, stranger, other_net, other_id_row, not_fine_row, not_in_row, passed, uncounted, asked, back, Table, nothing}
use Rattle.station.specs.Table.{entered, again, joined, positioned, counted, ticked}
use Rattle.station.specs.Claims.{OnlyByRules}
use Rattle.station.specs.declared.State.{State}
use Rattle.station.specs.declared.State.TheVariants.{Waiting, Coarse, Fine}
use Rattle.station.specs.declared.Unit.{Unit}
use Rattle.station.specs.declared.Station.{Station}
use Rattle.station.specs.declared.Heard.{Heard}
use Rattle.station.specs.declared.Message.{Message}
use Rattle.station.specs.declared.Message.TheVariants.{NetEntry, Ppli, Interrogation, TimingReply, Other}
use Rattle.station.proofs.PlaceLaws.{sender_known, stranger_unknown, lowest_free, none_free, clash, agree, j00_said, ppli_said}
use Rattle.station.proofs.PlaceLaws.{ask_said, reply_said, other_said, is_fine_lem, is_coarse_lem}

-- an outcome that is in the table
abbrev Tabled : Station → Call → Heard → Type 0
Tabled s c h = Table s c (number h.answer) h.station

-- ---- following the tests

by_cond : (Q : Heard → Type 0) (b : Bool) {x y : Heard} → (b ≡ true → Q x) → (b ≡ false → Q y) → Q (cond b x y)
by_cond Q true f g = f refl
by_cond Q false f g = g refl

-- the first rule of a list: it applies, or the rest decides
by_rule : (Q : Heard → Type 0) (s : Station) (n : ℕ) (b : Bool) (rest : List Refusal) (out : Heard)
    → eqb n 0 ≡ false
    → (b ≡ true → Q (answering n s))
    → (b ≡ false → Q (unless s rest out))
    → Q (unless s ((n given_when b) ∷ rest) out)
by_rule Q s n true rest out e f g = rw e (f refl)
by_rule Q s n false rest out e f g = g refl

-- the only rule of a list, which refuses unless b
by_last : (Q : Heard → Type 0) (s : Station) (n : ℕ) (b : Bool) (out : Heard)
    → eqb n 0 ≡ false
    → (b ≡ false → Q (answering n s))
    → (b ≡ true → Q out)
    → Q (unless s ((n given_when not b) ∷ []) out)
by_last Q s n true out e f g = g refl
by_last Q s n false out e f g = rw e (f refl)

-- ---- the changes

-- the entry that was stored stands in its place, and every other place is as it was
module _ (s : Station) (i : ℕ) (u : Unit) where
  stored : Sized s → i < places → get_or (set s.units i u) i blank ≡ u
  stored sized l = get_or-set_same s.units i u _ (omega (arith, sized))

  same_else : SameElse i s (with_unit s i u)
  same_else = record { size = length-set s.units i u; word = λ j _. refl; entry = λ j n. get_or-set_other s.units i j u _ n }

entered_row : (s : Station) (i : ℕ) (t : Transmitter)
    → Sized s
    → LowestFree s i
    → Entered s i t (with_new s i (new_unit (clock_of s) t))
entered_row s i t sized free =
    let u = new_unit (clock_of s) t in
    let here = stored s i u sized free.place in
    let now_held : (j : ℕ) → _ = held-taken s.used i in
    record {
      own = refl;
      others =
          record {
            size = length-set s.units i u;
            word = λ j n. now_held j free.free ∙ ap (λ (b : Bool). b || held s.used j) (ne_eqb i j (λ e. n (sym e)));
            entry = λ j n. get_or-set_other s.units i j u _ n;
          };
      taken = now_held i free.free ∙ ap (λ (b : Bool). b || held s.used i) (eq-eqb i i refl);
      word_fits = λ h. taken-fits places s.used i h free.place free.free;
      key = ap (λ (v : Unit). v.key) here;
      level = ap (λ (v : Unit). v.level) here;
      state = ap (λ (v : Unit). v.state) here;
      id = ap (λ (v : Unit). v.id) here;
      outside = ap (λ (v : Unit). v.inside) here;
      last = ap (λ (v : Unit). v.last) here;
    }

kept_inside : (was : Bool) (state id old : ℕ)
    → ((was && (eqb state 3 && eqb id old)) ≡ true) ↔ ((was ≡ true) × (state ≡ 3) × (id ≡ old))
kept_inside was state id old = (
  λ e.
      let in_and = both_true was (eqb state 3 && eqb id old) e in
      let same = both_true (eqb state 3) (eqb id old) in_and.1 in
      (in_and.0, eqb-true _ _ same.0, eqb-true _ _ same.1),
  λ w. rw (w.0, eq-eqb _ _ w.1, eq-eqb _ _ w.2),
)

renewed-row : (s : Station) (i : ℕ) (t : Transmitter)
    → Sized s
    → i < places
    → Renewed s i t (renew s i t).station
unfolding renew
renewed-row s i t sized l =
    let old = unit_at s i in
    let here = stored s i _ sized l in
    record {
      own = refl;
      word = refl;
      others = same_else s i _;
      key = ap (λ (v : Unit). v.key) here;
      level = ap (λ (v : Unit). v.level) here;
      state = ap (λ (v : Unit). v.state) here;
      id = ap (λ (v : Unit). v.id) here;
      inside = rw (ap (λ (v : Unit). v.inside) here) (kept_inside old.inside t.sync.state t.sync.id old.id);
      last = ap (λ (v : Unit). v.last) here;
    }

positioned_row : (s : Station) (i : ℕ) → Sized s → i < places → Positioned s i (after_ppli s i)
unfolding after_ppli
positioned_row s i sized l =
    let u = heard_unit (clock_of s) (unit_at s i) in
    let here = stored s i u sized l in
    record {
      own = refl;
      word = refl;
      others = same_else s i u;
      key = ap (λ (v : Unit). v.key) here;
      level = ap (λ (v : Unit). v.level) here;
      state = ap (λ (v : Unit). v.state) here;
      id = ap (λ (v : Unit). v.id) here;
      inside = ap (λ (v : Unit). v.inside) here;
      last = ap (λ (v : Unit). v.last) here;
    }

-- whether both levels are 4, in plain terms
both_four : (own sender : ℕ) → own ≡ 4 → sender ≡ 4 → both_coarse own sender ≡ true
both_four own sender o u = rw (eq-eqb own _ o, eq-eqb sender _ u)

not-both_four : (own sender : ℕ) → (own ≡ 4 → sender ≡ 4 → ⊥) → both_coarse own sender ≡ false
not-both_four own sender no-four = go (both_coarse own sender) refl
  where
    go : (b : Bool) → both_coarse own sender ≡ b → b ≡ false
    go true e = let w = both_true (eqb own 4) (eqb sender 4) e in absurd (no-four (eqb-true _ _ w.0) (eqb-true _ _ w.1))
    go false e = refl

state_kept : (st : State) → (st ≡ Waiting → ⊥) → state_after true st ≡ st
state_kept Waiting h = absurd (h refl)
state_kept Coarse h = refl
state_kept Fine h = refl

count_kept : (b : Bool) (st : State) (n : ℕ) → (b ≡ true → st ≡ Waiting → ⊥) → count_joined b st n ≡ n
count_kept true Waiting n h = absurd (h refl refl)
count_kept true Coarse n h = refl
count_kept true Fine n h = refl
count_kept false st n h = refl

-- both levels are 4, where the test says so
four_both : (own sender : ℕ) → both_coarse own sender ≡ true → (own ≡ 4) × (sender ≡ 4)
four_both own sender e =
    let w = both_true (eqb own 4) (eqb sender 4) e in
    (eqb-true _ _ w.0, eqb-true _ _ w.1)

pub joined-row : (s : Station) (u : Unit) → Joined s u (after_j00 s u)
unfolding after_j00
joined-row s u =
    let both = both_coarse (level_of s) u.level in
    let by : (b : Bool) → both ≡ b → state_after both (state_of s) ≡ state_after b (state_of s) =
    (λ b e. ap (λ (c : Bool). state_after c (state_of s)) e) in
    record {
      settings = refl;
      clock = refl;
      word = refl;
      entries = refl;
      id_taken = λ e. rw (eq-eqb (id_of s) _ e);
      id_kept = λ e. rw (ne_eqb (id_of s) _ e);
      coarse = λ o v w. by true (both_four _ _ o v) ∙ ap (state_after true) w;
      stays = λ o v w. by true (both_four _ _ o v) ∙ state_kept (state_of s) w;
      fine = λ w. by false (not-both_four _ _ w);
      count_zero = λ o v w.
          ap (λ (b : Bool). count_joined b (state_of s) (count_of s)) (both_four _ _ o v) ∙ ap (λ (st : State). count_joined true st (count_of s)) w;
      count_kept = λ w. count_kept both (state_of s) (count_of s) (λ e. let four = four_both (level_of s) u.level e in w four.0 four.1);
    }

-- the count, and the state at it
next_below : (exchanges count : ℕ) → count < exchanges → count_next exchanges count ≡ count + 1
next_below exchanges count h = rw (lt-ltb count exchanges h)

next_beyond : (exchanges count : ℕ) → exchanges ≤ count → count_next exchanges count ≡ exchanges
next_beyond exchanges count h = rw (le-ltb count exchanges h)

timed_fine : (exchanges count : ℕ) → exchanges ≤ count + 1 → count_next exchanges count ≡ exchanges
timed_fine exchanges count h = go (ltb count exchanges) refl
  where
    go : (b : Bool) → ltb count exchanges ≡ b → cond b (count + 1) exchanges ≡ exchanges
    go true e = omega (arith, ltb-true count exchanges e)
    go false e = refl

pub counted-row : (s : Station) → Counted s (after_timing s)
counted-row s =
    let e = exchanges_of s in
    let n = count_of s in
    record {
      settings = refl;
      clock = refl;
      word = refl;
      entries = refl;
      id = refl;
      one_more = next_below e n;
      at_most = next_beyond e n;
      fine = λ h. ap (state_timed e) (timed_fine e n h) ∙ rw (eq-eqb e e refl);
      coarse = λ h. ap (state_timed e) (next_below e n (omega arith)) ∙ rw (ne_eqb (n + 1) e (λ same. omega arith));
    }

-- whether a reply counts, in plain terms
counting : (s : Station) (u : Unit) → counts_for s.own u ≡ true → Counting s u
counting s u e =
    let w = both_true (is_coarse (state_of s)) (both_coarse (level_of s) u.level) e in
    let four = four_both _ _ w.1 in
    record { state = is_coarse_lem (state_of s) w.0; own = four.0; sender = four.1 }

pub counts_for_lem : (s : Station) (u : Unit) → Counting s u → counts_for s.own u ≡ true
counts_for_lem s u c = rw (c.state, both_four _ _ c.own c.sender)

stays-held : (was : Bool) (limit t last : ℕ) → ((was && not (silent limit t last)) ≡ true) ↔ ((was ≡ true) × (t - last < limit))
stays-held was limit t last = (
  λ e. let w = both_true was (not (silent limit t last)) e in (w.0, leb-false _ _ (not-true (silent limit t last) w.1)),
  λ w. rw (w.0, lt-leb _ _ w.1),
)

ticked-row : (s : Station) (t : ℕ) → Ticked s t (at_time s t)
unfolding at_time
ticked-row s t = record {
  settings = refl;
  standing = refl;
  clock = refl;
  entries = refl;
  word_fits = built_fits (stays s t) places;
  stays = λ i l. rw (held_built (stays s t) places i l) (stays-held (held s.used i) (limit_of s) t (unit_at s i).last);
}

-- ---- every outcome has its row

module _ (s : Station) (sized : Sized s) where
  transmitter-row : (d : List ℕ) (t : Transmitter) → reading d ≡ a_transmitter t → Tabled s (datagram d) (heard_transmitter s t)
  unfolding heard_transmitter enter renew
  transmitter-row d t e =
      let key = key_of t.header in
      let free = free_place s.used in
      by_cond (Tabled s (datagram d)) (known s key)
      (λ k.
      let from = sender_known s key k in
      again t (place_of s key) e from (renewed-row s (place_of s key) t sized from.there.place))
      (λ k.
      let new = stranger_unknown s key k in
      by_last (Tabled s (datagram d)) s 30 (ltb free places) (answering 40 (with_new s free (new_unit (clock_of s) t))) refl
      (λ b. nothing (no_room_row t e new (none_free s b)))
      (λ b. entered t free e new (lowest_free s b) (entered_row s free t sized (lowest_free s b))))

  -- what a Signal that passed does, by what it says
  message-row : (d : List ℕ) (g : Signal) (i : ℕ)
      → IsSignal d g
      → Passed s g i
      → (m : Message)
      → message_of g.network.message_type (first_word d) ≡ m
      → Tabled s (datagram d) (heard_message s i m)
  unfolding heard_message
  message-row d g i e p NetEntry m =
      let says = j00_said g.network.message_type (first_word d) m in
      by_last (Tabled s (datagram d)) s _ _ _ refl
      (λ b. nothing (not_fine_row g i e p (inl says) (eqb-false _ _ b)))
      (λ b. joined g i e p says (eqb-true _ _ b) (joined-row s (unit_at s i)))
  message-row d g i e p Ppli m =
      let says = ppli_said g.network.message_type (first_word d) m in
      by_last (Tabled s (datagram d)) s 34 (eqb (unit_at s i).state _) (answering 43 (after_ppli s i)) refl
      (λ b. nothing (not_fine_row g i e p (inr (inl says)) (eqb-false _ _ b)))
      (λ b. positioned g i e p says (eqb-true _ _ b) (positioned_row s i sized p.sender.there.place))
  message-row d g i e p Interrogation m = nothing (asked g i e p (ask_said g.network.message_type (first_word d) m))
  message-row d g i e p TimingReply m =
      let says = reply_said g.network.message_type (first_word d) m in
      let u = unit_at s i in
      by_last (Tabled s (datagram d)) s 34 (eqb u.state _) (cond (counts_for s.own u) (answering 47 (after_timing s)) (answering 44 s)) refl
      (λ b. nothing (not_fine_row g i e p (inr (inr says)) (eqb-false _ _ b)))
      (λ b.
      by_cond (Tabled s (datagram d)) (counts_for s.own u)
      (λ c. counted g i e p says (eqb-true _ _ b) (counting s u c) (counted-row s))
      (λ c. nothing (uncounted g i e p says (eqb-true _ _ b) (λ w. true≢false (sym (counts_for_lem s u w) ∙ c)))))
  message-row d g i e p Other m =
      let says = other_said g.network.message_type (first_word d) m in
      by_last (Tabled s (datagram d)) s 35 ((unit_at s i).inside && is_fine (state_of s)) (answering 44 s) refl
      (λ b. nothing (not_in_row g i e p says (λ x y. true≢false (sym (rw (x, y)) ∙ b))))
      (λ b.
      let w = both_true (unit_at s i).inside (is_fine (state_of s)) b in
      nothing (passed g i e p says w.0 (is_fine_lem (state_of s) w.1)))

  signal-row : (d : List ℕ) (g : Signal) → IsSignal d g → Tabled s (datagram d) (heard_signal s g (first_word d))
  unfolding heard_signal signal_rules
  signal-row d g e =
      let key = key_of g.header in
      let i = place_of s key in
      let says = message_of g.network.message_type (first_word d) in
      let out = heard_message s i says in
      let same_net = eqb g.network.net (net_of s) in
      let r32 = 32 given_when not same_net in
      let r33 = 33 given_when other_id (id_of s) (sender_of s g).id in
      by_rule (Tabled s (datagram d)) s 31 (not (known s key)) (r32 ∷ r33 ∷ []) out refl
      (λ a. nothing (stranger g e (stranger_unknown s key (not-true (known s key) a))))
      (λ a.
      let from = sender_known s key (not-false (known s key) a) in
      by_rule (Tabled s (datagram d)) s 32 (not same_net) (r33 ∷ []) out refl
      (λ b. nothing (other_net g i e from (eqb-false _ _ (not-true same_net b))))
      (λ b.
      let net = eqb-true _ _ (not-false same_net b) in
      by_rule (Tabled s (datagram d)) s 33 (other_id (id_of s) (sender_of s g).id) [] out refl
      (λ x. nothing (other_id_row g i e from net (clash (id_of s) (unit_at s i).id x)))
      (λ x. message-row d g i e (record { sender = from; net = net; ids = agree (id_of s) (unit_at s i).id x }) says refl)))

  datagram_row : (d : List ℕ) (r : Reading) → reading d ≡ r → Tabled s (datagram d) (step s r (first_word d))
  unfolding step
  datagram_row d (Refused n) e = nothing (unread n e)
  datagram_row d (a_transmitter t) e = transmitter-row d t e
  datagram_row d (a_signal g n) e = signal-row d g (n, e)

  pub only_by_rules : (c : Call) → OnlyByRules s c
  unfolding heard clocked
  only_by_rules (datagram d) = datagram_row d (reading d) refl
  only_by_rules (time t) =
      by_rule (Tabled s (time t)) s _ _ [] _ refl
      (λ b. nothing (back (ltb-true _ _ b)))
      (λ b. ticked (ltb-false _ _ b) (ticked-row s t))
