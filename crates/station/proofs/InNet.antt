-- When a station is in the net. Over any list of calls from a station that the maker gives, the state leaves Waiting exactly by a J0.0 that was
-- taken, and becomes Fine exactly by one where not both levels are 4, or by the last of as many timing replies that count as the station has
-- exchanges. Each call is a row of the table, and only the rows of answers 42 and 47 touch the state and the count (`Moved`); the count is that of the
-- answers 47 (`count-run`); the laws of lists of calls do the rest.
-- Assumes nothing.
use Prim.Native.Nat.{ℕ, ◌+◌, ◌<◌, ◌≤◌}
use mathlib.Core.Path.{◌≡◌, refl, sym, ap, ◌∙◌, subst}
use mathlib.Core.Bool.{cond}
use mathlib.Core.List.{List, [], ◌∷◌}
use mathlib.Core.Logic.{◌⊎◌, inl, inr, ⊎_elim}
use lib.Dec.{eqb}
use borrow.Author.Tests.{eq-eqb, ne_eqb, lt-ltb}
use native.Mathlib.Omega.{arith}
use Rattle.station.specs.Answers.{number}
use Rattle.station.specs.Units.{net_of, exchanges_of, count_of, id_of, state_of, key_of, fresh, made, unit_at}
use Rattle.station.specs.Plain.{Sized}
use Rattle.station.specs.Hearing.{answering, signal_rules, after_j00, after_timing, heard_message, heard_signal, step, first_word, heard}
use Rattle.station.specs.Runs.{Call, called, answered, after}
use Rattle.station.specs.Table.{Joined, Counted, Unchanged, unread}
use Rattle.station.specs.Table.{Table, nothing, entered, again, joined, positioned, counted, ticked}
use Rattle.station.specs.Claims.{Joins, Answered42, Some, here, later, JoinsFine, Answered, Counts, Answered47, times, InNet, InRange}
use Rattle.station.specs.declared.State.{State}
use Rattle.station.specs.declared.State.TheVariants.{Waiting, Coarse, Fine}
use Rattle.station.specs.declared.Settings.{Settings}
use Rattle.station.specs.declared.Own.{Own}
use Rattle.station.specs.declared.Standing.{Standing}
use Rattle.station.specs.declared.Unit.{Unit}
use Rattle.station.specs.declared.Station.{Station}
use Rattle.station.specs.declared.Heard.{Heard}
use Rattle.station.proofs.ReaderLaws.{refused-not}
use Rattle.station.proofs.PlaceLaws.{sender_place, agreeing, says_j00, says_reply}
use Rattle.station.proofs.Table.{joined-row, counted-row, counts_for_lem, only_by_rules}
use Rattle.station.proofs.Changes.{less_or-not}
use Rattle.station.proofs.Ways.{Ways, to_coarse, as_it_was, to_fine, ways, coarse≢waiting, fine≢waiting, fine≢coarse}
use Rattle.station.proofs.RunLaws.{of_made, sized_after, settings_kept, kept_by_all, made_by_some, traced, some_are}

-- ---- a J0.0 that is taken

-- what such a J0.0 is answered and does
joins_outcome : (s : Station) (c : Call) (j : Joins s c) → called s c ≡ answering 42 (after_j00 s (unit_at s j.place))
unfolding heard step heard_signal signal_rules heard_message
joins_outcome s c j =
    let g = j.signal in
    let i = j.place in
    rw (
      j.call,
      j.read.1,
      sender_place s (key_of g.header) i j.passed.sender,
      lt-ltb _ _ j.passed.sender.there.place,
      eq-eqb g.network.net (net_of s) j.passed.net,
      agreeing (id_of s) (unit_at s i).id j.passed.ids,
      says_j00 g.network.message_type (first_word j.bytes) j.says,
      eq-eqb _ _ j.fine,
    )

joins_joined : (s : Station) (c : Call) (j : Joins s c) → Joined s (unit_at s j.place) (called s c).station
joins_joined s c j =
    let u = unit_at s j.place in
    subst (λ (h : Heard). Joined s u h.station) (sym (joins_outcome s c j)) (joined-row s u)

-- what a timing reply that counts is answered and does
counts_outcome : (s : Station) (c : Call) (k : Counts s c) → called s c ≡ answering 47 (after_timing s)
unfolding heard step heard_signal signal_rules heard_message
counts_outcome s c k =
    let g = k.signal in
    let i = k.place in
    rw (
      k.call,
      k.read.1,
      sender_place s (key_of g.header) i k.passed.sender,
      lt-ltb _ _ k.passed.sender.there.place,
      eq-eqb g.network.net (net_of s) k.passed.net,
      agreeing (id_of s) (unit_at s i).id k.passed.ids,
      says_reply g.network.message_type (first_word k.bytes) k.says,
      eq-eqb _ _ k.fine,
      counts_for_lem s (unit_at s i) k.counting,
    )

-- ---- one call

-- no row that changes nothing has one of the two answers
abbrev Touches : ℕ → Type 0
Touches n = (n ≡ 42) ⊎ (n ≡ 47)

untouched : {s : Station} {c : Call} {n : ℕ} → Unchanged s c n → Touches n → ⊥
untouched (unread {d = d} n e) q =
    ⊎_elim (λ q. refused-not d n 42 e (omega arith) (omega arith) q) (λ q. refused-not d n 47 e (omega arith) (omega arith) q) q
untouched row q = ⊎_elim (λ q. omega arith) (λ q. omega arith) q

-- a call leaves the state and the count as they were, is a J0.0 that was taken, or is a timing reply that counts
data Moved (s : Station) (c : Call) (n : ℕ) (s' : Station) : Type 0 where
  still : (Touches n → ⊥) → s'.own.standing ≡ s.own.standing → Moved s c n s'
  moves : (j : Joins s c) → n ≡ 42 → Joined s (unit_at s j.place) s' → Moved s c n s'
  adds : (k : Counts s c) → n ≡ 47 → Counted s s' → Moved s c n s'

moved : (s : Station) → Sized s → (c : Call) → Moved s c (answered s c) (called s c).station
moved s sized c = go (only_by_rules s sized c)
  where
    neither : {n : ℕ} → (n ≡ 42 → ⊥) → (n ≡ 47 → ⊥) → Touches n → ⊥
    neither a b q = ⊎_elim a b q

    same : {own own' : Own} → own' ≡ own → own'.standing ≡ own.standing
    same e = ap (λ (o : Own). o.standing) e

    go : {c : Call} {n : ℕ} {s' : Station} → Table s c n s' → Moved s c n s'
    go (nothing row) = still (untouched row) refl
    go (entered t i e x y z) = still (neither (λ q. omega arith) (λ q. omega arith)) (same z.own)
    go (again t i e x y) = still (neither (λ q. omega arith) (λ q. omega arith)) (same y.own)
    go (joined {d = d} g i e x y z u) =
        moves (record { bytes = d; signal = g; place = i; call = refl; read = e; passed = x; says = y; fine = z }) refl u
    go (positioned g i e x y z u) = still (neither (λ q. omega arith) (λ q. omega arith)) (same u.own)
    go (counted {d = d} g i e x y z v u) =
        adds (record { bytes = d; signal = g; place = i; call = refl; read = e; passed = x; says = y; fine = z; counting = v }) refl u
    go (ticked x y) = still (neither (λ q. omega arith) (λ q. omega arith)) y.standing

pub answered_42 : (s : Station) → Sized s → (c : Call) → Answered42 s c
answered_42 s sized c = (λ e. go (moved s sized c) e, λ j. ap (λ (h : Heard). number h.answer) (joins_outcome s c j))
  where
    go : {n : ℕ} {s' : Station} → Moved s c n s' → n ≡ 42 → Joins s c
    go (still none e) q = absurd (none (inl q))
    go (moves j e w) q = j
    go (adds k e w) q = absurd (omega arith)

pub answered_47 : (s : Station) → Sized s → (c : Call) → Answered47 s c
answered_47 s sized c = (λ e. go (moved s sized c) e, λ k. ap (λ (h : Heard). number h.answer) (counts_outcome s c k))
  where
    go : {n : ℕ} {s' : Station} → Moved s c n s' → n ≡ 47 → Counts s c
    go (still none e) q = absurd (none (inr q))
    go (moves j e w) q = absurd (omega arith)
    go (adds k e w) q = k

-- ---- in the net

-- not Waiting
abbrev Entered? : Station → Type 0
Entered? s = state_of s ≡ Waiting → ⊥

abbrev IsFine : Station → Type 0
IsFine s = state_of s ≡ Fine

-- where the standing is as it was, so are the state and the count
same_state : {a b : Standing} → b ≡ a → b.state ≡ a.state
same_state e = ap (λ (st : Standing). st.state) e

same_count : {a b : Standing} → b ≡ a → b.count ≡ a.count
same_count e = ap (λ (st : Standing). st.count) e

-- a J0.0 that is taken brings the station in, and to Fine where not both levels are 4
joined_in : {s : Station} {u : Unit} {s' : Station} → Joined s u s' → Entered? s'
joined_in {s = s} {u = u} {s' = s'} w e = go (ways w)
  where
    go : Ways s u s' → ⊥
    go (to_coarse b w v) = coarse≢waiting v e
    go (as_it_was b w v) = w (sym v ∙ e)
    go (to_fine b v) = fine≢waiting v e

joins_in : (s : Station) → Sized s → (c : Call) → Joins s c → Entered? (called s c).station
joins_in s sized c j = joined_in (joins_joined s c j)

joins_fine : (s : Station) → Sized s → (c : Call) → JoinsFine s c → IsFine (called s c).station
joins_fine s sized c j = (joins_joined s c j.joins).fine j.levels

-- a reply that counts leaves the station Coarse or Fine
counted_in : {s s' : Station} → Counted s s' → Entered? s'
counted_in {s = s} w e =
    ⊎_elim (λ (h : count_of s + 1 < exchanges_of s). coarse≢waiting (w.coarse h) e) (λ h. fine≢waiting (w.fine h) e)
    (less_or-not (count_of s + 1) (exchanges_of s))

-- a call lets no station out of the net, and none that is Fine be less
stays_in : (s : Station) → Sized s → (c : Call) → Entered? s → Entered? (called s c).station
stays_in s sized c w e = go (moved s sized c)
  where
    go : {n : ℕ} → Moved s c n (called s c).station → ⊥
    go (still none v) = w (sym (same_state v) ∙ e)
    go (moves j n v) = joined_in v e
    go (adds k n v) = counted_in v e

stays-fine : (s : Station) → Sized s → (c : Call) → IsFine s → IsFine (called s c).station
stays-fine s sized c f = go (moved s sized c)
  where
    at : {u : Unit} {s' : Station} → Ways s u s' → IsFine s'
    at (to_coarse b w v) = absurd (fine≢waiting f w)
    at (as_it_was b w v) = v ∙ f
    at (to_fine b v) = v

    go : {n : ℕ} {s' : Station} → Moved s c n s' → IsFine s'
    go (still none v) = same_state v ∙ f
    go (moves j n v) = at (ways v)
    go (adds k n v) = absurd (fine≢coarse f k.counting.state)

-- whoever is in the net after a call was in it before, or the call was such a J0.0
brought_in : (s : Station) → Sized s → (c : Call) → Entered? (called s c).station → Entered? s ⊎ Joins s c
brought_in s sized c w = go (moved s sized c)
  where
    go : {n : ℕ} → Moved s c n (called s c).station → Entered? s ⊎ Joins s c
    go (still none v) = inl (λ q. w (same_state v ∙ q))
    go (moves j n v) = inr j
    go (adds k n v) = inl (coarse≢waiting k.counting.state)

-- ---- the count

-- what is so of every station on the way: it has an exchange; while Waiting nothing is counted; while Coarse the count is below the exchanges
record Timed (s : Station) : Type 0 where
  some : 1 ≤ exchanges_of s
  waiting : state_of s ≡ Waiting → count_of s ≡ 0
  coarse : state_of s ≡ Coarse → count_of s < exchanges_of s

same_exchanges : {a b : Settings} → b ≡ a → b.exchanges ≡ a.exchanges
same_exchanges e = ap (λ (g : Settings). g.exchanges) e

keeps_timed : (s : Station) → Sized s → (c : Call) → Timed s → Timed (called s c).station
keeps_timed s sized c t = go (moved s sized c) (same_exchanges (settings_kept s sized c))
  where
    after-join : {u : Unit} {s' : Station} → Joined s u s' → Ways s u s' → exchanges_of s' ≡ exchanges_of s → Timed s'
    after-join j (to_coarse b w v) e = record {
      some = omega (arith, t.some);
      waiting = λ q. absurd (coarse≢waiting v q);
      coarse = λ q. omega (arith, j.count_zero b.0 b.1 w, t.some);
    }
    after-join j (as_it_was b w v) e = record {
      some = omega (arith, t.some);
      waiting = λ q. absurd (w (sym v ∙ q));
      coarse = λ q. omega (arith, j.count_kept (λ o p r. w r), t.coarse (sym v ∙ q));
    }
    after-join j (to_fine b v) e = record {
      some = omega (arith, t.some);
      waiting = λ q. absurd (fine≢waiting v q);
      coarse = λ q. absurd (fine≢coarse v q);
    }

    after-count : {s' : Station} → Counted s s' → state_of s ≡ Coarse → exchanges_of s' ≡ exchanges_of s → Timed s'
    after-count w st e = record {
      some = omega (arith, t.some);
      waiting = λ q. absurd (counted_in w q);
      coarse = λ q.
          ⊎_elim
          (λ (h : count_of s + 1 < exchanges_of s). omega (arith, w.one_more (omega arith)))
          (λ h. absurd (fine≢coarse (w.fine h) q))
          (less_or-not (count_of s + 1) (exchanges_of s));
    }

    go : {n : ℕ} {s' : Station} → Moved s c n s' → exchanges_of s' ≡ exchanges_of s → Timed s'
    go (still none v) e = record {
      some = omega (arith, t.some);
      waiting = λ q. same_count v ∙ t.waiting (sym (same_state v) ∙ q);
      coarse = λ q. omega (arith, same_count v, t.coarse (sym (same_state v) ∙ q));
    }
    go (moves j n v) e = after-join v (ways v) e
    go (adds k n v) e = after-count v k.counting.state e

-- one call adds one exactly where it is answered 47
count-step : (s : Station) → Sized s → (c : Call) → Timed s → count_of (called s c).station ≡ cond (eqb (answered s c) 47) 1 0 + count_of s
count-step s sized c t = go (moved s sized c)
  where
    at : {u : Unit} {s' : Station} → Joined s u s' → Ways s u s' → count_of s' ≡ count_of s
    at j (to_coarse b w v) = j.count_zero b.0 b.1 w ∙ sym (t.waiting w)
    at j (as_it_was b w v) = j.count_kept (λ o p r. w r)
    at j (to_fine b v) = j.count_kept (λ o p r. b o p)

    go : {n : ℕ} {s' : Station} → Moved s c n s' → count_of s' ≡ cond (eqb n 47) 1 0 + count_of s
    go {n = n} (still none v) = same_count v ∙ rw (ne_eqb n 47 (λ q. none (inr q))) (omega arith)
    go {n = n} (moves j q v) = at v (ways v) ∙ rw (ne_eqb n 47 (λ r. omega arith)) (omega arith)
    go {n = n} (adds k q v) = v.one_more (t.coarse k.counting.state) ∙ rw (eq-eqb n 47 q) (omega arith)

count-run : (s : Station) (cs : List Call) → Sized s → Timed s → count_of (after s cs) ≡ times 47 s cs + count_of s
count-run s [] sized t = omega arith
count-run s (c ∷ cs) sized t =
    let rest = count-run (called s c).station cs (sized_after s sized c) (keeps_timed s sized c t) in
    omega (arith, rest, count-step s sized c t)

exchanges_run : (s : Station) (cs : List Call) → Sized s → exchanges_of (after s cs) ≡ exchanges_of s
exchanges_run s [] sized = refl
exchanges_run s (c ∷ cs) sized =
    exchanges_run (called s c).station cs (sized_after s sized c) ∙ same_exchanges (settings_kept s sized c)

-- ---- Fine

-- the last reply that counts
record Completes (s : Station) (c : Call) : Type 0 where
  counts : Counts s c
  last : exchanges_of s ≤ count_of s + 1

brought_fine : (s : Station) → Sized s → (c : Call) → IsFine (called s c).station → IsFine s ⊎ (JoinsFine s c ⊎ Completes s c)
brought_fine s sized c f = go (moved s sized c)
  where
    at : (j : Joins s c) → Ways s (unit_at s j.place) (called s c).station → IsFine s ⊎ (JoinsFine s c ⊎ Completes s c)
    at j (to_coarse b w v) = absurd (fine≢coarse f v)
    at j (as_it_was b w v) = inl (sym v ∙ f)
    at j (to_fine b v) = inr (inl (record { joins = j; levels = b }))

    go : {n : ℕ} → Moved s c n (called s c).station → IsFine s ⊎ (JoinsFine s c ⊎ Completes s c)
    go (still none v) = inl (sym (same_state v) ∙ f)
    go (moves j n v) = at j (ways v)
    go (adds k n v) =
        ⊎_elim
        (λ (h : count_of s + 1 < exchanges_of s). absurd (fine≢coarse f (v.coarse h)))
        (λ h. inr (inr (record { counts = k; last = h })))
        (less_or-not (count_of s + 1) (exchanges_of s))

-- Fine with all exchanges counted, and it stays so
abbrev Complete : Station → Type 0
Complete s = IsFine s × (count_of s ≡ exchanges_of s)

completes : (s : Station) → Sized s → (c : Call) → Completes s c → Complete (called s c).station
completes s sized c k =
    let w = subst (λ (h : Heard). Counted s h.station) (sym (counts_outcome s c k.counts)) (counted-row s) in (
      w.fine k.last,
      ⊎_elim
          (λ (h : count_of s < exchanges_of s). omega (arith, w.one_more h, same_exchanges w.settings, k.last))
          (λ h. omega (arith, w.at_most h, same_exchanges w.settings))
          (less_or-not (count_of s) (exchanges_of s)),
    )

stays_complete : (s : Station) → Sized s → (c : Call) → Complete s → Complete (called s c).station
stays_complete s sized c (f, n) = (stays-fine s sized c f, go (moved s sized c) (same_exchanges (settings_kept s sized c)))
  where
    at : {u : Unit} {s' : Station} → Joined s u s' → count_of s' ≡ count_of s
    at j = j.count_kept (λ o p w. fine≢waiting f w)

    go : {m : ℕ} {s' : Station} → Moved s c m s' → exchanges_of s' ≡ exchanges_of s → count_of s' ≡ exchanges_of s'
    go (still none v) e = omega (arith, same_count v)
    go (moves j m v) e = omega (arith, at v)
    go (adds k m v) e = absurd (fine≢coarse f k.counting.state)

-- ---- a list of calls

-- some call of either kind
either_kind : (P Q : Station → Call → Type 0) {s : Station} {cs : List Call} → Some (λ s c. P s c ⊎ Q s c) s cs → Some P s cs ⊎ Some Q s cs
either_kind P Q (here w) = ⊎_elim (λ p. inl (here p)) (λ q. inr (here q)) w
either_kind P Q (later v) = ⊎_elim (λ p. inl (later p)) (λ q. inr (later q)) (either_kind P Q v)

-- from a station that has an exchange and has counted nothing while Waiting
module _ (s : Station) (sized : Sized s) (first : state_of s ≡ Waiting) (timed : Timed s) (calls : List Call) where
  -- the count of the end is that of the answers 47
  tally : count_of (after s calls) ≡ times 47 s calls
  tally = count-run s calls sized timed ∙ omega (arith, timed.waiting first)

  -- where Fine comes from
  fine_from : IsFine (after s calls) → Some JoinsFine s calls ⊎ (times 47 s calls ≡ exchanges_of s)
  fine_from f = go (traced IsFine (λ s c. JoinsFine s c ⊎ Completes s c) brought_fine s calls sized f)
    where
      counted-all : Some Completes s calls → times 47 s calls ≡ exchanges_of s
      counted-all v =
          let w = made_by_some Complete stays_complete Completes completes sized v in
          sym tally ∙ w.1 ∙ exchanges_run s calls sized

      go : IsFine s ⊎ Some (λ s c. JoinsFine s c ⊎ Completes s c) s calls → Some JoinsFine s calls ⊎ (times 47 s calls ≡ exchanges_of s)
      go (inl now) = absurd (fine≢waiting now first)
      go (inr v) = ⊎_elim (λ p. inl p) (λ q. inr (counted-all q)) (either_kind JoinsFine Completes v)

  -- and that both ways lead there
  to_fine_by : Some JoinsFine s calls ⊎ (times 47 s calls ≡ exchanges_of s) → IsFine (after s calls)
  to_fine_by (inl v) = made_by_some IsFine stays-fine JoinsFine joins_fine sized v
  to_fine_by (inr e) = go (state_of (after s calls)) refl
    where
      t : Timed (after s calls)
      t = kept_by_all Timed keeps_timed s calls sized timed

      all : count_of (after s calls) ≡ exchanges_of (after s calls)
      all = tally ∙ e ∙ sym (exchanges_run s calls sized)

      go : (st : State) → state_of (after s calls) ≡ st → IsFine (after s calls)
      go Waiting q = absurd (omega (arith, t.waiting q, t.some, all))
      go Coarse q = absurd (omega (arith, t.coarse q, all))
      go Fine q = q

  in_net_from : InNet s calls
  in_net_from =
      let some_joins : Entered? (after s calls) → Some Joins s calls =
      (λ w. ⊎_elim (λ (v : Entered? s). absurd (v first)) (λ v. v) (traced Entered? Joins brought_in s calls sized w)) in
      let joined_in : Some Joins s calls → Entered? (after s calls) = made_by_some Entered? stays_in Joins joins_in sized in
      record {
        in_net = (some_joins, joined_in);
        answered = (
          λ w. some_are Joins (Answered 42) (λ s sized c. (answered_42 s sized c).1) sized (some_joins w),
          λ v. joined_in (some_are (Answered 42) Joins (λ s sized c. (answered_42 s sized c).0) sized v),
        );
        fine = (fine_from, to_fine_by);
        count = tally;
      }

-- For a station of any settings, as the maker gives it, and any list of datagrams and clocks.
pub in_net_exactly_when : (given : Settings) (calls : List Call) → InNet (made given).station calls
unfolding fresh
in_net_exactly_when given calls = of_made (λ s. InNet s calls) from_fresh given
  where
    from_fresh : (settings : Settings) → InRange settings → InNet (fresh settings) calls
    from_fresh settings fit =
        in_net_from (fresh settings) refl refl
        (record { some = fit.one_exchange; waiting = λ q. refl; coarse = λ q. absurd (coarse≢waiting q refl) })
        calls
