-- The retry loop in its plainest form: record k and its reply are handed over in turn, as long as k is below accepted. After every fair list of
-- calls, whatever was lost before, at most eight such turns put out everything accepted. Read off `demand3` alone: each turn goes on with a fair
-- list, so demand 3 holds after it, and by `next` k has grown.
-- Assumes nothing.
use Prim.Native.Nat.{ℕ, zero, suc, ◌+◌, ◌≤◌, ◌<◌}
use mathlib.Core.Path.{◌≡◌, refl, sym, ap, ◌∙◌}
use mathlib.Core.Logic.{inl, inr}
use mathlib.Core.Bool.{Bool, true, false, cond}
use mathlib.Core.List.{List, [], ◌∷◌, ◌++◌, append-nil}
use lib.ListN.{length, drop, length-append}
use lib.Seq.{take_all}
use lib.Dec.{ltb}
use native.Mathlib.Omega.{arith}
use borrow.Author.Tests.{ltb-true, ltb-false}
use Rattle.station.specs.Units.{made}
use Rattle.station.specs.declared.Station.{Station}
use Rattle.station.specs.declared.Settings.{Settings}
use Rattle.std.specs.Prelude.{Ok, Err}
use Rattle.trunk.specs.Head.{head_size}
use Rattle.trunk.specs.Kinds.{longest_pdu}
use Rattle.trunk.specs.Line.{Entry, offer_made, send_made, reply_heard, record_heard, clock_set, Call, Line, start, step, run, accepted}
use Rattle.trunk.specs.Line.{put_out, put_out_by, Fair}
use Rattle.trunk.specs.Demand.{count, handover, Demand3}
use Rattle.trunk.specs.Retries.{alternating, Delivers}
use Rattle.trunk.specs.declared.Arrival.TheVariants.{Delivered, Repeat, Early}
use Rattle.trunk.proofs.Demand3.{demand3}

-- demand 3 holds after every fair list of further calls
Always : Station → Line → Type 0
Always station l = (calls : List Call) → Fair l calls → Demand3 station (run l calls)

always_after : (station : Station) (l : Line) (calls : List Call) → Fair l calls → Always station l → Always station (run l calls)
unfolding Always
always_after station l [] f always = always
always_after station l (c ∷ cs) f always =
    always_after station (step l c) cs f.1 (λ more g. always (c ∷ more) (f.0, g))

-- one call puts out at most one PDU
one_put_out : (e : Entry) → length (put_out_by e) ≤ 1
one_put_out (offer_made d a store) = omega arith
one_put_out (send_made i a out) = omega arith
one_put_out (reply_heard r a) = omega arith
one_put_out (record_heard r (Err e) reply out) = omega arith
one_put_out (record_heard r (Ok (Delivered size answer)) reply out) = omega arith
one_put_out (record_heard r (Ok Repeat) reply out) = omega arith
one_put_out (record_heard r (Ok Early) reply out) = omega arith
one_put_out (clock_set t a) = omega arith

one_more : (log : List Entry) → count log ≤ count (drop 1 log) + 1
one_more [] = omega arith
one_more (e ∷ log) = let longer = length-append (put_out log) (put_out_by e) in omega (arith, longer, one_put_out e)

module _ (station : Station) (reply out : List ℕ) (fits : head_size ≤ length reply) (room : longest_pdu ≤ length out) where
  -- where k is no longer below accepted
  at_rest : (l : Line) → Demand3 station l → length (accepted l.log) ≤ count l.log → Delivers l []
  at_rest l d none =
      record {
        fair = tt;
        same = refl;
        all_put_out = d.in_order ∙ take_all (count l.log) (accepted l.log) none;
        all_acknowledged = λ before.
            elim before
            [ inl more ↦ absurd (omega (arith, more)) | inr level ↦ omega (arith, level, d.put_out_accepted) ];
      }

  -- one turn: fair, and k has grown by one, acknowledged
  record Turned (l : Line) : Type 0 where
    fair : Fair l (handover l reply out)
    same : accepted (run l (handover l reply out)).log ≡ accepted l.log
    grown : count (run l (handover l reply out)).log ≡ count l.log + 1
    level : (run l (handover l reply out)).near.acknowledged ≡ count l.log + 1

  turned : (l : Line) → Always station l → count l.log < length (accepted l.log) → Turned l
  unfolding Always
  turned l always more =
      let l' : Line = run l (handover l reply out) in
      let d = always [] tt in
      let fair = d.next_fair more reply out fits room in
      let level = d.next more reply out fits room in
      let d' = always (handover l reply out) fair in
      let nothing = ap length (append-nil (put_out (drop 1 l'.log))) in
      let one = one_more (drop 1 l'.log) in
      record {
        fair = fair;
        same = append-nil _ ∙ append-nil (accepted l.log);
        grown = omega (arith, nothing, one, level, d'.near_acknowledged, d'.acknowledged_put_out);
        level = level;
      }

  -- as many turns as there are PDUs to put out
  delivers : (n : ℕ) (l : Line) → Always station l → length (accepted l.log) ≤ count l.log + n → Delivers l (alternating n l reply out)
  unfolding alternating Always
  delivers zero l always few = at_rest l (always [] tt) (omega arith)
  delivers (suc n) l always few = by (delivers n l') (ltb (count l.log) (length (accepted l.log))) refl
    where
      l' : Line
      l' = run l (handover l reply out)

      by :
          (Always station l' → length (accepted l'.log) ≤ count l'.log + n → Delivers l' (alternating n l' reply out))
          → (b : Bool)
          → ltb (count l.log) (length (accepted l.log)) ≡ b
          → Delivers l (cond b (handover l reply out ++ alternating n l' reply out) [])
      by rest true e =
          let t = turned l always (ltb-true _ _ e) in
          let still = ap length t.same in
          let r = rest (always_after station l (handover l reply out) t.fair always) (omega (arith, few, still, t.grown)) in
          record {
            fair = (t.fair.0, (t.fair.1.0, r.fair));
            same = r.same ∙ t.same;
            all_put_out = r.all_put_out ∙ t.same;
            all_acknowledged = λ before. r.all_acknowledged (inr (t.level ∙ sym t.grown)) ∙ still;
          }
      by rest false e = at_rest l (always [] tt) (ltb-false _ _ e)

-- From every line that a fair list reached, with lent buffers of any content that have room, eight turns at most put out everything accepted.
pub alternating_delivers :
    (settings : Settings) (store : List ℕ) (calls : List Call)
    → Fair (start settings store) calls
    → (reply out : List ℕ)
    → 5 ≤ length reply
    → 180 ≤ length out
    → Delivers (run (start settings store) calls) (alternating 8 (run (start settings store) calls) reply out)
unfolding Always
alternating_delivers settings store calls fair reply out fits room =
    let station : Station = (made settings).station in
    let d = demand3 settings store calls fair in
    delivers station reply out fits room _ (run (start settings store) calls)
    (always_after station (start settings store) calls fair (demand3 settings store))
    (omega (arith, d.window, d.acknowledged_put_out))
