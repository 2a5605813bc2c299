-- A retry loop that gets everything through (`retries`): the near end sends the lowest number that it holds, the record is handed over, and the
-- reply is handed back. From every line that a fair list of calls reached, whatever was lost before, at most eight such rounds leave nothing
-- unacknowledged, so that everything accepted is put out. Each round raises the acknowledged count, by what the invariant makes sure of.
-- Assumes nothing.
use Prim.Native.Nat.{ℕ, zero, suc, ◌+◌, ◌≤◌, ◌<◌}
use mathlib.Core.Path.{◌≡◌, refl, sym, ap, subst, ◌∙◌}
use mathlib.Core.Bool.{Bool, true, false, cond}
use mathlib.Core.List.Memᴰ
use mathlib.Core.List.{List, [], ◌++◌, append-nil, Memᴰ}
use lib.ListN.{length, take}
use lib.Seq.{take_all}
use lib.Dec.{ltb}
use native.Mathlib.Omega.{arith}
use borrow.Author.Tests.{ltb-true, ltb-false}
use Rattle.station.specs.declared.Station.{Station}
use Rattle.station.specs.declared.Settings.{Settings}
use Rattle.std.specs.Prelude.{Result, Ok}
use Rattle.trunk.specs.Refusals.{Refusal}
use Rattle.trunk.specs.Head.{head_size}
use Rattle.trunk.specs.Kinds.{longest_pdu}
use Rattle.trunk.specs.Near.{row_size, sent, sent_out, replied}
use Rattle.trunk.specs.Line.{send_made, Call, send, Line, start, step, run, accepted, acknowledged, written}
use Rattle.trunk.specs.Line.{written_by, Fair}
use Rattle.trunk.specs.Demand.{count}
use Rattle.trunk.specs.Retries.{round, after_round, rounds, Through}
use Rattle.trunk.proofs.Progress.{sent_next, replied_next, acknowledged_next}
use Rattle.trunk.proofs.Demand3.{StandsAt, run_stands, start_stands}

-- what one round brings it to
record Further (l : Line) (calls : List Call) : Type 0 where
  fair : Fair l calls
  same : accepted (run l calls).log ≡ accepted l.log
  further : l.near.acknowledged < (run l calls).near.acknowledged

-- what a send wrote, by the size answered
just_sent : (i : ℕ) {n : ℕ} {a : Result ℕ Refusal} {r : List ℕ} (out : List ℕ) → a ≡ Ok n → take n out ≡ r → Memᴰ r (written_by (send_made i a out))
just_sent i {r} out e same = subst (λ (x : Result ℕ Refusal). Memᴰ r (written_by (send_made i x out))) (sym e) (Memᴰ.head (sym same))

-- where nothing is held, everything accepted is acknowledged and put out
at_rest : {station : Station} (l : Line) → StandsAt station l → l.near.accepted ≤ l.near.acknowledged → Through l []
at_rest l s none =
    let h = s.holds in
    let c = h.counts in
    record {
      fair = tt;
      same = refl;
      all_acknowledged = omega (arith, c.near_accepted, c.near_acknowledged, c.acknowledged_put_out, c.put_out_accepted);
      all_put_out =
          h.in_order
          ∙ take_all (count l.log) (accepted l.log)
          (omega (arith, c.near_accepted, c.near_acknowledged, c.acknowledged_put_out));
    }

module _ (buffer reply out : List ℕ) (long : row_size ≤ length buffer) (fits : head_size ≤ length reply) (room : longest_pdu ≤ length out) where
  one_round : {station : Station} (l : Line) → StandsAt station l → l.near.acknowledged < l.near.accepted → Further l (round l buffer reply out)
  unfolding sent
  one_round l s more =
      let h = s.holds in
      let c = h.counts in
      let a : ℕ = l.near.acknowledged in
      let low : acknowledged l.log ≤ a = omega (arith, c.near_acknowledged) in
      let below : a < length (accepted l.log) = omega (arith, c.near_accepted) in
      let up_to : a ≤ count l.log = omega (arith, c.near_acknowledged, c.acknowledged_put_out) in
      let sending = sent_next h a buffer low below long in
      let answer = replied_next h a reply out below up_to fits room in
      let acknowledging =
      ap (λ (r : List ℕ). (replied l.near r).near.acknowledged) answer.reply_is
      ∙ acknowledged_next h answer.number (omega (arith, answer.above)) answer.accepted in
      let sent_there = just_sent a (sent_out l.near l.store a buffer) sending.0 sending.1 in
      record {
        fair = (
          tt,
          (
            Memᴰ.append_right (written l.log) sent_there,
            (Memᴰ.append_right (written (step l (send a buffer)).log) answer.written, tt),
          ),
        );
        same = append-nil _ ∙ append-nil _ ∙ append-nil (accepted l.log);
        further = omega (arith, acknowledging, answer.above);
      }

  -- a round, and what the rest brings the line to after it
  round_then :
      (l : Line) (calls : List Call)
      → Further l (round l buffer reply out)
      → Through (after_round l buffer reply out) calls
      → Through l (round l buffer reply out ++ calls)
  round_then l calls r t =
      record {
        fair = (r.fair.0, (r.fair.1.0, (r.fair.1.1.0, t.fair)));
        same = t.same ∙ r.same;
        all_acknowledged = t.all_acknowledged ∙ ap length r.same;
        all_put_out = t.all_put_out ∙ r.same;
      }

  -- as many rounds as numbers are held
  through :
      {station : Station} (n : ℕ) (l : Line)
      → StandsAt station l
      → l.near.accepted ≤ l.near.acknowledged + n
      → Through l (rounds n l buffer reply out)
  unfolding rounds
  through zero l s few = at_rest l s (omega arith)
  through {station} (suc n) l s few = by (through n (after_round l buffer reply out)) (ltb l.near.acknowledged l.near.accepted) refl
    where
      l' : Line
      l' = after_round l buffer reply out

      by :
          (StandsAt station l' → l'.near.accepted ≤ l'.near.acknowledged + n → Through l' (rounds n l' buffer reply out))
          → (b : Bool)
          → ltb l.near.acknowledged l.near.accepted ≡ b
          → Through l (cond b (round l buffer reply out ++ rounds n l' buffer reply out) [])
      by rest true e =
          let r = one_round l s (ltb-true _ _ e) in
          let s' = run_stands l (round l buffer reply out) r.fair s in
          let still : l'.near.accepted ≡ l.near.accepted =
          s'.holds.counts.near_accepted ∙ ap length r.same ∙ sym s.holds.counts.near_accepted in
          round_then l (rounds n l' buffer reply out) r (rest s' (omega (arith, r.further, still)))
      by rest false e = at_rest l s (ltb-false _ _ e)

-- From every line that a fair list reached, with lent buffers of any content that have room, eight rounds at most leave nothing unacknowledged.
pub retries :
    (settings : Settings) (store : List ℕ) (calls : List Call)
    → Fair (start settings store) calls
    → (buffer reply out : List ℕ)
    → 192 ≤ length buffer
    → 5 ≤ length reply
    → 180 ≤ length out
    → Through (run (start settings store) calls) (rounds 8 (run (start settings store) calls) buffer reply out)
retries settings store calls fair buffer reply out long fits room =
    let s = run_stands (start settings store) calls fair (start_stands settings store) in
    let c = s.holds.counts in
    through buffer reply out long fits room _ (run (start settings store) calls) s
    (omega (arith, c.near_accepted, c.near_acknowledged, c.window))
