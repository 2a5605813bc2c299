-- Two loops that get everything through, whatever was lost before, and what they bring a line to. The first hands over record k and its reply
-- in turn (`alternating`); the second sends the lowest number held, hands its record over and its reply back (`rounds`).
use Rattle.std.specs.Prelude.{ℕ, zero, suc, ◌<◌, ◌≡◌, ◌⊎◌, cond, List, [], ◌∷◌, ◌++◌, length, take, ltb}
use Rattle.trunk.specs.Far.{reply_after}
use Rattle.trunk.specs.Line.{Call, send, to_near, to_far, Line, run, accepted, put_out, Fair}
use Rattle.trunk.specs.Demand.{record_at, count, handover}

-- ---- record k and its reply in turn

-- at most n times, as long as k is below accepted
unfoldable pub alternating : ℕ → Line → List ℕ → List ℕ → List Call
alternating zero l reply out = []
alternating (suc n) l reply out =
    cond (ltb (count l.log) (length (accepted l.log)))
    (handover l reply out ++ alternating n (run l (handover l reply out)) reply out)
    []

-- what such calls bring a line to
pub record Delivers (l : Line) (calls : List Call) : Type 0 where
  -- they go on with a fair list
  pub fair : Fair l calls
  -- nothing more is accepted
  pub same : accepted (run l calls).log ≡ accepted l.log
  -- everything accepted is put out
  pub all_put_out : put_out (run l calls).log ≡ accepted l.log
  -- and all of it is acknowledged, if something was still to be put out, or no reply was missing
  pub all_acknowledged :
      (count l.log < length (accepted l.log)) ⊎ (l.near.acknowledged ≡ count l.log)
      → (run l calls).near.acknowledged ≡ length (accepted l.log)

-- ---- the lowest number held, again and again

-- one round: send it, hand over its record, hand back the reply
abbrev pub round : Line → List ℕ → List ℕ → List ℕ → List Call
round l buffer reply out =
    send l.near.acknowledged buffer
    ∷ to_far (record_at l.log l.near.acknowledged) reply out
    ∷ to_near (take 5 (reply_after l.far (record_at l.log l.near.acknowledged) reply (length out)))
    ∷ []

abbrev pub after_round : Line → List ℕ → List ℕ → List ℕ → Line
after_round l buffer reply out = run l (round l buffer reply out)

-- at most n rounds, as long as something is held
unfoldable pub rounds : ℕ → Line → List ℕ → List ℕ → List ℕ → List Call
rounds zero l buffer reply out = []
rounds (suc n) l buffer reply out =
    cond (ltb l.near.acknowledged l.near.accepted)
    (round l buffer reply out ++ rounds n (after_round l buffer reply out) buffer reply out)
    []

-- what such calls bring a line to: they are fair, nothing more is accepted, and everything accepted is acknowledged and put out
pub record Through (l : Line) (calls : List Call) : Type 0 where
  pub fair : Fair l calls
  pub same : accepted (run l calls).log ≡ accepted l.log
  pub all_acknowledged : (run l calls).near.acknowledged ≡ length (accepted l.log)
  pub all_put_out : put_out (run l calls).log ≡ accepted l.log
