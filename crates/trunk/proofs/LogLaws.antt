-- What a log says, as one record of what demand 3 speaks of (`seen`); and what an entry adds to it, where that is nothing, PDUs accepted, a
-- record written, a PDU put out, or a clock call. The station after one more call, and its answers, follow from those before.
-- Assumes nothing.
use Prim.Native.Nat.{ℕ}
use mathlib.Core.Path.{◌≡◌, refl, ap}
use mathlib.Core.List.{List, [], ◌∷◌, ◌++◌, append-nil, append_assoc}
use Rattle.station.specs.Answers.{number as station_number}
use Rattle.station.specs.Runs.{Call as StationCall, called, after, answers}
use Rattle.station.specs.declared.Station.{Station}
use Rattle.trunk.specs.Line.{Entry, accepted, put_out, acknowledged, written, events, station_said}

-- what a log says
pub record Seen : Type 0 where
  pub pdus : List (List ℕ)
  pub out : List (List ℕ)
  pub confirmed : ℕ
  pub records : List (List ℕ)
  pub calls : List StationCall
  pub said : List ℕ

abbrev pub seen : List Entry → Seen
seen log =
    record {
      pdus = accepted log;
      out = put_out log;
      confirmed = acknowledged log;
      records = written log;
      calls = events log;
      said = station_said log;
    }

-- with what an entry adds at the end of each list
abbrev pub more : Seen → List (List ℕ) → List (List ℕ) → List (List ℕ) → List StationCall → List ℕ → Seen
more v p o r c s =
    record {
      pdus = v.pdus ++ p;
      out = v.out ++ o;
      confirmed = v.confirmed;
      records = v.records ++ r;
      calls = v.calls ++ c;
      said = v.said ++ s;
    }

module _ (v : Seen) where
  -- PDUs accepted, with their records written
  abbrev pub accepting : List (List ℕ) → List (List ℕ) → Seen
  accepting ps rs =
      record {
        pdus = v.pdus ++ ps;
        out = v.out;
        confirmed = v.confirmed;
        records = v.records ++ rs;
        calls = v.calls;
        said = v.said;
      }

  -- a record written
  abbrev pub writing : List ℕ → Seen
  writing r =
      record {
        pdus = v.pdus;
        out = v.out;
        confirmed = v.confirmed;
        records = v.records ++ (r ∷ []);
        calls = v.calls;
        said = v.said;
      }

  -- a reply taken
  abbrev pub confirming : ℕ → Seen
  confirming n =
      record {
        pdus = v.pdus;
        out = v.out;
        confirmed = n;
        records = v.records;
        calls = v.calls;
        said = v.said;
      }

  -- a PDU put out, with a reply written and the station's call and answer
  abbrev pub delivering : List ℕ → List ℕ → StationCall → ℕ → Seen
  delivering p r c n =
      record {
        pdus = v.pdus;
        out = v.out ++ (p ∷ []);
        confirmed = v.confirmed;
        records = v.records ++ (r ∷ []);
        calls = v.calls ++ (c ∷ []);
        said = v.said ++ (n ∷ []);
      }

  -- a clock call
  abbrev pub timing : StationCall → ℕ → Seen
  timing c n =
      record {
        pdus = v.pdus;
        out = v.out;
        confirmed = v.confirmed;
        records = v.records;
        calls = v.calls ++ (c ∷ []);
        said = v.said ++ (n ∷ []);
      }

  -- an entry adds one of these, or nothing; where it adds nothing to a list, nothing stands behind that list
  adds :
      (p o r : List (List ℕ)) (c : List StationCall) (n : List ℕ) {w : Seen}
      → v.pdus ++ p ≡ w.pdus
      → v.out ++ o ≡ w.out
      → v.confirmed ≡ w.confirmed
      → v.records ++ r ≡ w.records
      → v.calls ++ c ≡ w.calls
      → v.said ++ n ≡ w.said
      → more v p o r c n ≡ w
  adds p o r c n e₁ e₂ e₃ e₄ e₅ e₆ i =
      record { pdus = e₁ i; out = e₂ i; confirmed = e₃ i; records = e₄ i; calls = e₅ i; said = e₆ i }

  no_pdu : v.pdus ++ [] ≡ v.pdus
  no_pdu = append-nil v.pdus

  no_out : v.out ++ [] ≡ v.out
  no_out = append-nil v.out

  no_record : v.records ++ [] ≡ v.records
  no_record = append-nil v.records

  no_call : v.calls ++ [] ≡ v.calls
  no_call = append-nil v.calls

  no_answer : v.said ++ [] ≡ v.said
  no_answer = append-nil v.said

  pub adds_nothing : more v [] [] [] [] [] ≡ v
  adds_nothing = adds [] [] [] [] [] no_pdu no_out refl no_record no_call no_answer

  pub adds_accepted : (ps rs : List (List ℕ)) → more v ps [] rs [] [] ≡ accepting ps rs
  adds_accepted ps rs = adds ps [] rs [] [] refl no_out refl refl no_call no_answer

  -- none accepted
  pub accepts_none : accepting [] [] ≡ v
  accepts_none i =
      record {
        pdus = no_pdu i;
        out = v.out;
        confirmed = v.confirmed;
        records = no_record i;
        calls = v.calls;
        said = v.said;
      }

  pub adds_written : (r : List ℕ) → more v [] [] (r ∷ []) [] [] ≡ writing r
  adds_written r = adds [] [] (r ∷ []) [] [] no_pdu no_out refl refl no_call no_answer

  pub adds_delivered : (p r : List ℕ) (c : StationCall) (n : ℕ) → more v [] (p ∷ []) (r ∷ []) (c ∷ []) (n ∷ []) ≡ delivering p r c n
  adds_delivered p r c n = adds [] (p ∷ []) (r ∷ []) (c ∷ []) (n ∷ []) no_pdu refl refl refl refl refl

  pub adds_timed : (c : StationCall) (n : ℕ) → more v [] [] [] (c ∷ []) (n ∷ []) ≡ timing c n
  adds_timed c n = adds [] [] [] (c ∷ []) (n ∷ []) no_pdu no_out refl no_record refl refl

-- PDUs accepted one behind the other
pub accepts_next :
    (v : Seen) (p r : List ℕ) (ps rs : List (List ℕ))
    → accepting (accepting v (p ∷ []) (r ∷ [])) ps rs ≡ accepting v (p ∷ ps) (r ∷ rs)
accepts_next v p r ps rs i =
    record {
      pdus = append_assoc v.pdus (p ∷ []) ps i;
      out = v.out;
      confirmed = v.confirmed;
      records = append_assoc v.records (r ∷ []) rs i;
      calls = v.calls;
      said = v.said;
    }

-- the station after one more call, and its answers
pub after_more : (s : Station) (cs : List StationCall) (c : StationCall) → after s (cs ++ (c ∷ [])) ≡ (called (after s cs) c).station
after_more s [] c = refl
after_more s (x ∷ cs) c = after_more (called s x).station cs c

pub answers_more :
    (s : Station) (cs : List StationCall) (c : StationCall)
    → answers s (cs ++ (c ∷ [])) ≡ answers s cs ++ (station_number (called (after s cs) c).answer ∷ [])
answers_more s [] c = refl
answers_more s (x ∷ cs) c = ap (λ (l : List ℕ). station_number (called s x).answer ∷ l) (answers_more (called s x).station cs c)
