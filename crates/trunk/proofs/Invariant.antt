-- What holds between the two ends, the store and what a log says, after every fair list of calls (`Holds`); and that each call that is taken
-- keeps it. The near end's rows hold the records of what is not acknowledged, and what a call wrote is such a record or a reply.
-- Assumes nothing.
use Prim.Native.Nat.{ℕ, suc, ◌+◌, ◌≤◌, ◌<◌, max}
use mathlib.Core.Path.{◌≡◌, refl, sym, ap, ap₂, subst, subst₂, ◌∙◌}
use mathlib.Core.Logic.{◌≢◌, inl, inr}
use mathlib.Core.Bool.{Bool, true, false}
use mathlib.Core.List.Memᴰ
use mathlib.Core.List.{List, [], ◌∷◌, ◌++◌, Memᴰ}
use mathlib.Core.List.{map, append_assoc}
use lib.ListN.{length, get_or, take, drop, length-append, length-map, get_or-append}
use lib.Seq.{length-sets, take_at, take-suc, take-append-le, get_or-append_seam}
use lib.Dec.{ltb}
use native.Mathlib.Numerals.{add-one}
use native.Mathlib.Omega.{arith}
use borrow.Author.Tests.{ltb-true, ltb-false, not-false}
use Rattle.wire.specs.Bytes.{Bytes}
use Rattle.pdu.specs.Reading.{reading}
use Rattle.pdu.specs.Writing.{written_form}
use Rattle.pdu.specs.declared.Reading.{Reading}
use Rattle.station.specs.Answers.{number as station_number}
use Rattle.station.specs.Runs.{Call as StationCall, datagram, time, called, after, answers}
use Rattle.station.specs.Hearing.{heard}
use Rattle.station.specs.declared.Station.{Station}
use Rattle.std.specs.Prelude.{IsSome}
use Rattle.trunk.specs.Kinds.{record_size, reply_kind, kind_of, offered_kind}
use Rattle.trunk.specs.Record.{head_for, record_of, reply_of, kind_in, number_in, carried_in, last_number}
use Rattle.trunk.specs.Near.{rows, row_size, store_size, row_start, row_kind, row_record, offer_record, stored, stored_all, more_accepted}
use Rattle.trunk.specs.Near.{acknowledged_after, acknowledging}
use Rattle.trunk.specs.Far.{delivered, ticked}
use Rattle.trunk.specs.Plain.{record_for, plain_length, plain_row_kind, plain_row, AllPdus}
use Rattle.trunk.specs.Line.{rows_from}
use Rattle.trunk.specs.declared.Near.{Near}
use Rattle.trunk.specs.declared.Far.{Far}
use Rattle.trunk.proofs.KindLaws.{no-reply_says, record_small, plain_length_lem}
use Rattle.trunk.proofs.RecordLaws.{type_says, Carried, carried_kind, carried_form, record_bytes, record_for_lem, pdu_kind, pdu_number}
use Rattle.trunk.proofs.RecordLaws.{pdu_length, pdu_carried, pdu_bytes, reply_sound}
use Rattle.trunk.proofs.BundleLaws.{AllBytes}
use Rattle.trunk.proofs.CallLaws.{after_is_max}
use Rattle.trunk.proofs.RowLaws.{RowHolds, row_written, row_kept, rows_differ, row_kind_lem}
use Rattle.trunk.proofs.LogLaws.{Seen, accepting, writing, confirming, delivering, timing, after_more, answers_more}
use Rattle.trunk.proofs.LogLaws.{accepts_none, accepts_next}

-- record i of the PDUs accepted
abbrev pub record_in : List (List ℕ) → ℕ → List ℕ
record_in pdus i = record_for i (get_or pdus i [])

-- what a call may have written: the record of an accepted PDU, or a reply with a number up to k
pub data Known (pdus : List (List ℕ)) (k : ℕ) (r : List ℕ) : Type 0 where
  pdu_record : (i : ℕ) → i < length pdus → r ≡ record_in pdus i → Known pdus k r
  reply_record : (j : ℕ) → j ≤ k → r ≡ reply_of j → Known pdus k r

-- a record that carries an accepted PDU, by its own number
pub record Arriving (pdus : List (List ℕ)) (r : List ℕ) : Type 0 where
  pub accepted : number_in r < length pdus
  pub pdu : carried_in r ≡ get_or pdus (number_in r) []

-- the ends' own counts are those of the log, in their order
pub record Counts (near : Near) (k accepted confirmed put-out : ℕ) : Type 0 where
  pub near_accepted : near.accepted ≡ accepted
  pub near_acknowledged : near.acknowledged ≡ confirmed
  pub far_count : k ≡ put-out
  pub acknowledged_put_out : confirmed ≤ put-out
  pub put_out_accepted : put-out ≤ accepted
  pub window : accepted ≤ confirmed + rows
  pub few : accepted ≤ last_number

-- what was accepted is carried, and while it is not acknowledged its row starts with its record
pub record Held (store : List ℕ) (pdus : List (List ℕ)) (confirmed : ℕ) : Type 0 where
  pub carried : (i : ℕ) → i < length pdus → Carried (get_or pdus i [])
  pub whole : 0 < length pdus → length store ≡ store_size
  pub stored : (i : ℕ) → confirmed ≤ i → i < length pdus → RowHolds store i (record_in pdus i)

-- the station stands, and has answered, as one that was given these calls
pub record Played (station now : Station) (calls : List StationCall) (said : List ℕ) : Type 0 where
  pub stands : now ≡ after station calls
  pub answered : said ≡ answers station calls

-- all of it, for the station that the far end started with, and what was written and put out
pub record Holds (station : Station) (near : Near) (store : List ℕ) (far : Far) (v : Seen) : Type 0 where
  pub counts : Counts near far.count (length v.pdus) v.confirmed (length v.out)
  pub held : Held store v.pdus v.confirmed
  pub known : (r : List ℕ) → Memᴰ r v.records → Known v.pdus (length v.out) r
  pub recorded : (i : ℕ) → i < length v.pdus → Memᴰ (record_in v.pdus i) v.records
  pub in_order : v.out ≡ take (length v.out) v.pdus
  pub played : Played station far.station v.calls v.said

-- the row of a carried PDU's record, to the length of its kind, is that record
row_record_lem :
    (store : List ℕ) (i : ℕ) (pdu : List ℕ)
    → Carried pdu
    → i < last_number
    → RowHolds store i (record_for i pdu)
    → plain_row store i ≡ record_for i pdu
row_record_lem store i pdu c l holds =
    let kind = row_kind_lem store i (record_for i pdu) (omega arith) holds ∙ pdu_kind i pdu c l in
    let size : plain_length (plain_row_kind store i) ≡ length (record_for i pdu) =
    sym (plain_length_lem (plain_row_kind store i)) ∙ ap record_size kind ∙ sym (pdu_length i pdu c l) in
    ap (λ (n : ℕ). take n (drop (row_start i) store)) size ∙ holds

-- ---- one more PDU

module _ (pdus : List (List ℕ)) (p : List ℕ) where
  old_pdu : (i : ℕ) → i < length pdus → get_or (pdus ++ (p ∷ [])) i [] ≡ get_or pdus i []
  old_pdu i l = get_or-append pdus (p ∷ []) [] i l

  new_pdu : get_or (pdus ++ (p ∷ [])) (length pdus) [] ≡ p
  new_pdu = get_or-append_seam pdus p [] []

  longer : length (pdus ++ (p ∷ [])) ≡ length pdus + 1
  longer = length-append pdus (p ∷ [])

  -- what holds of each PDU, and of the new one
  each_more : (P : ℕ → Type 0) → ((i : ℕ) → i < length pdus → P i) → P (length pdus) → (i : ℕ) → i < length (pdus ++ (p ∷ [])) → P i
  each_more P old new i l = by (ltb i (length pdus)) refl
    where
      by : (t : Bool) → ltb i (length pdus) ≡ t → P i
      by true e = old i (ltb-true _ _ e)
      by false e =
          let least : length pdus ≤ i = ltb-false _ _ e in
          subst P (omega (arith, longer)) new

-- what a near end and its store need for one PDU more
pub record OneFits (near : Near) (store : List ℕ) : Type 0 where
  pub whole : length store ≡ store_size
  pub more : near.accepted < last_number
  pub free : near.accepted < near.acknowledged + rows

-- the records of PDUs from a number on
abbrev pub records_from : ℕ → List (List ℕ) → List (List ℕ)
records_from number [] = []
records_from number (p ∷ ps) = record_for number p ∷ records_from (number + 1) ps

-- ---- what was written

known_more : (pdus : List (List ℕ)) (k : ℕ) (p r : List ℕ) → Known pdus k r → Known (pdus ++ (p ∷ [])) k r
known_more pdus k p r (pdu_record i h e) = pdu_record i (omega (arith, longer pdus p)) (e ∙ ap (record_for i) (sym (old_pdu pdus p i h)))
known_more pdus k p r (reply_record j h e) = reply_record j h e

known-later : (pdus : List (List ℕ)) (k n : ℕ) (r : List ℕ) → k ≤ n → Known pdus k r → Known pdus n r
known-later pdus k n r l (pdu_record i h e) = pdu_record i h e
known-later pdus k n r l (reply_record j h e) = reply_record j (omega arith) e

-- one more record written
known_also :
    (pdus rs : List (List ℕ)) (k : ℕ) (r : List ℕ)
    → ((x : List ℕ) → Memᴰ x rs → Known pdus k x)
    → Known pdus k r
    → (x : List ℕ)
    → Memᴰ x (rs ++ (r ∷ []))
    → Known pdus k x
known_also pdus rs k r old new x m =
    elim (Memᴰ.append_cases rs m) [ inl a ↦ old x a | inr b ↦ subst (Known pdus k) (sym (Memᴰ.eq_of_singleton b)) new ]

module _ {station : Station} {near : Near} {store : List ℕ} {far : Far} {v : Seen} (h : Holds station near store far v) where
  -- an accepted number is not the last of all
  pub small : (i : ℕ) → i < length v.pdus → i < last_number
  small i l = omega (arith, h.counts.few)

  -- the length of an accepted PDU's record
  record_length : (i : ℕ) → i < length v.pdus → length (record_in v.pdus i) ≡ record_size (offered_kind (reading (get_or v.pdus i [])))
  record_length i l = pdu_length i (get_or v.pdus i []) (h.held.carried i l) (small i l)

  pub record_fits : (i : ℕ) → i < length v.pdus → length (record_in v.pdus i) ≤ row_size
  record_fits i l = omega (arith, record_length i l, record_small (offered_kind (reading (get_or v.pdus i []))))

  -- one more record written
  pub writes : (r : List ℕ) → Known v.pdus (length v.out) r → Holds station near store far (writing v r)
  writes r new =
      record {
        counts = h.counts;
        held = h.held;
        known = known_also v.pdus v.records (length v.out) r h.known new;
        recorded = λ i l. Memᴰ.append_left (r ∷ []) (h.recorded i l);
        in_order = h.in_order;
        played = h.played;
      }

  -- ---- one PDU of an offer

  module _ (d : List ℕ) (b : Bytes d) (k : IsSome (kind_of (reading d))) (m : OneFits near store) where
    form : Carried (written_form d) × (reading (written_form d) ≡ reading d)
    form = carried_form d b k

    room : length v.pdus < last_number
    room = omega (arith, m.more, h.counts.near_accepted)

    -- what it writes is the new PDU's record
    new_record : offer_record near.accepted d ≡ record_for (length v.pdus) (written_form d)
    new_record =
        ap₂ (λ (r : Reading) (n : ℕ). record_of (head_for (offered_kind r) n) (written_form d)) (sym form.1) h.counts.near_accepted
        ∙ record_for_lem (length v.pdus) (written_form d) form.0.kind

    new_fits : length (offer_record near.accepted d) ≤ row_size
    new_fits =
        rw (new_record, pdu_length (length v.pdus) (written_form d) form.0 room)
        (omega (arith, record_small (offered_kind (reading (written_form d)))))

    stored_record : offer_record near.accepted d ≡ record_in (v.pdus ++ (written_form d ∷ [])) (length v.pdus)
    stored_record = new_record ∙ ap (record_for (length v.pdus)) (sym (new_pdu v.pdus (written_form d)))

    offer_carried : (i : ℕ) → i < length (v.pdus ++ (written_form d ∷ [])) → Carried (get_or (v.pdus ++ (written_form d ∷ [])) i [])
    offer_carried =
        each_more v.pdus (written_form d) (λ (i : ℕ). Carried (get_or (v.pdus ++ (written_form d ∷ [])) i []))
        (λ i l. subst Carried (sym (old_pdu v.pdus (written_form d) i l)) (h.held.carried i l))
        (subst Carried (sym (new_pdu v.pdus (written_form d))) form.0)

    offer_recorded :
        (i : ℕ)
        → i < length (v.pdus ++ (written_form d ∷ []))
        → Memᴰ (record_in (v.pdus ++ (written_form d ∷ [])) i) (v.records ++ (offer_record near.accepted d ∷ []))
    offer_recorded =
        each_more v.pdus (written_form d) (λ (i : ℕ). There i (record_in (v.pdus ++ (written_form d ∷ [])) i))
        (λ i l.
        subst (λ (q : List ℕ). There i (record_for i q)) (sym (old_pdu v.pdus (written_form d) i l))
        (Memᴰ.append_left (offer_record near.accepted d ∷ []) (h.recorded i l)))
        (Memᴰ.append_right v.records (Memᴰ.head (sym stored_record)))
      where
        There : ℕ → List ℕ → Type 0
        There i r = Memᴰ r (v.records ++ (offer_record near.accepted d ∷ []))

    offer_stored :
        (i : ℕ)
        → i < length (v.pdus ++ (written_form d ∷ []))
        → v.confirmed ≤ i
        → RowHolds (stored near.accepted store d) i (record_in (v.pdus ++ (written_form d ∷ [])) i)
    offer_stored = each_more v.pdus (written_form d) (λ (i : ℕ). v.confirmed ≤ i → Row i (record_in (v.pdus ++ (written_form d ∷ [])) i)) old new
      where
        Row : ℕ → List ℕ → Type 0
        Row i r = RowHolds (stored near.accepted store d) i r

        old : (i : ℕ) → i < length v.pdus → v.confirmed ≤ i → Row i (record_in (v.pdus ++ (written_form d ∷ [])) i)
        old i l held =
            let before : i < near.accepted = omega (arith, h.counts.near_accepted) in
            let apart = rows_differ i near.accepted before (omega (arith, h.counts.near_acknowledged, m.free)) in
            subst (λ (q : List ℕ). Row i (record_for i q)) (sym (old_pdu v.pdus (written_form d) i l))
            (row_kept store i near.accepted (offer_record near.accepted d) (record_in v.pdus i) m.whole new_fits (record_fits i l) apart
            (h.held.stored i held l))

        new : v.confirmed ≤ length v.pdus → Row (length v.pdus) (record_in (v.pdus ++ (written_form d ∷ [])) (length v.pdus))
        new held =
            subst₂ Row h.counts.near_accepted stored_record
            (row_written store near.accepted (offer_record near.accepted d) m.whole new_fits)

    offer_keeps :
        Holds station (more_accepted near 1) (stored near.accepted store d) far
        (accepting v (written_form d ∷ []) (offer_record near.accepted d ∷ []))
    offer_keeps =
        let c = h.counts in
        let one_more = longer v.pdus (written_form d) in
        record {
          counts =
              record {
                near_accepted = ap (λ (n : ℕ). n + 1) c.near_accepted ∙ sym one_more;
                near_acknowledged = c.near_acknowledged;
                far_count = c.far_count;
                acknowledged_put_out = c.acknowledged_put_out;
                put_out_accepted = omega (arith, one_more, c.put_out_accepted);
                window = omega (arith, one_more, c.near_accepted, c.near_acknowledged, m.free);
                few = omega (arith, one_more, room);
              };
          held =
              record {
                carried = offer_carried;
                whole = λ l. length-sets store (row_start near.accepted) (offer_record near.accepted d) ∙ m.whole;
                stored = λ i held l. offer_stored i l held;
              };
          known =
              known_also (v.pdus ++ (written_form d ∷ [])) v.records (length v.out) (offer_record near.accepted d)
              (λ r w. known_more v.pdus (length v.out) (written_form d) r (h.known r w))
              (pdu_record (length v.pdus) (omega (arith, one_more)) stored_record);
          recorded = offer_recorded;
          in_order = h.in_order ∙ sym (take-append-le (length v.out) v.pdus (written_form d ∷ []) c.put_out_accepted);
          played = h.played;
        }

    -- and what it writes is the record of its number
    pub one_keeps :
        Holds station (more_accepted near 1) (stored near.accepted store d) far
        (accepting v (written_form d ∷ []) (record_for near.accepted (written_form d) ∷ []))
    one_keeps =
        subst (λ (r : List ℕ). Holds station (more_accepted near 1) (stored near.accepted store d) far (accepting v (written_form d ∷ []) (r ∷ [])))
        (new_record ∙ ap (λ (n : ℕ). record_for n (written_form d)) (sym h.counts.near_accepted))
        offer_keeps

  -- the row of a PDU that is held, to the length of its kind, is its record
  pub held_row : (i : ℕ) → v.confirmed ≤ i → i < length v.pdus → plain_row store i ≡ record_in v.pdus i
  held_row i held l = row_record_lem store i (get_or v.pdus i []) (h.held.carried i l) (small i l) (h.held.stored i held l)

  -- ---- a send

  module _ (i : ℕ) (held : v.confirmed ≤ i) (l : i < length v.pdus) where
    -- the row's kind is the PDU's, so what is sent is the record
    pub held_kind : row_kind store i ≡ offered_kind (reading (get_or v.pdus i []))
    held_kind =
        row_kind_lem store i (record_in v.pdus i) (omega (arith, record_length i l)) (h.held.stored i held l)
        ∙ pdu_kind i (get_or v.pdus i []) (h.held.carried i l) (small i l)

    pub held_size : record_size (row_kind store i) ≡ length (record_in v.pdus i)
    held_size = ap record_size held_kind ∙ sym (record_length i l)

    pub held_written : (rest : List ℕ) → take (record_size (row_kind store i)) (row_record store i ++ rest) ≡ record_in v.pdus i
    held_written rest =
        ap₂ (λ (n : ℕ) (r : List ℕ). take n (r ++ rest)) held_size
        (ap (λ (n : ℕ). take n (drop (row_start i) store)) held_size ∙ h.held.stored i held l)
        ∙ take_at (record_in v.pdus i) rest (length (record_in v.pdus i)) refl

    pub send_keeps : Holds station near store far (writing v (record_in v.pdus i))
    send_keeps = writes (record_in v.pdus i) (pdu_record i l refl)

  -- ---- a reply

  -- the acknowledged count after a reply is the larger of the two
  pub larger : (n : ℕ) → acknowledged_after near.acknowledged n ≡ max v.confirmed n
  larger n = after_is_max near.acknowledged n ∙ ap (λ (a : ℕ). max a n) h.counts.near_acknowledged

  -- a record of a PDU is no reply, and a reply has the number that it was written with
  reply_number : (r : List ℕ) → Known v.pdus (length v.out) r → kind_in r ≡ reply_kind → number_in r ≤ length v.out
  reply_number r (pdu_record i l e) is =
      let c = h.held.carried i l in
      let p : List ℕ = get_or v.pdus i [] in
      absurd ((no-reply_says _).0 (carried_kind p c.kind).no_reply (sym (pdu_kind i p c (small i l)) ∙ ap kind_in (sym e) ∙ is))
  reply_number r (reply_record j l e) is =
      rw (e, (reply_sound j (omega (arith, h.counts.put_out_accepted, h.counts.few))).number_is) l

  pub reply_keeps :
      (r : List ℕ)
      → Known v.pdus (length v.out) r
      → kind_in r ≡ reply_kind
      → Holds station (acknowledging near (number_in r)) store far (confirming v (max v.confirmed (number_in r)))
  reply_keeps r w m =
      let c = h.counts in
      let at_most = reply_number r w m in
      record {
        counts =
            record {
              near_accepted = c.near_accepted;
              near_acknowledged = larger (number_in r);
              far_count = c.far_count;
              acknowledged_put_out = omega (arith, at_most, c.acknowledged_put_out);
              put_out_accepted = c.put_out_accepted;
              window = omega (arith, c.window);
              few = c.few;
            };
        held =
            record {
              carried = h.held.carried;
              whole = h.held.whole;
              stored = λ i held l. h.held.stored i (omega (arith, held)) l;
            };
        known = h.known;
        recorded = h.recorded;
        in_order = h.in_order;
        played = h.played;
      }

  -- ---- a record at the far end

  pub known_bytes : (r : List ℕ) → Known v.pdus (length v.out) r → Bytes r
  known_bytes r (pdu_record i l e) = subst Bytes (sym e) (pdu_bytes i (get_or v.pdus i []) (h.held.carried i l) (small i l))
  known_bytes r (reply_record j l e) = subst Bytes (sym e) (record_bytes (head_for reply_kind j) [] (λ i. omega arith))

  -- what is written and is no reply is the record of a PDU
  pub arriving : (r : List ℕ) → Known v.pdus (length v.out) r → kind_in r ≢ reply_kind → Arriving v.pdus r
  arriving r (pdu_record i l e) other =
      let p : List ℕ = get_or v.pdus i [] in
      let number : number_in r ≡ i = ap number_in e ∙ pdu_number i p (h.held.carried i l) (small i l) in
      record {
        accepted = omega (arith, number);
        pdu = ap carried_in e ∙ pdu_carried i p (h.held.carried i l) (small i l) ∙ ap (λ (n : ℕ). get_or v.pdus n []) (sym number);
      }
  arriving r (reply_record j l e) other =
      absurd (other (ap kind_in e ∙ (reply_sound j (omega (arith, h.counts.put_out_accepted, h.counts.few))).kind_is))

  -- one more call on the far station
  station_next :
      (c : StationCall)
      → Played station (called far.station c).station (v.calls ++ (c ∷ [])) (v.said ++ (station_number (called far.station c).answer ∷ []))
  station_next c =
      let p = h.played in
      record {
        stands = ap (λ (s : Station). (called s c).station) p.stands ∙ sym (after_more station v.calls c);
        answered =
            ap₂ (λ (l : List ℕ) (s : Station). l ++ (station_number (called s c).answer ∷ [])) p.answered p.stands
            ∙ sym (answers_more station v.calls c);
      }

  -- number k, delivered
  pub delivery_keeps :
      (r : List ℕ)
      → Arriving v.pdus r
      → number_in r ≡ far.count
      → Holds station near store (delivered (far.count + 1) far.station (carried_in r)).far
      (delivering v (carried_in r) (reply_of (far.count + 1)) (datagram (carried_in r)) (station_number (heard far.station (carried_in r)).answer))
  delivery_keeps r a e =
      let c = h.counts in
      let k : ℕ = length v.out in
      let one_more : length (v.out ++ (carried_in r ∷ [])) ≡ k + 1 = length-append v.out (carried_in r ∷ []) in
      let this : k < length v.pdus = omega (arith, a.accepted, e, c.far_count) in
      let pdu : carried_in r ≡ get_or v.pdus k [] = a.pdu ∙ ap (λ (n : ℕ). get_or v.pdus n []) (e ∙ c.far_count) in
      record {
        counts =
            record {
              near_accepted = c.near_accepted;
              near_acknowledged = c.near_acknowledged;
              far_count = ap (λ (n : ℕ). n + 1) c.far_count ∙ sym one_more;
              acknowledged_put_out = omega (arith, one_more, c.acknowledged_put_out);
              put_out_accepted = omega (arith, one_more, this);
              window = c.window;
              few = c.few;
            };
        held = h.held;
        known =
            known_also v.pdus v.records _ (reply_of (far.count + 1))
            (λ x w. known-later v.pdus k _ x (omega (arith, one_more)) (h.known x w))
            (reply_record (far.count + 1) (omega (arith, one_more, c.far_count)) refl);
        recorded = λ i l. Memᴰ.append_left (reply_of (far.count + 1) ∷ []) (h.recorded i l);
        in_order =
            ap₂ (λ (l : List (List ℕ)) (x : List ℕ). l ++ (x ∷ [])) h.in_order pdu
            ∙ sym (take-suc v.pdus k [] this)
            ∙ ap (λ (n : ℕ). take n v.pdus) (sym (one_more ∙ add-one k));
        played = station_next (datagram (carried_in r));
      }

  -- ---- the clock

  pub clock_keeps :
      (t : ℕ)
      → Holds station near store (ticked far t).far (timing v (time t) (station_number (ticked far t).answer))
  unfolding ticked
  clock_keeps t =
      record { counts = h.counts; held = h.held; known = h.known; recorded = h.recorded; in_order = h.in_order; played = station_next (time t) }

-- ---- a bundle

-- so many more accepted, one by one
more_none : (near : Near) → more_accepted near 0 ≡ near
more_none near =
    let same : near.accepted + 0 ≡ near.accepted = omega arith in
    ap (λ (n : ℕ). record { accepted = n; acknowledged = near.acknowledged }) same

more_next : (near : Near) (n : ℕ) → more_accepted (more_accepted near 1) n ≡ more_accepted near (suc n)
more_next near n =
    let same : near.accepted + 1 + n ≡ near.accepted + suc n = omega arith in
    ap (λ (m : ℕ). record { accepted = m; acknowledged = near.acknowledged }) same

-- each PDU of a bundle keeps the invariant in turn
pub bundle-keeps :
    {station : Station} {near : Near} {store : List ℕ} {far : Far} {v : Seen}
    → Holds station near store far v
    → (ps : List (List ℕ))
    → AllBytes ps
    → AllPdus ps
    → length store ≡ store_size
    → near.accepted + length ps ≤ last_number
    → near.accepted + length ps ≤ near.acknowledged + rows
    → Holds station (more_accepted near (length ps)) (stored_all near.accepted store ps) far
    (accepting v (map written_form ps) (records_from near.accepted (map written_form ps)))
unfolding stored_all
bundle-keeps {station} {near} {store} {far} {v} h [] bytes all whole numbers free =
    subst₂ (λ (n : Near) (s : Seen). Holds station n store far s) (sym (more_none near)) (sym (accepts_none v)) h
bundle-keeps {station} {near} {store} {far} {v} h (p ∷ ps) (b, bytes) (one, all) whole numbers free =
    let fits : OneFits near store = record { whole = whole; more = omega arith; free = omega arith } in
    let kind = not-false _ ((type_says p one.taken).1 one.carried) in
    let full = length-sets store (row_start near.accepted) (offer_record near.accepted p) ∙ whole in
    let qs : List (List ℕ) = map written_form ps in
    let rs : List (List ℕ) = records_from (near.accepted + 1) qs in
    let rest = bundle-keeps {near = more_accepted near 1} (one_keeps h p b kind fits) ps bytes all full (omega arith) (omega arith) in
    subst₂ (λ (n : Near) (s : Seen). Holds station n (stored_all (near.accepted + 1) (stored near.accepted store p) ps) far s)
    (more_next near (length ps))
    (accepts_next v (written_form p) (record_for near.accepted (written_form p)) qs rs)
    rest

-- rows from a number on that hold the records of what was accepted last are these records
rows_are :
    (store : List ℕ) (i : ℕ) (before ps : List (List ℕ))
    → i ≡ length before
    → ((j : ℕ) → i ≤ j → j < i + length ps → plain_row store j ≡ record_in (before ++ ps) j)
    → rows_from store i (length ps) ≡ records_from i ps
rows_are store i before [] same each = refl
rows_are store i before (p ∷ ps) same each =
    ap₂ ◌∷◌ row (rows_are store (i + 1) (before ++ (p ∷ [])) ps (ap (λ (n : ℕ). n + 1) same ∙ sym (longer before p)) rest)
  where
    row : plain_row store i ≡ record_for i p
    row =
        each i (omega arith) (omega arith)
        ∙ ap (λ (n : ℕ). record_for i (get_or (before ++ (p ∷ ps)) n [])) same
        ∙ ap (record_for i) (get_or-append_seam before p ps [])

    rest : (j : ℕ) → i + 1 ≤ j → j < i + 1 + length ps → plain_row store j ≡ record_in (before ++ (p ∷ []) ++ ps) j
    rest j low high =
        each j (omega arith) (omega arith) ∙ ap (λ (l : List (List ℕ)). record_in l j) (sym (append_assoc before (p ∷ []) ps))

-- after a bundle
module _
    {station : Station} {near : Near} {store store' : List ℕ} {far : Far} {v : Seen}
    (h : Holds station near store far v)
    (ps : List (List ℕ))
    (kept :
    Holds station (more_accepted near (length ps)) store' far
    (accepting v (map written_form ps) (records_from near.accepted (map written_form ps)))) where
  many : length (map written_form ps) ≡ length ps
  many = length-map ps written_form

  -- the row of each of its numbers, to the length of its kind, is that PDU's record
  pub bundle-row :
      (j : ℕ)
      → near.accepted ≤ j
      → j < near.accepted + length ps
      → plain_row store' j ≡ record_in (v.pdus ++ map written_form ps) j
  bundle-row j low high =
      let c = h.counts in
      held_row kept j
      (omega (arith, c.near_accepted, c.acknowledged_put_out, c.put_out_accepted))
      (omega (arith, c.near_accepted, length-append v.pdus (map written_form ps), many))

  pub bundle-rows : rows_from store' near.accepted (length ps) ≡ records_from near.accepted (map written_form ps)
  bundle-rows =
      ap (rows_from store' near.accepted) (sym many)
      ∙ rows_are store' near.accepted v.pdus (map written_form ps) h.counts.near_accepted
      (λ j low high. bundle-row j low (omega (arith, many)))
