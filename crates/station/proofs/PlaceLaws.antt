-- The tests of the station's rules in plain terms: where a key stands, which place is free, which IDs agree, and what a first word says.
-- Each test is opened once here, by cases on what it answers, so that the table and the theorems speak of places, keys and labels only.
-- Assumes nothing.
use Prim.Native.Nat.{ℕ}
use Rattle.std.specs.Prelude.{Option, Some, None}
use mathlib.Core.Path.{◌≡◌, refl, sym, ap, ap₂, ◌∙◌}
use mathlib.Core.Bool.{Bool, true, false, cond, not, ◌&&◌, ◌||◌, true≢false}
use mathlib.Core.Logic.{◌⊎◌, inl, inr}
use lib.Dec.{eqb, ltb}
use borrow.Author.Tests.{eqb-true, eqb-false, eq-eqb, ltb-true, ltb-false}
use native.Mathlib.Omega.{arith}
use Rattle.station.proofs.ReaderLaws.{both_true}
use Rattle.occupancy.specs.Places.{places, held, free_place}
use Rattle.occupancy.proofs.LeastLaws.{least_is, least_below, least_here}
use Rattle.occupancy.proofs.WordLaws.{lowest_is_free, below_is_held}
use Rattle.pdu.specs.declared.Word.{Word}
use Rattle.station.specs.Numbers.{any_id}
use Rattle.station.specs.Units.{unit_at, holds, place_of, known}
use Rattle.station.specs.Plain.{Sender, Stranger, LowestFree, Full, Agree, Clash, IsJ00, IsPpli, IsOther}
use Rattle.station.specs.Hearing.{other_id, labelled, word_saying, message_of, is_fine, is_coarse}
use Rattle.station.specs.declared.State.{State}
use Rattle.station.specs.declared.State.TheVariants.{Waiting, Coarse, Fine}
use Rattle.station.specs.declared.Station.{Station}
use Rattle.station.specs.declared.Message.{Message}
use Rattle.station.specs.declared.Message.TheVariants.{NetEntry, Ppli, Interrogation, TimingReply, Other}

-- ---- where a key stands

module _ (s : Station) (key : ℕ) where
  -- the test of one place
  held_with : (i : ℕ) → held s.used i ≡ true → (unit_at s i).key ≡ key → holds s key i ≡ true
  held_with i h k = rw (h, eq-eqb (unit_at s i).key key k)

  not_with : (i : ℕ) → holds s key i ≡ false → held s.used i ≡ true → (unit_at s i).key ≡ key → ⊥
  not_with i e h k = true≢false (sym (held_with i h k) ∙ e)

  is_with : (i : ℕ) → holds s key i ≡ true → (held s.used i ≡ true) × ((unit_at s i).key ≡ key)
  is_with i e = let w = both_true (held s.used i) (eqb (unit_at s i).key key) e in (w.0, eqb-true _ _ w.1)

  without : (i : ℕ) → (held s.used i ≡ true → (unit_at s i).key ≡ key → ⊥) → holds s key i ≡ false
  without i none = go (holds s key i) refl
    where
      go : (b : Bool) → holds s key i ≡ b → b ≡ false
      go true e = absurd (none (is_with i e).0 (is_with i e).1)
      go false e = refl

  pub sender_known : known s key ≡ true → Sender s key (place_of s key)
  unfolding place_of
  sender_known e =
      let below = ltb-true (place_of s key) _ e in
      let here = is_with (place_of s key) (least_here (holds s key) places below) in
      record {
        there = record { place = below; taken = here.0 };
        keyed = here.1;
        lowest = λ j l. not_with j (least_below (holds s key) places j l);
      }

  pub stranger_unknown : known s key ≡ false → Stranger s key
  unfolding place_of
  stranger_unknown e i h =
      let past = ltb-false (place_of s key) _ e in
      not_with i (least_below (holds s key) places i (omega (arith, past, h.place))) h.taken

  -- a sender's place is the one that the rules look at
  pub sender_place : (i : ℕ) → Sender s key i → place_of s key ≡ i
  unfolding place_of
  sender_place i w =
      least_is (holds s key) places i (omega (arith, w.there.place))
      (λ j l. without j (w.lowest j l))
      (λ _. held_with i w.there.taken w.keyed)

-- ---- which place is free

pub lowest_free : (s : Station) → ltb (free_place s.used) places ≡ true → LowestFree s (free_place s.used)
lowest_free s e =
    let below = ltb-true _ _ e in
    record { place = below; free = lowest_is_free s.used below; lowest = below_is_held s.used }

pub none_free : (s : Station) → ltb (free_place s.used) places ≡ false → Full s
none_free s e i l = below_is_held s.used i (omega (arith, ltb-false (free_place s.used) _ e))

-- ---- which IDs agree

module _ (own sender : ℕ) where
  pub clash : other_id own sender ≡ true → Clash own sender
  unfolding other_id
  clash e = go (eqb own sender) (eqb own any_id) (eqb sender any_id) refl refl refl e
    where
      go : (a b c : Bool)
          → eqb own sender ≡ a
          → eqb own any_id ≡ b
          → eqb sender any_id ≡ c
          → cond (b || c) false (not a) ≡ true
          → Clash own sender
      go true true c x y z f = absurd (true≢false (sym f))
      go true false true x y z f = absurd (true≢false (sym f))
      go true false false x y z f = absurd (true≢false (sym f))
      go false true c x y z f = absurd (true≢false (sym f))
      go false false true x y z f = absurd (true≢false (sym f))
      go false false false x y z f = (eqb-false _ _ x, eqb-false _ _ y, eqb-false _ _ z)

  pub agree : other_id own sender ≡ false → Agree own sender
  unfolding other_id
  agree e = go (eqb own sender) (eqb own any_id) (eqb sender any_id) refl refl refl e
    where
      go : (a b c : Bool)
          → eqb own sender ≡ a
          → eqb own any_id ≡ b
          → eqb sender any_id ≡ c
          → cond (b || c) false (not a) ≡ false
          → Agree own sender
      go true b c x y z f = inl (eqb-true _ _ x)
      go false true c x y z f = inr (inl (eqb-true _ _ y))
      go false false true x y z f = inr (inr (eqb-true _ _ z))
      go false false false x y z f = absurd (true≢false f)

  pub agree_clash : Agree own sender → Clash own sender → ⊥
  agree_clash (inl e) w = w.0 e
  agree_clash (inr (inl e)) w = w.1 e
  agree_clash (inr (inr e)) w = w.2 e

  pub agreeing : Agree own sender → other_id own sender ≡ false
  agreeing w = go (other_id own sender) refl
    where
      go : (b : Bool) → other_id own sender ≡ b → b ≡ false
      go true e = absurd (agree_clash w (clash e))
      go false e = refl

-- ---- what a first word says

-- a word by its three numbers
said_by : (w : Word) (format label sublabel : ℕ)
    → w.format ≡ format
    → w.label ≡ label
    → w.sublabel ≡ sublabel
    → Some w ≡ Some (record { format = format; label = label; sublabel = sublabel })
said_by w format label sublabel f l s = λ i. Some (record { format = f i; label = l i; sublabel = s i })

module _ (type : ℕ) where
  word_j00 : (w : Option Word) → word_saying type w ≡ NetEntry → IsJ00 type w
  unfolding word_saying labelled
  word_j00 None e = cc
  word_j00 (Some w) e =
      go (eqb type 0) (eqb w.format 0) (eqb w.label 0) (eqb w.sublabel 0) refl refl refl refl e
    where
      more : (b : Bool) → cond b Ppli Other ≡ NetEntry → ⊥
      more true f = cc
      more false f = cc

      go : (a b c d : Bool) → eqb type 0 ≡ a → eqb w.format 0 ≡ b → eqb w.label 0 ≡ c → eqb w.sublabel 0 ≡ d
          → cond (a && b) (cond (c && d) NetEntry (cond (eqb w.label 2) Ppli Other)) Other ≡ NetEntry
          → IsJ00 type (Some w)
      go true true true true x y z u f = (eqb-true _ _ x, said_by w 0 0 0 (eqb-true _ _ y) (eqb-true _ _ z) (eqb-true _ _ u))
      go true true true false x y z u f = absurd (more (eqb w.label 2) f)
      go true true false d x y z u f = absurd (more (eqb w.label 2) f)
      go true false c d x y z u f = cc
      go false b c d x y z u f = cc

  word_ppli : (w : Option Word) → word_saying type w ≡ Ppli → IsPpli type w
  unfolding word_saying labelled
  word_ppli None e = cc
  word_ppli (Some w) e =
      go (eqb type 0) (eqb w.format 0) (eqb w.label 0 && eqb w.sublabel 0) (eqb w.label 2) refl refl refl e
    where
      go : (a b c d : Bool) → eqb type 0 ≡ a → eqb w.format 0 ≡ b → eqb w.label 2 ≡ d
          → cond (a && b) (cond c NetEntry (cond d Ppli Other)) Other ≡ Ppli
          → IsPpli type (Some w)
      go true true true d x y z f = cc
      go true true false true x y z f = (eqb-true _ _ x, (w.sublabel, said_by w 0 2 w.sublabel (eqb-true _ _ y) (eqb-true _ _ z) refl))
      go true true false false x y z f = cc
      go true false c d x y z f = cc
      go false b c d x y z f = cc

  -- a word says nothing of round-trip timing
  no-timing : (w : Option Word) → ((word_saying type w ≡ Interrogation) ⊎ (word_saying type w ≡ TimingReply)) → ⊥
  unfolding word_saying labelled
  no-timing None (inl e) = cc
  no-timing None (inr e) = cc
  no-timing (Some w) e = go (eqb type 0 && eqb w.format 0) (eqb w.label 0 && eqb w.sublabel 0) (eqb w.label 2) e
    where
      none : (m : Message) → (m ≡ NetEntry) ⊎ ((m ≡ Ppli) ⊎ (m ≡ Other)) → (m ≡ Interrogation) ⊎ (m ≡ TimingReply) → ⊥
      none m (inl f) (inl e) = cc
      none m (inl f) (inr e) = cc
      none m (inr (inl f)) (inl e) = cc
      none m (inr (inl f)) (inr e) = cc
      none m (inr (inr f)) (inl e) = cc
      none m (inr (inr f)) (inr e) = cc

      go : (a b c : Bool)
          → ((cond a (cond b NetEntry (cond c Ppli Other)) Other ≡ Interrogation) ⊎ (cond a (cond b NetEntry (cond c Ppli Other)) Other ≡ TimingReply))
          → ⊥
      go true true c e = none NetEntry (inl refl) e
      go true false true e = none Ppli (inr (inl refl)) e
      go true false false e = none Other (inr (inr refl)) e
      go false b c e = none Other (inr (inr refl)) e

-- ---- what a Signal says

-- by its type, and else by its first word
data Said (type : ℕ) (w : Option Word) (m : Message) : Type 0 where
  by_ask : type ≡ 1 → m ≡ Interrogation → Said type w m
  by_reply : type ≡ 2 → m ≡ TimingReply → Said type w m
  by_word : word_saying type w ≡ m → Said type w m

module _ (type : ℕ) where
  said : (w : Option Word) (m : Message) → message_of type w ≡ m → Said type w m
  unfolding message_of
  said w m e = go (eqb type 1) (eqb type 2) refl refl e
    where
      go : (a b : Bool) → eqb type 1 ≡ a → eqb type 2 ≡ b → cond a Interrogation (cond b TimingReply (word_saying type w)) ≡ m → Said type w m
      go true b x y e = by_ask (eqb-true _ _ x) (sym e)
      go false true x y e = by_reply (eqb-true _ _ y) (sym e)
      go false false x y e = by_word e

  pub says_j00 : (w : Option Word) → IsJ00 type w → message_of type w ≡ NetEntry
  unfolding message_of word_saying labelled
  says_j00 w (t, e) = ap₂ message_of t e

  pub says_ppli : (w : Option Word) → IsPpli type w → message_of type w ≡ Ppli
  unfolding message_of word_saying labelled
  says_ppli w (t, (sublabel, e)) = ap₂ message_of t e

  pub says_ask : (w : Option Word) → type ≡ 1 → message_of type w ≡ Interrogation
  unfolding message_of
  says_ask w t = ap (λ (k : ℕ). message_of k w) t

  pub says_reply : (w : Option Word) → type ≡ 2 → message_of type w ≡ TimingReply
  unfolding message_of
  says_reply w t = ap (λ (k : ℕ). message_of k w) t

  pub j00_said : (w : Option Word) → message_of type w ≡ NetEntry → IsJ00 type w
  j00_said w e = go (said w NetEntry e)
    where
      go : Said type w NetEntry → IsJ00 type w
      go (by_ask t f) = cc
      go (by_reply t f) = cc
      go (by_word f) = word_j00 type w f

  pub ppli_said : (w : Option Word) → message_of type w ≡ Ppli → IsPpli type w
  ppli_said w e = go (said w Ppli e)
    where
      go : Said type w Ppli → IsPpli type w
      go (by_ask t f) = cc
      go (by_reply t f) = cc
      go (by_word f) = word_ppli type w f

  pub ask_said : (w : Option Word) → message_of type w ≡ Interrogation → type ≡ 1
  ask_said w e = go (said w Interrogation e)
    where
      go : Said type w Interrogation → type ≡ 1
      go (by_ask t f) = t
      go (by_reply t f) = cc
      go (by_word f) = absurd (no-timing type w (inl f))

  pub reply_said : (w : Option Word) → message_of type w ≡ TimingReply → type ≡ 2
  reply_said w e = go (said w TimingReply e)
    where
      go : Said type w TimingReply → type ≡ 2
      go (by_ask t f) = cc
      go (by_reply t f) = t
      go (by_word f) = absurd (no-timing type w (inr f))

  pub other_said : (w : Option Word) → message_of type w ≡ Other → IsOther type w
  other_said w e = (
    λ j. let f : NetEntry ≡ Other = sym (says_j00 w j) ∙ e in cc,
    λ p. let f : Ppli ≡ Other = sym (says_ppli w p) ∙ e in cc,
    λ t. let f : Interrogation ≡ Other = sym (says_ask w t) ∙ e in cc,
    λ t. let f : TimingReply ≡ Other = sym (says_reply w t) ∙ e in cc,
  )

-- ---- the station's state

pub is_fine_lem : (st : State) → is_fine st ≡ true → st ≡ Fine
is_fine_lem Waiting e = absurd (true≢false (sym e))
is_fine_lem Coarse e = absurd (true≢false (sym e))
is_fine_lem Fine e = refl

pub is_coarse_lem : (st : State) → is_coarse st ≡ true → st ≡ Coarse
is_coarse_lem Waiting e = absurd (true≢false (sym e))
is_coarse_lem Coarse e = refl
is_coarse_lem Fine e = absurd (true≢false (sym e))
