-- Each test of reading and of writing says the same as document 01's plain rule in its place; so the lists of refusals and the plain rules decide
-- alike (the verdicts). The laws of rules in order do the rest.
-- Assumes nothing.
use Prim.Native.Nat.{ℕ, ◌+◌, ◌*◌, ◌%◌, ◌^◌, ◌≤◌}
use mathlib.Core.Path.{◌≡◌, refl, sym, ap, subst, ◌∙◌}
use mathlib.Core.Logic.Iff
use mathlib.Core.Logic.{◌↔◌, ◌≢◌, ◌⊎◌, inl, inr}
use mathlib.Core.Bool.{Bool, true, false, not, true≢false, false≢true}
use mathlib.Core.List.{List, [], ◌∷◌, ◌++◌}
use lib.ListN.{length}
use lib.Dec.{eqb, ltb}
use borrow.Author.Tests.{eqb-true, eqb-false, eq-eqb, ne_eqb}
use native.Mathlib.Nat.{div-one}
use native.Mathlib.Omega.{arith}
use Rattle.wire.specs.Bytes.{num}
use Rattle.wire.specs.First.{◌given_when◌}
use Rattle.wire.specs.Rules.{Rule, ◌unless◌, Verdict}
use Rattle.wire.proofs.RuleLaws.{equal, at_most, below, not_below, negated, both, one_of, neither, if_so, unless_not, either_way, all_five}
use Rattle.wire.proofs.RuleLaws.{Agree, done, ◌then◌, agree_append, verdict}
use Rattle.pdu.specs.Numbers
use Rattle.pdu.specs.Tables.{filled, signal_size}
use Rattle.pdu.specs.Words.{words_in, whole_words}
use Rattle.pdu.specs.Rules.{wrong_version, wrong_status, is_primary, wrong_sync, wrong_security, access_rules, slot_rules, network_rules}
use Rattle.pdu.specs.Rules.{is_retired, live_rules, wrong_body, body_rules, inner_rules}
use Rattle.pdu.specs.Reading.{transmitter_of, signal_of, body_size, content, wrong_type, wrong_length, wrong_fixed, wrong_records, wrong_bits}
use Rattle.pdu.specs.Reading.{start_rules, transmitter_layout, signal_layout, reading_rules, archive_rules}
use Rattle.pdu.specs.Writing.{record_rules, writing_rules}
use Rattle.pdu.specs.Plain.{VersionRule, StatusRule, RecordsRule, FixedRule, SyncRule, FilledTo, SecurityRule, LiveRule, WordsRule, TimingRule}
use Rattle.pdu.specs.Plain.{epoch_of, plain_start}
use Rattle.pdu.specs.Plain.{plain_transmitter_layout, plain_transmitter, plain_signal_layout, plain_network, plain_body, plain_network_at, plain_body_at}
use Rattle.pdu.specs.Plain.{plain_inner, plain_signal, plain_archive, plain_inner_of, plain_transmitter_record, plain_signal_record}
use Rattle.pdu.specs.Plain.{plain_transmitter_writing, plain_signal_writing}
use Rattle.pdu.specs.declared.Header.{Header}
use Rattle.pdu.specs.declared.Sync.{Sync}
use Rattle.pdu.specs.declared.Network.{Network}
use Rattle.pdu.specs.declared.Transmitter.{Transmitter}
use Rattle.pdu.specs.declared.Signal.{Signal}
use Rattle.pdu.specs.declared.Reading.TheVariants.{Transmitter as a_transmitter, Signal as a_signal}

-- ---- each test

pub version_says : (v : ℕ) → (wrong_version v ≡ false) ↔ VersionRule v
unfolding wrong_version
version_says v = negated _ (one_of _ _ (equal v _) (one_of _ _ (equal v _) (equal v _)))

-- 52: of the three versions 7 alone may have a status
pub status_says : (h : Header) → VersionRule h.version → (wrong_status h ≡ false) ↔ StatusRule h.version h.status
unfolding wrong_status
status_says h version =
    Iff.trans (if_so _ _ (before _ (equal _ _)) (negated _ (equal _ _)))
    (λ f early. f (older early), λ f none. f (early version none))
  where
    before : {P : Type 0} (b : Bool) → (b ≡ true) ↔ P → (not b ≡ true) ↔ ¬ P
    before true e = (λ f. absurd (false≢true f), λ n. absurd (n (e.0 refl)))
    before false e = (λ f p. false≢true (e.1 p), λ n. refl)

    older : (h.version ≡ 5) ⊎ (h.version ≡ 6) → h.version ≢ 7
    older (inl e) z = omega arith
    older (inr e) z = omega arith

    early : VersionRule h.version → h.version ≢ 7 → (h.version ≡ 5) ⊎ (h.version ≡ 6)
    early (inl e) n = inl e
    early (inr (inl e)) n = inr e
    early (inr (inr e)) n = absurd (n e)

-- 64
records_say : (d : List ℕ) → (wrong_records d ≡ false) ↔ RecordsRule d
unfolding wrong_records
records_say d = if_so _ _ (equal _ _) (negated _ (equal _ _))

-- 3, for what the type is then said to be
type_says : (d : List ℕ) (type : Type 0)
    → ((num 1 2 d ≡ 25) ⊎ (num 1 2 d ≡ 26)) ↔ type
    → (wrong_type d ≡ false) ↔ (type × (num 1 3 d ≡ 4))
unfolding wrong_type
type_says d type h = negated _ (both _ _ (Iff.trans (one_of _ _ (equal _ _) (equal _ _)) h) (equal _ _))

pub length_says : (least : ℕ) (d : List ℕ) → (wrong_length least d ≡ false) ↔ ((num 2 8 d ≤ length d) × (least ≤ num 2 8 d))
unfolding wrong_length
length_says least d = neither _ _ (not_below _ _) (not_below _ _)

fixed_says : (d : List ℕ) → (wrong_fixed d ≡ false) ↔ FixedRule d
unfolding wrong_fixed
fixed_says d = negated _ (all_five _ _ _ _ _ (equal _ _) (equal _ _) (equal _ _) (equal _ _) (equal _ _))

-- primary mode: the two ends of its range are all that is in it
mode_says : (p : ℕ) → (is_primary p ≡ true) ↔ ((p ≡ 1) ⊎ (p ≡ 2))
mode_says p =
    Iff.trans (both _ _ (at_most _ _) (at_most _ _))
    (λ h. ends (eqb p 1) refl h.0 h.1, elim [ inl e ↦ omega arith | inr e ↦ omega arith ])
  where
    ends : (b : Bool) → eqb p 1 ≡ b → 1 ≤ p → p ≤ 2 → (p ≡ 1) ⊎ (p ≡ 2)
    ends true e low high = inl (eqb-true _ _ e)
    ends false e low high =
        let other : p ≢ 1 = eqb-false _ _ e in
        inr (omega arith)

pub sync_says : (s : Sync) → (wrong_sync s ≡ false) ↔ SyncRule s.level s.primary s.secondary s.state s.id
unfolding wrong_sync
sync_says s =
    negated _
    (all_five _ _ _ _ _
    (at_most _ _)
    (mode_says s.primary)
    (at_most _ _)
    (one_of _ _ (equal _ _) (equal _ _))
    (unless_not _ _ (below _ _) (equal _ _)))

bits-say : (bits : ℕ) → (wrong_bits bits ≡ false) ↔ ((bits % 8 ≡ 0) × (160 ≤ bits))
unfolding wrong_bits
bits-say bits = neither _ _ (negated _ (equal _ _)) (not_below _ _)

filled_says : (n size : ℕ) → (not (eqb size (filled n)) ≡ false) ↔ FilledTo n size
filled_says n size = negated _ (Iff.trans (equal _ _) (λ (e : size ≡ filled n). omega arith, λ h. omega arith))

security_says : (k : ℕ) → (wrong_security k ≡ false) ↔ SecurityRule k
security_says k = negated _ (one_of _ _ (at_most _ _) (equal _ _))

-- 50: what is not in the range is none of its three numbers
retired_says : (type : ℕ) → (is_retired type ≡ false) ↔ LiveRule type
retired_says type = (none, some (is_retired type) refl)
  where
    inside : (is_retired type ≡ true) ↔ ((3 ≤ type) × (type ≤ 5))
    inside = both _ _ (at_most _ _) (at_most _ _)

    none : is_retired type ≡ false → LiveRule type
    none e = (
      λ (q : type ≡ 3). true≢false (sym (inside.1 (omega arith, omega arith)) ∙ e),
      λ (q : type ≡ 4). true≢false (sym (inside.1 (omega arith, omega arith)) ∙ e),
      λ (q : type ≡ 5). true≢false (sym (inside.1 (omega arith, omega arith)) ∙ e),
    )

    some : (b : Bool) → is_retired type ≡ b → LiveRule type → is_retired type ≡ false
    some true e (three, four, five) =
        let (low, high) = inside.0 e in
        absurd (omega arith)
    some false e live = e

words-say : (n : ℕ) → (not (whole_words n) ≡ false) ↔ ((words : ℕ) × (n ≡ 6 + 10 * words))
words-say n = negated _ (Iff.trans (equal _ _) (λ e. (words_in n, e), λ h. whole h.0 h.1))
  where
    whole : (words : ℕ) → n ≡ 6 + 10 * words → n ≡ Numbers.body_header + Numbers.word_bytes * words_in n
    whole words e = omega arith

-- 14: by the message type
body_says : (type n : ℕ) → (wrong_body type n ≡ false) ↔ (WordsRule type n × TimingRule type n)
body_says type n =
    Iff.trans (either_way _ _ _ (equal type _) (λ zero-type. words-say n) (if_so _ _ (one_of _ _ (equal type _) (equal type _)) (negated _ (equal n _))))
    (λ h. (h.0, λ timing. h.1 (other timing) timing), λ h. (h.0, λ some timing. h.1 timing))
  where
    other : (type ≡ 1) ⊎ (type ≡ 2) → type ≢ 0
    other (inl e) z = omega arith
    other (inr e) z = omega arith

-- at most twelve words, where the body is a header and whole words
few_say : (n words : ℕ) → n ≡ 6 + 10 * words → (ltb Numbers.most_words (words_in n) ≡ false) ↔ (n ≤ 126)
few_say n words e = Iff.trans (not_below _ _) (λ (h : words_in n ≤ Numbers.most_words). omega arith, λ h. omega arith)

-- room for a Signal: each filled size is its own
room_says : (n room : ℕ) → (ltb room (signal_size n) ≡ false) ↔ ((size : ℕ) → FilledTo (52 + n) size → size ≤ room)
room_says n room =
    Iff.trans (not_below _ _)
    (λ (h : signal_size n ≤ room) size f. omega arith, λ h. h (signal_size n) (omega arith, omega arith, omega arith))

-- ---- the lists

-- 131 to 138
network_agrees : (k : Network)
    → Agree (network_rules k) (plain_network k.npg k.net k.tsec k.msec k.message_type k.slot k.epoch)
unfolding network_rules access_rules slot_rules
network_agrees k =
    not_below _ _
    then λ npg. not_below _ _
    then λ net. security_says _
    then λ tsec. security_says _
    then λ msec. not_below _ _
    then λ type. not_below _ _
    then λ slot. not_below _ _
    then λ epoch. if_so _ _ (equal _ _) (not_below _ _)
    then λ last. done

-- 14 and 15
body_agrees : (type n : ℕ) → Agree (body_rules type n) (plain_body type n)
unfolding body_rules
body_agrees type n =
    body_says _ _
    then λ body. either_way _ _ _ (equal _ _) (λ zero-type. few_say _ (body.0 zero-type).0 (body.0 zero-type).1) (not_below _ _)
    then λ few. done

-- 50
live_agrees : (type : ℕ) → Agree ((50 given_when is_retired type) ∷ []) ((50 unless LiveRule type) ∷ [])
live_agrees type = retired_says type then λ live. done

-- 131 to 138, 50, 14 and 15
inner_agrees : (s : Signal) (n : ℕ) → Agree (inner_rules (a_signal s n)) (plain_inner_of s.network n)
unfolding inner_rules live_rules
inner_agrees s n =
    let k = s.network in
    agree_append (agree_append (network_agrees k) (λ header. live_agrees k.message_type)) (λ header. body_agrees _ n)

-- what byte 2 says
pub content-transmitter : (d : List ℕ) → num 1 2 d ≡ 25 → content d ≡ a_transmitter (transmitter_of d)
unfolding content
content-transmitter d e = rw (eq-eqb (num 1 2 d) _ e)

pub content-signal : (d : List ℕ) → num 1 2 d ≢ 25 → content d ≡ a_signal (signal_of d) (body_size d)
unfolding content
content-signal d e = rw (ne_eqb (num 1 2 d) _ e)

-- 1, 2, 3
start_agrees : (d : List ℕ) (type : Type 0)
    → ((num 1 2 d ≡ 25) ⊎ (num 1 2 d ≡ 26)) ↔ type
    → Agree (start_rules d) (plain_start type d)
unfolding start_rules
start_agrees d type h = not_below _ _ then λ long. version_says _ then λ version. type_says d type h then λ known. done

-- 4 to 7, 64 and 8
transmitter_layout_agrees : (d : List ℕ) → Agree (transmitter_layout d) (plain_transmitter_layout d)
unfolding transmitter_layout
transmitter_layout_agrees d =
    length_says _ _
    then λ length. fixed_says _
    then λ fixed. negated _ (equal _ _)
    then λ modulation. negated _ (equal _ _)
    then λ pattern. records_say _
    then λ records. negated _ (equal _ _)
    then λ size. done

-- 4, 10, 11, 12, 8
signal_layout_agrees : (d : List ℕ) → Agree (signal_layout d) (plain_signal_layout d)
unfolding signal_layout
signal_layout_agrees d =
    length_says _ _
    then λ length. negated _ (equal _ _)
    then λ class. negated _ (equal _ _)
    then λ tdl. bits-say _
    then λ bits. filled_says _ _
    then λ size. done

-- the rules of a Transmitter, where byte 2 is 25
transmitter_rules : (d : List ℕ)
    → num 1 2 d ≡ 25
    → Agree (start_rules d ++ (transmitter_layout d ++ inner_rules (a_transmitter (transmitter_of d)))) (plain_transmitter d)
unfolding inner_rules transmitter_of
transmitter_rules d e =
    agree_append (start_agrees d (num 1 2 d ≡ 25) (λ either. e, inl))
    (λ start. agree_append (transmitter_layout_agrees d) (λ layout. sync_says _ then λ sync. done))

transmitter_agrees : (d : List ℕ) → num 1 2 d ≡ 25 → Agree (reading_rules d) (plain_transmitter d)
unfolding reading_rules
transmitter_agrees d e = rw (content-transmitter d e) (transmitter_rules d e)

-- 131 to 138 of a datagram; the slot that the table gives has no bits below it
network_at : (d : List ℕ) → Agree (network_rules (signal_of d).network) (plain_network_at d)
unfolding signal_of
network_at d =
    subst (λ (slot : ℕ). Agree (network_rules (signal_of d).network) (with_slot slot))
    (ap (λ (v : ℕ). v % 2 ^ 17) (div-one (num 4 40 d)))
    (network_agrees (signal_of d).network)
  where
    with_slot : ℕ → List Rule
    with_slot slot = plain_network (num 2 32 d) (num 1 34 d) (num 1 35 d) (num 1 36 d) (num 1 37 d) slot (epoch_of d)

-- 14 and 15 of a datagram
body_at : (d : List ℕ) → Agree (body_rules (signal_of d).network.message_type (body_size d)) (plain_body_at d)
unfolding signal_of
body_at d = body_agrees _ _

-- 131 to 138, 50, 14 and 15 of a datagram
inner_at : (d : List ℕ) → Agree (inner_rules (a_signal (signal_of d) (body_size d))) (plain_inner d)
unfolding inner_rules live_rules signal_of
inner_at d = agree_append (agree_append (network_at d) (λ header. live_agrees (num 1 37 d))) (λ header. body_at d)

-- where byte 2 is not 25, the types left are one
signal_type_lem : (d : List ℕ) → num 1 2 d ≢ 25 → ((num 1 2 d ≡ 25) ⊎ (num 1 2 d ≡ 26)) ↔ (num 1 2 d ≡ 26)
signal_type_lem d e = (elim [ inl t ↦ absurd (e t) | inr s ↦ s ], inr)

-- the rules of a Signal, where it is not
signal_agrees : (d : List ℕ) → num 1 2 d ≢ 25 → Agree (reading_rules d) (plain_signal d)
unfolding reading_rules
signal_agrees d e =
    rw (content-signal d e)
    (agree_append (start_agrees d (num 1 2 d ≡ 26) (signal_type_lem d e))
    (λ start. agree_append (signal_layout_agrees d) (λ layout. inner_at d)))

-- archive reading: of a Transmitter nothing is left out, of a Signal 50
transmitter-archive_agrees : (d : List ℕ) → num 1 2 d ≡ 25 → Agree (archive_rules d) (plain_transmitter d)
unfolding archive_rules reading_rules start_rules transmitter_layout inner_rules transmitter_of
transmitter-archive_agrees d e = rw (content-transmitter d e) (transmitter_rules d e)

signal-archive_agrees : (d : List ℕ) → num 1 2 d ≢ 25 → Agree (archive_rules d) (plain_archive d)
unfolding archive_rules reading_rules start_rules signal_layout inner_rules live_rules network_rules access_rules slot_rules body_rules
signal-archive_agrees d e =
    rw (content-signal d e)
    (agree_append (start_agrees d (num 1 2 d ≡ 26) (signal_type_lem d e))
    (λ start. agree_append (signal_layout_agrees d) (λ layout. agree_append (network_at d) (λ header. body_at d))))

-- ---- the verdicts

-- reading: the plain rules of a Transmitter where byte 2 is 25, those of a Signal elsewhere
pub transmitter-verdict : (d : List ℕ) → num 1 2 d ≡ 25 → Verdict (reading_rules d) (plain_transmitter d)
transmitter-verdict d e = verdict (transmitter_agrees d e)

pub signal-verdict : (d : List ℕ) → num 1 2 d ≢ 25 → Verdict (reading_rules d) (plain_signal d)
signal-verdict d e = verdict (signal_agrees d e)

-- archive reading alike
pub transmitter-archive : (d : List ℕ) → num 1 2 d ≡ 25 → Verdict (archive_rules d) (plain_transmitter d)
transmitter-archive d e = verdict (transmitter-archive_agrees d e)

pub signal-archive : (d : List ℕ) → num 1 2 d ≢ 25 → Verdict (archive_rules d) (plain_archive d)
signal-archive d e = verdict (signal-archive_agrees d e)

-- and their parts
pub start-verdict : (d : List ℕ) → Verdict (start_rules d) (plain_start ((num 1 2 d ≡ 25) ⊎ (num 1 2 d ≡ 26)) d)
start-verdict d = verdict (start_agrees d _ (λ known. known, λ known. known))

pub transmitter_layout_lem : (d : List ℕ) → Verdict (transmitter_layout d) (plain_transmitter_layout d)
transmitter_layout_lem d = verdict (transmitter_layout_agrees d)

pub signal_layout_lem : (d : List ℕ) → Verdict (signal_layout d) (plain_signal_layout d)
signal_layout_lem d = verdict (signal_layout_agrees d)

-- 131 to 138, 50, 14 and 15, of a datagram and of a record
pub inner_verdict : (d : List ℕ) → Verdict (inner_rules (a_signal (signal_of d) (body_size d))) (plain_inner d)
inner_verdict d = verdict (inner_at d)

pub inner_record : (s : Signal) (n : ℕ) → Verdict (inner_rules (a_signal s n)) (plain_inner_of s.network n)
inner_record s n = verdict (inner_agrees s n)

-- 14 and 15 of a datagram
pub body-verdict : (d : List ℕ) → Verdict (body_rules (signal_of d).network.message_type (body_size d)) (plain_body_at d)
body-verdict d = verdict (body_at d)

-- the rules of a record
transmitter_record_agrees : (t : Transmitter) → Agree (record_rules (a_transmitter t)) (plain_transmitter_record t)
unfolding record_rules inner_rules
transmitter_record_agrees t = version_says _ then λ version. status_says _ version then λ status. sync_says _ then λ sync. done

signal_record_agrees : (s : Signal) (n : ℕ) → Agree (record_rules (a_signal s n)) (plain_signal_record s n)
unfolding record_rules
signal_record_agrees s n =
    version_says _ then λ version. status_says _ version then λ status. not_below _ _ then λ kept. inner_agrees s n

pub transmitter_record : (t : Transmitter) → Verdict (record_rules (a_transmitter t)) (plain_transmitter_record t)
transmitter_record t = verdict (transmitter_record_agrees t)

pub signal_record : (s : Signal) (n : ℕ) → Verdict (record_rules (a_signal s n)) (plain_signal_record s n)
signal_record s n = verdict (signal_record_agrees s n)

-- writing
pub transmitter_writing : (t : Transmitter) (room : ℕ) → Verdict (writing_rules (a_transmitter t) room) (plain_transmitter_writing t room)
unfolding writing_rules
transmitter_writing t room =
    verdict (agree_append (transmitter_record_agrees t) (λ m. not_below _ _ then λ space. done))

pub signal_writing : (s : Signal) (n room : ℕ) → Verdict (writing_rules (a_signal s n) room) (plain_signal_writing s n room)
unfolding writing_rules
signal_writing s n room =
    verdict (agree_append (signal_record_agrees s n) (λ m. room_says n room then λ space. done))
