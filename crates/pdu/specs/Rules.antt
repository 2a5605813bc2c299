-- The rules on a record's fields, which reading and writing share, in document 01's order.
use Rattle.std.specs.Prelude.{ℕ, Bool, cond, not, ◌&&◌, ◌||◌, List, [], ◌∷◌, ◌++◌, eqb, ltb, leb}
use Rattle.wire.specs.First.{Refusal, ◌given_when◌}
use Rattle.pdu.specs.Numbers
use Rattle.pdu.specs.Tables.{is_seven, is_timing}
use Rattle.pdu.specs.Words.{words_in, whole_words}
use Rattle.pdu.specs.declared.Header.{Header}
use Rattle.pdu.specs.declared.Sync.{Sync}
use Rattle.pdu.specs.declared.Network.{Network}
use Rattle.pdu.specs.declared.Reading.{Reading}
use Rattle.pdu.specs.declared.Reading.TheVariants.{Refused, Transmitter, Signal}

-- 2: versions 5, 6 and 7 (02, R-9) are taken
unfoldable pub wrong_version : ℕ → Bool
wrong_version v = not (eqb v Numbers.older_version || (eqb v Numbers.newer_version || is_seven v))

-- 52 in writing (02, R-9): a status other than 0 in a version that has none
unfoldable pub wrong_status : Header → Bool
wrong_status h = not (is_seven h.version) && not (eqb h.status 0)

-- "105 primary mode 1 or 2"
abbrev pub is_primary : ℕ → Bool
is_primary mode = leb Numbers.first_primary_mode mode && leb mode Numbers.last_primary_mode

-- 9: the rules of bytes 104 to 111
unfoldable pub wrong_sync : Sync → Bool
wrong_sync s =
    not
    (leb s.level Numbers.last_level
    && is_primary s.primary
    && leb s.secondary Numbers.last_secondary_mode
    && (eqb s.state Numbers.coarse || eqb s.state Numbers.fine)
    && (leb Numbers.first_id_level s.level || eqb s.id 0))

-- TSEC and MSEC: 0 to 127, or 255
abbrev pub wrong_security : ℕ → Bool
wrong_security k = not (leb k Numbers.last_security || eqb k Numbers.no_security)

-- 131 to 134 (02, R-3): NPG, net, TSEC and MSEC
unfoldable pub access_rules : Network → List Refusal
access_rules n =
    (131 given_when ltb Numbers.last_npg n.npg)
    ∷ (132 given_when ltb Numbers.last_net n.net)
    ∷ (133 given_when wrong_security n.tsec)
    ∷ (134 given_when wrong_security n.msec)
    ∷ []

-- 02, R-2: "The last slot of epoch 112 is 49,151"
abbrev pub is_too_late : Network → Bool
is_too_late n = eqb n.epoch Numbers.last_epoch && ltb Numbers.last_slot_of_last_epoch n.slot

-- 135 to 138 (02, R-3): the message type and the slot ID
unfoldable pub slot_rules : Network → List Refusal
slot_rules n =
    (135 given_when ltb Numbers.last_message_type n.message_type)
    ∷ (136 given_when ltb Numbers.last_slot n.slot)
    ∷ (137 given_when ltb Numbers.last_epoch n.epoch)
    ∷ (138 given_when is_too_late n)
    ∷ []

-- 131 to 138: the eight rules of the network header, each with its own number "in place of 13" (02, R-3)
unfoldable pub network_rules : Network → List Refusal
network_rules n = access_rules n ++ slot_rules n

-- 02, R-4: "Types 3, 4 and 5 are retired"
abbrev pub is_retired : ℕ → Bool
is_retired type = leb Numbers.first_retired type && leb type Numbers.last_retired

-- 131 to 138, and 50 (02, R-4): "after the network header's tests and before 14"
unfoldable pub live_rules : Network → List Refusal
live_rules n = network_rules n ++ ((50 given_when is_retired n.message_type) ∷ [])

-- 02, R-1: the body of round-trip timing has six bytes
abbrev pub wrong_timing : ℕ → ℕ → Bool
wrong_timing type n = is_timing type && not (eqb n Numbers.timing_bytes)

-- 14, by the message type: a type 0 body is a header and whole words
abbrev pub wrong_body : ℕ → ℕ → Bool
wrong_body type n = cond (eqb type 0) (not (whole_words n)) (wrong_timing type n)

-- 14 and 15, for a body of n bytes in a message of the type given
unfoldable pub body_rules : ℕ → ℕ → List Refusal
body_rules type n =
    (14 given_when wrong_body type n)
    ∷ (15 given_when cond (eqb type 0) (ltb Numbers.most_words (words_in n)) (ltb Numbers.most_bytes n))
    ∷ []

-- the rules that reading tries last and writing tries before 16: 9; or 131 to 138, 50, 14, 15
unfoldable pub inner_rules : Reading → List Refusal
inner_rules (Refused e) = []
inner_rules (Transmitter t) = (9 given_when wrong_sync t.sync) ∷ []
inner_rules (Signal s n) = live_rules s.network ++ body_rules s.network.message_type n
