-- What the version decides (02, R-9): byte 10 is the status in version 7 and no field before it, bytes 30 and 31 of a Transmitter have one allowed
-- value in version 7 and are padding before it, and the tables are sound in either case. By the test of the version.
-- Assumes nothing.
use Prim.Native.Nat.{ℕ, ◌/◌, ◌%◌, ◌^◌, ◌<◌}
use mathlib.Core.Path.{◌≡◌, refl, sym, ap, ◌∙◌}
use mathlib.Core.Logic.{◌≢◌, inl, inr}
use mathlib.Core.Bool.{Bool, true, false, cond, not, ◌&&◌}
use mathlib.Core.List.{List, [], ◌∷◌}
use lib.ListN.{get_or}
use lib.Dec.{eqb, ltb}
use borrow.Author.Tests.{eqb-true, eqb-false, eq-eqb, ne_eqb}
use native.Mathlib.Nat.{div-one}
use native.Mathlib.Omega.{arith}
use Rattle.wire.specs.Bytes.{num, big, Bytes}
use Rattle.wire.specs.Table.{clean, fixed, bare, all_blank, sound}
use Rattle.wire.proofs.TableLaws.{both_true}
use Rattle.wire.proofs.RuleLaws.{equal, negated, and_true}
use Rattle.pdu.specs.Tables.{signal_size, data_bits, is_seven, bits_in, status_parts, records_parts, header_table, transmitter_table}
use Rattle.pdu.specs.Tables.{body_table, signal_table}
use Rattle.pdu.specs.Rules.{wrong_status}
use Rattle.pdu.specs.Plain.{StatusRule}
use Rattle.pdu.specs.Places.{plain_status}
use Rattle.pdu.specs.Fits.{FitsHeader}
use Rattle.pdu.specs.declared.Header.{Header}

-- ---- the status

-- as the table reads it of the number v
abbrev status : ℕ → ℕ → ℕ
status version v = v / 1 % 2 ^ bits_in (is_seven version) 8

pub status_there : (version v : ℕ) → version ≡ 7 → status version v ≡ v % 2 ^ 8
status_there version v e = rw (eq-eqb version 7 e) (ap (λ (n : ℕ). n % 2 ^ 8) (div-one v))

pub status_none : (version v : ℕ) → version ≢ 7 → status version v ≡ 0
status_none version v e = rw (ne_eqb version 7 e) (omega arith)

-- so what is read has a status only where there may be one
pub status_read : (version v : ℕ) → StatusRule version (status version v)
status_read version v (inl e) = status_none version v (λ z. omega arith)
status_read version v (inr e) = status_none version v (λ z. omega arith)

-- and a status that is written fits
pub status_fits : (h : Header) → FitsHeader h → wrong_status h ≡ false → h.status < 2 ^ bits_in (is_seven h.version) 8
unfolding wrong_status
status_fits h f e = by (is_seven h.version) e
  where
    by : (seven : Bool) → (not seven && not (eqb h.status 0)) ≡ false → h.status < 2 ^ bits_in seven 8
    by true e = f.status
    by false e =
        let none : h.status ≡ 0 = (negated _ (equal h.status 0)).0 e in
        omega arith

-- byte 10 with padding zero
pub status_left : (d : List ℕ) → Bytes d → clean (status_parts (is_seven (num 1 0 d))) (num 1 10 d) ≡ plain_status d
status_left d b = by (is_seven (num 1 0 d)) refl
  where
    by : (seven : Bool) → is_seven (num 1 0 d) ≡ seven → clean (status_parts (is_seven (num 1 0 d))) (num 1 10 d) ≡ plain_status d
    by true e = rw (e, div-one (num 1 10 d)) (omega (arith, b 10))
    by false e = rw (e, div-one (num 1 10 d)) (omega arith)

-- as a byte
pub status_byte : (d : List ℕ) → Bytes d → big 1 (clean (status_parts (is_seven (num 1 0 d))) (num 1 10 d)) ≡ (plain_status d ∷ [])
status_byte d b = ap (λ (v : ℕ). v % 256 ∷ []) (status_left d b) ∙ ap (λ (v : ℕ). v ∷ []) (small (eqb (num 1 0 d) 7))
  where
    small : (seven : Bool) → cond seven (get_or d 10 0) 0 % 256 ≡ cond seven (get_or d 10 0) 0
    small true = omega (arith, b 10)
    small false = refl

-- whether the padding of the shared bytes is zero: byte 11 in version 7, bytes 10 and 11 before it
pub blank_there : (d : List ℕ) (type size : ℕ)
    → is_seven (num 1 0 d) ≡ true
    → all_blank 0 (header_table (is_seven (num 1 0 d)) type size) d ≡ eqb (num 1 11 d) 0
blank_there d type size e =
    rw (e, eq-eqb (num 1 10 d / 2 ^ 8 % 2 ^ 0) 0 (omega arith)) (and_true (eqb (num 1 11 d) 0))

pub blank-before : (d : List ℕ) (type size : ℕ)
    → Bytes d
    → is_seven (num 1 0 d) ≡ false
    → all_blank 0 (header_table (is_seven (num 1 0 d)) type size) d ≡ eqb (num 2 10 d) 0
blank-before d type size b e = rw (e, div-one (num 1 10 d)) (by (eqb (num 1 10 d % 2 ^ 8) 0) refl (eqb (num 1 11 d) 0) refl)
  where
    by : (x : Bool)
        → eqb (num 1 10 d % 2 ^ 8) 0 ≡ x
        → (y : Bool)
        → eqb (num 1 11 d) 0 ≡ y
        → (x && true && (y && true)) ≡ eqb (num 2 10 d) 0
    by true p true q =
        let high : num 1 10 d % 2 ^ 8 ≡ 0 = eqb-true _ _ p in
        let low : num 1 11 d ≡ 0 = eqb-true _ _ q in
        sym (eq-eqb (num 2 10 d) 0 (omega (arith, b 10)))
    by true p false q =
        let low : num 1 11 d ≢ 0 = eqb-false _ _ q in
        sym (ne_eqb (num 2 10 d) 0 (λ z. low (omega arith)))
    by false p y q =
        let high : num 1 10 d % 2 ^ 8 ≢ 0 = eqb-false _ _ p in
        sym (ne_eqb (num 2 10 d) 0 (λ z. high (omega arith)))

-- ---- variable parameter records

-- the one allowed value, where the rule holds; and the rule, where the value is right
pub records_right : (version v : ℕ) → (version ≡ 7 → v ≡ 0) → fixed (records_parts (is_seven version)) v ≡ true
records_right version v none = by (is_seven version) refl
  where
    by : (seven : Bool) → is_seven version ≡ seven → fixed (records_parts (is_seven version)) v ≡ true
    by true e = rw (e, none (eqb-true _ _ e)) refl
    by false e = rw (e, div-one v) (rw (eq-eqb (v % 1) 0 (omega arith)) refl)

pub right_records : (version v : ℕ) → v < 2 ^ 16 → fixed (records_parts (is_seven version)) v ≡ true → version ≡ 7 → v ≡ 0
right_records version v small right e =
    let fits : (eqb (v / 1 % 2 ^ 16) 0 && true) ≡ true = rw (eq-eqb version 7 e) at right in
    let none : v / 1 % 2 ^ 16 ≡ 0 = eqb-true _ _ (both_true _ _ fits).0 in
    omega (arith, div-one v)

-- bytes 30 and 31 with padding zero
pub records_left : (version v : ℕ) → (version ≡ 7 → v ≡ 0) → clean (records_parts (is_seven version)) v ≡ 0
records_left version v none = by (is_seven version) refl
  where
    by : (seven : Bool) → is_seven version ≡ seven → clean (records_parts (is_seven version)) v ≡ 0
    by true e = rw (e, none (eqb-true _ _ e)) refl
    by false e = rw (e, div-one v) (omega arith)

-- and whether their padding is zero: as whether they are, where the rule holds
pub records_blank : (version v : ℕ) → (version ≡ 7 → v ≡ 0) → v < 2 ^ 16 → bare (records_parts (is_seven version)) v ≡ eqb v 0
records_blank version v none small = by (is_seven version) refl
  where
    by : (seven : Bool) → is_seven version ≡ seven → bare (records_parts (is_seven version)) v ≡ eqb v 0
    by true e = rw (e, none (eqb-true _ _ e)) refl
    by false e =
        let same : v % 2 ^ 16 ≡ v = omega arith in
        rw (e, div-one v, same) (and_true (eqb v 0))

-- ---- the tables

pub transmitter-sound : (seven : Bool) → sound (transmitter_table seven) ≡ true
transmitter-sound true = refl
transmitter-sound false = refl

pub signal-sound : (seven : Bool) (type n : ℕ)
    → ltb (signal_size n) (256 ^ 2) ≡ true
    → ltb (data_bits n) (256 ^ 2) ≡ true
    → sound (body_table type n) ≡ true
    → sound (signal_table seven type n) ≡ true
signal-sound true type n size bits body = rw (size, bits) body
signal-sound false type n size bits body = rw (size, bits) body
