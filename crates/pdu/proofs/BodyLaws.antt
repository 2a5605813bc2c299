-- What a body's own slots have, whatever its message type: they are as wide as the body, and no bit of them is fixed; so are the slots and the fill
-- together. What is read from byte 52 on is what is read of the body (`body-read`), the bytes written there are the body with its own padding zero
-- (`body_written_lem`), and these are the plain ones (`body_given_lem`): the first byte of a timing message and five bits of its second are zero.
-- By the definition of a body's slots and the laws of tables put together.
-- Assumes nothing.
use Prim.Native.Nat.{ℕ, ◌+◌, ◌*◌, ◌/◌, ◌%◌, ◌^◌, ◌≤◌, ◌<◌}
use mathlib.Core.Path.{◌≡◌, refl, sym, ap, ap₂, subst, ◌∙◌}
use mathlib.Core.Bool.{Bool, true, false, cond, ◌&&◌}
use mathlib.Core.List.{List, [], ◌∷◌, ◌++◌, append-nil}
use lib.ListN.{length, get_or, take, drop, replicate, length-drop}
use lib.Dec.{eqb}
use lib.Seq.{take_all, length-take-le}
use native.Mathlib.Nat.{add-zero, div-one}
use native.Mathlib.Omega.{arith}
use Rattle.wire.specs.Bytes.{num, big, Bytes}
use Rattle.wire.specs.Table.{Slot, kept, padding, width, read, fill, clear, all_fixed, all_blank, sound, Fit}
use Rattle.wire.proofs.ByteLaws.{num-lt, num-split, big-append, big-num, big-zero}
use Rattle.wire.proofs.TableLaws.{read-fill, fill-read}
use Rattle.wire.proofs.RuleLaws.{and_true, equal, one_of}
use Rattle.wire.proofs.FitLaws.{bytes_take, bytes_drop, fit_read}
use Rattle.wire.proofs.AppendLaws.{width-append, read-append, clear-append, blank-append, fixed-append, sound-append, length-read, read_part}
use Rattle.wire.proofs.AppendLaws.{clear-part, fill-append, fit_append}
use Rattle.pdu.specs.Tables.{fill_of, is_timing, timing_slots, body_slots, body_table}
use Rattle.pdu.specs.Forms.{body_values, body_cleared, bytes_of_body}
use Rattle.pdu.specs.Bodies.{body_written}
use Rattle.pdu.specs.Plain.{TimingRule}
use Rattle.pdu.specs.Places.{plain_given}

-- a number alone in its place
alone : (x : ℕ) → x * 1 + 0 ≡ x
alone x = omega arith

-- ---- the body's own slots

-- a message type is one of round-trip timing, or not
by_type : (P : List Slot → Type 0) (type n : ℕ) → P (timing_slots n) → P (kept n ∷ []) → P (body_slots type n)
unfolding body_slots
by_type P type n timing unread = go (is_timing type)
  where
    go : (b : Bool) → P (cond b (timing_slots n) (kept n ∷ []))
    go true = timing
    go false = unread

pub slots_width : (type n : ℕ) → width (body_slots type n) ≡ n
slots_width type n = by_type (λ (t : List Slot). width t ≡ n) type n (omega arith) (omega arith)

slots_fixed : (type n o : ℕ) (d : List ℕ) → all_fixed o (body_slots type n) d ≡ true
slots_fixed type n o d = by_type (λ (t : List Slot). all_fixed o t d ≡ true) type n refl refl

-- a timing message of six bytes fills its number
slots_sound : (type n : ℕ) → TimingRule type n → sound (body_slots type n) ≡ true
unfolding body_slots
slots_sound type n six = go (is_timing type) refl
  where
    go : (b : Bool) → is_timing type ≡ b → sound (cond b (timing_slots n) (kept n ∷ [])) ≡ true
    go true t = rw (six ((one_of _ _ (equal type _) (equal type _)).0 t)) refl
    go false t = refl

-- a body that is carried unread has no padding of its own
pub unread_slots : (type n : ℕ) → is_timing type ≡ false → body_slots type n ≡ (kept n ∷ [])
unfolding body_slots
unread_slots type n e = rw e

pub timing_slots_lem : (type n : ℕ) → is_timing type ≡ true → body_slots type n ≡ timing_slots n
unfolding body_slots
timing_slots_lem type n e = rw e

-- the field of a timing message: of its first two bytes three bits, and the last four
pub timing-number : (body : List ℕ) → Bytes body → num 6 0 body / 1 % 2 ^ 35 ≡ (num 2 0 body % 8) * 256 ^ 4 + num 4 2 body
timing-number body b =
    let low : num 4 2 body < 256 ^ 4 = num-lt 4 2 body b in
    rw (num-split 2 4 0 body, div-one (num 2 0 body * 256 ^ 4 + num 4 2 body)) (omega arith)

-- and its bytes
pub timing-clear : (body : List ℕ) → Bytes body → length body ≡ 6
    → clear 0 (timing_slots 6) body ≡ big 2 (num 2 0 body % 8) ++ drop 2 body
timing-clear body b six =
    append-nil (big 6 (num 6 0 body / 1 % 2 ^ 35 * 1 + 0))
    ∙ ap (big 6) (alone (num 6 0 body / 1 % 2 ^ 35) ∙ timing-number body b)
    ∙ big-append 2 4 (num 2 0 body % 8) (num 4 2 body) (num-lt 4 2 body b)
    ∙ ap (λ (l : List ℕ). big 2 (num 2 0 body % 8) ++ l) (big-num 4 2 body b (omega arith) ∙ take_all 4 (drop 2 body) (omega (arith, length-drop 2 body)))

-- what is left of the first two
two_bytes : (x y : ℕ) → y < 256 → big 2 ((x * 256 + y) % 8) ≡ (0 ∷ y % 8 ∷ [])
two_bytes x y h =
    let v : ℕ = (x * 256 + y) % 8 in
    let high : v / 256 % 256 ≡ 0 = omega arith in
    let low : v % 256 ≡ y % 8 = omega arith in
    ap₂ (λ (m n : ℕ). m ∷ n ∷ []) high low

-- whether the padding inside a body is zero: of round-trip timing the other bits of its first two bytes, of all else there is none
pub timing-blank : (type n o : ℕ) (d : List ℕ)
    → is_timing type ≡ true
    → TimingRule type n
    → Bytes d
    → all_blank o (body_slots type n) d ≡ eqb (num 2 o d / 8) 0
timing-blank type n o d t six b =
    let whole : n ≡ 6 = six ((one_of _ _ (equal type _) (equal type _)).0 t) in
    let high : num 2 o d < 256 ^ 2 = num-lt 2 o d b in
    let low : num 4 (o + 2) d < 256 ^ 4 = num-lt 4 (o + 2) d b in
    let left : num 6 o d / 2 ^ 35 % 2 ^ 13 ≡ num 2 o d / 8 = rw (num-split 2 4 o d) (omega arith) in
    ap (λ (s : List Slot). all_blank o s d) (timing_slots_lem type n t ∙ ap timing_slots whole)
    ∙ ap (λ (v : ℕ). eqb v 0 && true && true) left
    ∙ and_true _
    ∙ and_true _

pub unread_blank : (type n o : ℕ) (d : List ℕ) → is_timing type ≡ false → all_blank o (body_slots type n) d ≡ true
unread_blank type n o d t = ap (λ (s : List Slot). all_blank o s d) (unread_slots type n t)

-- a body of bytes with padding zero: of round-trip timing, and of all else
pub given-timing : (type n : ℕ) (body : List ℕ)
    → is_timing type ≡ true
    → TimingRule type n
    → Bytes body
    → length body ≡ n
    → body_cleared type n body ≡ big 2 (num 2 0 body % 8) ++ drop 2 body
given-timing type n body t six b long =
    let whole : n ≡ 6 = six ((one_of _ _ (equal type _) (equal type _)).0 t) in
    ap (λ (s : List Slot). clear 0 s body) (timing_slots_lem type n t ∙ ap timing_slots whole) ∙ timing-clear body b (long ∙ whole)

pub given_unread : (type n : ℕ) (body : List ℕ) → is_timing type ≡ false → Bytes body → length body ≡ n → body_cleared type n body ≡ body
given_unread type n body t b long =
    ap (λ (s : List Slot). clear 0 s body) (unread_slots type n t)
    ∙ append-nil (big n (num n 0 body))
    ∙ big-num n 0 body b (omega arith)
    ∙ take_all n body (omega arith)

-- in plain numbers
pub body_given_lem : (type n : ℕ) (body : List ℕ)
    → Bytes body
    → length body ≡ n
    → TimingRule type n
    → body_cleared type n body ≡ plain_given type body
body_given_lem type n body b long six = by (is_timing type) refl
  where
    by : (t : Bool) → is_timing type ≡ t → body_cleared type n body ≡ plain_given type body
    by true t =
        given-timing type n body t six b long
        ∙ ap (λ (l : List ℕ). l ++ drop 2 body) (two_bytes (num 1 0 body) (get_or body 1 0) (b 1))
        ∙ rw t refl
    by false t = given_unread type n body t b long ∙ rw t refl

-- the same of the body in a datagram
pub given-at : (type n o : ℕ) (d : List ℕ)
    → Bytes d
    → o + n ≤ length d
    → TimingRule type n
    → clear o (body_slots type n) d ≡ plain_given type (take n (drop o d))
given-at type n o d b inside six =
    ap (λ (k : ℕ). clear k (body_slots type n) d) (sym (add-zero o))
    ∙ sym (clear-part (body_slots type n) 0 n o d (omega (arith, slots_width type n)))
    ∙ body_given_lem type n (take n (drop o d)) (bytes_take n (drop o d) (bytes_drop o d b))
    (length-take-le n (drop o d) (omega (arith, length-drop o d)))
    six

-- written with padding zero, it has the same values
pub given-values : (type n : ℕ) (body : List ℕ) → Bytes body → TimingRule type n → body_values type n (body_cleared type n body) ≡ body_values type n body
given-values type n body b six =
    let t : List Slot = body_slots type n in
    let xs : List ℕ = body_values type n body in
    ap (read 0 t) (sym (fill-read t 0 body (slots_fixed type n 0 body)))
    ∙ ap (read 0 t) (sym (append-nil (fill t xs)))
    ∙ read-fill t [] [] xs (slots_sound type n six) (fit_read t 0 body b)

-- ---- the body and the fill

pub body-width : (type n : ℕ) → width (body_table type n) ≡ n + fill_of n
body-width type n = width-append (body_slots type n) (padding (fill_of n) ∷ []) ∙ omega (arith, slots_width type n)

pub body-fixed : (type n o : ℕ) (d : List ℕ) → all_fixed o (body_table type n) d ≡ true
body-fixed type n o d =
    fixed-append (body_slots type n) (padding (fill_of n) ∷ []) o d ∙ ap (λ (b : Bool). b && true) (slots_fixed type n o d)

pub body-sound : (type n : ℕ) → TimingRule type n → sound (body_table type n) ≡ true
body-sound type n six =
    sound-append (body_slots type n) (padding (fill_of n) ∷ []) ∙ ap (λ (b : Bool). b && true) (slots_sound type n six)

-- the table's padding from byte o on is the body's own and the fill's
pub body_blank_lem : (type n o : ℕ) (d : List ℕ)
    → all_blank o (body_table type n) d ≡ (all_blank o (body_slots type n) d && all_blank (o + n) (padding (fill_of n) ∷ []) d)
body_blank_lem type n o d =
    blank-append (body_slots type n) (padding (fill_of n) ∷ []) o d
    ∙ ap (λ (k : ℕ). all_blank o (body_slots type n) d && all_blank (o + k) (padding (fill_of n) ∷ []) d) (slots_width type n)

-- the values read from byte o on are those of the part that starts there
pub body-read : (type n o : ℕ) (d : List ℕ) → read o (body_table type n) d ≡ body_values type n (take n (drop o d))
body-read type n o d =
    read-append (body_slots type n) (padding (fill_of n) ∷ []) o d
    ∙ append-nil (read o (body_slots type n) d)
    ∙ sym
    (read_part (body_slots type n) 0 n o d (omega (arith, slots_width type n)) ∙ ap (λ (k : ℕ). read k (body_slots type n) d) (add-zero o))

-- a body's values fit
pub body_fit : (type n : ℕ) (body : List ℕ) → Bytes body → Fit (body_table type n) (body_values type n body)
body_fit type n body b =
    subst (Fit (body_table type n)) (append-nil (body_values type n body))
    (fit_append (body_slots type n) (padding (fill_of n) ∷ []) (body_values type n body) [] (fit_read (body_slots type n) 0 body b) refl)

-- what is cleared from byte o on, and what is written there of a body: the body's own slots with padding zero, and zeros
zeros_of : (n : ℕ) → ◌≡◌ {A = List ℕ} (big n 0 ++ []) (replicate n 0)
zeros_of n = append-nil (big n 0) ∙ big-zero n

pub body-clear : (type n o : ℕ) (d : List ℕ) → clear o (body_table type n) d ≡ clear o (body_slots type n) d ++ replicate (fill_of n) 0
body-clear type n o d =
    clear-append (body_slots type n) (padding (fill_of n) ∷ []) o d ∙ ap (λ (l : List ℕ). clear o (body_slots type n) d ++ l) (zeros_of (fill_of n))

pub body_written_lem : (type n : ℕ) (body : List ℕ)
    → fill (body_table type n) (body_values type n body) ≡ body_cleared type n body ++ replicate (fill_of n) 0
body_written_lem type n body =
    ap (fill (body_table type n)) (sym (append-nil (body_values type n body)))
    ∙ fill-append (body_slots type n) (padding (fill_of n) ∷ []) (body_values type n body) [] (length-read (body_slots type n) 0 body)
    ∙ ap₂ ◌++◌ (fill-read (body_slots type n) 0 body (slots_fixed type n 0 body)) (zeros_of (fill_of n))

-- of the whole body: as it is written, and the fill
pub body_bytes : (type : ℕ) (body : List ℕ) → bytes_of_body type body ≡ body_written type body ++ replicate (fill_of (length body)) 0
body_bytes type body = body_written_lem type (length body) body
