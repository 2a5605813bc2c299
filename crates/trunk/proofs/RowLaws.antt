-- Laws of the store's rows: bytes spliced into a row stand in it, and leave every other row as it stood; eight numbers in a row have rows of
-- their own. By the laws of lists and of remainders.
-- Assumes nothing.
use Prim.Native.Nat.{ℕ, suc, ◌+◌, ◌%◌, ◌≤◌, ◌<◌}
use mathlib.Core.Path.{◌≡◌, refl, sym, ap, ◌∙◌}
use mathlib.Core.Logic.{◌≢◌}
use mathlib.Core.Bool.{Bool, true, false}
use mathlib.Core.List.{List, [], ◌∷◌, ◌++◌, append_assoc}
use lib.ListN.{length, get_or, take, drop, set}
use lib.Seq.{length-sets, sets-eq, take_at, drop_at, take-add, drop-set-lt, take-set-le, length-take-le, get_or-take, get_or-drop}
use lib.Dec.{ltb}
use native.Mathlib.Omega.{arith}
use borrow.Author.Tests.{ltb-true, ltb-false}
use Rattle.wire.specs.Bytes.{splice}
use Rattle.trunk.specs.Record.{kind_in}
use Rattle.trunk.specs.Near.{rows, row_size, store_size, row_start, row_kind}

-- ---- parts of a list that a splice leaves alone

-- the part behind it
behind : (at o : ℕ) (b l : List ℕ) → at + length b ≤ o → drop o (splice at b l) ≡ drop o l
behind at o [] l h = refl
behind at o (x ∷ b) l h = behind (suc at) o b (set l at x) (omega arith) ∙ drop-set-lt o l at x (omega arith)

-- the part before it
before : (at n : ℕ) (b l : List ℕ) → n ≤ at → take n (splice at b l) ≡ take n l
before at n [] l h = refl
before at n (x ∷ b) l h = before (suc at) n b (set l at x) (omega arith) ∙ take-set-le n l at x h

-- a part is the end of what comes up to its own end
part_of : (o n : ℕ) (l : List ℕ) → o ≤ length l → take n (drop o l) ≡ drop o (take (o + n) l)
part_of o n l h = sym (ap (drop o) (take-add o n l) ∙ drop_at (take o l) (take n (drop o l)) o (length-take-le o l h))

-- ---- rows

-- number i's row starts with these bytes
abbrev pub RowHolds : List ℕ → ℕ → List ℕ → Type 0
RowHolds store i bytes = take (length bytes) (drop (row_start i) store) ≡ bytes

pub row_written :
    (store : List ℕ) (i : ℕ) (bytes : List ℕ)
    → length store ≡ store_size
    → length bytes ≤ row_size
    → RowHolds (splice (row_start i) bytes store) i bytes
row_written store i bytes whole fits =
    let at : ℕ = row_start i in
    let inside : at + length bytes ≤ length store = omega arith in
    let shown = sets-eq bytes store at inside ∙ append_assoc (take at store) bytes (drop (at + length bytes) store) in
    ap (λ (l : List ℕ). take (length bytes) (drop at l)) shown
    ∙ ap (take (length bytes)) (drop_at (take at store) (bytes ++ drop (at + length bytes) store) at (length-take-le at store (omega arith)))
    ∙ take_at bytes (drop (at + length bytes) store) (length bytes) refl

pub row_kept :
    (store : List ℕ) (i j : ℕ) (bytes kept : List ℕ)
    → length store ≡ store_size
    → length bytes ≤ row_size
    → length kept ≤ row_size
    → i % rows ≢ j % rows
    → RowHolds store i kept
    → RowHolds (splice (row_start j) bytes store) i kept
row_kept store i j bytes kept whole fits small other holds = by (ltb (i % rows) (j % rows)) refl
  where
    by : (b : Bool) → ltb (i % rows) (j % rows) ≡ b → RowHolds (splice (row_start j) bytes store) i kept
    by true e =
        let less : i % rows < j % rows = ltb-true _ _ e in
        let o : ℕ = row_start i in
        let n : ℕ = length kept in
        part_of o n (splice (row_start j) bytes store) (rw (length-sets store (row_start j) bytes) (omega arith))
        ∙ ap (drop o) (before (row_start j) (o + n) bytes store (omega arith))
        ∙ sym (part_of o n store (omega arith))
        ∙ holds
    by false e =
        let more : j % rows ≤ i % rows = ltb-false _ _ e in
        ap (take (length kept)) (behind (row_start j) (row_start i) bytes store (omega arith)) ∙ holds

-- eight numbers in a row have rows of their own
pub rows_differ : (i j : ℕ) → i < j → j < i + rows → i % rows ≢ j % rows
rows_differ i j h k e = omega arith

-- the kind byte of a row that holds a record
pub row_kind_lem : (store : List ℕ) (i : ℕ) (r : List ℕ) → 0 < length r → RowHolds store i r → row_kind store i ≡ kind_in r
row_kind_lem store i r h holds =
    ap (λ (n : ℕ). 0 + n)
    (sym (get_or-drop (row_start i) store 0 0)
    ∙ sym (get_or-take (length r) (drop (row_start i) store) 0 0 h)
    ∙ ap (λ (l : List ℕ). get_or l 0 0) holds)
