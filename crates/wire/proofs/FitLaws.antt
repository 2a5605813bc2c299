-- What a table writes is bytes (`bytes-fill`), and what it reads of bytes fits its places (`fit_read`). By induction on the table, over the
-- same of one number and of lists put together.
-- Assumes nothing.
use Prim.Native.Nat.{ℕ, zero, suc, ◌+◌, ◌/◌, ◌%◌, ◌^◌}
use mathlib.Core.Path.{refl}
use mathlib.Core.List.{List, [], ◌∷◌, ◌++◌}
use lib.ListN.{take, drop, replicate}
use lib.Seq.{get_or-drop, take_at, drop_at}
use lib.Pow.{pow_pos}
use native.Mathlib.Nat.{mod-lt}
use native.Mathlib.Omega.{arith}
use Rattle.wire.specs.Bytes.{num, big, Bytes}
use Rattle.wire.specs.Table.{Part, keep, only, skip, Slot, kept, padding, one, parts, bits, split, keeps, wide, count, number, read}
use Rattle.wire.specs.Table.{fill, FitParts, Fit}
use Rattle.wire.proofs.ByteLaws.{num-lt}
use Rattle.wire.proofs.TableLaws.{length-split}

-- ---- lists of bytes

pub bytes-append : (p q : List ℕ) → Bytes p → Bytes q → Bytes (p ++ q)
bytes-append [] q b c i = c i
bytes-append (x ∷ p) q b c zero = b 0
bytes-append (x ∷ p) q b c (suc i) = bytes-append p q (λ j. b (suc j)) c i

pub bytes_take : (n : ℕ) (d : List ℕ) → Bytes d → Bytes (take n d)
bytes_take zero d b i = omega arith
bytes_take (suc n) [] b i = omega arith
bytes_take (suc n) (x ∷ d) b zero = b 0
bytes_take (suc n) (x ∷ d) b (suc i) = bytes_take n d (λ j. b (suc j)) i

pub bytes_drop : (n : ℕ) (d : List ℕ) → Bytes d → Bytes (drop n d)
bytes_drop n d b i = rw (get_or-drop n d i 0) (b (n + i))

pub bytes-zero : (n : ℕ) → Bytes (replicate n 0)
bytes-zero zero i = omega arith
bytes-zero (suc n) zero = omega arith
bytes-zero (suc n) (suc i) = bytes-zero n i

-- ---- what is written

pub bytes-big : (w v : ℕ) → Bytes (big w v)
bytes-big zero v i = omega arith
bytes-big (suc w) v i = bytes-append (big w (v / 256)) (v % 256 ∷ []) (bytes-big w (v / 256)) last i
  where
    last : Bytes (v % 256 ∷ [])
    last zero = omega arith
    last (suc i) = omega arith

pub bytes-fill : (t : List Slot) (xs : List ℕ) → Bytes (fill t xs)
bytes-fill [] xs i = omega arith
bytes-fill (s ∷ t) xs i =
    let here : List ℕ = big (wide s) (number s (take (count s) xs)) in
    bytes-append here (fill t (drop (count s) xs)) (bytes-big (wide s) _) (bytes-fill t (drop (count s) xs)) i

-- ---- what is read

fit_split : (ps : List Part) (v : ℕ) → FitParts ps (split ps v)
fit_split [] v = refl
fit_split (keep b ∷ ps) v = (mod-lt (v / 2 ^ bits ps) (pow_pos b), fit_split ps v)
fit_split (only b u ∷ ps) v = fit_split ps v
fit_split (skip b ∷ ps) v = fit_split ps v

pub fit_read : (t : List Slot) (o : ℕ) (d : List ℕ) → Bytes d → Fit t (read o t d)
fit_read [] o d b = refl
fit_read (kept w ∷ t) o d b = (num-lt w o d b, fit_read t (o + w) d b)
fit_read (padding w ∷ t) o d b = fit_read t (o + w) d b
fit_read (one w u ∷ t) o d b = fit_read t (o + w) d b
fit_read (parts w ps ∷ t) o d b =
    let here : List ℕ = split ps (num w o d) in
    let next : List ℕ = read (o + w) t d in
    let long = length-split ps (num w o d) in
    let front : FitParts ps (take (keeps ps) (here ++ next)) = rw (take_at here next (keeps ps) long) (fit_split ps (num w o d)) in
    let back : Fit t (drop (keeps ps) (here ++ next)) = rw (drop_at here next (keeps ps) long) (fit_read t (o + w) d b) in
    (front, back)
