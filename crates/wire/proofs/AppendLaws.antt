-- A table that is put together from two: reading, writing, clearing and the tests of it are those of the first and then those of the second
-- (`read-append`, ..); and a table read in a part of the bytes is read at its place in the whole (`read_part`). By induction on the first table.
-- Assumes nothing.
use Prim.Native.Nat.{ℕ, suc, ◌+◌, ◌^◌, ◌≤◌}
use mathlib.Core.Path.{◌≡◌, refl, sym, ap, ap₂, ◌∙◌}
use mathlib.Core.Bool.{Bool, true, false, ◌&&◌}
use mathlib.Core.List.{List, [], ◌∷◌, ◌++◌, append_assoc}
use lib.ListN.{length, take, drop, length-append, length-take, length-drop}
use lib.Seq.{take-append-le, drop-append-le}
use lib.Dec.{eqb, ltb}
use native.Mathlib.Nat.{add-zero, add_assoc}
use native.Mathlib.Omega.{arith}
use Rattle.wire.specs.Bytes.{num, big}
use Rattle.wire.specs.Table.{Part, keep, only, skip, Slot, kept, padding, one, parts, bits, keeps, sound_parts, wide, count, counts, values}
use Rattle.wire.specs.Table.{number, tidy, right, blank, width, read, fill, clear, all_fixed, all_blank, sound, FitParts, Fit}
use Rattle.wire.proofs.TableLaws.{length-values}
use Rattle.wire.proofs.PartLaws.{num-part}

and_assoc : (a b c : Bool) → ((a && b) && c) ≡ (a && (b && c))
and_assoc true b c = refl
and_assoc false b c = refl

pub width-append : (t u : List Slot) → width (t ++ u) ≡ width t + width u
width-append [] u = omega arith
width-append (s ∷ t) u = ap (λ (n : ℕ). wide s + n) (width-append t u) ∙ sym (add_assoc (wide s) (width t) (width u))

pub read-append : (t u : List Slot) (o : ℕ) (d : List ℕ) → read o (t ++ u) d ≡ read o t d ++ read (o + width t) u d
read-append [] u o d = ap (λ (k : ℕ). read k u d) (sym (add-zero o))
read-append (s ∷ t) u o d =
    let here : List ℕ = values s (num (wide s) o d) in
    ap (λ (l : List ℕ). here ++ l)
    (read-append t u (o + wide s) d
    ∙ ap (λ (k : ℕ). read (o + wide s) t d ++ read k u d) (add_assoc o (wide s) (width t)))
    ∙ sym (append_assoc here (read (o + wide s) t d) (read (o + width (s ∷ t)) u d))

pub clear-append : (t u : List Slot) (o : ℕ) (d : List ℕ) → clear o (t ++ u) d ≡ clear o t d ++ clear (o + width t) u d
clear-append [] u o d = ap (λ (k : ℕ). clear k u d) (sym (add-zero o))
clear-append (s ∷ t) u o d =
    let here : List ℕ = big (wide s) (tidy s (num (wide s) o d)) in
    ap (λ (l : List ℕ). here ++ l)
    (clear-append t u (o + wide s) d
    ∙ ap (λ (k : ℕ). clear (o + wide s) t d ++ clear k u d) (add_assoc o (wide s) (width t)))
    ∙ sym (append_assoc here (clear (o + wide s) t d) (clear (o + width (s ∷ t)) u d))

pub blank-append : (t u : List Slot) (o : ℕ) (d : List ℕ) → all_blank o (t ++ u) d ≡ (all_blank o t d && all_blank (o + width t) u d)
blank-append [] u o d = ap (λ (k : ℕ). all_blank k u d) (sym (add-zero o))
blank-append (s ∷ t) u o d =
    let here : Bool = blank s (num (wide s) o d) in
    ap (λ (b : Bool). here && b)
    (blank-append t u (o + wide s) d
    ∙ ap (λ (k : ℕ). all_blank (o + wide s) t d && all_blank k u d) (add_assoc o (wide s) (width t)))
    ∙ sym (and_assoc here (all_blank (o + wide s) t d) (all_blank (o + width (s ∷ t)) u d))

pub fixed-append : (t u : List Slot) (o : ℕ) (d : List ℕ) → all_fixed o (t ++ u) d ≡ (all_fixed o t d && all_fixed (o + width t) u d)
fixed-append [] u o d = ap (λ (k : ℕ). all_fixed k u d) (sym (add-zero o))
fixed-append (s ∷ t) u o d =
    let here : Bool = right s (num (wide s) o d) in
    ap (λ (b : Bool). here && b)
    (fixed-append t u (o + wide s) d
    ∙ ap (λ (k : ℕ). all_fixed (o + wide s) t d && all_fixed k u d) (add_assoc o (wide s) (width t)))
    ∙ sym (and_assoc here (all_fixed (o + wide s) t d) (all_fixed (o + width (s ∷ t)) u d))

pub sound-append : (t u : List Slot) → sound (t ++ u) ≡ (sound t && sound u)
sound-append [] u = refl
sound-append (kept w ∷ t) u = sound-append t u
sound-append (padding w ∷ t) u = sound-append t u
sound-append (one w v ∷ t) u =
    ap (λ (b : Bool). ltb v (256 ^ w) && b) (sound-append t u) ∙ sym (and_assoc (ltb v (256 ^ w)) (sound t) (sound u))
sound-append (parts w ps ∷ t) u =
    let here : Bool = eqb (2 ^ bits ps) (256 ^ w) && sound_parts ps in
    ap (λ (b : Bool). here && b) (sound-append t u) ∙ sym (and_assoc here (sound t) (sound u))

-- how many values are read
pub length-read : (t : List Slot) (o : ℕ) (d : List ℕ) → length (read o t d) ≡ counts t
length-read [] o d = refl
length-read (s ∷ t) o d =
    length-append (values s (num (wide s) o d)) (read (o + wide s) t d)
    ∙ ap₂ ◌+◌ (length-values s (num (wide s) o d)) (length-read t (o + wide s) d)

-- a table in a part of the bytes
pub read_part : (t : List Slot) (i n o : ℕ) (d : List ℕ) → i + width t ≤ n → read i t (take n (drop o d)) ≡ read (o + i) t d
read_part [] i n o d h = refl
read_part (s ∷ t) i n o d h =
    ap₂ (λ (v : ℕ) (l : List ℕ). values s v ++ l)
    (num-part (wide s) i n o d (omega arith))
    (read_part t (i + wide s) n o d (omega arith) ∙ ap (λ (k : ℕ). read k t d) (sym (add_assoc o i (wide s))))

pub clear-part : (t : List Slot) (i n o : ℕ) (d : List ℕ) → i + width t ≤ n → clear i t (take n (drop o d)) ≡ clear (o + i) t d
clear-part [] i n o d h = refl
clear-part (s ∷ t) i n o d h =
    ap₂ (λ (v : ℕ) (l : List ℕ). big (wide s) (tidy s v) ++ l)
    (num-part (wide s) i n o d (omega arith))
    (clear-part t (i + wide s) n o d (omega arith) ∙ ap (λ (k : ℕ). clear k t d) (sym (add_assoc o i (wide s))))

-- values that were put together for the two
pub fill-append : (t u : List Slot) (xs ys : List ℕ) → length xs ≡ counts t → fill (t ++ u) (xs ++ ys) ≡ fill t xs ++ fill u ys
fill-append [] u [] ys h = refl
fill-append [] u (x ∷ xs) ys h = absurd (omega (arith, h))
fill-append (s ∷ t) u xs ys h =
    let c : ℕ = count s in
    let enough : c ≤ length xs = omega (arith, h) in
    let here : List ℕ = big (wide s) (number s (take c xs)) in
    let rest : length (drop c xs) ≡ counts t = length-drop c xs ∙ omega (arith, h) in
    ap₂ (λ (a b : List ℕ). big (wide s) (number s a) ++ fill (t ++ u) b) (take-append-le c xs ys enough) (drop-append-le c xs ys enough)
    ∙ ap (λ (l : List ℕ). here ++ l) (fill-append t u (drop c xs) ys rest)
    ∙ sym (append_assoc here (fill t (drop c xs)) (fill u ys))

-- values that fit are as many as the parts keep
fit_count : (ps : List Part) (xs : List ℕ) → FitParts ps xs → length xs ≡ keeps ps
fit_count [] xs f = ap length f
fit_count (keep b ∷ ps) [] f = absurd f
fit_count (keep b ∷ ps) (x ∷ xs) f = ap suc (fit_count ps xs f.1)
fit_count (only b v ∷ ps) xs f = fit_count ps xs f
fit_count (skip b ∷ ps) xs f = fit_count ps xs f

fit_long : (ps : List Part) (xs : List ℕ) → FitParts ps (take (keeps ps) xs) → keeps ps ≤ length xs
fit_long ps xs f = omega (arith, fit_count ps (take (keeps ps) xs) f, length-take (keeps ps) xs)

pub fit_append : (t u : List Slot) (xs ys : List ℕ) → Fit t xs → Fit u ys → Fit (t ++ u) (xs ++ ys)
fit_append [] u [] ys f g = g
fit_append [] u (x ∷ xs) ys f g = absurd (omega (arith, ap length f))
fit_append (kept w ∷ t) u [] ys f g = absurd f
fit_append (kept w ∷ t) u (x ∷ xs) ys f g = (f.0, fit_append t u xs ys f.1 g)
fit_append (padding w ∷ t) u xs ys f g = fit_append t u xs ys f g
fit_append (one w v ∷ t) u xs ys f g = fit_append t u xs ys f g
fit_append (parts w ps ∷ t) u xs ys f g =
    let enough : keeps ps ≤ length xs = fit_long ps xs f.0 in (
      rw (take-append-le (keeps ps) xs ys enough) f.0,
      rw (drop-append-le (keeps ps) xs ys enough) (fit_append t u (drop (keeps ps) xs) ys f.1 g),
    )
