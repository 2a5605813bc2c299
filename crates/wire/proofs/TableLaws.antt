-- The laws of layout tables, for any sound table. Values that fit, written by the table and read back, are the same values (`read-fill`),
-- and what is written has the fixed values (`fixed-fill`) and the table's width (`length-fill`). Bytes with the fixed values, read and
-- written back, are the bytes with padding zero (`fill-read`), and those are the bytes themselves exactly where the padding is zero
-- (`clear-blank`, `blank-clear`). Each goes by induction on the table, over the same law of one slot and of the parts of a number.
-- Assumes nothing.
use Prim.Native.Nat.{ℕ, zero, suc, ◌+◌, ◌*◌, ◌%◌, ◌^◌, ◌≤◌, ◌<◌}
use mathlib.Core.Path.{◌≡◌, refl, sym, ap, ap₂, ◌∙◌, subst}
use mathlib.Core.Bool.{Bool, true, false, ◌&&◌, false≢true}
use mathlib.Core.List.{List, [], ◌∷◌, ◌++◌, append_assoc}
use lib.ListN.{length, take, drop, length-append, take-append-drop}
use lib.Seq.{take_at, drop_at, take-add, drop-drop}
use lib.Arith.{digits_lt, digits_div, digits_mod}
use lib.Pow.{pow_pos, pow-add, mod-pow-add}
use lib.Dec.{eqb, ltb}
use native.Mathlib.Nat.{add-zero, mod-one, mod-eq_of_lt, zero-mul, suc-mul, pow-suc}
use native.Mathlib.Omega.{arith}
use borrow.Author.Tests.{eqb-true, eq-eqb, ltb-true}
use Rattle.wire.specs.Bytes.{num, big, Bytes}
use Rattle.wire.specs.Table.{Part, keep, only, skip, Slot, kept, padding, one, parts, bits, above, split, join, clean, fixed, bare}
use Rattle.wire.specs.Table.{keeps, wide, count, values, number, tidy, right, blank, width, read, fill, clear, all_fixed, all_blank}
use Rattle.wire.specs.Table.{sound_parts, sound, FitParts, Fit}
use Rattle.wire.proofs.ByteLaws.{length-big, num-append, num-big, big-num, num-lt}

-- both halves of a conjunction that is true
pub both_true : (a b : Bool) → (a && b) ≡ true → (a ≡ true) × (b ≡ true)
both_true true b e = (refl, e)
both_true false b e = (e, (elim (false≢true e) [ ]))

-- ---- the parts of a number

-- a number's high digits, the next part and the rest, grouped as the next part sees them
regroup : (h b k x j : ℕ) → h * 2 ^ (b + k) + (x * 2 ^ k + j) ≡ (h * 2 ^ b + x) * 2 ^ k + j
regroup h b k x j = rw (pow-add 2 b k) (omega arith)

-- the same where the next part is zero and not written
regroup_skip : (h b k j : ℕ) → h * 2 ^ (b + k) + j ≡ (h * 2 ^ b) * 2 ^ k + j
regroup_skip h b k j = rw (pow-add 2 b k) (omega arith)

part-lt : (b k x j : ℕ) → x < 2 ^ b → j < 2 ^ k → x * 2 ^ k + j < 2 ^ (b + k)
part-lt b k x j hx hj = rw (pow-add 2 b k) (digits_lt hx hj)

rest_lt : (b k j : ℕ) → j < 2 ^ k → j < 2 ^ (b + k)
rest_lt b k j h = omega (arith, part-lt b k 0 j (pow_pos b) h)

join-lt : (ps : List Part) (xs : List ℕ) → sound_parts ps ≡ true → FitParts ps xs → join ps xs < 2 ^ bits ps
join-lt [] xs s f = omega arith
join-lt (keep b ∷ ps) [] s f = elim f [ ]
join-lt (keep b ∷ ps) (x ∷ xs) s f = part-lt b (bits ps) x (join ps xs) f.0 (join-lt ps xs s f.1)
join-lt (only b u ∷ ps) xs s f =
    let e = both_true (ltb u (2 ^ b)) (sound_parts ps) s in
    part-lt b (bits ps) u (join ps xs) (ltb-true u (2 ^ b) e.0) (join-lt ps xs e.1 f)
join-lt (skip b ∷ ps) xs s f = rest_lt b (bits ps) (join ps xs) (join-lt ps xs s f)

-- the part above the rest, of a number put together from high digits h, the part x and the rest j
above_is : (b h x j : ℕ) (ps : List Part) → x < 2 ^ b → j < 2 ^ bits ps → above b ps ((h * 2 ^ b + x) * 2 ^ bits ps + j) ≡ x
above_is b h x j ps hx hj = ap (λ (n : ℕ). n % 2 ^ b) (digits_div (h * 2 ^ b + x) hj) ∙ digits_mod h hx

split-join : (ps : List Part) (h : ℕ) (xs : List ℕ) → sound_parts ps ≡ true → FitParts ps xs → split ps (h * 2 ^ bits ps + join ps xs) ≡ xs
split-join [] h xs s f = sym f
split-join (keep b ∷ ps) h [] s f = elim f [ ]
split-join (keep b ∷ ps) h (x ∷ xs) s f =
    rw (regroup h b (bits ps) x (join ps xs))
    (ap₂ (λ (y : ℕ) (ys : List ℕ). y ∷ ys)
    (above_is b h x (join ps xs) ps f.0 (join-lt ps xs s f.1))
    (split-join ps (h * 2 ^ b + x) xs s f.1))
split-join (only b u ∷ ps) h xs s f =
    rw (regroup h b (bits ps) u (join ps xs))
    (split-join ps (h * 2 ^ b + u) xs (both_true (ltb u (2 ^ b)) (sound_parts ps) s).1 f)
split-join (skip b ∷ ps) h xs s f = rw (regroup_skip h b (bits ps) (join ps xs)) (split-join ps (h * 2 ^ b) xs s f)

fixed-join : (ps : List Part) (h : ℕ) (xs : List ℕ) → sound_parts ps ≡ true → FitParts ps xs → fixed ps (h * 2 ^ bits ps + join ps xs) ≡ true
fixed-join [] h xs s f = refl
fixed-join (keep b ∷ ps) h [] s f = elim f [ ]
fixed-join (keep b ∷ ps) h (x ∷ xs) s f =
    rw (regroup h b (bits ps) x (join ps xs)) (fixed-join ps (h * 2 ^ b + x) xs s f.1)
fixed-join (only b u ∷ ps) h xs s f =
    let e = both_true (ltb u (2 ^ b)) (sound_parts ps) s in
    rw (regroup h b (bits ps) u (join ps xs))
    (ap₂ ◌&&◌
    (eq-eqb _ _ (above_is b h u (join ps xs) ps (ltb-true u (2 ^ b) e.0) (join-lt ps xs e.1 f)))
    (fixed-join ps (h * 2 ^ b + u) xs e.1 f))
fixed-join (skip b ∷ ps) h xs s f = rw (regroup_skip h b (bits ps) (join ps xs)) (fixed-join ps (h * 2 ^ b) xs s f)

join-split : (ps : List Part) (v : ℕ) → fixed ps v ≡ true → join ps (split ps v) ≡ clean ps v
join-split [] v e = refl
join-split (keep b ∷ ps) v e = ap (λ (n : ℕ). above b ps v * 2 ^ bits ps + n) (join-split ps v e)
join-split (only b u ∷ ps) v e =
    let h = both_true (eqb (above b ps v) u) (fixed ps v) e in
    ap₂ (λ (m n : ℕ). m * 2 ^ bits ps + n) (sym (eqb-true _ _ h.0)) (join-split ps v h.1)
join-split (skip b ∷ ps) v e = join-split ps v e

pub length-split : (ps : List Part) (v : ℕ) → length (split ps v) ≡ keeps ps
length-split [] v = refl
length-split (keep b ∷ ps) v = ap suc (length-split ps v)
length-split (only b u ∷ ps) v = length-split ps v
length-split (skip b ∷ ps) v = length-split ps v

clean-le : (ps : List Part) (v : ℕ) → clean ps v ≤ v % 2 ^ bits ps
clean-le [] v = omega arith
clean-le (keep b ∷ ps) v = rw (mod-pow-add v b (bits ps)) (omega (arith, clean-le ps v))
clean-le (only b u ∷ ps) v = rw (mod-pow-add v b (bits ps)) (omega (arith, clean-le ps v))
clean-le (skip b ∷ ps) v = rw (mod-pow-add v b (bits ps)) (omega (arith, clean-le ps v))

clean-bare : (ps : List Part) (v : ℕ) → bare ps v ≡ true → clean ps v ≡ v % 2 ^ bits ps
clean-bare [] v e = sym (mod-one v)
clean-bare (keep b ∷ ps) v e = rw (mod-pow-add v b (bits ps)) (omega (arith, clean-bare ps v e))
clean-bare (only b u ∷ ps) v e = rw (mod-pow-add v b (bits ps)) (omega (arith, clean-bare ps v e))
clean-bare (skip b ∷ ps) v e =
    let h = both_true (eqb (above b ps v) 0) (bare ps v) e in
    let none : above b ps v * 2 ^ bits ps ≡ 0 = ap (λ (n : ℕ). n * 2 ^ bits ps) (eqb-true _ _ h.0) ∙ zero-mul (2 ^ bits ps) in
    rw (mod-pow-add v b (bits ps)) (omega (arith, clean-bare ps v h.1))

zero_of : (a k : ℕ) → 0 < k → a * k ≡ 0 → a ≡ 0
zero_of zero k h e = refl
zero_of (suc a) k h e = elim (zero-ne (a * k) k h (sym (suc-mul a k) ∙ e)) [ ]
  where
    zero-ne : (x k : ℕ) → 0 < k → x + k ≡ 0 → ⊥
    zero-ne x k h e = omega arith

bare-clean : (ps : List Part) (v : ℕ) → clean ps v ≡ v % 2 ^ bits ps → bare ps v ≡ true
bare-clean [] v e = refl
bare-clean (keep b ∷ ps) v e = bare-clean ps v (omega (arith, rw (mod-pow-add v b (bits ps)) at e))
bare-clean (only b u ∷ ps) v e = bare-clean ps v (omega (arith, rw (mod-pow-add v b (bits ps)) at e))
bare-clean (skip b ∷ ps) v e =
    let e' = rw (mod-pow-add v b (bits ps)) at e in
    let none : above b ps v * 2 ^ bits ps ≡ 0 = omega (arith, e', clean-le ps v) in
    ap₂ ◌&&◌
    (eq-eqb _ _ (zero_of (above b ps v) (2 ^ bits ps) (pow_pos (bits ps)) none))
    (bare-clean ps v (omega (arith, e', none)))

-- ---- one slot of a table

pow_pos_256 : (w : ℕ) → 0 < 256 ^ w
pow_pos_256 zero = omega arith
pow_pos_256 (suc w) = rw (pow-suc 256 w) (omega (arith, pow_pos_256 w))

-- what soundness says of the first slot, where that has parts
parts_fill :
    (w : ℕ) (ps : List Part) (t : List Slot)
    → sound (parts w ps ∷ t) ≡ true
    → (2 ^ bits ps ≡ 256 ^ w) × (sound_parts ps ≡ true) × (sound t ≡ true)
parts_fill w ps t s =
    let a = both_true (eqb (2 ^ bits ps) (256 ^ w) && sound_parts ps) (sound t) s in
    let b = both_true (eqb (2 ^ bits ps) (256 ^ w)) (sound_parts ps) a.0 in
    (eqb-true _ _ b.0, b.1, a.1)

pub sound_rest : (s : Slot) (t : List Slot) → sound (s ∷ t) ≡ true → sound t ≡ true
sound_rest (kept w) t e = e
sound_rest (padding w) t e = e
sound_rest (one w u) t e = (both_true (ltb u (256 ^ w)) (sound t) e).1
sound_rest (parts w ps) t e = (parts_fill w ps t e).2

fit_rest : (s : Slot) (t : List Slot) (xs : List ℕ) → Fit (s ∷ t) xs → Fit t (drop (count s) xs)
fit_rest (kept w) t [] f = elim f [ ]
fit_rest (kept w) t (x ∷ xs) f = f.1
fit_rest (padding w) t xs f = f
fit_rest (one w u) t xs f = f
fit_rest (parts w ps) t xs f = f.1

number_lt : (s : Slot) (t : List Slot) (xs : List ℕ) → sound (s ∷ t) ≡ true → Fit (s ∷ t) xs → number s (take (count s) xs) < 256 ^ wide s
number_lt (kept w) t [] e f = elim f [ ]
number_lt (kept w) t (x ∷ xs) e f = f.0
number_lt (padding w) t xs e f = pow_pos_256 w
number_lt (one w u) t xs e f = ltb-true _ _ (both_true (ltb u (256 ^ w)) (sound t) e).0
number_lt (parts w ps) t xs e f =
    let h = parts_fill w ps t e in
    rw (← h.0) (join-lt ps (take (keeps ps) xs) h.1 f.0)

-- no digits above: what `split-join` and `fixed-join` say with h = 0
alone : (k j : ℕ) → 0 * k + j ≡ j
alone k j = omega (arith, zero-mul k)

values-number :
    (s : Slot) (t : List Slot) (xs : List ℕ)
    → sound (s ∷ t) ≡ true
    → Fit (s ∷ t) xs
    → values s (number s (take (count s) xs)) ≡ take (count s) xs
values-number (kept w) t [] e f = elim f [ ]
values-number (kept w) t (x ∷ xs) e f = refl
values-number (padding w) t xs e f = refl
values-number (one w u) t xs e f = refl
values-number (parts w ps) t xs e f =
    subst (λ (n : ℕ). split ps n ≡ take (keeps ps) xs) (alone (2 ^ bits ps) _)
    (split-join ps 0 (take (keeps ps) xs) (parts_fill w ps t e).1 f.0)

right-number : (s : Slot) (t : List Slot) (xs : List ℕ) → sound (s ∷ t) ≡ true → Fit (s ∷ t) xs → right s (number s (take (count s) xs)) ≡ true
right-number (kept w) t xs e f = refl
right-number (padding w) t xs e f = refl
right-number (one w u) t xs e f = eq-eqb u u refl
right-number (parts w ps) t xs e f =
    subst (λ (n : ℕ). fixed ps n ≡ true) (alone (2 ^ bits ps) _)
    (fixed-join ps 0 (take (keeps ps) xs) (parts_fill w ps t e).1 f.0)

pub length-values : (s : Slot) (v : ℕ) → length (values s v) ≡ count s
length-values (kept w) v = refl
length-values (padding w) v = refl
length-values (one w u) v = refl
length-values (parts w ps) v = length-split ps v

number-values : (s : Slot) (v : ℕ) → right s v ≡ true → number s (values s v) ≡ tidy s v
number-values (kept w) v e = refl
number-values (padding w) v e = refl
number-values (one w u) v e = sym (eqb-true v u e)
number-values (parts w ps) v e = join-split ps v e

pub tidy-blank : (s : Slot) (t : List Slot) (v : ℕ) → sound (s ∷ t) ≡ true → v < 256 ^ wide s → blank s v ≡ true → tidy s v ≡ v
tidy-blank (kept w) t v e h b = refl
tidy-blank (padding w) t v e h b = sym (eqb-true v 0 b)
tidy-blank (one w u) t v e h b = refl
tidy-blank (parts w ps) t v e h b =
    clean-bare ps v b ∙ mod-eq_of_lt (rw (parts_fill w ps t e).0 h)

blank-tidy : (s : Slot) (t : List Slot) (v : ℕ) → sound (s ∷ t) ≡ true → v < 256 ^ wide s → tidy s v ≡ v → blank s v ≡ true
blank-tidy (kept w) t v e h b = refl
blank-tidy (padding w) t v e h b = eq-eqb v 0 (sym b)
blank-tidy (one w u) t v e h b = refl
blank-tidy (parts w ps) t v e h b =
    bare-clean ps v (b ∙ sym (mod-eq_of_lt (rw (parts_fill w ps t e).0 h)))

tidy_lt : (s : Slot) (t : List Slot) (v : ℕ) → sound (s ∷ t) ≡ true → v < 256 ^ wide s → tidy s v < 256 ^ wide s
tidy_lt (kept w) t v e h = h
tidy_lt (padding w) t v e h = pow_pos_256 w
tidy_lt (one w u) t v e h = h
tidy_lt (parts w ps) t v e h =
    let k : v < 2 ^ bits ps = rw (parts_fill w ps t e).0 h in
    omega (arith, clean-le ps v, mod-eq_of_lt k)

-- ---- tables

pub length-fill : (t : List Slot) (xs : List ℕ) → length (fill t xs) ≡ width t
length-fill [] xs = refl
length-fill (s ∷ t) xs =
    length-append (big (wide s) (number s (take (count s) xs))) (fill t (drop (count s) xs))
    ∙ ap₂ ◌+◌ (length-big (wide s) (number s (take (count s) xs))) (length-fill t (drop (count s) xs))

pub length-clear : (o : ℕ) (t : List Slot) (d : List ℕ) → length (clear o t d) ≡ width t
length-clear o [] d = refl
length-clear o (s ∷ t) d =
    length-append (big (wide s) (tidy s (num (wide s) o d))) (clear (o + wide s) t d)
    ∙ ap₂ ◌+◌ (length-big (wide s) (tidy s (num (wide s) o d))) (length-clear (o + wide s) t d)

-- the number of a first slot, read where it was written
slot_here : (w n : ℕ) (p f q : List ℕ) → n < 256 ^ w → num w (length p) (p ++ (big w n ++ f ++ q)) ≡ n
slot_here w n p f q h =
    subst (λ (o : ℕ). num w o (p ++ (big w n ++ f ++ q)) ≡ num w 0 (big w n ++ f ++ q)) (add-zero (length p)) (num-append w 0 p (big w n ++ f ++ q))
    ∙ ap (λ (l : List ℕ). num w 0 l) (append_assoc (big w n) f q)
    ∙ num-big w n (f ++ q)
    ∙ mod-eq_of_lt h

-- what stands behind a first slot, with that slot counted to the prefix
slot_next : (w n : ℕ) (p f q : List ℕ) → p ++ (big w n ++ f ++ q) ≡ p ++ big w n ++ (f ++ q)
slot_next w n p f q = ap (λ (l : List ℕ). p ++ l) (append_assoc (big w n) f q) ∙ sym (append_assoc p (big w n) (f ++ q))

prefix_length : (w n : ℕ) (p : List ℕ) → length (p ++ big w n) ≡ length p + w
prefix_length w n p = length-append p (big w n) ∙ ap (λ (k : ℕ). length p + k) (length-big w n)

pub read-fill : (t : List Slot) (p q xs : List ℕ) → sound t ≡ true → Fit t xs → read (length p) t (p ++ (fill t xs ++ q)) ≡ xs
read-fill [] p q xs e f = sym f
read-fill (s ∷ t) p q xs e f =
    let n : ℕ = number s (take (count s) xs) in
    let rest : List ℕ = fill t (drop (count s) xs) in
    ap₂ ◌++◌
    (ap (values s) (slot_here (wide s) n p rest q (number_lt s t xs e f)) ∙ values-number s t xs e f)
    (ap₂ (λ (o : ℕ) (l : List ℕ). read o t l) (sym (prefix_length (wide s) n p)) (slot_next (wide s) n p rest q)
    ∙ read-fill t (p ++ big (wide s) n) q (drop (count s) xs) (sound_rest s t e) (fit_rest s t xs f))
    ∙ take-append-drop (count s) xs

pub fixed-fill : (t : List Slot) (p q xs : List ℕ) → sound t ≡ true → Fit t xs → all_fixed (length p) t (p ++ (fill t xs ++ q)) ≡ true
fixed-fill [] p q xs e f = refl
fixed-fill (s ∷ t) p q xs e f =
    let n : ℕ = number s (take (count s) xs) in
    let rest : List ℕ = fill t (drop (count s) xs) in
    ap₂ ◌&&◌
    (ap (right s) (slot_here (wide s) n p rest q (number_lt s t xs e f)) ∙ right-number s t xs e f)
    (ap₂ (λ (o : ℕ) (l : List ℕ). all_fixed o t l) (sym (prefix_length (wide s) n p)) (slot_next (wide s) n p rest q)
    ∙ fixed-fill t (p ++ big (wide s) n) q (drop (count s) xs) (sound_rest s t e) (fit_rest s t xs f))

pub fill-read : (t : List Slot) (o : ℕ) (d : List ℕ) → all_fixed o t d ≡ true → fill t (read o t d) ≡ clear o t d
fill-read [] o d e = refl
fill-read (s ∷ t) o d e =
    let v : ℕ = num (wide s) o d in
    let h = both_true (right s v) (all_fixed (o + wide s) t d) e in
    let rest : List ℕ = read (o + wide s) t d in
    ap₂ (λ (m l : List ℕ). big (wide s) (number s m) ++ fill t l)
    (take_at (values s v) rest (count s) (length-values s v))
    (drop_at (values s v) rest (count s) (length-values s v))
    ∙ ap₂ (λ (m : ℕ) (l : List ℕ). big (wide s) m ++ l) (number-values s v h.0) (fill-read t (o + wide s) d h.1)

-- the bytes that a table takes, its first slot's apart
first_apart :
    (s : Slot) (t : List Slot) (o : ℕ) (d : List ℕ)
    → take (width (s ∷ t)) (drop o d) ≡ take (wide s) (drop o d) ++ take (width t) (drop (o + wide s) d)
first_apart s t o d =
    take-add (wide s) (width t) (drop o d)
    ∙ ap (λ (l : List ℕ). take (wide s) (drop o d) ++ take (width t) l) (drop-drop (wide s) o d)

pub clear-blank :
    (t : List Slot) (o : ℕ) (d : List ℕ)
    → sound t ≡ true
    → Bytes d
    → o + width t ≤ length d
    → all_blank o t d ≡ true
    → clear o t d ≡ take (width t) (drop o d)
clear-blank [] o d e b h z = refl
clear-blank (s ∷ t) o d e b h z =
    let v : ℕ = num (wide s) o d in
    let k = both_true (blank s v) (all_blank (o + wide s) t d) z in
    ap₂ ◌++◌
    (ap (big (wide s)) (tidy-blank s t v e (num-lt (wide s) o d b) k.0) ∙ big-num (wide s) o d b (omega arith))
    (clear-blank t (o + wide s) d (sound_rest s t e) b (omega arith) k.1)
    ∙ sym (first_apart s t o d)

-- two numbers of w bytes with the same bytes are the same
big_same : (w m n : ℕ) → m < 256 ^ w → n < 256 ^ w → big w m ≡ big w n → m ≡ n
big_same w m n hm hn e =
    sym (mod-eq_of_lt hm) ∙ sym (num-big w m []) ∙ ap (λ (l : List ℕ). num w 0 (l ++ [])) e ∙ num-big w n [] ∙ mod-eq_of_lt hn

pub blank-clear :
    (t : List Slot) (o : ℕ) (d : List ℕ)
    → sound t ≡ true
    → Bytes d
    → o + width t ≤ length d
    → clear o t d ≡ take (width t) (drop o d)
    → all_blank o t d ≡ true
blank-clear [] o d e b h z = refl
blank-clear (s ∷ t) o d e b h z =
    let w : ℕ = wide s in
    let v : ℕ = num w o d in
    let here : List ℕ = big w (tidy s v) in
    let same : here ++ clear (o + w) t d ≡ big w v ++ take (width t) (drop (o + w) d) =
    z ∙ first_apart s t o d ∙ ap (λ (l : List ℕ). l ++ take (width t) (drop (o + w) d)) (sym (big-num w o d b (omega arith))) in
    let front : here ≡ big w v =
    sym (take_at here _ w (length-big w (tidy s v))) ∙ ap (take w) same ∙ take_at (big w v) _ w (length-big w v) in
    let back : clear (o + w) t d ≡ take (width t) (drop (o + w) d) =
    sym (drop_at here _ w (length-big w (tidy s v))) ∙ ap (drop w) same ∙ drop_at (big w v) _ w (length-big w v) in
    let lt : v < 256 ^ w = num-lt w o d b in
    ap₂ ◌&&◌
    (blank-tidy s t v e lt (big_same w (tidy s v) v (tidy_lt s t v e lt) lt front))
    (blank-clear t (o + w) d (sound_rest s t e) b (omega arith) back)
