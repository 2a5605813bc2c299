-- What clearing a table's padding leaves, piece by piece: slots without padding are the bytes as they stand, in one run, and the others stand
-- between the runs (`clear_pieces`). By induction on the table, with the run so far in hand.
-- Assumes nothing.
use Prim.Native.Nat.{ℕ, ◌+◌, ◌≤◌}
use mathlib.Core.Path.{◌≡◌, refl, sym, ap, ◌∙◌}
use mathlib.Core.Bool.{Bool, true, false, cond, false≢true}
use mathlib.Core.List.{List, [], ◌∷◌, ◌++◌, append_assoc}
use lib.ListN.{length, take, drop}
use lib.Seq.{take-add, drop-drop}
use native.Mathlib.Nat.{add-zero, add_assoc}
use native.Mathlib.Omega.{arith}
use Rattle.wire.specs.Bytes.{num, big, joined, Bytes}
use Rattle.wire.specs.Table.{Part, keep, only, skip, Slot, kept, padding, one, parts, bare, wide, tidy, blank, width, clear, sound}
use Rattle.wire.proofs.ByteLaws.{big-num, num-lt}
use Rattle.wire.proofs.TableLaws.{sound_rest, tidy-blank}

-- whether a slot has no padding
abbrev no_skip : List Part → Bool
no_skip [] = true
no_skip (keep b ∷ ps) = no_skip ps
no_skip (only b u ∷ ps) = no_skip ps
no_skip (skip b ∷ ps) = false

abbrev pub whole : Slot → Bool
whole (kept w) = true
whole (padding w) = false
whole (one w u) = true
whole (parts w ps) = no_skip ps

bare_whole : (ps : List Part) (v : ℕ) → no_skip ps ≡ true → bare ps v ≡ true
bare_whole [] v e = refl
bare_whole (keep b ∷ ps) v e = bare_whole ps v e
bare_whole (only b u ∷ ps) v e = bare_whole ps v e
bare_whole (skip b ∷ ps) v e = elim (false≢true e) [ ]

blank_whole : (s : Slot) (v : ℕ) → whole s ≡ true → blank s v ≡ true
blank_whole (kept w) v e = refl
blank_whole (padding w) v e = elim (false≢true e) [ ]
blank_whole (one w u) v e = refl
blank_whole (parts w ps) v e = bare_whole ps v e

-- the pieces of the layout t, which goes on behind a run of w bytes that starts at byte o
abbrev pub pieces : ℕ → ℕ → List Slot → List ℕ → List (List ℕ)
pieces o w [] d = take w (drop o d) ∷ []
pieces o w (s ∷ t) d =
    cond (whole s)
    (pieces o (w + wide s) t d)
    (take w (drop o d) ∷ big (wide s) (tidy s (num (wide s) (o + w) d)) ∷ pieces (o + w + wide s) 0 t d)

-- the pieces of two lists of them
pub joined-append : (ps qs : List (List ℕ)) → joined (ps ++ qs) ≡ joined ps ++ joined qs
joined-append [] qs = refl
joined-append (p ∷ ps) qs = ap (λ (l : List ℕ). p ++ l) (joined-append ps qs) ∙ sym (append_assoc p (joined ps) (joined qs))

-- a run, and the bytes next to it
run_on : (w k o : ℕ) (d q : List ℕ) → take w (drop o d) ++ (take k (drop (o + w) d) ++ q) ≡ take (w + k) (drop o d) ++ q
run_on w k o d q =
    sym (append_assoc (take w (drop o d)) (take k (drop (o + w) d)) q)
    ∙ ap (λ (l : List ℕ). l ++ q)
    (ap (λ (l : List ℕ). take w (drop o d) ++ take k l) (sym (drop-drop w o d)) ∙ sym (take-add w k (drop o d)))

pub clear_pieces :
    (t : List Slot) (o w : ℕ) (d : List ℕ)
    → sound t ≡ true
    → Bytes d
    → o + w + width t ≤ length d
    → take w (drop o d) ++ clear (o + w) t d ≡ joined (pieces o w t d)
clear_pieces [] o w d e b h = refl
clear_pieces (s ∷ t) o w d e b h =
    by (whole s) refl
    (clear_pieces t o (w + wide s) d (sound_rest s t e) b (omega arith))
    (clear_pieces t (o + w + wide s) 0 d (sound_rest s t e) b (omega arith))
  where
    k : ℕ
    k = wide s

    here : List ℕ
    here = big k (tidy s (num k (o + w) d))

    rest : List ℕ
    rest = clear (o + w + k) t d

    by : (x : Bool)
        → whole s ≡ x
        → take (w + k) (drop o d) ++ clear (o + (w + k)) t d ≡ joined (pieces o (w + k) t d)
        → clear (o + w + k + 0) t d ≡ joined (pieces (o + w + k) 0 t d)
        → take w (drop o d) ++ (here ++ rest) ≡ joined (pieces o w (s ∷ t) d)
    by true none longer new =
        let same : here ≡ take k (drop (o + w) d) =
        ap (big k) (tidy-blank s t _ e (num-lt k (o + w) d b) (blank_whole s _ none)) ∙ big-num k (o + w) d b (omega arith) in
        ap (λ (l : List ℕ). take w (drop o d) ++ (l ++ rest)) same
        ∙ run_on w k o d rest
        ∙ ap (λ (n : ℕ). take (w + k) (drop o d) ++ clear n t d) (add_assoc o w k)
        ∙ longer
        ∙ rw none refl
    by false some longer new =
        ap (λ (l : List ℕ). take w (drop o d) ++ (here ++ l)) (ap (λ (n : ℕ). clear n t d) (sym (add-zero (o + w + k))) ∙ new)
        ∙ rw some refl
