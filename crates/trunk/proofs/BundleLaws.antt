-- A slice walked from the front (02, R-5). What stops its first PDU is the reader's number or 23 (`stops`); a PDU uses some bytes, so the walk ends,
-- and goes on with what stands behind it (`slice_next`); so the definitions say of every slice what it is in plain numbers (`walked`), and nothing
-- else is true of it (`walked_only`), since bytes behind a PDU do not change how it is read.
-- Assumes nothing.
use Prim.Native.Nat.{ℕ, zero, suc, ◌≤◌, ◌<◌}
use mathlib.Core.Path.{◌≡◌, refl, sym, ap, ap₂, subst, ◌∙◌}
use mathlib.Core.Logic.{◌≢◌, ◌⊎◌, inl, inr}
use mathlib.Core.Bool.{Bool, true, false, cond, not, true≢false}
use mathlib.Core.List.{List, [], ◌∷◌, ◌++◌, append_assoc, append-nil}
use lib.ListN.{length, take, drop, length-append, length-drop, take-append-drop}
use lib.Seq.{take_at, drop_at, take_all, length-take-le}
use lib.Dec.{eqb}
use native.Mathlib.Omega.{arith}
use borrow.Author.Tests.{eqb-true, eqb-false, eq-eqb, ne_eqb, not-false}
use Rattle.wire.specs.Bytes.{Bytes, splice}
use Rattle.wire.proofs.FitLaws.{bytes_take, bytes_drop}
use Rattle.pdu.specs.Forms.{size_of}
use Rattle.pdu.specs.Reading.{start_rules, reading_rules, refusal, reading, used, number_of}
use Rattle.pdu.specs.Writing.{written_form}
use Rattle.pdu.specs.declared.Reading.{Reading}
use Rattle.pdu.proofs.BundleLaws.{used-field, used-fits, used_some, behind_nothing, first_alone, same_zero}
use Rattle.pdu.proofs.RoundTrip.{written_form_back}
use Rattle.std.specs.Prelude.{IsSome, is_some, is_none}
use Rattle.trunk.specs.Kinds.{kind_of, offered_kind}
use Rattle.trunk.specs.Bundle.{first_pdu, behind_first, stop_of, stop_in, pdus_in, turns, slice_stop, bundle, bundle_stop}
use Rattle.trunk.specs.Record.{head_for, record_of}
use Rattle.trunk.specs.Near.{row_start, stored}
use Rattle.trunk.specs.Plain.{TypeRule, OnePdu, AllPdus, joined, Ends, at_end, refused, not_carried, Walked}
use Rattle.trunk.proofs.RecordLaws.{reader_number, type_says}

-- ---- what stops a PDU

pub data Stops (d : List ℕ) : ℕ → Type 0 where
  passes : refusal d ≡ 0 → IsSome (kind_of (reading d)) → Stops d 0
  unread : refusal d ≢ 0 → Stops d (refusal d)
  unfit : refusal d ≡ 0 → ¬ TypeRule d → Stops d 23

pub stops : (d : List ℕ) → Stops d (stop_of (reading d))
unfolding stop_of
stops d = rw (reader_number d) (by (eqb (refusal d) 0) (is_none (kind_of (reading d))) refl refl)
  where
    by :
        (a b : Bool)
        → eqb (refusal d) 0 ≡ a
        → is_none (kind_of (reading d)) ≡ b
        → Stops d (cond (not a) (refusal d) (cond b 23 0))
    by true true e k =
        let taken = eqb-true _ _ e in
        unfit taken (λ t. true≢false (sym k ∙ (type_says d taken).1 t))
    by true false e k = passes (eqb-true _ _ e) (not-false _ k)
    by false b e k = unread (eqb-false _ _ e)

-- a PDU that nothing stops is taken, and carried
pub record Passes (d : List ℕ) : Type 0 where
  pub taken : refusal d ≡ 0
  pub kind : IsSome (kind_of (reading d))

pub passing : (d : List ℕ) → stop_of (reading d) ≡ 0 → Passes d
passing d e = by (stops d) e
  where
    by : {n : ℕ} → Stops d n → n ≡ 0 → Passes d
    by (passes taken kind) z = record { taken = taken; kind = kind }
    by (unread some) z = absurd (some z)
    by (unfit taken t) z = absurd (omega arith)

pub carried_type : (d : List ℕ) → Passes d → TypeRule d
carried_type d p = (type_says d p.taken).0 (ap not p.kind)

-- one number alone stops it
one_stop : (d : List ℕ) {m n : ℕ} → Stops d m → Stops d n → m ≡ n
one_stop d (passes a k) (passes b l) = refl
one_stop d (passes a k) (unread b) = absurd (b a)
one_stop d (passes a k) (unfit b t) = absurd (t (carried_type d (record { taken = a; kind = k })))
one_stop d (unread a) (passes b l) = absurd (a b)
one_stop d (unread a) (unread b) = refl
one_stop d (unread a) (unfit b t) = absurd (a b)
one_stop d (unfit a t) (passes b l) = absurd (t (carried_type d (record { taken = b; kind = l })))
one_stop d (unfit a t) (unread b) = absurd (b a)
one_stop d (unfit a t) (unfit b u) = refl

-- ---- one turn of the walk

-- behind a PDU that passes there is less than before
less : (d : List ℕ) (n : ℕ) → stop_of (reading d) ≡ 0 → length d ≤ suc n → length (behind_first d) ≤ n
less d n e h =
    let p = passing d e in
    rw (length-drop (used d) d) (omega (arith, used_some d p.taken))

-- with turns enough, how many there are does not matter
enough :
    (m n : ℕ) (d : List ℕ)
    → length d ≤ m
    → length d ≤ n
    → (stop_in m d ≡ stop_in n d) × (pdus_in m d ≡ pdus_in n d)
unfolding stop_in pdus_in
enough zero zero d h k = (refl, refl)
enough zero (suc n) d h k = let none = eq-eqb (length d) 0 (omega arith) in (rw none, rw none)
enough (suc m) zero d h k = let none = eq-eqb (length d) 0 (omega arith) in (rw none, rw none)
enough (suc m) (suc n) d h k = by (eqb (stop_of (reading d)) 0) refl (λ e. enough m n (behind_first d) (less d m e h) (less d n e k))
  where
    Same : Bool → Type 0
    Same b =
        (cond (eqb (length d) 0) 0 (cond b (stop_in m (behind_first d)) (stop_of (reading d)))
        ≡ cond (eqb (length d) 0) 0 (cond b (stop_in n (behind_first d)) (stop_of (reading d))))
        × (cond (eqb (length d) 0) [] (cond b (first_pdu d ∷ pdus_in m (behind_first d)) [])
        ≡ cond (eqb (length d) 0) [] (cond b (first_pdu d ∷ pdus_in n (behind_first d)) []))

    by :
        (b : Bool)
        → eqb (stop_of (reading d)) 0 ≡ b
        → (stop_of (reading d) ≡ 0 → (stop_in m (behind_first d) ≡ stop_in n (behind_first d)) × (pdus_in m (behind_first d) ≡ pdus_in n (behind_first d)))
        → Same b
    by true e rest =
        let r = rest (eqb-true _ _ e) in
        (rw r.0, rw r.1)
    by false e rest = (refl, refl)

-- a slice has turns enough to reach its end
reaches : (d : List ℕ) → length d ≤ turns d
reaches d = omega arith

-- at the end, at a PDU that is stopped, and at one that passes
pub slice_end : (d : List ℕ) → length d ≡ 0 → (slice_stop d ≡ 0) × (bundle d ≡ [])
unfolding slice_stop bundle stop_in pdus_in
slice_end d e = by (turns d)
  where
    by : (n : ℕ) → (stop_in n d ≡ 0) × (pdus_in n d ≡ [])
    by zero = (refl, refl)
    by (suc n) = let none = eq-eqb (length d) 0 e in (rw none, rw none)

module _ (d : List ℕ) (some : 0 < length d) where
  pub slice_here : stop_of (reading d) ≢ 0 → (slice_stop d ≡ stop_of (reading d)) × (bundle d ≡ [])
  unfolding slice_stop bundle stop_in pdus_in
  slice_here stop = by (turns d) (reaches d)
    where
      by : (n : ℕ) → length d ≤ n → (stop_in n d ≡ stop_of (reading d)) × (pdus_in n d ≡ [])
      by zero h = absurd (omega arith)
      by (suc n) h =
          let more = ne_eqb (length d) 0 (λ z. omega arith) in
          let other = ne_eqb (stop_of (reading d)) 0 stop in
          (rw (more, other), rw (more, other))

  pub slice_next :
      stop_of (reading d) ≡ 0
      → (slice_stop d ≡ slice_stop (behind_first d)) × (bundle d ≡ first_pdu d ∷ bundle (behind_first d))
  unfolding slice_stop bundle stop_in pdus_in
  slice_next go = by (turns d) (reaches d)
    where
      by :
          (n : ℕ)
          → length d ≤ n
          → (stop_in n d ≡ stop_in (turns (behind_first d)) (behind_first d))
          × (pdus_in n d ≡ first_pdu d ∷ pdus_in (turns (behind_first d)) (behind_first d))
      by zero h = absurd (omega arith)
      by (suc n) h =
          let more = ne_eqb (length d) 0 (λ z. omega arith) in
          let none = eq-eqb (stop_of (reading d)) 0 go in
          let rest = enough n (turns (behind_first d)) (behind_first d) (less d n go h) (reaches (behind_first d)) in
          (rw (more, none) rest.0, rw (more, none) (ap (λ (l : List (List ℕ)). first_pdu d ∷ l) rest.1))

-- the number of an offer's slice is that of its walk, but 1 for an empty one
pub offered_some : (d : List ℕ) → 0 < length d → bundle_stop d ≡ slice_stop d
unfolding bundle_stop
offered_some d some = rw (ne_eqb (length d) 0 (λ z. omega arith))

pub offered-none : (d : List ℕ) → length d ≡ 0 → bundle_stop d ≡ 1
unfolding bundle_stop
offered-none d none = rw (eq-eqb (length d) 0 none)

-- where nothing stops an offer's slice
pub offered-zero : (d : List ℕ) → bundle_stop d ≡ 0 → slice_stop d ≡ 0
unfolding bundle_stop
offered-zero d e = by (eqb (length d) 0) e
  where
    by : (b : Bool) → cond b 1 (slice_stop d) ≡ 0 → slice_stop d ≡ 0
    by true z = absurd (omega arith)
    by false z = z

-- the reader refuses an empty slice by 1
empty : (d : List ℕ) → length d ≡ 0 → refusal d ≡ 1
unfolding refusal reading_rules start_rules
empty d e = rw e

-- ---- the walk in plain numbers

-- the first PDU of a slice, alone
one_pdu : (d : List ℕ) → Passes d → OnePdu (first_pdu d)
one_pdu d p =
    let same = first_alone d p.taken in
    let long : length (first_pdu d) ≡ used d = length-take-le (used d) d (used-fits d p.taken) in
    let alone : Passes (first_pdu d) = record {
      taken = sym (reader_number (first_pdu d)) ∙ ap number_of same ∙ reader_number d ∙ p.taken;
      kind = ap (λ (r : Reading). is_some (kind_of r)) same ∙ p.kind;
    } in
    record {
      taken = alone.taken;
      carried = carried_type (first_pdu d) alone;
      whole = sym (used-field (first_pdu d) alone.taken) ∙ ap size_of same ∙ sym long;
    }

-- the PDUs of a slice up to its end, or up to one that is stopped
record Found (d : List ℕ) : Type 0 where
  left : List ℕ
  parts : d ≡ joined (bundle d) ++ left
  each : AllPdus (bundle d)
  ends : ((length left ≡ 0) × (slice_stop d ≡ 0)) ⊎ ((0 < length left) × (stop_of (reading left) ≡ slice_stop d) × (slice_stop d ≢ 0))

found_end : (d : List ℕ) → length d ≡ 0 → Found d
found_end d none =
    let s = slice_end d none in
    record {
      left = d;
      parts = ap (λ (l : List (List ℕ)). joined l ++ d) (sym s.1);
      each = subst AllPdus (sym s.1) tt;
      ends = inl (none, s.0);
    }

found_here : (d : List ℕ) → 0 < length d → stop_of (reading d) ≢ 0 → Found d
found_here d some stop =
    let s = slice_here d some stop in
    record {
      left = d;
      parts = ap (λ (l : List (List ℕ)). joined l ++ d) (sym s.1);
      each = subst AllPdus (sym s.1) tt;
      ends = inr (some, sym s.0, λ z. stop (sym s.0 ∙ z));
    }

found_next : (d : List ℕ) → 0 < length d → stop_of (reading d) ≡ 0 → Found (behind_first d) → Found d
found_next d some go rest =
    let s = slice_next d some go in
    record {
      left = rest.left;
      parts =
          sym (take-append-drop (used d) d)
          ∙ ap (λ (l : List ℕ). first_pdu d ++ l) rest.parts
          ∙ sym (append_assoc (first_pdu d) (joined (bundle (behind_first d))) rest.left)
          ∙ ap (λ (l : List (List ℕ)). joined l ++ rest.left) (sym s.1);
      each = subst AllPdus (sym s.1) (one_pdu d (passing d go), rest.each);
      ends = rw s.0 rest.ends;
    }

found : (n : ℕ) (d : List ℕ) → length d ≤ n → Found d
found zero d h = found_end d (omega arith)
found (suc n) d h =
    by (eqb (length d) 0) (eqb (stop_of (reading d)) 0) refl refl (λ go. found n (behind_first d) (less d n go h))
  where
    by :
        (a b : Bool)
        → eqb (length d) 0 ≡ a
        → eqb (stop_of (reading d)) 0 ≡ b
        → (stop_of (reading d) ≡ 0 → Found (behind_first d))
        → Found d
    by true b e f rest = found_end d (eqb-true _ _ e)
    by false true e f rest =
        let some : length d ≢ 0 = eqb-false _ _ e in
        found_next d (omega arith) (eqb-true _ _ f) (rest (eqb-true _ _ f))
    by false false e f rest =
        let some : length d ≢ 0 = eqb-false _ _ e in
        found_here d (omega arith) (eqb-false _ _ f)

-- what ends the walk, where something is left
stopped : (ps : List (List ℕ)) (left : List ℕ) (n : ℕ) → 0 < length left → stop_of (reading left) ≡ n → n ≢ 0 → Ends ps left n
stopped ps left n some e stop = subst (Ends ps left) e (by (stops left) (λ z. stop (sym e ∙ z)))
  where
    by : {m : ℕ} → Stops left m → m ≢ 0 → Ends ps left m
    by (passes taken kind) z = absurd (z refl)
    by (unread h) z = refused (λ before. some) h
    by (unfit taken t) z = not_carried taken t

-- a slice of some bytes, all of them in PDUs, has a PDU
some_pdu : (ps : List (List ℕ)) (d left : List ℕ) → d ≡ joined ps ++ left → 0 < length d → length left ≡ 0 → 0 < length ps
some_pdu [] d left e some none = absurd (omega (arith, ap length e))
some_pdu (p ∷ ps) d left e some none = omega arith

-- every slice is what the definitions say
pub walked : (d : List ℕ) → (left : List ℕ) × Walked d (bundle d) left (bundle_stop d)
walked d = by (eqb (length d) 0) refl
  where
    by : (b : Bool) → eqb (length d) 0 ≡ b → (left : List ℕ) × Walked d (bundle d) left (bundle_stop d)
    by true e =
        let none = eqb-true _ _ e in
        let s = slice_end d none in
        let one = empty d none in
        let nothing : 0 < length (bundle d) → 0 < length d = λ h. absurd (omega (arith, ap length s.1)) in (
          d,
          record {
            parts = ap (λ (l : List (List ℕ)). joined l ++ d) (sym s.1);
            each = subst AllPdus (sym s.1) tt;
            ends = subst (Ends (bundle d) d) (one ∙ sym (offered-none d none)) (refused nothing (λ z. omega arith));
          },
        )
    by false e =
        let other : length d ≢ 0 = eqb-false _ _ e in
        let some : 0 < length d = omega arith in
        let f = found (length d) d (omega arith) in
        let same = offered_some d some in (
          f.left,
          record {
            parts = f.parts;
            each = f.each;
            ends =
                elim f.ends [
                  | inl x ↦
                      subst (Ends (bundle d) f.left) (sym (same ∙ x.1)) (at_end (some_pdu (bundle d) d f.left f.parts some x.0) x.0)
                  | inr x ↦ stopped (bundle d) f.left (bundle_stop d) x.0 (x.1 ∙ sym same) (λ z. x.2 (sym same ∙ z))
                ];
          },
        )

-- ---- and nothing else is true of it

-- a PDU, and whatever stands behind it
module _ (p t : List ℕ) (one : OnePdu p) where
  size_is : used p ≡ length p
  size_is = used-field p one.taken ∙ one.whole

  read_same : reading (p ++ t) ≡ reading p
  read_same =
      ap (λ (l : List ℕ). reading (l ++ t)) (sym (take_all (used p) p (omega (arith, size_is)))) ∙ behind_nothing p t one.taken

  used_same : used (p ++ t) ≡ length p
  used_same = ap size_of read_same ∙ size_is

  goes_on : stop_of (reading (p ++ t)) ≡ 0
  goes_on =
      ap stop_of read_same
      ∙ one_stop p (stops p) (passes one.taken (not-false _ ((type_says p one.taken).1 one.carried)))

  has-bytes : 0 < length (p ++ t)
  has-bytes = omega (arith, length-append p t, size_is, used_some p one.taken)

  first_is : first_pdu (p ++ t) ≡ p
  first_is = ap (λ (n : ℕ). take n (p ++ t)) used_same ∙ take_at p t (length p) refl

  behind_is : behind_first (p ++ t) ≡ t
  behind_is = ap (λ (n : ℕ). drop n (p ++ t)) used_same ∙ drop_at p t (length p) refl

-- PDUs end to end are walked one by one
each_walked :
    (ps : List (List ℕ)) (left : List ℕ)
    → AllPdus ps
    → (slice_stop (joined ps ++ left) ≡ slice_stop left) × (bundle (joined ps ++ left) ≡ ps ++ bundle left)
each_walked [] left all = (refl, refl)
each_walked (p ∷ ps) left (one, all) =
    let t : List ℕ = joined ps ++ left in
    let turn = slice_next (p ++ t) (has-bytes p t one) (goes_on p t one) in
    let rest = each_walked ps left all in
    rw append_assoc (
      turn.0 ∙ ap slice_stop (behind_is p t one) ∙ rest.0,
      turn.1 ∙ ap₂ ◌∷◌ (first_is p t one) (ap bundle (behind_is p t one) ∙ rest.1),
    )

-- what a slice of PDUs and what is left behind them is by the definitions
pub record AsDefined (d : List ℕ) (ps : List (List ℕ)) (n : ℕ) : Type 0 where
  pub pdus : ps ≡ bundle d
  pub stop : n ≡ bundle_stop d

module _ (d : List ℕ) (ps : List (List ℕ)) (left : List ℕ) (parts : d ≡ joined ps ++ left) (all : AllPdus ps) where
  slice_is : (slice_stop d ≡ slice_stop left) × (bundle d ≡ ps ++ bundle left)
  slice_is = rw parts (each_walked ps left all)

  -- a number that stops what is left
  by_stop : (n : ℕ) → 0 < length left → stop_of (reading left) ≡ n → n ≢ 0 → AsDefined d ps n
  by_stop n some e stop =
      let here = slice_here left some (λ z. stop (sym e ∙ z)) in
      let long : 0 < length d = omega (arith, ap length parts, length-append (joined ps) left) in
      record {
        pdus = sym (slice_is.1 ∙ ap (λ (l : List (List ℕ)). ps ++ l) here.1 ∙ append-nil ps);
        stop = sym (offered_some d long ∙ slice_is.0 ∙ here.0 ∙ e);
      }

  -- nothing left
  by_end : length left ≡ 0 → 0 < length d → AsDefined d ps 0
  by_end none long =
      let end = slice_end left none in
      record {
        pdus = sym (slice_is.1 ∙ ap (λ (l : List (List ℕ)). ps ++ l) end.1 ∙ append-nil ps);
        stop = sym (offered_some d long ∙ slice_is.0 ∙ end.0);
      }

-- PDUs have bytes
long_pdus : (d : List ℕ) (ps : List (List ℕ)) (left : List ℕ) → d ≡ joined ps ++ left → AllPdus ps → 0 < length ps → 0 < length d
long_pdus d [] left e all some = absurd (omega arith)
long_pdus d (p ∷ ps) left e (one, all) some =
    let all-bytes = ap length (e ∙ append_assoc p (joined ps) left) in
    omega (arith, all-bytes, has-bytes p (joined ps ++ left) one)

-- an empty slice
by_none : (d : List ℕ) (ps : List (List ℕ)) (left : List ℕ)
    → d ≡ joined ps ++ left
    → (0 < length ps → 0 < length left)
    → length left ≡ 0
    → AsDefined d ps (refusal left)
by_none d [] left e before none =
    let empty_too : length d ≡ 0 = ap length e ∙ none in
    record { pdus = sym (slice_end d empty_too).1; stop = empty left none ∙ sym (offered-none d empty_too) }
by_none d (p ∷ ps) left e before none = absurd (omega (arith, before (omega arith)))

pub walked_only : (d : List ℕ) (ps : List (List ℕ)) (left : List ℕ) (n : ℕ) → Walked d ps left n → AsDefined d ps n
walked_only d ps left n w = by w.ends
  where
    by : {n : ℕ} → Ends ps left n → AsDefined d ps n
    by (at_end some none) = by_end d ps left w.parts w.each none (long_pdus d ps left w.parts w.each some)
    by (refused before h) = left_by (eqb (length left) 0) refl
      where
        left_by : (b : Bool) → eqb (length left) 0 ≡ b → AsDefined d ps (refusal left)
        left_by true e = by_none d ps left w.parts before (eqb-true _ _ e)
        left_by false e =
            let other : length left ≢ 0 = eqb-false _ _ e in
            by_stop d ps left w.parts w.each (refusal left) (omega arith) (one_stop left (stops left) (unread h)) h
    by (not_carried taken t) =
        let long : 0 < length left = omega (arith, used_some left taken, used-fits left taken) in
        by_stop d ps left w.parts w.each 23 long (one_stop left (stops left) (unfit taken t)) (λ z. omega arith)

-- what is left is the same too
pub left_only : (d : List ℕ) (ps : List (List ℕ)) (a b : List ℕ) → d ≡ joined ps ++ a → d ≡ joined ps ++ b → a ≡ b
left_only d ps a b e f =
    sym (drop_at (joined ps) a _ refl) ∙ ap (drop (length (joined ps))) (sym e ∙ f) ∙ drop_at (joined ps) b _ refl

-- ---- what is written of a PDU inside a slice

-- a slice's first PDU is written as it is alone
pub first-written : (d : List ℕ) → refusal d ≡ 0 → written_form (first_pdu d) ≡ written_form d
first-written d e =
    let fits = used-fits d e in
    let same : take (used d) (first_pdu d) ≡ first_pdu d = take_all (used d) (first_pdu d) (omega (arith, length-take-le (used d) d fits)) in
    let alone : refusal (first_pdu d) ≡ 0 = sym (reader_number (first_pdu d)) ∙ ap number_of (first_alone d e) ∙ reader_number d ∙ e in
    written_form_back (first_pdu d) alone
    ∙ same_zero d (first_pdu d) e same (omega (arith, length-take-le (used d) d fits))
    ∙ sym (written_form_back d e)

-- and so is its record
pub first-stored : (number : ℕ) (store d : List ℕ) → refusal d ≡ 0 → stored number store d ≡ stored number store (first_pdu d)
first-stored number store d e =
    ap₂ (λ (k : ℕ) (w : List ℕ). splice (row_start number) (record_of (head_for k number) w) store)
    (ap offered_kind (sym (first_alone d e)))
    (sym (first-written d e))

-- the PDUs of a slice of bytes are bytes
abbrev pub AllBytes : List (List ℕ) → Type 0
AllBytes [] = Unit {0}
AllBytes (p ∷ ps) = Bytes p × AllBytes ps

pub all-bytes : (ps : List (List ℕ)) (left : List ℕ) → Bytes (joined ps ++ left) → AllBytes ps
all-bytes [] left b = tt
all-bytes (p ∷ ps) left b =
    let t : List ℕ = joined ps ++ left in
    let whole : Bytes (p ++ t) = subst Bytes (append_assoc p (joined ps) left) b in (
      subst Bytes (take_at p t (length p) refl) (bytes_take (length p) (p ++ t) whole),
      all-bytes ps left (subst Bytes (drop_at p t (length p) refl) (bytes_drop (length p) (p ++ t) whole)),
    )
