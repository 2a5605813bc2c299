-- The table of kinds against document 01's plain numbers: what a kind carries (`carries`), the length of its records (`plain_length_lem`), and so
-- which kinds are known, which is a reply's, and how long a record can be. By the rows of the table.
-- Assumes nothing.
use Prim.Native.Nat.{ℕ, zero, suc, ◌+◌, ◌≤◌, ◌<◌}
use mathlib.Core.Path.{◌≡◌, refl, sym, ap, subst, ◌∙◌}
use mathlib.Core.Logic.{◌↔◌, ◌≢◌, ◌⊎◌, inl, inr}
use mathlib.Core.Bool.{Bool, true, false, ◌&&◌, true≢false, false≢true}
use mathlib.Core.List.{List, [], ◌∷◌}
use lib.ListN.{length, get_or, get_or-eq_default}
use lib.Dec.{eqb, leb}
use Rattle.std.specs.Prelude.{Option, Some, option_map, unwrap_or, is_none}
use native.Mathlib.Omega.{arith}
use borrow.Author.Tests.{eqb-true, eqb-false, ne_eqb, leb-true, leb-false, le-leb}
use Rattle.wire.proofs.TableLaws.{both_true}
use Rattle.trunk.specs.Head.{head_size}
use Rattle.trunk.specs.Kinds.{KindRow, signals, transmitters, interrogations, timing_replies, replies, in_row, load, load_size, record_size}
use Rattle.trunk.specs.Kinds.{carried_size, longest_pdu, longest_record, is_reply_load}
use Rattle.trunk.specs.Plain.{KnownKind, KindCarries, signal, transmitter, ask, answer, reply, none, signal_lengths, plain_length, ReplyKind}
use Rattle.trunk.specs.declared.Load.{Load}
use Rattle.trunk.specs.declared.Load.TheVariants.{Words}

-- ---- what a kind carries

-- outside a row, the row's test fails
outside : (row : KindRow) (kind : ℕ) → (row.first ≤ kind → kind ≤ row.last → ⊥) → in_row row kind ≡ false
outside row kind out = by (leb row.first kind) (leb kind row.last) refl refl
  where
    by : (a b : Bool) → leb row.first kind ≡ a → leb kind row.last ≡ b → (a && b) ≡ false
    by true true e f = absurd (out (leb-true _ _ e) (leb-true _ _ f))
    by true false e f = refl
    by false b e f = refl

-- the table says what the plain statement says
pub load_is : {kind : ℕ} {l : Option Load} → KindCarries kind l → load kind ≡ l
unfolding load
load_is {kind} (signal few) = rw (le-leb 0 kind (omega arith), le-leb kind _ few) (ap (λ (n : ℕ). Some (Words n)) (omega arith))
load_is (transmitter e) = ap load e
load_is (ask e) = ap load e
load_is (answer e) = ap load e
load_is (reply e) = ap load e
load_is {kind} (none unknown) =
    rw (
      outside signals kind (λ least most. unknown (inl most)),
      outside transmitters kind (λ least most. unknown (inr (inl (omega arith)))),
      outside interrogations kind (λ least most. unknown (inr (inr (inl (omega arith))))),
      outside timing_replies kind (λ least most. unknown (inr (inr (inr (inl (omega arith)))))),
      outside replies kind (λ least most. unknown (inr (inr (inr (inr (omega arith)))))),
    )

-- and that one says something of every kind
or-not : {P Q : Type 0} → P ⊎ ¬ P → Q ⊎ ¬ Q → (P ⊎ Q) ⊎ ¬ (P ⊎ Q)
or-not (inl p) q = inl (inl p)
or-not (inr p) (inl q) = inl (inr q)
or-not (inr p) (inr q) = inr (elim [ inl x ↦ p x | inr x ↦ q x ])

up_to : (m n : ℕ) → (m ≤ n) ⊎ ¬ (m ≤ n)
up_to m n = by (leb m n) refl
  where
    by : (b : Bool) → leb m n ≡ b → (m ≤ n) ⊎ ¬ (m ≤ n)
    by true e = inl (leb-true m n e)
    by false e = inr (λ most. omega (arith, leb-false m n e))

equals : (m n : ℕ) → (m ≡ n) ⊎ (m ≢ n)
equals m n = by (eqb m n) refl
  where
    by : (b : Bool) → eqb m n ≡ b → (m ≡ n) ⊎ (m ≢ n)
    by true e = inl (eqb-true m n e)
    by false e = inr (eqb-false m n e)

known-or-not : (kind : ℕ) → KnownKind kind ⊎ ¬ KnownKind kind
known-or-not kind = or-not (up_to kind _) (or-not (equals kind _) (or-not (equals kind _) (or-not (equals kind _) (equals kind _))))

stated : (kind : ℕ) → KnownKind kind ⊎ ¬ KnownKind kind → (l : Option Load) × KindCarries kind l
stated kind (inl (inl few)) = (_, signal few)
stated kind (inl (inr (inl same))) = (_, transmitter same)
stated kind (inl (inr (inr (inl same)))) = (_, ask same)
stated kind (inl (inr (inr (inr (inl same))))) = (_, answer same)
stated kind (inl (inr (inr (inr (inr same))))) = (_, reply same)
stated kind (inr unknown) = (_, none unknown)

pub carries : (kind : ℕ) → KindCarries kind (load kind)
carries kind = let s = stated kind (known-or-not kind) in subst (KindCarries kind) (sym (load_is s.1)) s.1

-- ---- what follows

-- 20: the table has the kinds that 01 names
pub known_says : (kind : ℕ) → (is_none (load kind) ≡ false) ↔ KnownKind kind
known_says kind = by (carries kind)
  where
    by : {l : Option Load} → KindCarries kind l → (is_none l ≡ false) ↔ KnownKind kind
    by (signal few) = (λ e. inl few, λ k. refl)
    by (transmitter same) = (λ e. inr (inl same), λ k. refl)
    by (ask same) = (λ e. inr (inr (inl same)), λ k. refl)
    by (answer same) = (λ e. inr (inr (inr (inl same))), λ k. refl)
    by (reply same) = (λ e. inr (inr (inr (inr same))), λ k. refl)
    by (none unknown) = (λ e. absurd (true≢false e), λ k. absurd (unknown k))

-- 29: one kind is a reply's, and no other
pub reply_says_lem : (kind : ℕ) → (is_reply_load (load kind) ≡ true) ↔ ReplyKind kind
reply_says_lem kind = by (carries kind)
  where
    by : {l : Option Load} → KindCarries kind l → (is_reply_load l ≡ true) ↔ ReplyKind kind
    by (signal few) = (λ e. absurd (false≢true e), λ same. absurd (omega arith))
    by (transmitter is) = (λ e. absurd (false≢true e), λ same. absurd (omega arith))
    by (ask is) = (λ e. absurd (false≢true e), λ same. absurd (omega arith))
    by (answer is) = (λ e. absurd (false≢true e), λ same. absurd (omega arith))
    by (reply same) = (λ e. same, λ k. refl)
    by (none unknown) = (λ e. absurd (false≢true e), λ same. absurd (unknown (inr (inr (inr (inr same))))))

-- a test that says something, and its failing
denied : {P : Type 0} (b : Bool) → (b ≡ true) ↔ P → (b ≡ false) ↔ ¬ P
denied true h = (λ e. absurd (true≢false e), λ n. absurd (n (h.0 refl)))
denied false h = (λ e p. false≢true (h.1 p), λ n. refl)

pub no-reply_says : (kind : ℕ) → (is_reply_load (load kind) ≡ false) ↔ ¬ ReplyKind kind
no-reply_says kind = denied _ (reply_says_lem kind)

-- a load is no longer than the longest PDU, so a record no longer than the longest record
pub load_small : (kind : ℕ) → carried_size kind ≤ longest_pdu
load_small kind = by (carries kind)
  where
    by : {l : Option Load} → KindCarries kind l → unwrap_or (option_map load_size l) 0 ≤ longest_pdu
    by (signal few) = omega arith
    by (transmitter same) = omega arith
    by (ask same) = omega arith
    by (answer same) = omega arith
    by (reply same) = omega arith
    by (none unknown) = omega arith

pub record_small : (kind : ℕ) → record_size kind ≤ longest_record
record_small kind = omega (arith, load_small kind)

-- a list that a test finds to be a function's first values is so at every place
matches : (ℕ → ℕ) → List ℕ → Bool
matches f [] = true
matches f (x ∷ xs) = eqb x (f 0) && matches (λ n. f (suc n)) xs

matches_at : (f : ℕ → ℕ) (xs : List ℕ) → matches f xs ≡ true → (i d : ℕ) → i < length xs → get_or xs i d ≡ f i
unfolding matches
matches_at f [] m i d l = absurd (omega arith)
matches_at f (x ∷ xs) m zero d l = eqb-true _ _ (both_true _ _ m).0
matches_at f (x ∷ xs) m (suc i) d l = matches_at (λ n. f (suc n)) xs (both_true (eqb x (f 0)) _ m).1 i d (omega arith)

-- 21: the length of a record is the one that 01 names
pub plain_length_lem : (kind : ℕ) → record_size kind ≡ plain_length kind
unfolding matches
plain_length_lem kind = by (carries kind)
  where
    by : {l : Option Load} → KindCarries kind l → head_size + unwrap_or (option_map load_size l) 0 ≡ plain_length kind
    by (signal few) = sym (matches_at (λ (n : ℕ). head_size + load_size (Words n)) signal_lengths refl kind _ (omega arith))
    by (transmitter same) = rw same
    by (ask same) = rw same
    by (answer same) = rw same
    by (reply same) = rw same
    by (none unknown) =
        sym (get_or-eq_default signal_lengths _ (over (λ few. unknown (inl few)))
        ∙ rw (
          ne_eqb kind 16 (λ same. unknown (inr (inl same))),
          ne_eqb kind 17 (λ same. unknown (inr (inr (inl same)))),
          ne_eqb kind 18 (λ same. unknown (inr (inr (inr (inl same))))),
        ))
      where
        over : (kind ≤ 12 → ⊥) → length signal_lengths ≤ kind
        over h = omega arith
