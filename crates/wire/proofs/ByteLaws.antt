-- Laws of big-endian numbers and of splicing: bytes written and read back are the number, bytes read and written back are the bytes,
-- and two splices side by side are one. Each goes by induction on the width or on the first piece.
-- Assumes nothing.
use Prim.Native.Nat.{ℕ, zero, suc, ◌+◌, ◌*◌, ◌/◌, ◌%◌, ◌^◌, ◌≤◌, ◌<◌}
use mathlib.Core.Path.{◌≡◌, refl, sym, ap, ap₂, subst, ◌∙◌}
use mathlib.Core.Bool.{Bool, true, false, ◌&&◌}
use mathlib.Core.List.{List, [], ◌∷◌, ◌++◌, append_assoc, append-nil}
use lib.ListN.{length, get_or, take, drop, set, replicate, length-append, length-drop}
use lib.Seq.{get_or-append-add, get_or_at, get_or-drop, take-suc, sets-eq}
use lib.Arith.{digits_div, digits_mod, mod-mul}
use lib.Dec.{eqb}
use native.Mathlib.Nat.{add-zero, add-suc, suc-add, add_assoc, mod-one, pow-suc, zero-add}
use native.Mathlib.Numerals.{add-one}
use native.Mathlib.Omega.{arith}
use borrow.Author.Tests.{eq-eqb, ne_eqb}
use Rattle.wire.specs.Bytes.{num, big, splice, all_zero, Bytes}

pub length-big : (w v : ℕ) → length (big w v) ≡ w
length-big zero v = refl
length-big (suc w) v =
    length-append (big w (v / 256)) (v % 256 ∷ []) ∙ ap (λ (n : ℕ). n + 1) (length-big w (v / 256)) ∙ add-one w

-- two splices side by side are one
pub splice-append : (at : ℕ) (a b l : List ℕ) → splice (at + length a) b (splice at a l) ≡ splice at (a ++ b) l
splice-append at [] b l = ap (λ (n : ℕ). splice n b l) (add-zero at)
splice-append at (x ∷ a) b l =
    ap (λ (n : ℕ). splice n b (splice (suc at) a (set l at x))) (add-suc at (length a) ∙ sym (suc-add at (length a)))
    ∙ splice-append (suc at) a b (set l at x)

-- bytes written behind the n bytes that were written before them
pub beside : {x y : List ℕ} (at n : ℕ) (a b l : List ℕ)
    → length a ≡ n
    → y ≡ splice (at + n) b x
    → x ≡ splice at a l
    → y ≡ splice at (a ++ b) l
beside at n a b l long second first =
    second
    ∙ ap₂ (λ (k : ℕ) (m : List ℕ). splice (at + k) b m) (sym long) first
    ∙ splice-append at a b l

-- a number behind a prefix is read as from its own start
pub num-append : (w i : ℕ) (p q : List ℕ) → num w (length p + i) (p ++ q) ≡ num w i q
num-append zero i p q = refl
num-append (suc w) i p q =
    ap₂ (λ (n m : ℕ). n * 256 + get_or (p ++ q) m 0) (num-append w i p q) (add_assoc (length p) i w)
    ∙ ap (λ (n : ℕ). num w i q * 256 + n) (get_or-append-add p q (i + w) 0)

-- what w bytes keep of a number, read back
pub num-big : (w v : ℕ) (q : List ℕ) → num w 0 (big w v ++ q) ≡ v % 256 ^ w
num-big zero v q = sym (mod-one v)
num-big (suc w) v q =
    rw (append_assoc (big w (v / 256)) (v % 256 ∷ []) q)
    (ap₂ (λ (n m : ℕ). n * 256 + m)
    (num-big w (v / 256) (v % 256 ∷ q))
    (get_or_at (big w (v / 256)) (v % 256) q 0 (0 + w) (length-big w (v / 256) ∙ omega arith))
    ∙ sym (mod-mul v (omega (arith, pow-lt_pos w)) (omega arith))
    ∙ ap (λ (n : ℕ). v % n) (sym (pow-suc 256 w)))
  where
    pow-lt_pos : (k : ℕ) → 0 < 256 ^ k
    pow-lt_pos zero = omega arith
    pow-lt_pos (suc k) = rw (pow-suc 256 k) (omega (arith, pow-lt_pos k))

-- a number's last byte, and what stands above it, where it is put together from high digits h and a rest l
last_byte : (b h l : ℕ) → (h * 256 ^ suc b + l) % 256 ≡ l % 256
last_byte b h l = rw (pow-suc 256 b) (omega arith)

above-byte : (b h l : ℕ) → (h * 256 ^ suc b + l) / 256 ≡ h * 256 ^ b + l / 256
above-byte b h l = rw (pow-suc 256 b) (omega arith)

-- its bytes are those of h and those of l
pub big-append : (a b h l : ℕ) → l < 256 ^ b → big (a + b) (h * 256 ^ b + l) ≡ big a h ++ big b l
big-append a zero h l low =
    let same : h * 256 ^ 0 + l ≡ h = omega arith in
    ap₂ big (add-zero a) same ∙ sym (append-nil (big a h))
big-append a (suc b) h l low =
    let small : l / 256 < 256 ^ b = omega (arith, subst (λ (n : ℕ). l < n) (pow-suc 256 b) low) in
    ap (λ (w : ℕ). big w (h * 256 ^ suc b + l)) (add-suc a b)
    ∙ ap₂ (λ (v x : ℕ). big (a + b) v ++ (x ∷ [])) (above-byte b h l) (last_byte b h l)
    ∙ ap (λ (m : List ℕ). m ++ (l % 256 ∷ [])) (big-append a b h (l / 256) small)
    ∙ append_assoc (big a h) (big b (l / 256)) (l % 256 ∷ [])

-- a number's eight bytes are the four of its high half and the four of its low half
pub big_halves : (v : ℕ) → big 8 v ≡ big 4 (v / 4294967296) ++ big 4 (v % 4294967296)
big_halves v =
    let same : v ≡ v / 4294967296 * 256 ^ 4 + v % 4294967296 = omega arith in
    ap (big 8) same ∙ big-append 4 4 (v / 4294967296) (v % 4294967296) (omega arith)

-- the bytes of zero
pub big-zero : (w : ℕ) → big w 0 ≡ replicate w 0
big-zero zero = refl
big-zero (suc w) = ap (λ (l : List ℕ). l ++ (0 ∷ [])) (big-zero w) ∙ zeros w
  where
    zeros : (k : ℕ) → ◌≡◌ {A = List ℕ} (replicate k 0 ++ (0 ∷ [])) (0 ∷ replicate k 0)
    zeros zero = refl
    zeros (suc k) = ap (λ (l : List ℕ). 0 ∷ l) (zeros k)

-- the bytes of a number that was read are the bytes that it was read from
pub big-num : (w o : ℕ) (d : List ℕ) → Bytes d → o + w ≤ length d → big w (num w o d) ≡ take w (drop o d)
big-num zero o d b h = refl
big-num (suc w) o d b h =
    ap₂ (λ (n m : ℕ). big w n ++ (m ∷ [])) (digits_div (num w o d) (b (o + w))) (digits_mod (num w o d) (b (o + w)))
    ∙ ap₂ (λ (l : List ℕ) (m : ℕ). l ++ (m ∷ [])) (big-num w o d b (omega (arith, add-suc o w))) (sym (get_or-drop o d w 0))
    ∙ sym (take-suc (drop o d) w 0 (rw (length-drop o d) (omega (arith, add-suc o w))))

-- a number of w bytes is below 256 to the w
pub num-lt : (w o : ℕ) (d : List ℕ) → Bytes d → num w o d < 256 ^ w
num-lt zero o d b = omega arith
num-lt (suc w) o d b = rw (pow-suc 256 w) (omega (arith, num-lt w o d b, b (o + w)))

-- a number's first a bytes and its last b bytes
pub num-split : (a b o : ℕ) (d : List ℕ) → num (a + b) o d ≡ num a o d * 256 ^ b + num b (o + a) d
num-split a zero o d = ap (λ (w : ℕ). num w o d) (add-zero a) ∙ omega arith
num-split a (suc b) o d =
    ap (λ (w : ℕ). num w o d) (add-suc a b)
    ∙ ap₂ (λ (m n : ℕ). m * 256 + get_or d n 0) (num-split a b o d) (sym (add_assoc o a b))
    ∙ rw (pow-suc 256 b) (omega arith)

-- a splice from a buffer's start, said as bytes and what stood behind them
pub splice-start : (b l : List ℕ) → length b ≤ length l → splice 0 b l ≡ b ++ drop (length b) l
splice-start b l h = sets-eq b l 0 (omega arith) ∙ ap (λ (n : ℕ). b ++ drop n l) (zero-add (length b))

-- a byte that is not zero, wherever it stands
pub not-all_zero : (i : ℕ) (d : List ℕ) → (get_or d i 0 ≡ 0 → ⊥) → all_zero d ≡ false
not-all_zero i [] h = elim (h refl) [ ]
not-all_zero zero (x ∷ xs) h = ap (λ (t : Bool). t && all_zero xs) (ne_eqb x 0 h)
not-all_zero (suc i) (x ∷ xs) h = ap (λ (t : Bool). eqb x 0 && t) (not-all_zero i xs h) ∙ and-false (eqb x 0)
  where
    and-false : (t : Bool) → (t && false) ≡ false
    and-false true = refl
    and-false false = refl

-- no byte but zero at any place
pub each_zero : (d : List ℕ) → ((i : ℕ) → i < length d → get_or d i 0 ≡ 0) → all_zero d ≡ true
each_zero [] h = refl
each_zero (x ∷ xs) h = ap₂ ◌&&◌ (eq-eqb x 0 (h 0 (omega arith))) (each_zero xs (λ i l. h (suc i) (omega arith)))
