-- Laws of rows: numbers side by side are as long as their widths together, and numbers written behind a row make one row with it, which is
-- also said of a turn of a loop that writes one number more.
-- By induction on the numbers.
-- Assumes nothing.
use Rattle.std.proofs.Common.{◌≡◌, ℕ, ◌+◌, ◌*◌, ◌<◌, List, [], ◌∷◌, ◌++◌, length, get_or, take, map}
use Rattle.std.proofs.Common.{refl, sym, ap, ◌∙◌, append_assoc, append-nil, add-one, length-append, arith}
use Rattle.std.proofs.lemmas.List.{map-append, length-map}
use Rattle.std.proofs.Math.Seq.{take-suc, length-take-le}
use Rattle.wire.specs.Bytes.{big, row, splice}
use Rattle.wire.proofs.ByteLaws.{length-big, beside}

row-append : (w : ℕ) (a b : List ℕ) → row w (a ++ b) ≡ row w a ++ row w b
row-append w [] b = refl
row-append w (v ∷ a) b = ap (λ (l : List ℕ). big w v ++ l) (row-append w a b) ∙ sym (append_assoc (big w v) (row w a) (row w b))

length-row : (w : ℕ) (a : List ℕ) → length (row w a) ≡ w * length a
length-row w [] = omega arith
length-row w (v ∷ a) = omega (arith, length-append (big w v) (row w a), length-big w v, length-row w a)

-- numbers written behind those that were written before them
pub row_beside : {y z : List ℕ} (w at place : ℕ) (a b l : List ℕ)
    → place ≡ at + w * length a
    → z ≡ splice place (row w b) y
    → y ≡ splice at (row w a) l
    → z ≡ splice at (row w (a ++ b)) l
row_beside {y = y} w at place a b l behind second first =
    beside at (w * length a) (row w a) (row w b) l (length-row w a) (second ∙ ap (λ n. splice n (row w b) y) behind) first
    ∙ ap (λ m. splice at m l) (sym (row-append w a b))

-- a number is a row of one
pub row_of_one : (w at v : ℕ) (l : List ℕ) → splice at (big w v) l ≡ splice at (row w (v ∷ [])) l
row_of_one w at v l = ap (λ m. splice at m l) (sym (append-nil (big w v)))

-- one number written behind those that were written before it
pub next_beside : {y z : List ℕ} (w at place : ℕ) (a : List ℕ) (v : ℕ) (l : List ℕ)
    → place ≡ at + w * length a
    → z ≡ splice place (big w v) y
    → y ≡ splice at (row w a) l
    → z ≡ splice at (row w (a ++ (v ∷ []))) l
next_beside {y = y} w at place a v l behind second first =
    row_beside w at place a (v ∷ []) l behind (second ∙ row_of_one w place v y) first

-- the first numbers of a row and the next one
row-take : {X : Type 0} (w i : ℕ) (number : X → ℕ) (xs : List X) (x : X)
    → i < length xs
    → x ≡ get_or xs i x
    → row w (map number (take (i + 1) xs)) ≡ row w (map number (take i xs)) ++ big w (number x)
row-take w i number xs x h e =
    ap (λ n. row w (map number (take n xs))) (add-one i)
    ∙ ap (λ l. row w (map number l)) (take-suc xs i x h ∙ ap (λ y. take i xs ++ (y ∷ [])) (sym e))
    ∙ ap (row w) (map-append number (take i xs) (x ∷ []))
    ∙ row-append w (map number (take i xs)) (number x ∷ [])
    ∙ ap (λ l. row w (map number (take i xs)) ++ l) (append-nil (big w (number x)))

-- a turn of a loop that splices number by number: one more number of xs
pub row_more : {X : Type 0} {y z : List ℕ} (w at i place : ℕ) (number : X → ℕ) (xs : List X) (x : X) (l : List ℕ)
    → i < length xs
    → x ≡ get_or xs i x
    → place ≡ at + w * i
    → z ≡ splice place (big w (number x)) y
    → y ≡ splice at (row w (map number (take i xs))) l
    → z ≡ splice at (row w (map number (take (i + 1) xs))) l
row_more {y = y} w at i place number xs x l h e behind second first =
    let a : List ℕ = row w (map number (take i xs)) in
    let short : length (map number (take i xs)) ≡ i = length-map (take i xs) number ∙ length-take-le i xs (omega arith) in
    let long : length a ≡ w * i = length-row w (map number (take i xs)) ∙ ap (λ n. w * n) short in
    beside at (w * i) a (big w (number x)) l long (second ∙ ap (λ n. splice n (big w (number x)) y) behind) first
    ∙ ap (λ b. splice at b l) (sym (row-take w i number xs x h e))
