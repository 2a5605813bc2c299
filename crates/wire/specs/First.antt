-- Refusals in order: the first rule that is broken gives the number (01, "The first that applies is given").
use Rattle.std.specs.Prelude.{ℕ, Bool, true, cond, not, ◌&&◌, List, [], ◌∷◌, eqb}

infix 10 ◌given_when◌
-- a refusal: its number, and whether its rule is broken
pub data Refusal : Type 0 where
  ◌given_when◌ : ℕ → Bool → Refusal

-- the number of the first broken rule, or 0 where none is
abbrev pub first : List Refusal → ℕ
first [] = 0
first ((n given_when broken) ∷ rest) = cond broken n (first rest)

-- whether no rule has a number of this sort
abbrev pub lacks : (ℕ → Bool) → List Refusal → Bool
lacks sort [] = true
lacks sort ((n given_when broken) ∷ rest) = not (sort n) && lacks sort rest

-- whether no rule has the number 0, which says that none is broken
abbrev pub numbered : List Refusal → Bool
numbered rules = lacks (λ n. eqb n 0) rules

-- the same rules without those of this number
abbrev pub without : ℕ → List Refusal → List Refusal
without k [] = []
without k ((n given_when broken) ∷ rest) = cond (eqb n k) (without k rest) ((n given_when broken) ∷ without k rest)

-- what a call says in document 01's numbers: a refusal's number alone, or 0 and the values of its answer
abbrev pub told : ℕ → List ℕ → List ℕ
told refused values = cond (eqb refused 0) (0 ∷ values) (refused ∷ [])
