-- Rules in plain form: what document 01 asks, as statements and not as tests, in its order and by its numbers.
use Rattle.std.specs.Prelude.{ℕ, ◌≡◌, ◌↔◌, ◌⊎◌, ◌≢◌, List, [], ◌∷◌}
use Rattle.wire.specs.First.{Refusal, first}

-- a rule: its number is given unless what it asks holds
infix 10 ◌unless◌
pub data Rule : Type 1 where
  ◌unless◌ : ℕ → Type 0 → Rule

-- every rule holds
abbrev pub Met : List Rule → Type 0
Met [] = Unit {0}
Met ((m unless holds) ∷ rest) = holds × Met rest

-- n is the number of the first rule that does not hold (01: "The first that applies is given")
abbrev pub FirstBroken : ℕ → List Rule → Type 0
FirstBroken n [] = ⊥
FirstBroken n ((m unless holds) ∷ rest) = ((n ≡ m) × ¬ holds) ⊎ (holds × FirstBroken n rest)

-- refusals and plain rules decide alike: none is given exactly where every rule holds, and n exactly where n is the first broken one's
pub record Verdict (rs : List Refusal) (ps : List Rule) : Type 0 where
  pub none : (first rs ≡ 0) ↔ Met ps
  pub some : (n : ℕ) → ((first rs ≡ n) × (n ≢ 0)) ↔ FirstBroken n ps
