-- What is left of a line without its end is the line's text.
-- Assumes nothing.
use Rattle.std.proofs.Common.{ℕ, ◌≡◌, ◌≢◌, sym, ◌∙◌, List, [], ◌∷◌, ◌++◌, Option, Some, None, inl, inr, MatchOption, Bor}
use Rattle.std.proofs.lemmas.List.{append_cancel_right}
use Rattle.std.specs.Option.{unwrap_or}
use Rattle.plantext.specs.Lines.{IsTextOf}

pub stripped : (whole : Bor (List ℕ)) (text : List ℕ) (r : Option (Bor (List ℕ)))
    → MatchOption r ((front : List ℕ) → whole.now ≢ front ++ 10 ∷ []) (λ x. whole.now ≡ x.now ++ 10 ∷ [])
    → IsTextOf whole.now text
    → (unwrap_or r whole).now ≡ text
stripped whole text None none (inl ended) = absurd (none text ended)
stripped whole text None none (inr bare) = bare.0
stripped whole text (Some x) ends (inl ended) = append_cancel_right x.now text (10 ∷ []) (sym ends ∙ ended)
stripped whole text (Some x) ends (inr bare) = absurd (bare.1 x.now ends)
