-- Laws of the word of places that belong to no one function.
pub mod LeastLaws
pub mod WordLaws
pub mod PlainLaws
