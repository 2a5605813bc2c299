-- What the word of places means.
pub mod Places
pub mod Plain
