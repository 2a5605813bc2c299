-- How an answer travels to C: one 64-bit number.
pub mod Answer
pub mod Plain
