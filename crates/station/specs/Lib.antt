-- What a station is and does (01, "The station"), and what the theorems claim of it.
pub mod Numbers
pub mod Answers
pub mod Units
pub mod Hearing
pub mod Clock
pub mod Runs
pub mod Plain
pub mod Table
pub mod Claims
pub mod Example
