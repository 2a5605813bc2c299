-- What a line of the programs' text says, and what it does.
pub mod Lines
pub mod Inputs
pub mod Lists
