-- Laws of the checks of writing.
pub mod Checks
