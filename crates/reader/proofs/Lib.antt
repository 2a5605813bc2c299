-- Laws that several functions' proofs use.
mod Checks
