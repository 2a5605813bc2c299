-- The law of the host that belongs to no one function.
pub mod Unpack
