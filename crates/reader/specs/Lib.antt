-- What the reader's own types keep.
pub mod Laid
