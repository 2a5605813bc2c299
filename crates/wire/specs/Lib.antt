-- What bytes, tables and refusals in order mean.
pub mod Bytes
pub mod Table
pub mod First
pub mod Rules
pub mod Plain
