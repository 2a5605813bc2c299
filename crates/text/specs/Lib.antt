-- What a text's words, numbers and hexadecimal bytes are.
pub mod Words
pub mod Numbers
pub mod Hex
pub mod Lines
