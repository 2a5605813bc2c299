-- Laws of lines and of their words.
pub mod WordLaws
pub mod TextLaws
