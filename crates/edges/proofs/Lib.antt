-- The one statement of the starred cases.
pub mod Starred
