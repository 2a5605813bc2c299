-- Laws and theorems of the station that belong to no one function.
pub mod ReaderLaws
pub mod OwnNumber
pub mod InBytes
pub mod PlaceLaws
pub mod Table
pub mod Changes
pub mod Ways
pub mod RunLaws
pub mod InNet
pub mod HeardFirst
pub mod Maker
pub mod Shown
pub mod Sound
pub mod Example
