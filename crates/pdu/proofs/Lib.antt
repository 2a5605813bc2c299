-- Laws and theorems of the PDU part that belong to no one function.
pub mod RefusalLaws
pub mod WordLaws
pub mod Agreement
pub mod Answers
pub mod VersionLaws
pub mod BodyLaws
pub mod Taken
pub mod FieldLaws
pub mod RoundTrip
pub mod PlaceLaws
pub mod ReadLaws
pub mod ArchiveLaws
pub mod BundleLaws
