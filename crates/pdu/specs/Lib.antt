-- What the PDU part means: the numbers of document 01, the tables, the records, reading, writing and words.
pub mod Refusals
pub mod Numbers
pub mod Tables
pub mod Records
pub mod Words
pub mod Timing
pub mod Rules
pub mod Forms
pub mod Reading
pub mod Writing
pub mod Plain
pub mod Fits
pub mod RoundTrips
pub mod Fields
pub mod Places
pub mod Bodies
