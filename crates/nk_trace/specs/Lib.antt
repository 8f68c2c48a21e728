pub mod Words
pub mod Messages
pub mod Journals
pub mod Report
