pub mod Sunk
pub mod Kept
