pub mod Falls
pub mod Idle
pub mod Rounds
pub mod Rows
pub mod Tools
