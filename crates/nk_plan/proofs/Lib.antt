pub mod First
pub mod Refusals
