pub mod Asking
pub mod Verdict
