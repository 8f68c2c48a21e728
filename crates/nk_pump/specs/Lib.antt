pub mod Stream
pub mod Shown
