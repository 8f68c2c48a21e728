pub mod Enabled
pub mod Lists
pub mod Little
pub mod Proved
pub mod Steps
