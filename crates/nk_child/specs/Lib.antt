pub mod Endings
pub mod Events
pub mod Reactions
pub mod Running
pub mod Shown
pub mod Steps
pub mod Views
