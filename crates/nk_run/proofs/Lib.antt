pub mod Channels
pub mod Scripts
pub mod Tells
pub mod Listings
pub mod Runs
pub mod Plays
pub mod Calls
