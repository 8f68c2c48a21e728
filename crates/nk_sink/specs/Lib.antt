pub mod Fed
pub mod Given
pub mod Held
pub mod Listener
pub mod Reached
pub mod Sunk
pub mod Lent
