pub mod Faults
pub mod Left
pub mod Got
pub mod Given
pub mod Memory
pub mod Told
pub mod Standard
