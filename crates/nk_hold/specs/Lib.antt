pub mod Answers
pub mod Hops
pub mod RoomyHold
