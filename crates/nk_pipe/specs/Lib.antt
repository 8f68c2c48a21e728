pub mod Answers
pub mod Kept
pub mod Laid
pub mod Pipe
