pub mod Held
pub mod Ends
pub mod Spelling
pub mod Outs
