pub mod Layouts
pub mod Kinds
pub mod Spelling
pub mod Reading
pub mod Streams
pub mod OneFrame
