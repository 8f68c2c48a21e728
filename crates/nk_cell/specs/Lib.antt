pub mod Books
pub mod BookOk
