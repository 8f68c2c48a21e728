pub mod Views
pub mod Load
