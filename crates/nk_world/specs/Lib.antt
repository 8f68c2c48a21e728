pub mod End
pub mod Laws
pub mod Parts
pub mod Play
pub mod World
