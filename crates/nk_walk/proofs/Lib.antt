pub mod Turns
pub mod Remains
pub mod Standing
pub mod Front
pub mod Reach
pub mod CutParent
pub mod CutChild
pub mod Cuts
pub mod CutCounts
pub mod AllCut
mod Examples
pub mod First
pub mod Steps
