pub mod Plans
pub mod Blocks
pub mod Bodies
pub mod Sends
pub mod Runs
