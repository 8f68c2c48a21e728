pub mod AnyWire
pub mod BackWire
pub mod Facts
pub mod FirstLaws
pub mod Firsts
mod HeaderLoop
pub mod Heads
pub mod MainWire
pub mod Numbers
pub mod OneFrames
pub mod Openings
pub mod Ranges
pub mod Rows
pub mod Runs
pub mod Sizes
pub mod Spells
pub mod Starts
pub mod Steps
pub mod UpWire
mod WorkedFrames
pub mod Written
