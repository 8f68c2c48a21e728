pub mod SegmentLemmas
pub mod Onward
