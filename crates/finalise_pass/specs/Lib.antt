pub mod Finalisers
pub mod Passing
pub mod Kept
pub mod SmallGraphs
