pub mod Marking
pub mod Progress
pub mod Closure
pub mod Tight
