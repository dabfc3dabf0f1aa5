pub mod Finished
pub mod Reaching
pub mod Settled
