pub mod Barrier
pub mod Remembered
