pub mod Counting
pub mod Nearest
