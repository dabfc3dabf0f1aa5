pub mod Together
pub mod Escapes
pub mod Planning
pub mod Searching
pub mod Moving
