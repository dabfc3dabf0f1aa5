pub mod Holds
pub mod Stored
pub mod Places
pub mod Table
pub mod Codes
pub mod Marking
pub mod Lying
