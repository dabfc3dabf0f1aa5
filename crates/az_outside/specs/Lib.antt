pub mod Causes
pub mod Bytes
pub mod CallCounts
pub mod InMemory
pub mod Adapters
pub mod Growing
pub mod Patience
pub mod Turns
