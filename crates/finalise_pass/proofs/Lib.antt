pub mod Keeping
pub mod Outcomes
pub mod Searching
pub mod Lookup
pub mod Runs
pub mod Numbered
pub mod Storing
