pub mod CommandLine
pub mod Statuses
pub mod Answers
pub mod Soak
pub mod Laws
