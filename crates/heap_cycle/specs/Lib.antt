pub mod Collector
pub mod Codes
pub mod Waiting
pub mod Livening
pub mod Collects
pub mod Phases
pub mod Barriers
pub mod Changes
