pub mod Shown
pub mod Stages
pub mod Sessions
pub mod Endings
pub mod Collects
