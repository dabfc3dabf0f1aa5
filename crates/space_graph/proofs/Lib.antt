pub mod Positions
pub mod Visits
pub mod Steps
pub mod Comings
pub mod Leaving
pub mod Whites
