pub mod Edited
pub mod Entries
pub mod Places
pub mod Fronts
pub mod Showing
pub mod Changing
pub mod Finishing
