pub mod Places
pub mod Waiting
pub mod Play
pub mod Playing
pub mod Examples
