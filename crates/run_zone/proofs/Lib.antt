pub mod Working
pub mod Collecting
pub mod Dealt
pub mod Each
