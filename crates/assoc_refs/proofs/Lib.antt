pub mod Places
pub mod Flat
pub mod Keeping
pub mod MayHave
