pub mod Owning
pub mod Views
pub mod Rule
pub mod Steps
pub mod Tokens
pub mod Shown
pub mod Lent
pub mod Gathering
