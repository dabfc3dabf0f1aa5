pub mod Settings
pub mod Lines
pub mod Causes
pub mod Refusals
pub mod Scripts
pub mod Laws
pub mod Printed
pub mod Reading
