pub mod Worlds
pub mod Opening
pub mod Turning
pub mod Inside
pub mod Collecting
pub mod Playing
