pub mod Graphs
pub mod Unshaded
pub mod Running
pub mod Standing
