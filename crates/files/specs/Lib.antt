pub mod Paths
pub mod Modes
pub mod Loaded
