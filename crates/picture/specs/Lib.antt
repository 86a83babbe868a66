pub mod Arcs
pub mod Lanes
