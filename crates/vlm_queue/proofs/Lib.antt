pub mod Idle
pub mod Indexed
pub mod Walking
