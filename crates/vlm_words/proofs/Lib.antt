pub mod Cells
pub mod Compatible
