pub mod Admissions
pub mod Between
pub mod Machine
pub mod Notes
pub mod Parents
