pub mod Posts
pub mod Gates
pub mod Parts
pub mod Settling
pub mod Works
pub mod Reports
pub mod Headline
pub mod Assembly
