pub mod Lists
pub mod Appending
pub mod Joining
pub mod Worlds
pub mod OwnSteps
pub mod GoingOn
pub mod Departed
pub mod Delivery
