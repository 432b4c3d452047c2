pub mod Journals
pub mod Told
pub mod Lengthening
pub mod Departed
pub mod Delivery
pub mod Worlds
pub mod Accounts
pub mod Written
