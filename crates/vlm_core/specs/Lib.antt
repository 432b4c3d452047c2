pub mod Core
pub mod Locks
pub mod Blockers
pub mod Readers
pub mod Running
pub mod Made
pub mod Victims
