pub mod Authorized
pub mod Quotas
pub mod WrittenTwice
pub mod WrittenProcesses
