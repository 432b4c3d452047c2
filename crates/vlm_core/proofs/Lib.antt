pub mod NextRecords
pub mod LockCounts
pub mod FirstPending
pub mod LongerRuns
pub mod ReachableStates
pub mod FoundByKey
pub mod SingleLocks
pub mod BlockedLocks
