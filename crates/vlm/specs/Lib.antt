pub mod Watches
pub mod WatchedPorts
pub mod MonitoredHubs
pub mod Words
pub mod Clusters
pub mod Ends
