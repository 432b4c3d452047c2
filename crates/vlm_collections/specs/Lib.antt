pub mod Hashing
pub mod Links
pub mod Lists
pub mod NumberMaps
pub mod Parts
pub mod Sip
pub mod Marks
pub mod Words
