pub mod Audiences
