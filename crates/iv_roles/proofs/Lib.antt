pub mod Lists
pub mod Chains
pub mod Flags
pub mod Long
