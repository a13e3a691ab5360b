pub mod Cuts
pub mod GrantedTokens
pub mod Bits
pub mod Masks
pub mod Values
