pub mod Roles
pub mod Memberships
pub mod Rows
pub mod Laws
pub mod Codes
