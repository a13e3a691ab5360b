pub mod Beginning
pub mod Admins
pub mod Counts
pub mod Figures
pub mod Pages
pub mod Roles
pub mod Settings
