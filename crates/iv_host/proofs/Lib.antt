pub mod GivenLines
pub mod RoleCounts
pub mod PageAnswers
pub mod Fields
pub mod Roles
pub mod NamesAtHead
