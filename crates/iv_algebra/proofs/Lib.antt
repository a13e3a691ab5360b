pub mod TableChanges
pub mod SameCounts
pub mod Groups
pub mod BagLimits
pub mod TableLookup
pub mod Once
pub mod Operators
pub mod PlanKinds
