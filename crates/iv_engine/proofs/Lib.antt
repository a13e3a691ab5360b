mod NarrowerPolicies
mod WiderPolicies
mod WriteSteps
mod Left
mod RightsSteps
mod RevokeEnds
mod MembershipEffects
mod GuardChanges
mod RoundNumbers
mod RowOrder
pub mod SoundStates
pub mod MembershipRequests
mod NameLookup
mod Carried
mod Looking
mod Given
mod Following
mod Summing
