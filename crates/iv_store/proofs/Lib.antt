pub mod SubscriptionViews
pub mod Sound
mod UnmovedSubscriptions
pub mod RequestSteps
mod SubscriptionLines
mod NewSubscription
pub mod PlanKinds
mod RelationPlans
pub mod RunLines
pub mod FilteredLists
mod CircuitFlags
pub mod VisibleRows
mod SubscriptionsAfterRights
mod RightsOutcomes
mod ClosedSessions
pub mod HangUps
mod NodesOnLists
pub mod Beside
pub mod Unread
pub mod ReplacedCircuits
pub mod Totals
pub mod ReadersFound
pub mod WriteLines
mod DroppedCircuits
pub mod RelationCircuits
pub mod PreparedCircuits
mod WriteChanges
mod NewCircuits
mod ListPairs
pub mod Due
pub mod SubscriptionRounds
mod OpenCircuit
pub mod Touches
pub mod PreparedForReaders
