pub mod ClosedSockets
pub mod MadeShares
