pub mod Few
pub mod CircuitTables
