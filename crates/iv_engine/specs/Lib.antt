pub mod Known
pub mod Looked
pub mod Restricted
pub mod Sound
pub mod Stepped
pub mod Carried
pub mod Summed
pub use Rattle.iv_store.specs.Engine
